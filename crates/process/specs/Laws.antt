-- What follows from the definitions, for each process.
use Rattle.std.specs.Prelude.{◌≡◌, ℕ}
use Rattle.fork_exec.specs.Process.{Process}
use Rattle.process.specs.Asked.{Asked}
use Rattle.wx_types.specs.declared.requests.Request.{Request}

-- a slice of a thread ends after one number of steps, with one request, and leaves one process
abbrev pub SlicesEndOnce : Type 0
SlicesEndOnce =
    (process : Process) (tid slice ran ran' : ℕ) (request request' : Request) (stopped stopped' : Process)
    → Asked process tid slice ran request stopped
    → Asked process tid slice ran' request' stopped'
    → (ran ≡ ran') × (request ≡ request') × (stopped ≡ stopped')
