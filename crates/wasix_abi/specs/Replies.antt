-- What the reply to a request writes to the caller's memory.
use Rattle.std.specs.Prelude.{ℕ, ◌==◌, ◌&&◌, if◌then◌else◌, List, length, slice_index}
use Rattle.linear_memory.specs.LinearMemory.{with_bytes}
use Rattle.linear_memory.specs.Storage.{bytes_of}
use Rattle.wx_types.specs.declared.requests.Request.{Request}
use Rattle.wasix_abi.specs.Requests.{fd_write}

-- the bytes of the memory after a reply: a write that succeeded puts how many bytes it wrote, lowest
-- byte first, at its last argument, and every other reply leaves the memory
abbrev pub apply_reply : List ℕ → Request → ℕ → List ℕ → List ℕ
apply_reply memory request errno bytes =
    if request.call == fd_write && errno == 0
    then with_bytes memory (slice_index request.words 3) (bytes_of 4 (length bytes))
    else memory
