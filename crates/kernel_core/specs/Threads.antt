-- What a guest thread is doing, as the kernel has it. This is the project's own.
use Rattle.std.specs.Prelude.{ℕ, Bool, true, false}
use Rattle.std.specs.Ordering.{nat_cmp, ordering_then}
use Rattle.std.specs.declared.cmp.Ordering.{Ordering}
use Rattle.std.specs.FinMap.{FinMap}
use Rattle.wx_types.specs.declared.requests.Request.{Request}

-- why a thread is handed out: it goes on; what it waited for came, and it asks again, with the time since when it waits; or
-- another thread woke it
pub data Mark : Type 0 where
  Fresh : Mark
  Again : (since : ℕ) → Mark
  Woken : Mark

pub data ThreadState : Type 0 where
  -- its slice is run next, or is running
  Handed : (mark : Mark) → ThreadState
  -- it waits in the call of this request since that time
  Waiting : (request : Request) (since : ℕ) → ThreadState
  -- another thread ended it while it was handed out: its entry is still to come
  Doomed : ThreadState
  Ended : ThreadState

-- a thread by the number of its process and its own number there
abbrev pub ThreadId : Type 0
ThreadId = ℕ × ℕ

abbrev pub thread_cmp : ThreadId → ThreadId → Ordering
thread_cmp a b = ordering_then (nat_cmp a.0 b.0) (nat_cmp a.1 b.1)

abbrev pub Threads : Type 0
Threads = FinMap thread_cmp ThreadState

-- an entry of the thread may come next
abbrev pub is_ready : ThreadState → Bool
is_ready (Handed mark) = true
is_ready (Waiting request since) = false
is_ready Doomed = true
is_ready Ended = false

abbrev pub is_live : ThreadState → Bool
is_live (Handed mark) = true
is_live (Waiting request since) = true
is_live Doomed = false
is_live Ended = false
