-- What holds of the kernel once it settled.
use Rattle.std.specs.Prelude.{◌≡◌, ℕ, false, ◌⊎◌, Some}
use Rattle.std.specs.FinMap.{get}
use Rattle.kernel_core.specs.Ending.{Open}
use Rattle.kernel_core.specs.Threads.{ThreadId, ThreadState, Handed, Waiting, Doomed, Ended}
use Rattle.kernel_core.specs.Kernel.{Kernel, IsHanded, IsDoomed}
use Rattle.kernel_core.specs.Settling.{settle, holds}

-- some thread's entry may come next: it is handed out, or was ended while it was
abbrev pub SomeReady : Kernel → Type 0
SomeReady kernel = (pid : ℕ) × (tid : ℕ) × (IsHanded kernel pid tid ⊎ IsDoomed kernel pid tid)

-- so it is once the kernel settled, while the run is open
abbrev pub SettlesReady : Type 0
SettlesReady = (kernel : Kernel) → (settle kernel).ending ≡ Open → SomeReady (settle kernel)

-- the waiting of a thread that waits isn't over
abbrev pub WaitsStill : Kernel → ThreadId → ThreadState → Type 0
WaitsStill kernel id (Handed mark) = Unit {0}
WaitsStill kernel id (Waiting request since) = holds kernel id request since ≡ false
WaitsStill kernel id Doomed = Unit {0}
WaitsStill kernel id Ended = Unit {0}

-- each thread is handed out, or was ended, or waits for what hasn't come
abbrev pub IsSettled : Kernel → Type 0
IsSettled kernel = (id : ThreadId) (state : ThreadState) → get kernel.threads id ≡ Some state → WaitsStill kernel id state

abbrev pub SettlesAll : Type 0
SettlesAll = (kernel : Kernel) → (settle kernel).ending ≡ Open → IsSettled (settle kernel)
