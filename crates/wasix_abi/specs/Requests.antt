-- The request of a guest thread that stands at a call.
use Rattle.std.specs.Prelude.{◌≡◌, ℕ, ◌+◌, ◌*◌, ◌≤◌, ◌<◌, ◌==◌, ◌&&◌, ◌⊎◌, nat_le, if◌then◌else◌, List, [], ◌++◌, length, take, replicate, slice_index, Option, Some, None}
use Rattle.wx_types.specs.Errno.{errno_number}
use Rattle.wx_types.specs.declared.errors.Errno.TheVariants.{Success, Fault, Inval}
use Rattle.wx_types.specs.declared.requests.Request.{Request}
use Rattle.linear_memory.specs.LinearMemory.{is_within}
use Rattle.wasix_abi.specs.Buffers.{buffers_at, all_within, total_len, gathered}

-- the numbers of the calls: the return of a thread's last frame, `fd_write` and `proc_exit`
abbrev pub last_return : ℕ
last_return = 4

abbrev pub fd_write : ℕ
fd_write = 17

abbrev pub proc_exit : ℕ
proc_exit = 37

-- how many arguments a call has, where it is one of these
abbrev pub argument_count : ℕ → Option ℕ
argument_count call =
    if call == fd_write then Some 4 else (if call == last_return then Some 1 else (if call == proc_exit then Some 1 else None))

-- the arguments in their order and zeros behind them, nine in all
abbrev pub nine_words : List ℕ → List ℕ
nine_words arguments = take 9 (arguments ++ replicate 9 0)

-- the error number of a write of the n buffers that are listed at an address, whose count goes to
-- another address, before its descriptor is looked at, or 0: fault where the list, a buffer or the
-- count passes the memory, then inval where the buffers are more than 1,024 or longer than 16 MiB
unfoldable pub list_refusal : List ℕ → ℕ → ℕ → ℕ → ℕ
list_refusal memory list n count =
    if is_within memory list (8 * n) && all_within memory (buffers_at memory list n) && is_within memory count 4
    then (if nat_le n 1024 && nat_le (total_len (buffers_at memory list n)) 16777216 then errno_number Success else errno_number Inval)
    else errno_number Fault

-- a request that reads nothing of the memory
abbrev pub plain_request : ℕ → List ℕ → Request
plain_request call arguments = record { call = call; refused = 0; words = nine_words arguments; one = []; two = [] }

-- the request of `fd_write`, whose words are the descriptor, the address of the list, how many
-- buffers it has, and the address of the count
abbrev pub write_request : List ℕ → List ℕ → Request
write_request memory words =
    let list = slice_index words 1 in
    let n = slice_index words 2 in
    let refused = list_refusal memory list n (slice_index words 3) in
    record {
      call = fd_write;
      refused = refused;
      words = words;
      one = if refused == 0 then gathered memory (buffers_at memory list n) else [];
      two = [];
    }

-- the request of a call with its arguments over the bytes of a memory
abbrev pub request_of : List ℕ → ℕ → List ℕ → Request
request_of memory call arguments =
    if call == fd_write then write_request memory (nine_words arguments) else plain_request call arguments

-- the call of a request is the one that was made
abbrev pub KeepsTheCall : Type 0
KeepsTheCall = (memory arguments : List ℕ) (call : ℕ) → (request_of memory call arguments).call ≡ call

-- a process refuses nothing but a fault or an inval
abbrev pub RefusesFaultOrInval : Type 0
RefusesFaultOrInval =
    (memory arguments : List ℕ) (call : ℕ)
    → ((request_of memory call arguments).refused ≡ errno_number Success) ⊎ ((request_of memory call arguments).refused ≡ errno_number Fault) ⊎ ((request_of memory call arguments).refused ≡ errno_number Inval)

-- a write that isn't refused has its count's four bytes within the memory
abbrev pub CountLiesWithin : Type 0
CountLiesWithin =
    (memory arguments : List ℕ)
    → (request_of memory fd_write arguments).refused ≡ 0
    → slice_index (request_of memory fd_write arguments).words 3 + 4 ≤ length memory

-- a write has at most 16 MiB
abbrev pub WritesAtMost : Type 0
WritesAtMost = (memory arguments : List ℕ) (call : ℕ) → length (request_of memory call arguments).one ≤ 16777216

-- a request that is refused has no bytes
abbrev pub RefusedIsEmpty : Type 0
RefusedIsEmpty =
    (memory arguments : List ℕ) (call : ℕ)
    → 0 < (request_of memory call arguments).refused
    → (request_of memory call arguments).one ≡ []
