use Rattle.std.proofs.Common.{◌≡◌, ℕ, ◌≤◌, List, length, Result, Ok, Err, IfOk}
use Rattle.wx_types.specs.declared.requests.Request.{Request}
use Rattle.wasix_abi.specs.Requests.{fd_write, nine_words, write_request}
use Rattle.wasix_abi.proofs.Laws.{at_most}
use Rattle.wasix_abi.proofs.requests.request_of.Goals as goal

-- a write that was made has at most 16 MiB
most_of : {E : Type 0} (memory arguments : List ℕ) (made : Result Request E) → IfOk made (λ r. r ≡ write_request memory (nine_words arguments)) → IfOk made (λ r. length r.one ≤ 16777216)
most_of memory arguments (Ok r) is = rw is (at_most memory arguments fd_write)
most_of memory arguments (Err e) is = tt

pub returns-then-call-eq-FD_WRITE-clause-most : goal.returns-then-call-eq-FD_WRITE-clause-most
returns-then-call-eq-FD_WRITE-clause-most c = most_of c.args.memory.now.bytes c.args.arguments.now c.write_request.result c.write_request.ensures
