use Rattle.std.proofs.Common.{arith}
use Rattle.std.specs.List.{slice_index}
use Rattle.wasix_abi.specs.Requests.{nine_words}
use Rattle.wasix_abi.proofs.Laws.{refusal_of, good_list, at_most}
use Rattle.wasix_abi.proofs.requests.request_laws.Goals as goal

pub returns-clause-refuses : goal.returns-clause-refuses
returns-clause-refuses c memory arguments call =
    let words = nine_words arguments in
    let cases = refusal_of memory (slice_index words 1) (slice_index words 2) (slice_index words 3) in
    grind (arith, cases)

pub returns-clause-count_lies_within : goal.returns-clause-count_lies_within
returns-clause-count_lies_within c memory arguments good =
    let words = nine_words arguments in
    (good_list memory (slice_index words 1) (slice_index words 2) (slice_index words 3) good).0

pub returns-clause-writes_at_most : goal.returns-clause-writes_at_most
returns-clause-writes_at_most c = at_most
