-- The words of a request, one argument after the other.
use Rattle.std.proofs.Common.{◌≡◌, ℕ, suc, ◌+◌, ◌-◌, ◌<◌, ◌≤◌, List, ◌++◌, length, take, set, get_or, replicate, ap, sym, ◌∙◌, arith}
use Rattle.std.proofs.Math.Seq.{take-append-add, set-append_seam, take-length}
use Rattle.std.proofs.lemmas.List.{take-replicate}
use Rattle.std.proofs.lemmas.Grind.{common_steps}
use Rattle.wasix_abi.specs.Requests.{nine_words}

-- one more word is written
pub next_word : (arguments : List ℕ) (i : ℕ) → i < length arguments → length arguments ≤ 9
    → set (take i arguments ++ replicate (9 - i) 0) i (get_or arguments i 0) ≡ take (i + 1) arguments ++ replicate (9 - (i + 1)) 0
next_word arguments i below most =
    let more : 9 - i ≡ suc (9 - (i + 1)) = omega arith in
    grind (arith, common_steps, more, set-append_seam (take i arguments) 0 (replicate (9 - (i + 1)) 0) (get_or arguments i 0))

-- all words are written
pub all_words : (arguments : List ℕ) → length arguments ≤ 9 → take (length arguments) arguments ++ replicate (9 - length arguments) 0 ≡ nine_words arguments
all_words arguments most =
    let nine : 9 ≡ length arguments + (9 - length arguments) = omega arith in
    let front : take (length arguments + (9 - length arguments)) (arguments ++ replicate 9 0) ≡ arguments ++ take (9 - length arguments) (replicate 9 0) = take-append-add arguments (replicate 9 0) (9 - length arguments) in
    let zeros : take (9 - length arguments) (replicate 9 0) ≡ replicate (9 - length arguments) 0 = take-replicate (9 - length arguments) 9 0 (omega arith) in
    ap (λ xs. xs ++ replicate (9 - length arguments) 0) (take-length arguments) ∙ sym (ap (λ n. take n (arguments ++ replicate 9 0)) nine ∙ front ∙ ap (λ xs. arguments ++ xs) zeros)
