-- What stands at the end of a text without a byte.
use Rattle.std.proofs.Common.{◌≡◌, ℕ, suc, ◌+◌, ◌<◌, Bool, true, false, not, cond, eqb, List, [], ◌∷◌, length, take, drop, Option, Some, None, refl, subst, arith}
use Rattle.std.specs.List.{prefix_len}
use Rattle.std.proofs.lemmas.Grind.{common_steps}
use Rattle.wat_words.specs.Numbers.{below, digits}
use Rattle.wat_tokens.specs.Strings.{begins_with, character, unicode}

stops_by : (end byte : ℕ) (rest : List ℕ) (count : ℕ) (t : Bool) → eqb byte end ≡ t → (count < length rest → begins_with end (drop count rest) ≡ true) → cond (not t) (1 + count) 0 < length (byte ∷ rest) → begins_with end (drop (cond (not t) (1 + count) 0) (byte ∷ rest)) ≡ true
stops_by end byte rest count true e further h = e
stops_by end byte rest count false e further h =
    let one : suc count ≡ 1 + count = omega arith in
    subst (λ (k : ℕ). begins_with end (drop k (byte ∷ rest)) ≡ true) one (further (omega arith))

-- behind the bytes that differ from it stands the byte, where anything does
pub stops_at : (end : ℕ) (text : List ℕ) → prefix_len (λ byte. not (eqb byte end)) text < length text → begins_with end (drop (prefix_len (λ byte. not (eqb byte end)) text) text) ≡ true
stops_at end [] h = absurd (omega arith)
stops_at end (byte ∷ rest) h = stops_by end byte rest (prefix_len (λ byte. not (eqb byte end)) rest) (eqb byte end) refl (λ k. stops_at end rest k) h

pub below_is : (limit n : ℕ) (o : Option ℕ) → below limit o ≡ Some n → o ≡ Some n
below_is limit n None e = e
below_is limit n (Some m) e = grind (arith, common_steps)

pub unicode_is : (text : List ℕ) (count n : ℕ) → count ≡ prefix_len (λ byte. not (eqb byte 125)) text → count < length text → digits 16 (take count text) ≡ Some n → unicode text ≡ character (count + 4) n
unicode_is text count n e h d =
    let differs : ℕ = prefix_len (λ byte. not (eqb byte 125)) text in
    let stops : begins_with 125 (drop differs text) ≡ true = stops_at 125 text (omega arith) in
    let number : digits 16 (take differs text) ≡ Some n = subst (λ (k : ℕ). digits 16 (take k text) ≡ Some n) e d in
    rw (stops, number, e) refl
