-- Comments, from place to place.
use Rattle.std.proofs.Common.{◌≡◌, ℕ, zero, suc, ◌+◌, ◌-◌, ◌≤◌, ◌<◌, Bool, true, false, cond, ◌&&◌, eqb, List, [], ◌∷◌, length, drop, get_or, Option, Some, None, refl, sym, ap, ◌∙◌, arith}
use Rattle.std.proofs.Math.Seq.{drop-cons}
use Rattle.std.specs.Option.{option_map}
use Rattle.wat_tokens.specs.Tokens.{comment_length}

-- two bytes at a place, and what is behind them
two_at : (text : List ℕ) (at : ℕ) → at + 1 < length text → drop at text ≡ get_or text at 0 ∷ get_or text (at + 1) 0 ∷ drop (at + 2) text
two_at text at h =
    let one : suc at ≡ at + 1 = omega arith in
    let two : suc (at + 1) ≡ at + 2 = omega arith in
    drop-cons text at 0 (omega arith)
    ∙ ap (λ (k : ℕ). get_or text at 0 ∷ drop k text) one
    ∙ ap (λ (rest : List ℕ). get_or text at 0 ∷ rest) (drop-cons text (at + 1) 0 h ∙ ap (λ (k : ℕ). get_or text (at + 1) 0 ∷ drop k text) two)

sums : (at k : ℕ) (o : Option ℕ) → option_map (λ n. at + n) (option_map (λ n. n + k) o) ≡ option_map (λ n. at + k + n) o
sums at k None = refl
sums at k (Some n) = let some : ℕ → Option ℕ = λ n. Some n in ap some (let sum : at + (n + k) ≡ at + k + n = omega arith in sum)

sums_one : (at : ℕ) (o : Option ℕ) → option_map (λ n. at + n) (option_map suc o) ≡ option_map (λ n. at + 1 + n) o
sums_one at None = refl
sums_one at (Some n) = let some : ℕ → Option ℕ = λ n. Some n in ap some (let sum : at + suc n ≡ at + 1 + n = omega arith in sum)

-- the length of a comment by its first two bytes
by_two : (outer byte next : ℕ) (rest : List ℕ) (closes opens : Bool) → (eqb byte 59 && eqb next 41) ≡ closes → (eqb byte 40 && eqb next 59) ≡ opens → comment_length (suc outer) (byte ∷ next ∷ rest) ≡ cond closes (option_map (λ n. n + 2) (comment_length outer rest)) (cond opens (option_map (λ n. n + 2) (comment_length (suc (suc outer)) rest)) (option_map suc (comment_length (suc outer) (next ∷ rest))))
by_two outer byte next rest closes opens c o =
    ap (λ (t : Bool). cond t (option_map (λ n. n + 2) (comment_length outer rest)) (cond (eqb byte 40 && eqb next 59) (option_map (λ n. n + 2) (comment_length (suc (suc outer)) rest)) (option_map suc (comment_length (suc outer) (next ∷ rest))))) c
    ∙ ap (λ (t : Bool). cond closes (option_map (λ n. n + 2) (comment_length outer rest)) (cond t (option_map (λ n. n + 2) (comment_length (suc (suc outer)) rest)) (option_map suc (comment_length (suc outer) (next ∷ rest))))) o

-- the length of a comment from a place on, by the two bytes there
pub by_place : (text : List ℕ) (at opened : ℕ) (closes opens : Bool) → at + 1 < length text → 1 ≤ opened → (eqb (get_or text at 0) 59 && eqb (get_or text (at + 1) 0) 41) ≡ closes → (eqb (get_or text at 0) 40 && eqb (get_or text (at + 1) 0) 59) ≡ opens → option_map (λ n. at + n) (comment_length opened (drop at text)) ≡ cond closes (option_map (λ n. at + 2 + n) (comment_length (opened - 1) (drop (at + 2) text))) (cond opens (option_map (λ n. at + 2 + n) (comment_length (opened + 1) (drop (at + 2) text))) (option_map (λ n. at + 1 + n) (comment_length opened (drop (at + 1) text))))
by_place text at zero closes opens h low c o = absurd (omega arith)
by_place text at (suc outer) closes opens h low c o =
    ap (λ (rest : List ℕ). option_map (λ n. at + n) (comment_length (suc outer) rest)) (two_at text at h)
    ∙ ap (option_map (λ n. at + n)) (by_two outer (get_or text at 0) (get_or text (at + 1) 0) (drop (at + 2) text) closes opens c o)
    ∙ finish closes opens where
      less : outer ≡ suc outer - 1
      less = omega arith

      more : suc (suc outer) ≡ suc outer + 1
      more = omega arith

      two : suc (at + 1) ≡ at + 2
      two = omega arith

      finish : (closes opens : Bool) → option_map (λ n. at + n) (cond closes (option_map (λ n. n + 2) (comment_length outer (drop (at + 2) text))) (cond opens (option_map (λ n. n + 2) (comment_length (suc (suc outer)) (drop (at + 2) text))) (option_map suc (comment_length (suc outer) (get_or text (at + 1) 0 ∷ drop (at + 2) text))))) ≡ cond closes (option_map (λ n. at + 2 + n) (comment_length (suc outer - 1) (drop (at + 2) text))) (cond opens (option_map (λ n. at + 2 + n) (comment_length (suc outer + 1) (drop (at + 2) text))) (option_map (λ n. at + 1 + n) (comment_length (suc outer) (drop (at + 1) text))))
      finish true opens = sums at 2 (comment_length outer (drop (at + 2) text)) ∙ ap (λ (k : ℕ). option_map (λ n. at + 2 + n) (comment_length k (drop (at + 2) text))) less
      finish false true = sums at 2 (comment_length (suc (suc outer)) (drop (at + 2) text)) ∙ ap (λ (k : ℕ). option_map (λ n. at + 2 + n) (comment_length k (drop (at + 2) text))) more
      finish false false =
          sums_one at (comment_length (suc outer) (get_or text (at + 1) 0 ∷ drop (at + 2) text))
          ∙ ap (λ (rest : List ℕ). option_map (λ n. at + 1 + n) (comment_length (suc outer) rest)) (sym (drop-cons text (at + 1) 0 h ∙ ap (λ (k : ℕ). get_or text (at + 1) 0 ∷ drop k text) two))

-- where fewer than two bytes are left, no comment ends
pub too_short : (text : List ℕ) (opened : ℕ) → 1 ≤ opened → length text ≤ 1 → comment_length opened text ≡ None
too_short text zero low h = absurd (omega arith)
too_short [] (suc outer) low h = refl
too_short (byte ∷ []) (suc outer) low h = refl
too_short (byte ∷ next ∷ rest) (suc outer) low h = absurd (omega arith)
