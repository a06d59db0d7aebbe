-- The type of a local is that of a parameter, or of one behind the parameters.
use Rattle.std.proofs.Common.{◌≡◌, ℕ, zero, suc, ◌+◌, ◌-◌, ◌<◌, ◌≤◌, List, [], ◌∷◌, length, get_or, slice_get, Some, None, option_map, refl, sym, ap, ◌∙◌, arith}
use Rattle.std.proofs.lemmas.Option.{slice_get-get_or, slice_get_past}
use Rattle.wasm_validate.specs.Prelude.{ValType, LocalGroup, group_type, local_type, ends_from}

pub local_param : (ts : List ValType) (gs : List LocalGroup) (n : ℕ) (d : ValType) → n < length ts → local_type ts gs n ≡ Some (get_or ts n d)
local_param [] gs n d h = absurd (omega arith)
local_param (t ∷ ts) gs zero d h = refl
local_param (t ∷ ts) gs (suc n) d h =
    local_param ts gs n d (omega arith)

pub local_group : (ts : List ValType) (gs : List LocalGroup) (n m : ℕ) → n ≡ length ts + m → local_type ts gs n ≡ group_type gs m
local_group [] gs n m e = let same : n ≡ m = omega arith in ap (group_type gs) same
local_group (t ∷ ts) gs zero m e = absurd (omega arith)
local_group (t ∷ ts) gs (suc n) m e =
    local_group ts gs n m (omega arith)

pub length-ends_from : (start : ℕ) (gs : List LocalGroup) → length (ends_from start gs) ≡ length gs
length-ends_from start [] = refl
length-ends_from start (g ∷ gs) = omega (arith, length-ends_from (start + g.count) gs)

-- each end is at or behind the start
end_behind : (start : ℕ) (gs : List LocalGroup) (j : ℕ) → j < length gs → start ≤ get_or (ends_from start gs) j 0
end_behind start [] j h = absurd (omega arith)
end_behind start (g ∷ gs) zero h = omega arith
end_behind start (g ∷ gs) (suc j) h = omega (arith, end_behind (start + g.count) gs j (omega arith))

-- ends rise
pub ends_rise : (start : ℕ) (gs : List LocalGroup) (i j : ℕ) → i ≤ j → j < length gs → get_or (ends_from start gs) i 0 ≤ get_or (ends_from start gs) j 0
ends_rise start [] i j h k = absurd (omega arith)
ends_rise start (g ∷ gs) zero zero h k = omega arith
ends_rise start (g ∷ gs) zero (suc j) h k = end_behind (start + g.count) gs j (omega arith)
ends_rise start (g ∷ gs) (suc i) zero h k = absurd (omega arith)
ends_rise start (g ∷ gs) (suc i) (suc j) h k = ends_rise (start + g.count) gs i j (omega arith) (omega arith)

-- the local stands in the first group that ends behind it, or in none
group_at : (start : ℕ) (gs : List LocalGroup) (n k : ℕ) → ((j : ℕ) → j < k → get_or (ends_from start gs) j 0 ≤ start + n) → (k < length gs → start + n < get_or (ends_from start gs) k 0) →
    group_type gs n ≡ option_map (λ (g : LocalGroup). g.of) (slice_get gs k)
group_at start [] n k below above = refl
group_at start (g ∷ gs) n zero below above = let h : start + n < start + g.count = above (omega arith) in grind arith
group_at start (g ∷ gs) n (suc k) below above =
    let first : start + g.count ≤ start + n = below 0 (omega arith) in
    let same : start + g.count + (n - g.count) ≡ start + n = omega arith in
    let r = group_at (start + g.count) gs (n - g.count) k (λ j p. omega (arith, same, below (suc j) (omega arith))) (λ p. omega (arith, same, above (omega arith))) in grind arith

-- the same over the ends that are kept
module _ (gs : List LocalGroup) (ends : List ℕ) (e : ends ≡ ends_from 0 gs) where
  as_many : length ends ≡ length gs
  as_many = ap length e ∙ length-ends_from 0 gs

  pub rise : (i j : ℕ) → i ≤ j → j < length ends → get_or ends i 0 ≤ get_or ends j 0
  rise i j h k = rw e (ends_rise 0 gs i j h (omega (arith, as_many)))

  at_ends : (n j : ℕ) → get_or ends j 0 ≤ n → get_or (ends_from 0 gs) j 0 ≤ 0 + n
  at_ends n j h = rw (← e) (omega arith)

  pub found : (n low high : ℕ) (d : LocalGroup) → low < length gs → high ≤ low → ((k : ℕ) → k < low → get_or ends k 0 ≤ n) → ((k : ℕ) → high ≤ k → k < length ends → n < get_or ends k 0) →
      Some (get_or gs low d).of ≡ group_type gs n
  found n low high d h q below above =
      let past : n < get_or ends low 0 = above low q (omega (arith, as_many)) in
      sym (group_at 0 gs n low (λ j p. at_ends n j (below j p)) (λ k. rw (← e) (omega arith)) ∙ ap (option_map (λ (g : LocalGroup). g.of)) (slice_get-get_or gs low d h))

  pub absent : (n low : ℕ) → length gs ≤ low → ((k : ℕ) → k < low → get_or ends k 0 ≤ n) → None ≡ group_type gs n
  absent n low h below = sym (group_at 0 gs n low (λ j p. at_ends n j (below j p)) (λ k. absurd (omega arith)) ∙ ap (option_map (λ (g : LocalGroup). g.of)) (slice_get_past gs low h))
