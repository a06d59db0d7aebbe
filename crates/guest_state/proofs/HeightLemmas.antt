-- Stacks parted at heights.
use Rattle.std.proofs.Common.{◌≡◌, ℕ, suc, ◌+◌, ◌-◌, ◌<◌, ◌≤◌, List, [], ◌∷◌, ◌++◌, length, take, drop, reverse, refl, sym, ap, ap₂, ◌∙◌, arith, length-append, length-drop}
use Rattle.std.proofs.Math.ListN.{set}
use Rattle.std.proofs.Math.Seq.{take-add, take-set-lt}
use Rattle.std.proofs.lemmas.List.{append_assoc, drop-append-le, drop-drop, drop-take, drop_at, length-reverse, length-take, reverse-append, reverse-reverse, set_split, take-append-drop, take_at, take-take}
use Rattle.guest_state.specs.Heights.{above, below}

module _ {T : Type 0} where
  -- the front of a list turned round is its back, and the other way
  parts : (k n : ℕ) (xs : List T) → k + n ≡ length xs → (take k (reverse xs) ≡ reverse (drop n xs)) × (drop k (reverse xs) ≡ reverse (take n xs))
  parts k n xs e =
      let whole : reverse xs ≡ reverse (drop n xs) ++ reverse (take n xs) = sym (ap reverse (take-append-drop n xs)) ∙ reverse-append (take n xs) (drop n xs) in
      let size : length (reverse (drop n xs)) ≡ k = length-reverse (drop n xs) ∙ omega (arith, length-drop n xs) in
      (ap (take k) whole ∙ take_at _ _ k size, ap (drop k) whole ∙ drop_at _ _ k size)

  -- a stack whose elements stand in a list, the first pushed first
  pub length-stack : (height : ℕ) (xs : List T) → height ≤ length xs → length (reverse (take height xs)) ≡ height
  length-stack height xs h = length-reverse (take height xs) ∙ omega (arith, length-take height xs)

  pub below-stack : (low height : ℕ) (xs : List T) → low ≤ height → height ≤ length xs → below low (reverse (take height xs)) ≡ reverse (take low xs)
  below-stack low height xs l h =
      let size = length-stack height xs h in
      let cut : height - low + low ≡ length (take height xs) = omega (arith, length-take height xs) in
      rw size ((parts (height - low) low (take height xs) cut).1 ∙ ap reverse (take-take low height xs l))

  pub set-stack : (at height : ℕ) (xs : List T) (x : T) → at < height → height ≤ length xs
      → reverse (take height (set xs at x)) ≡ set (reverse (take height xs)) (height - 1 - at) x
  set-stack at height xs x l h =
      let ys = take height xs in
      let n = height - 1 - at in
      let size = length-stack height xs h in
      let first : n + suc at ≡ length ys = omega (arith, length-take height xs) in
      let second : suc n + at ≡ length ys = omega (arith, length-take height xs) in
      ap reverse (take-set-lt height xs at x l ∙ set_split ys at x (omega (arith, length-take height xs)))
      ∙ reverse-append (take at ys) (x ∷ drop (suc at) ys)
      ∙ ap (λ front. front ++ reverse (take at ys)) (reverse-append (x ∷ []) (drop (suc at) ys))
      ∙ append_assoc (reverse (drop (suc at) ys)) (x ∷ []) (reverse (take at ys))
      ∙ sym (ap₂ (λ front back. front ++ x ∷ back) (parts n (suc at) ys first).0 (parts (suc n) at ys second).1)
      ∙ sym (set_split (reverse ys) n x (omega (arith, length-reverse ys, length-take height xs)))

  pub below-top : (xs : List T) (height : ℕ) → height ≡ length xs → below height xs ≡ xs
  below-top xs height e = let none : length xs - height ≡ 0 = omega arith in rw none refl

  pub above-top : (xs : List T) (height : ℕ) → height ≡ length xs → above height xs ≡ []
  above-top xs height e = let none : length xs - height ≡ 0 = omega arith in rw none refl

  pub below-append : (xs ys : List T) (height : ℕ) → height ≤ length ys → below height (xs ++ ys) ≡ below height ys
  below-append xs ys height h =
      let e : length (xs ++ ys) - height ≡ length xs + (length ys - height) = omega (arith, length-append xs ys) in
      rw e (sym (drop-drop (length ys - height) (length xs) (xs ++ ys)) ∙ ap (drop (length ys - height)) (drop_at xs ys (length xs) refl))

  pub above-append : (xs ys : List T) (height : ℕ) → height ≤ length ys → above height (xs ++ ys) ≡ xs ++ above height ys
  above-append xs ys height h =
      let e : length (xs ++ ys) - height ≡ length xs + (length ys - height) = omega (arith, length-append xs ys) in
      rw e (take-add (length xs) (length ys - height) (xs ++ ys) ∙ ap₂ (λ a b. a ++ take (length ys - height) b) (take_at xs ys (length xs) refl) (drop_at xs ys (length xs) refl))

  pub length-below : (xs : List T) (height : ℕ) → height ≤ length xs → length (below height xs) ≡ height
  length-below xs height h = omega (arith, length-drop (length xs - height) xs)

  pub length-above : (xs : List T) (height : ℕ) → height ≤ length xs → length (above height xs) + height ≡ length xs
  length-above xs height h = omega (arith, length-take (length xs - height) xs)

  pub above-below : (height : ℕ) (xs : List T) → above height xs ++ below height xs ≡ xs
  above-below height xs = take-append-drop (length xs - height) xs

  pub below-below : (low height : ℕ) (xs : List T) → low ≤ height → height ≤ length xs → below low (below height xs) ≡ below low xs
  below-below low height xs l h =
      sym (below-append (above height xs) (below height xs) low (omega (arith, length-below xs height h))) ∙ ap (below low) (above-below height xs)

  pub above-above : (low height : ℕ) (xs : List T) → low ≤ height → height ≤ length xs → above height xs ++ above low (below height xs) ≡ above low xs
  above-above low height xs l h =
      sym (above-append (above height xs) (below height xs) low (omega (arith, length-below xs height h))) ∙ ap (above low) (above-below height xs)

  -- the last elements over a height are those of the whole stack
  pub drop-above : (count height : ℕ) (xs : List T) → height ≤ length xs → count ≤ length (above height xs) → drop count xs ≡ drop count (above height xs) ++ below height xs
  drop-above count height xs h few =
      ap (drop count) (sym (above-below height xs)) ∙ drop-append-le count (above height xs) (below height xs) few

  -- without the last ones
  pub below-last : (count : ℕ) (xs : List T) → count ≤ length xs → below (length xs - count) xs ≡ drop count xs
  below-last count xs h = let e : length xs - (length xs - count) ≡ count = omega arith in rw e refl

  pub range-stack : (low count height : ℕ) (xs : List T) → low + count ≤ height → height ≤ length xs
      → take count (drop low xs) ≡ reverse (above low (below (low + count) (reverse (take height xs))))
  range-stack low count height xs h top =
      let high = low + count in
      let size : length (take high xs) ≡ high = omega (arith, length-take high xs) in
      let both : count + low ≡ length (take high xs) = omega (arith, size) in
      let whole : high - low ≡ count = omega arith in
      rw (below-stack high height xs h top, length-stack high xs (omega arith), whole, (parts count low (take high xs) both).0, reverse-reverse, drop-take low count xs) refl
