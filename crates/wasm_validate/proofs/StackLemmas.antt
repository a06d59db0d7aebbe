-- How the open blocks lie in the two stacks, as blocks are opened, closed and named by labels.
use Rattle.std.proofs.Common.{◌≡◌, ℕ, zero, suc, ◌+◌, ◌-◌, ◌<◌, ◌≤◌, Bool, true, false, ◌&&◌, List, [], ◌∷◌, ◌++◌, map, length, take, drop, reverse, get_or, slice_get, Option, Some, None, option_and_then, option_map, refl, sym, ap, ◌∙◌, arith}
use Rattle.std.proofs.lemmas.List.{reverse-append, length-reverse, length-drop, take-append-drop, drop_at, get_or-reverse, length-map, take_more}
use Rattle.std.proofs.lemmas.Option.{slice_get-get_or, slice_get_past, slice_get-map}
use Rattle.wasm_validate.specs.Prelude.{ValType, Frame, outer_labels, Closes, outer_of, view_of, count_of}
use Rattle.wasm_ast.specs.Typing.{Operands, unreachable_operands, pop_expected, pop_operands, is_empty, label_of}

module _ {X : Type 0} where
  pub reverse_push : (xs : List X) (x : X) → reverse (xs ++ x ∷ []) ≡ x ∷ reverse xs
  reverse_push xs x = reverse-append xs (x ∷ [])

  -- all but the last ones
  pub drop-reverse : (xs : List X) (k : ℕ) → k ≤ length xs → drop k (reverse xs) ≡ reverse (take (length xs - k) xs)
  drop-reverse xs k h =
      let split : reverse xs ≡ reverse (drop (length xs - k) xs) ++ reverse (take (length xs - k) xs) = ap reverse (sym (take-append-drop (length xs - k) xs)) ∙ reverse-append (take (length xs - k) xs) (drop (length xs - k) xs) in
      let long : length (reverse (drop (length xs - k) xs)) ≡ k = length-reverse (drop (length xs - k) xs) ∙ length-drop (length xs - k) xs ∙ omega arith in
      ap (drop k) split ∙ drop_at (reverse (drop (length xs - k) xs)) (reverse (take (length xs - k) xs)) k long

-- a block that has no operands counts none
pub none_own : (n : ℕ) (xs : List (Option ValType)) → n ≤ length xs → is_empty (take n xs) ≡ true → n ≡ 0
none_own zero xs h e = refl
none_own (suc n) [] h e = absurd (omega arith)
none_own (suc n) (x ∷ xs) h e = cc

pub close_whole : (f g : Frame) (fs outs : List Frame) (xs : List (Option ValType)) → outs ≡ fs ++ f ∷ [] → g.own + count_of (reverse outs) ≡ length xs →
    is_empty (take g.own (reverse xs)) ≡ true → f.own + count_of (reverse fs) ≡ length xs
close_whole f g fs outs xs e w h =
    let none : g.own ≡ 0 = none_own g.own (reverse xs) (omega (arith, length-reverse xs)) h in
    let count : count_of (reverse outs) ≡ f.own + count_of (reverse fs) = ap count_of (ap reverse e ∙ reverse_push fs f) in
    omega arith

pub closes : (f g : Frame) (fs outs : List Frame) (xs : List (Option ValType)) → outs ≡ fs ++ f ∷ [] → g.own + count_of (reverse outs) ≡ length xs →
    is_empty (take g.own (reverse xs)) ≡ true → Closes (outer_of (reverse outs) (drop g.own (reverse xs))) true (view_of f (reverse fs) (reverse xs))
closes f g fs outs xs e w h =
    let none : g.own ≡ 0 = none_own g.own (reverse xs) (omega (arith, length-reverse xs)) h in
    let order : reverse outs ≡ f ∷ reverse fs = ap reverse e ∙ reverse_push fs f in
    rw (order, none) (refl, refl)

abbrev frame_label : Frame → Option ValType
frame_label f = label_of f.block.kind f.block.of

pub outer_labels-outer_of : (fs : List Frame) (xs : List (Option ValType)) → outer_labels (outer_of fs xs) ≡ map frame_label fs
outer_labels-outer_of [] xs = refl
outer_labels-outer_of (f ∷ fs) xs = ap (λ ls. frame_label f ∷ ls) (outer_labels-outer_of fs (drop f.own xs))

-- the label of a block by its place in the stack
pub label_at : (outs : List Frame) (f : Frame) (xs : List (Option ValType)) (l : Option ValType) (count n : ℕ) → count ≡ length outs → 0 < n → n ≤ count → f ≡ get_or outs (count - n) f →
    Some (frame_label f) ≡ slice_get (l ∷ outer_labels (outer_of (reverse outs) xs)) n
label_at outs f xs l count zero q p h e = absurd (omega arith)
label_at outs f xs l count (suc n) q p h e =
    let place : length outs - 1 - n ≡ count - suc n = omega arith in
    let at : slice_get (reverse outs) n ≡ Some f =
    slice_get-get_or (reverse outs) n f (omega (arith, length-reverse outs))
    ∙ ap Some (get_or-reverse outs n f (omega arith) ∙ ap (λ k. get_or outs k f) place ∙ sym e) in
    sym (ap (λ ls. slice_get ls n) (outer_labels-outer_of (reverse outs) xs) ∙ slice_get-map frame_label (reverse outs) n ∙ ap (option_map frame_label) at)

pub label_past : (outs : List Frame) (xs : List (Option ValType)) (l : Option ValType) (n : ℕ) → 0 < n → length outs < n →
    None ≡ slice_get (l ∷ outer_labels (outer_of (reverse outs) xs)) n
label_past outs xs l zero p h = absurd (omega arith)
label_past outs xs l (suc n) p h =
    sym (ap (λ ls. slice_get ls n) (outer_labels-outer_of (reverse outs) xs)
    ∙ slice_get_past (map frame_label (reverse outs)) n (omega (arith, length-map (reverse outs) frame_label, length-reverse outs)))

-- the last of some types is taken first
pub pop_operands-push : (ts : List ValType) (t : ValType) (s : Operands) → pop_operands (ts ++ t ∷ []) s ≡ option_and_then (pop_operands ts) (pop_expected t s)
pop_operands-push [] t s = elim (pop_expected t s) as (λ o. o ≡ option_and_then (pop_operands []) o) [ None ↦ refl | Some a ↦ refl ]
pop_operands-push (u ∷ ts) t s =
    ap (option_and_then (pop_expected u)) (pop_operands-push ts t s)
    ∙ (elim (pop_expected t s) as (λ o. option_and_then (pop_expected u) (option_and_then (pop_operands ts) o) ≡ option_and_then (pop_operands (u ∷ ts)) o) [ None ↦ refl | Some a ↦ refl ])

-- the last of so many types is taken, or can't be
pub pop_operands_next : (ts : List ValType) (n : ℕ) (d : ValType) (s : Operands) (below o : Option Operands) → 0 < n → n ≤ length ts → below ≡ pop_expected (get_or ts (n - 1) d) s → pop_operands (take n ts) s ≡ o → option_and_then (pop_operands (take (n - 1) ts)) below ≡ o
pop_operands_next ts n d s below o p h e q =
    let next : n ≡ n - 1 + 1 = omega arith in
    ap (option_and_then (pop_operands (take (n - 1) ts))) e ∙ sym (pop_operands-push (take (n - 1) ts) (get_or ts (n - 1) d) s)
    ∙ ap (λ us. pop_operands us s) (sym (take_more ts (n - 1) d (omega arith)) ∙ ap (λ m. take m ts) (sym next)) ∙ q

-- each type may be taken where anything may stand
pop_operands_any : (ts : List ValType) → pop_operands ts unreachable_operands ≡ Some unreachable_operands
pop_operands_any [] = refl
pop_operands_any (t ∷ ts) = ap (option_and_then (pop_expected t)) (pop_operands_any ts)

pub pop_operands_rest : (ts : List ValType) (n : ℕ) (s : Operands) (o : Option Operands) → true ≡ (s.unreachable && is_empty s.types) → pop_operands (take n ts) s ≡ o → Some s ≡ o
pop_operands_rest ts n s o h q = any s.unreachable s.types h ∙ q where
  any : (unreachable : Bool) (xs : List (Option ValType)) → true ≡ (unreachable && is_empty xs) → Some (record { unreachable = unreachable; types = xs }) ≡ pop_operands (take n ts) (record { unreachable = unreachable; types = xs })
  any true [] h = sym (pop_operands_any (take n ts))
  any true (x ∷ xs) h = absurd (cc)
  any false xs h = absurd (cc)
