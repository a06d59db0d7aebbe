-- What a thread stands for after a branch, a call or a return.
use Rattle.std.proofs.Common.{◌≡◌, ℕ, zero, suc, ◌+◌, ◌-◌, ◌<◌, ◌≤◌, Bool, true, false, ◌&&◌, cond, get_or, List, [], ◌∷◌, ◌++◌, length, take, drop, reverse, replicate, Some, Result, Ok, Err, refl, sym, ap, ap₂, subst, ◌∙◌, arith, length-append}
use Rattle.std.specs.Prelude.{nat_le, slice_get}
use Rattle.std.proofs.lemmas.Option.{get_or_from_slice_get, slice_get_read}
use Rattle.std.proofs.lemmas.List.{append_assoc, drop-drop, drop-take, get_or-take, length-drop, length-take, reverse-append, reverse-reverse, take-append-drop, take-take}
use Rattle.int_ops.specs.declared.trap.Cause.{Cause}
use Rattle.int_ops.specs.declared.trap.Cause.TheVariants.{StackFull}
use Rattle.wasm_ast.specs.declared.module.Module.{Module}
use Rattle.wasm_ast.specs.declared.position.Position.{Position}
use Rattle.wasm_ast.specs.Position.{remaining}
use Rattle.wasm_ast.specs.Sequence.{Sequence, Empty}
use Rattle.guest_state.specs.declared.entries.OpenFrame.{OpenFrame}
use Rattle.guest_state.specs.declared.entries.OpenLabel.{OpenLabel}
use Rattle.guest_state.specs.GuestThread.{Frame, GuestThread, Label, first_changed, in_frame}
use Rattle.guest_state.specs.Heights.{Stacked, above, below}
use Rattle.guest_state.specs.Module.{body_of, further_locals, param_count, result_count, type_of}
use Rattle.guest_state.specs.Snapshot.{Snapshot, branch_arity, first_height, first_open, innermost_body, frame_at, frames_of, height_of, label_arity, labels_of, open_count, operands_of, placed, result_arity, thread_at, thread_of}
use Rattle.guest_state.specs.Sound.{AreHeights, AreParted, IsSound}
use Rattle.guest_state.specs.Steps.{branched, called, entered, has_room, left, returned, with_operands}
use Rattle.guest_state.proofs.HeightLemmas.{above-below, above-top, below-below, below-last, below-top, length-above, length-below}
use Rattle.guest_state.proofs.LabelLemmas.{returned_is}
use Rattle.guest_state.proofs.SnapshotLemmas.{entered_frames, first_is, has_room_is, heights_low, heights_to, heights_top, kept, operands_few, other_operands, parted_operands, parted_placed, with_operands_at, with_operands_is}

-- a label, by its place among those of a frame
labels_of-drop : (body : Sequence) (low : ℕ) (vs : List ℕ) (ls : List OpenLabel) (n : ℕ) → drop n (labels_of body low vs ls) ≡ labels_of body low vs (drop n ls)
labels_of-drop body low vs ls zero = refl
labels_of-drop body low vs [] (suc n) = refl
labels_of-drop body low vs (l ∷ ls) (suc n) = labels_of-drop body low vs ls n

abbrev label_at : Sequence → ℕ → List ℕ → OpenLabel → List OpenLabel → Label
label_at body low vs l ls = record {
  arity = cond l.carries 1 0;
  continuation = remaining body l.branch;
  outer_operands = above (height_of low ls) (below l.height vs);
  outer_code = remaining body l.end;
}

labels_of-got : (body : Sequence) (low : ℕ) (vs : List ℕ) (ls : List OpenLabel) (n : ℕ) (l : OpenLabel) → slice_get ls n ≡ Some l
    → slice_get (labels_of body low vs ls) n ≡ Some (label_at body low vs l (drop (suc n) ls))
labels_of-got body low vs [] n l got = absurd (cc)
labels_of-got body low vs (x ∷ ls) zero l got = let same : x ≡ l = cc in rw same refl
labels_of-got body low vs (x ∷ ls) (suc n) l got = labels_of-got body low vs ls n l got

-- its height stands between that of the labels around it and that of the values
heights_got : (low high : ℕ) (ls : List OpenLabel) (n : ℕ) (l : OpenLabel) → AreHeights low high ls → slice_get ls n ≡ Some l → (l.height ≤ high) × AreHeights low l.height (drop (suc n) ls)
heights_got low high [] n l h got = absurd (cc)
heights_got low high (x ∷ ls) zero l h got = let same : x ≡ l = cc in rw (← same) h
heights_got low high (x ∷ ls) (suc n) l h got =
    let rest = heights_got low x.height ls n l h.1 got in
    let first : x.height ≤ high = h.0 in
    let next : l.height ≤ x.height = rest.0 in
    (omega arith, rest.1)

module _ {T : Type 0} where
  pub above-drop : (h k : ℕ) (xs : List T) → k + h ≤ length xs → above h (drop k xs) ≡ drop k (above h xs)
  above-drop h k xs e =
      let size : length (drop k xs) - h ≡ length xs - h - k = omega (arith, length-drop k xs) in
      let whole : k + (length xs - h - k) ≡ length xs - h = omega arith in
      rw size (sym (drop-take k (length xs - h - k) xs) ∙ ap (λ n. drop k (take n xs)) whole)

  pub below-drop : (h k : ℕ) (xs : List T) → k + h ≤ length xs → below h (drop k xs) ≡ below h xs
  below-drop h k xs e =
      let size : k + (length (drop k xs) - h) ≡ length xs - h = omega (arith, length-drop k xs) in
      drop-drop (length (drop k xs) - h) k xs ∙ ap (λ n. drop n xs) size

  -- an element of the last ones
  pub own_label : (h : ℕ) (xs : List T) (n : ℕ) (x : T) → n < length (above h xs) → slice_get xs n ≡ Some x → slice_get (above h xs) n ≡ Some x
  own_label h xs n x inside got =
      let front : get_or (above h xs) n x ≡ get_or xs n x = get_or-take (length xs - h) xs n x (omega (arith, length-take (length xs - h) xs)) in
      slice_get_read (above h xs) (length (above h xs)) n x refl inside (sym (front ∙ get_or_from_slice_get xs n x x got))

  take_few : (c h : ℕ) (xs : List T) → c ≤ length (above h xs) → take c (above h xs) ≡ take c xs
  take_few c h xs few = take-take c (length xs - h) xs (omega (arith, length-take (length xs - h) xs))

-- Fewer labels of the innermost frame, and other operands over the last of them. The frames below it are the same.
module _ (f : OpenFrame) (fs : List OpenFrame) (vs : List ℕ) (ls fewer : List OpenLabel) (order : f.locals_start ≤ f.locals_end)
    (heights : AreHeights f.locals_end (length vs) (above f.labels_start fewer)) (others : below f.labels_start fewer ≡ below f.labels_start ls) where
  abbrev height : ℕ
  height = height_of f.locals_end (above f.labels_start fewer)

  fewer_labels : (m : Module) (place : Position) (xs : List ℕ) → frames_of m (record f { place = place } ∷ fs) (xs ++ below height vs) fewer
      ≡ record (frame_at m f place vs fewer) { operands = xs } ∷ frames_of m fs (below f.locals_start vs) (below f.labels_start ls)
  fewer_labels m place xs =
      let low : f.locals_end ≤ height = heights_low f.locals_end (length vs) (above f.labels_start fewer) heights in
      ap₂ (λ frame rest. frame ∷ rest) (other_operands m f vs fewer order heights place xs)
      (ap₂ (frames_of m fs) (kept m f vs fewer order heights xs f.locals_start (omega arith)) others)

  -- the stacks are still parted
  parted_fewer : (size : ℕ) → height ≤ size → f.labels_start ≤ length fewer → AreParted fs f.locals_start (below f.labels_start ls) → AreParted (f ∷ fs) size fewer
  parted_fewer size over start rest = (order, start, heights_to f.locals_end (length vs) size (above f.labels_start fewer) heights over, rw others rest)

-- a branch to a label of the innermost frame
module _ (f : OpenFrame) (fs : List OpenFrame) (vs : List ℕ) (ls : List OpenLabel) (parted : AreParted (f ∷ fs) (length vs) ls)
    (n : ℕ) (l : OpenLabel) (got : slice_get (above f.labels_start ls) n ≡ Some l) (inside : n < length (above f.labels_start ls))
    (few : cond l.carries 1 0 ≤ length (above (height_of f.locals_end (above f.labels_start ls)) vs)) where
  abbrev own : List OpenLabel
  own = above f.labels_start ls

  abbrev outer_labels : List OpenLabel
  outer_labels = drop (suc n) ls

  abbrev top : ℕ
  top = height_of f.locals_end (drop (suc n) own)

  size : suc n + f.labels_start ≤ length ls
  size = omega (arith, length-above ls f.labels_start parted.1)

  outer : above f.labels_start outer_labels ≡ drop (suc n) own
  outer = above-drop f.labels_start (suc n) ls size

  at : (l.height ≤ length vs) × AreHeights f.locals_end l.height (drop (suc n) own)
  at = heights_got f.locals_end (length vs) own n l parted.2 got

  top_of : top ≤ l.height
  top_of = heights_top f.locals_end l.height (drop (suc n) own) at.1

  heights_of : AreHeights f.locals_end (length vs) (above f.labels_start outer_labels)
  heights_of = rw outer (heights_to f.locals_end l.height (length vs) (drop (suc n) own) at.1 (omega (arith, top_of, at.0)))

  others_of : below f.labels_start outer_labels ≡ below f.labels_start ls
  others_of = below-drop f.labels_start (suc n) ls size

  branched_frames : (m : Module) (place : Position) → frames_of m (record f { place = l.branch } ∷ fs) (take (cond l.carries 1 0) vs ++ below l.height vs) outer_labels
      ≡ branched n (frame_at m f place vs ls) ∷ frames_of m fs (below f.locals_start vs) (below f.labels_start ls)
  branched_frames m place =
      let body = body_of m f.function in
      let count : ℕ = cond l.carries 1 0 in
      let xs = take count vs ++ above top (below l.height vs) in
      let under : below top (below l.height vs) ≡ below top vs = below-below top l.height vs top_of at.0 in
      let values : take count vs ++ below l.height vs ≡ xs ++ below top vs =
      ap (λ zs. take count vs ++ zs) (sym (above-below top (below l.height vs)) ∙ ap (λ zs. above top (below l.height vs) ++ zs) under)
      ∙ sym (append_assoc (take count vs) (above top (below l.height vs)) (below top vs)) in
      let rest = frames_of m fs (below f.locals_start vs) (below f.labels_start ls) in
      let there : Frame = record (frame_at m f l.branch vs outer_labels) { operands = xs } in
      let At : List OpenLabel → Type 0 = λ o. frames_of m (record f { place = l.branch } ∷ fs) (xs ++ below (height_of f.locals_end o) vs) outer_labels ≡ there ∷ rest in
      let frames : At (drop (suc n) own) = subst At outer (fewer_labels f fs vs ls outer_labels parted.0 heights_of others_of m l.branch xs) in
      let same : there ≡ branched n (frame_at m f place vs ls) =
      rw (outer, labels_of-got body f.locals_end vs own n l got, take_few count (height_of f.locals_end own) vs few, labels_of-drop body f.locals_end vs own (suc n)) refl in
      rw values (frames ∙ ap (λ frame. frame ∷ rest) same)

  parted_branched : (high : ℕ) → l.height ≤ high → AreParted (f ∷ fs) high outer_labels
  parted_branched high over =
      parted_fewer f fs vs ls outer_labels parted.0 heights_of others_of high (rw outer (omega (arith, top_of))) (omega (arith, size, length-drop (suc n) ls)) parted.3

  room_branched : l.height + cond l.carries 1 0 ≤ length vs
  room_branched =
      let level = height_of f.locals_end own in
      let within = heights_top f.locals_end (length vs) own parted.2 in
      let under = heights_got f.locals_end level own n l (heights_to f.locals_end (length vs) level own parted.2 (omega arith)) got in
      omega (arith, under.0, few, length-above vs level within)

-- the values that are left when the last of them, or none, is kept over a height
pub length-kept : (count height : ℕ) (vs : List ℕ) → height + count ≤ length vs → length (take count vs ++ below height vs) ≡ height + count
length-kept count height vs fits = omega (arith, length-append (take count vs) (below height vs), length-take count vs, length-below vs height (omega arith))

-- a branch by the innermost frame of a thread
module _ (s : Snapshot) (n : ℕ) (l : OpenLabel) (some : 0 < length s.frames) (parted : AreParted s.frames (length s.values) s.labels) (inside : n < open_count s)
    (got : slice_get s.labels n ≡ Some l) (few : branch_arity n s ≤ length (operands_of s)) where
  -- what is known of the innermost frame
  record At (f : OpenFrame) (fs : List OpenFrame) : Type 0 where
    frames : s.frames ≡ f ∷ fs
    are_parted : AreParted (f ∷ fs) (length s.values) s.labels
    is_inside : n < length (above f.labels_start s.labels)
    is_got : slice_get (above f.labels_start s.labels) n ≡ Some l
    are_few : cond l.carries 1 0 ≤ length (above (height_of f.locals_end (above f.labels_start s.labels)) s.values)

  at_first : (f : OpenFrame) (fs : List OpenFrame) → s.frames ≡ f ∷ fs → At f fs
  at_first f fs e =
      let is_inside : n < length (above f.labels_start s.labels) = rw e at inside in
      let is_got = own_label f.labels_start s.labels n l is_inside got in
      let enough : label_arity (slice_get (above f.labels_start s.labels) n) ≤ length (above (height_of f.locals_end (above f.labels_start s.labels)) s.values) = rw e at few in
      record { frames = e; are_parted = rw e at parted; is_inside = is_inside; is_got = is_got; are_few = rw is_got at enough }

  pub branched_law : (m : Module) (place : Position)
      → thread_at m l.branch (record s { values = take (cond l.carries 1 0) s.values ++ below l.height s.values; labels = drop (suc n) s.labels }) ≡ in_frame (branched n) (thread_at m place s)
  branched_law m place =
      let first = first_is s.frames some in
      let a = at_first first.0 first.1 first.2 in
      let back : List Frame → GuestThread = λ frames. record { frames = frames; globals = s.globals; main = s.main; full = s.full } in
      rw first.2 (ap back (branched_frames first.0 first.1 s.values s.labels a.are_parted n l a.is_got a.is_inside a.are_few m place))

  pub branched_room : l.height + cond l.carries 1 0 ≤ length s.values
  branched_room =
      let first = first_is s.frames some in
      let a = at_first first.0 first.1 first.2 in
      room_branched first.0 first.1 s.values s.labels a.are_parted n l a.is_got a.is_inside a.are_few

  pub branched_parted : AreParted s.frames (length (take (cond l.carries 1 0) s.values ++ below l.height s.values)) (drop (suc n) s.labels)
  branched_parted =
      let first = first_is s.frames some in
      let a = at_first first.0 first.1 first.2 in
      rw (first.2, length-kept (cond l.carries 1 0) l.height s.values branched_room)
      (parted_branched first.0 first.1 s.values s.labels a.are_parted n l a.is_got a.is_inside a.are_few (l.height + cond l.carries 1 0) (omega arith))

pub open_few : (s : Snapshot) (n : ℕ) → n < open_count s → n < length s.labels
open_few s n inside = by_frames s.frames inside where
  by_frames : (fs : List OpenFrame) → n < first_open fs s.labels → n < length s.labels
  by_frames [] inside = absurd (omega arith)
  by_frames (f ∷ fs) inside = omega (arith, length-take (length s.labels - f.labels_start) s.labels)

-- the label that a branch reaches, by its place in the stack
pub label_reached : (ls : List OpenLabel) (n low : ℕ) (l : OpenLabel) → n < length ls → low ≡ length ls - 1 - n → slice_get ls (length ls - 1 - low) ≡ Some l
    → (slice_get ls n ≡ Some l) × (below low ls ≡ drop (suc n) ls)
label_reached ls n low l inside at got =
    let index : length ls - 1 - low ≡ n = omega arith in
    let height : low ≡ length ls - suc n = omega arith in
    (rw index at got, rw height (below-last (suc n) ls (omega arith)))

-- out of all blocks of the innermost frame
module _ (s : Snapshot) (f : OpenFrame) (fs : List OpenFrame) (e : s.frames ≡ f ∷ fs) (all_parted : AreParted s.frames (length s.values) s.labels)
    (enough : result_arity s ≤ length (operands_of s)) where
  abbrev results : ℕ
  results = cond f.returns 1 0

  abbrev none_labels : List OpenLabel
  none_labels = below f.labels_start s.labels

  its_parted : AreParted (f ∷ fs) (length s.values) s.labels
  its_parted = rw e at all_parted

  few_results : results ≤ length (above (height_of f.locals_end (above f.labels_start s.labels)) s.values)
  few_results = rw e at enough

  none_left : above f.labels_start none_labels ≡ []
  none_left = above-top none_labels f.labels_start (sym (length-below s.labels f.labels_start its_parted.1))

  low_end : f.locals_end ≤ height_of f.locals_end (above f.labels_start s.labels)
  low_end = heights_low f.locals_end (length s.values) (above f.labels_start s.labels) its_parted.2

  top_within : height_of f.locals_end (above f.labels_start s.labels) ≤ length s.values
  top_within = heights_top f.locals_end (length s.values) (above f.labels_start s.labels) its_parted.2

  heights_none : AreHeights f.locals_end (length s.values) (above f.labels_start none_labels)
  heights_none = rw none_left (omega (arith, low_end, top_within))

  others_none : below f.labels_start none_labels ≡ below f.labels_start s.labels
  others_none = below-top none_labels f.labels_start (sym (length-below s.labels f.labels_start its_parted.1))

  pub left_room : f.locals_end + results ≤ length s.values
  left_room = omega (arith, low_end, few_results, length-above s.values (height_of f.locals_end (above f.labels_start s.labels)) top_within)

  pub left_law : (m : Module) (place end : Position) → remaining (innermost_body m s) end ≡ Empty
      → thread_at m end (record s { values = take results s.values ++ below f.locals_end s.values; labels = none_labels }) ≡ in_frame left (thread_at m place s)
  left_law m place end ended =
      let at_end : remaining (body_of m f.function) end ≡ Empty = rw e at ended in
      let rest = frames_of m fs (below f.locals_start s.values) (below f.labels_start s.labels) in
      let there : Frame = record (frame_at m f end s.values none_labels) { operands = take results s.values } in
      let At : List OpenLabel → Type 0 = λ o. frames_of m (record f { place = end } ∷ fs) (take results s.values ++ below (height_of f.locals_end o) s.values) none_labels ≡ there ∷ rest in
      let frames : At [] = subst At none_left (fewer_labels f fs s.values s.labels none_labels its_parted.0 heights_none others_none m end (take results s.values)) in
      let same : there ≡ left (frame_at m f place s.values s.labels) = rw (none_left, at_end, take_few results (height_of f.locals_end (above f.labels_start s.labels)) s.values few_results) refl in
      let back : List Frame → GuestThread = λ frames. record { frames = frames; globals = s.globals; main = s.main; full = s.full } in
      rw e (ap back (frames ∙ ap (λ frame. frame ∷ rest) same))

  pub left_parted : AreParted s.frames (length (take results s.values ++ below f.locals_end s.values)) none_labels
  left_parted =
      rw (e, length-kept results f.locals_end s.values left_room)
      (parted_fewer f fs s.values s.labels none_labels its_parted.0 heights_none others_none (f.locals_end + results) (rw none_left (omega arith)) (omega (arith, length-below s.labels f.labels_start its_parted.1)) its_parted.3)

  -- a return, to another frame or to none_left
  pub returned_room : f.locals_start + results ≤ length s.values
  returned_room = omega (arith, left_room, its_parted.0)

  pub finished_law : (m : Module) (place : Position) (values : List ℕ) (labels : List OpenLabel) → fs ≡ []
      → thread_of m (record s { values = values; labels = labels; frames = [] }) ≡ returned (thread_at m place s)
  finished_law m place values labels last = rw (e, last) refl

  pub finished_parted : fs ≡ [] → length none_labels ≡ 0
  finished_parted last = let rest : AreParted [] f.locals_start none_labels = rw last at its_parted.3 in rest.1

  pub returned_law : (m : Module) (place : Position) (g : OpenFrame) (gs : List OpenFrame) → fs ≡ g ∷ gs
      → thread_of m (record s { values = take results s.values ++ below f.locals_start s.values; labels = none_labels; frames = fs }) ≡ returned (thread_at m place s)
  returned_law m place g gs below_it =
      let whole : AreParted (f ∷ g ∷ gs) (length s.values) s.labels = rw below_it at its_parted in
      rw (e, below_it, ← take_few results (height_of f.locals_end (above f.labels_start s.labels)) s.values few_results) (returned_is m f g gs s.values s.globals s.labels s.main s.full place whole)

  pub returned_parted : 0 < length fs → AreParted fs (length (take results s.values ++ below f.locals_start s.values)) none_labels
  returned_parted some =
      let size : length (below f.locals_start s.values) ≡ f.locals_start = length-below s.values f.locals_start (omega (arith, returned_room)) in
      let rest : AreParted fs (length (below f.locals_start s.values)) none_labels = rw size its_parted.3 in
      let more : results + (length (below f.locals_start s.values) - 0) ≡ f.locals_start + results = omega (arith, size) in
      rw (length-kept results f.locals_start s.values returned_room) (rw more at (parted_operands 0 results fs (below f.locals_start s.values) none_labels rest (omega arith) some))

-- A function was called: the last values are its arguments, and zeros stand above them.
module _ (m : Module) (n : ℕ) (v : Snapshot) (parted : AreParted v.frames (length v.values) v.labels) (few : param_count (type_of m n) ≤ length (operands_of v))
    (start end first : ℕ) (returns : Bool) (place : Position) (placed_at : place ≡ record { list = 0; index = 0 })
    (gives : cond returns 1 0 ≡ result_count (type_of m n)) (start_is : start ≡ length v.values - param_count (type_of m n))
    (end_is : end ≡ length (reverse (replicate (further_locals m n) 0) ++ v.values)) (labels_at : first ≡ length v.labels) where
  abbrev takes : ℕ
  takes = param_count (type_of m n)

  abbrev arguments : List ℕ
  arguments = reverse (take takes (operands_of v))

  abbrev values : List ℕ
  values = reverse (replicate (further_locals m n) 0) ++ v.values

  abbrev entry : OpenFrame
  entry = record { function = n; returns = returns; locals_start = start; locals_end = end; labels_start = first; place = place }

  all_values : takes ≤ length v.values
  all_values = operands_few takes (first_height v.frames v.labels) v.values few

  values_are : reverse (arguments ++ replicate (further_locals m n) 0) ++ drop takes v.values ≡ values
  values_are =
      let zeros = replicate (further_locals m n) 0 in
      ap (λ xs. xs ++ drop takes v.values) (reverse-append arguments zeros ∙ ap (λ xs. reverse zeros ++ xs) (reverse-reverse (take takes (operands_of v)) ∙ take_few takes (first_height v.frames v.labels) v.values few))
      ∙ append_assoc (reverse zeros) (take takes v.values) (drop takes v.values)
      ∙ ap (λ xs. reverse zeros ++ xs) (take-append-drop takes v.values)

  called_frames : frames_of m (entry ∷ v.frames) values v.labels ≡ entered m n arguments ∷ first_changed (with_operands takes []) (frames_of m v.frames v.values v.labels)
  called_frames =
      let at : start ≡ length (drop takes v.values) = omega (arith, all_values, length-drop takes v.values) in
      let caller = with_operands_is m takes [] v parted few in
      let With : List ℕ → Type 0 = λ xs. end ≡ length xs → frames_of m (entry ∷ v.frames) xs v.labels ≡ entered m n arguments ∷ frames_of m v.frames (drop takes v.values) v.labels in
      let above_it : With values = subst With values_are (λ e. entered_frames m n start end first returns place arguments (drop takes v.values) v.labels v.frames placed_at gives at e labels_at) in
      above_it end_is ∙ ap (λ (t : GuestThread). entered m n arguments ∷ t.frames) caller

  pub called_law : 0 < length v.frames → has_room (thread_of m v) (further_locals m n) ≡ true
      → called m n (thread_of m v) ≡ Ok (thread_at m (record { list = 0; index = 0 }) (record v { values = values; frames = entry ∷ v.frames }))
  called_law some room =
      let back : List Frame → Result GuestThread Cause = λ frames. Ok (record { frames = frames; globals = v.globals; main = v.main; full = v.full }) in
      by_first (first_is v.frames some).0 (first_is v.frames some).1 (first_is v.frames some).2 ∙ ap back (sym called_frames) ∙ rw placed_at refl
    where
      by_first : (f : OpenFrame) (fs : List OpenFrame) → v.frames ≡ f ∷ fs
          → called m n (thread_of m v) ≡ Ok (record { frames = entered m n arguments ∷ first_changed (with_operands takes []) (frames_of m v.frames v.values v.labels); globals = v.globals; main = v.main; full = v.full })
      by_first f fs e = let there : has_room (thread_of m (record v { frames = f ∷ fs })) (further_locals m n) ≡ true = rw e at room in rw (e, there) refl

  pub called_parted : 0 < length v.frames → AreParted (entry ∷ v.frames) (length values) v.labels
  called_parted some =
      let none : above first v.labels ≡ [] = above-top v.labels first labels_at in
      let all : below first v.labels ≡ v.labels = below-top v.labels first labels_at in
      let top : end ≤ length values = omega (arith, end_is) in
      let order : start ≤ end = omega (arith, start_is, end_is, length-append (reverse (replicate (further_locals m n) 0)) v.values) in
      let level : 0 + (length v.values - takes) ≡ start = omega (arith, start_is) in
      let caller : AreParted v.frames start v.labels = rw level at (parted_operands takes 0 v.frames v.values v.labels parted few some) in
      (order, omega arith, rw none top, rw all caller)

pub called_full : (m : Module) (n : ℕ) (t : GuestThread) → has_room t (further_locals m n) ≡ false → called m n t ≡ Err StackFull
called_full m n t room = rw room refl

-- room doesn't depend on where the frames stand
pub has_room_placed : (m : Module) (place : Position) (s : Snapshot) (more : ℕ) → has_room (thread_at m place s) more ≡ has_room (thread_of m s) more
has_room_placed m place s more = by_frames s.frames where
  by_frames : (fs : List OpenFrame) → has_room (thread_at m place (record s { frames = fs })) more ≡ has_room (thread_of m (record s { frames = fs })) more
  by_frames [] = refl
  by_frames (f ∷ fs) = refl

pub length-placed : (place : Position) (fs : List OpenFrame) → length (placed place fs) ≡ length fs
length-placed place [] = refl
length-placed place (f ∷ fs) = refl

-- a thread that has finished has no values and no labels
pub values_within : (values : Stacked ℕ) (labels : Stacked OpenLabel) (frames : Stacked OpenFrame) (base : ℕ) → IsSound values labels frames base → length values.items ≤ values.room → length values.items ≤ 65536
values_within values labels frames base sound fits = by_frames frames.items refl where
  by_frames : (fs : List OpenFrame) → frames.items ≡ fs → length values.items ≤ 65536
  by_frames [] e = let rest : AreParted [] (length values.items) labels.items = rw e at sound.parted in omega (arith, rest.0)
  by_frames (f ∷ fs) e = let room = sound.has_room (rw e (omega arith)) in omega (arith, room.values_room, fits)

pub labels_within : (values : Stacked ℕ) (labels : Stacked OpenLabel) (frames : Stacked OpenFrame) (base : ℕ) → IsSound values labels frames base → length labels.items ≤ labels.room → length labels.items ≤ 16384
labels_within values labels frames base sound fits = by_frames frames.items refl where
  by_frames : (fs : List OpenFrame) → frames.items ≡ fs → length labels.items ≤ 16384
  by_frames [] e = let rest : AreParted [] (length values.items) labels.items = rw e at sound.parted in omega (arith, rest.1)
  by_frames (f ∷ fs) e = let room = sound.has_room (rw e (omega arith)) in omega (arith, room.labels_room, fits)

-- whether a call finds room, by the lengths of the stacks
pub call_room_is : (m : Module) (place : Position) (s : Snapshot) (over more : ℕ) → 0 < length s.frames → AreParted s.frames (length s.values) s.labels → over ≤ length (operands_of s)
    → has_room (in_frame (with_operands over []) (thread_at m place s)) more ≡ (nat_le (length s.frames + 1) 1024 && nat_le (length s.values - over + more) 65536)
call_room_is m place s over more some parted few =
    let left : Snapshot = record s { frames = placed place s.frames; values = drop over s.values } in
    let size : 0 + (length s.values - over) ≡ length (drop over s.values) = omega (arith, length-drop over s.values) in
    let still : AreParted s.frames (length (drop over s.values)) s.labels = rw size at (parted_operands over 0 s.frames s.values s.labels parted few some) in
    let room = has_room_is m left more (parted_placed place s.frames (length (drop over s.values)) s.labels still) in
    let count : length (drop over s.values) + more ≡ length s.values - over + more = omega (arith, length-drop over s.values) in
    ap (λ t. has_room t more) (sym (with_operands_at m place over [] s parted few)) ∙ room
    ∙ ap₂ (λ frames values. nat_le (frames + 1) 1024 && nat_le values 65536) (length-placed place s.frames) count
