-- What a thread stands for after a label was opened or closed, or a function has returned.
use Rattle.std.proofs.Common.{◌≡◌, ℕ, suc, ◌-◌, ◌<◌, ◌≤◌, List, [], ◌∷◌, ◌++◌, length, take, drop, refl, sym, ap, arith, Bool, cond, sum_by, Some}
use Rattle.std.specs.Prelude.{slice_get}
use Rattle.std.proofs.lemmas.List.{length-take}
use Rattle.std.proofs.lemmas.List.Sums.{sum_by-cons}
use Rattle.wasm_ast.specs.declared.module.Module.{Module}
use Rattle.wasm_ast.specs.declared.position.Position.{Position}
use Rattle.wasm_ast.specs.Position.{remaining}
use Rattle.guest_state.specs.declared.entries.OpenFrame.{OpenFrame}
use Rattle.guest_state.specs.declared.entries.OpenLabel.{OpenLabel}
use Rattle.guest_state.specs.GuestThread.{Frame, in_frame, label_count}
use Rattle.guest_state.specs.Heights.{above, below}
use Rattle.guest_state.specs.Module.{body_of}
use Rattle.guest_state.specs.Snapshot.{Snapshot, first_height, first_open, frame_at, innermost_body, open_count, frames_of, height_of, labels_of, placed, thread_at, thread_of}
use Rattle.guest_state.specs.Sound.{AreHeights, AreParted}
use Rattle.guest_state.specs.Steps.{closed, opened, returned}
use Rattle.guest_state.proofs.HeightLemmas.{above-above, above-append, above-top, below-append, below-top, length-above, length-below}
use Rattle.guest_state.proofs.SnapshotLemmas.{first_is, heights_low, heights_to, heights_top, parted_placed, with_operands_is}

module _ (m : Module) (f : OpenFrame) (fs : List OpenFrame) (l : OpenLabel) (ls : List OpenLabel) (vs globals : List ℕ) (main full : Bool)
    (start : f.labels_start ≤ length ls) where
  -- with the label and without it
  abbrev inside : Snapshot
  inside = record { values = vs; labels = l ∷ ls; frames = f ∷ fs; globals = globals; main = main; full = full }

  abbrev outside : Snapshot
  outside = record { values = vs; labels = ls; frames = f ∷ fs; globals = globals; main = main; full = full }

  own : above f.labels_start (l ∷ ls) ≡ l ∷ above f.labels_start ls
  own = above-append (l ∷ []) ls f.labels_start start

  others : below f.labels_start (l ∷ ls) ≡ below f.labels_start ls
  others = below-append (l ∷ []) ls f.labels_start start

  pub opened_is : (place inner : Position) → l.height ≡ length vs
      → thread_at m inner inside
      ≡ in_frame (opened (cond l.carries 1 0) (remaining (body_of m f.function) l.branch) (remaining (body_of m f.function) l.end) (remaining (body_of m f.function) inner)) (thread_at m place outside)
  opened_is place inner at = rw (own, others, below-top vs l.height at, above-top vs l.height at) refl

  pub closed_is : (place : Position) → AreHeights f.locals_end (length vs) (l ∷ above f.labels_start ls)
      → thread_at m l.end outside ≡ in_frame closed (thread_at m place inside)
  closed_is place heights =
      let top : height_of f.locals_end (above f.labels_start ls) ≤ l.height = heights_top f.locals_end l.height (above f.labels_start ls) heights.1 in
      let operands = above-above (height_of f.locals_end (above f.labels_start ls)) l.height vs top heights.0 in
      rw (own, others, operands) refl

-- the innermost function has returned to another
pub returned_is : (m : Module) (f g : OpenFrame) (gs : List OpenFrame) (vs globals : List ℕ) (ls : List OpenLabel) (main full : Bool) (place : Position)
    → AreParted (f ∷ g ∷ gs) (length vs) ls
    → thread_of m (record { values = take (cond f.returns 1 0) (above (first_height (f ∷ []) ls) vs) ++ below f.locals_start vs; labels = below f.labels_start ls; frames = g ∷ gs; globals = globals; main = main; full = full })
    ≡ returned (thread_at m place (record { values = vs; labels = ls; frames = f ∷ g ∷ gs; globals = globals; main = main; full = full }))
returned_is m f g gs vs globals ls main full place parted =
    let top = heights_top f.locals_end (length vs) (above f.labels_start ls) parted.2 in
    let low = heights_low f.locals_end (length vs) (above f.labels_start ls) parted.2 in
    let order : f.locals_start ≤ f.locals_end = parted.0 in
    let size : length (below f.locals_start vs) ≡ f.locals_start = length-below vs f.locals_start (omega arith) in
    let rest : Snapshot = record { values = below f.locals_start vs; labels = below f.labels_start ls; frames = g ∷ gs; globals = globals; main = main; full = full } in
    with_operands_is m 0 (take (cond f.returns 1 0) (above (first_height (f ∷ []) ls) vs)) rest (rw size parted.3) (omega arith)

-- by the innermost frame of a thread
pub opened_law : (m : Module) (s : Snapshot) (l : OpenLabel) (place inner : Position) → 0 < length s.frames → AreParted s.frames (length s.values) s.labels → l.height ≡ length s.values
    → thread_at m inner (record s { labels = l ∷ s.labels })
    ≡ in_frame (opened (cond l.carries 1 0) (remaining (innermost_body m s) l.branch) (remaining (innermost_body m s) l.end) (remaining (innermost_body m s) inner)) (thread_at m place s)
opened_law m s l place inner some parted at =
    let first = first_is s.frames some in
    let start : AreParted (first.0 ∷ first.1) (length s.values) s.labels = rw first.2 at parted in
    rw first.2 (opened_is m first.0 first.1 l s.labels s.values s.globals s.main s.full start.1 place inner at)

pub closed_law : (m : Module) (s : Snapshot) (l : OpenLabel) (ls : List OpenLabel) (place : Position) → s.labels ≡ l ∷ ls → 0 < open_count s → AreParted s.frames (length s.values) s.labels
    → thread_at m l.end (record s { labels = ls }) ≡ in_frame closed (thread_at m place s)
closed_law m s l ls place e inside parted = by_frames s.frames inside parted where
  by_frames : (fs : List OpenFrame) → 0 < first_open fs s.labels → AreParted fs (length s.values) s.labels
      → thread_at m l.end (record s { labels = ls; frames = fs }) ≡ in_frame closed (thread_at m place (record s { frames = fs }))
  by_frames [] some parted = absurd (omega arith)
  by_frames (f ∷ fs) some parted =
      let start : f.labels_start ≤ length ls = omega (arith, length-take (length s.labels - f.labels_start) s.labels, ap length e) in
      let own : above f.labels_start s.labels ≡ l ∷ above f.labels_start ls = rw e (above-append (l ∷ []) ls f.labels_start start) in
      rw e (closed_is m f fs l ls s.values s.globals s.main s.full start place (rw own at parted.2))

-- the stacks are still parted
pub parted_opened : (fs : List OpenFrame) (height : ℕ) (ls : List OpenLabel) (l : OpenLabel) → 0 < length fs → AreParted fs height ls → l.height ≡ height → AreParted fs height (l ∷ ls)
parted_opened [] height ls l some parted at = absurd (omega arith)
parted_opened (f ∷ fs) height ls l some parted at =
    let start : f.labels_start ≤ length ls = parted.1 in
    let own : above f.labels_start (l ∷ ls) ≡ l ∷ above f.labels_start ls = above-append (l ∷ []) ls f.labels_start start in
    let others : below f.labels_start (l ∷ ls) ≡ below f.labels_start ls = below-append (l ∷ []) ls f.labels_start start in
    let le : l.height ≤ height = omega arith in
    (parted.0, omega arith, rw own (le, rw at parted.2), rw others parted.3)

pub parted_closed : (fs : List OpenFrame) (height : ℕ) (ls : List OpenLabel) (l : OpenLabel) → 0 < first_open fs (l ∷ ls) → AreParted fs height (l ∷ ls) → AreParted fs height ls
parted_closed [] height ls l some parted = absurd (omega arith)
parted_closed (f ∷ fs) height ls l some parted =
    let start : f.labels_start ≤ length ls = omega (arith, length-take (length (l ∷ ls) - f.labels_start) (l ∷ ls)) in
    let heights : AreHeights f.locals_end height (l ∷ above f.labels_start ls) = rw (above-append (l ∷ []) ls f.labels_start start) at parted.2 in
    let le : l.height ≤ height = heights.0 in
    let top = heights_top f.locals_end l.height (above f.labels_start ls) heights.1 in
    (parted.0, start, heights_to f.locals_end l.height height (above f.labels_start ls) heights.1 (omega arith), rw (below-append (l ∷ []) ls f.labels_start start) at parted.3)

-- a thread has as many labels as its stack
pub length-labels_of : (m : Module) (n low : ℕ) (vs : List ℕ) (ls : List OpenLabel) → length (labels_of (body_of m n) low vs ls) ≡ length ls
length-labels_of m n low vs [] = refl
length-labels_of m n low vs (l ∷ ls) = ap suc (length-labels_of m n low vs ls)

labels_count : (m : Module) (fs : List OpenFrame) (height : ℕ) (vs : List ℕ) (ls : List OpenLabel) → AreParted fs height ls → sum_by (λ f. length f.labels) (frames_of m fs vs ls) ≡ length ls
labels_count m [] height vs ls parted = sym parted.1
labels_count m (f ∷ fs) height vs ls parted =
    let start : f.labels_start ≤ length ls = parted.1 in
    let rest = labels_count m fs f.locals_start (below f.locals_start vs) (below f.labels_start ls) parted.3 in
    omega (
      arith,
      rest,
      length-labels_of m f.function f.locals_end vs (above f.labels_start ls),
      length-above ls f.labels_start start,
      length-below ls f.labels_start start,
      sum_by-cons {X = Frame} (λ g. length g.labels) (frame_at m f f.place vs ls) (frames_of m fs (below f.locals_start vs) (below f.labels_start ls)),
    )

pub label_count_at : (m : Module) (place : Position) (s : Snapshot) → AreParted s.frames (length s.values) s.labels → label_count (thread_at m place s) ≡ length s.labels
label_count_at m place s parted =
    labels_count m (placed place s.frames) (length s.values) s.values s.labels (parted_placed place s.frames (length s.values) s.labels parted)

-- the last element, by its place
at_front : {T : Type 0} (ys : List T) (x : T) → slice_get ys 0 ≡ Some x → ys ≡ x ∷ drop 1 ys
at_front [] x g = absurd (cc)
at_front (y ∷ ys) x g = let same : y ≡ x = cc in rw same refl

pub first_got : {T : Type 0} (xs : List T) (k : ℕ) (x : T) → k ≡ 0 → slice_get xs k ≡ Some x → xs ≡ x ∷ drop 1 xs
first_got xs k x e got = at_front xs x (rw e at got)
