-- The locals of the innermost frame in the stack of values.
use Rattle.std.proofs.Common.{◌≡◌, ℕ, ◌+◌, ◌-◌, ◌<◌, ◌≤◌, List, [], ◌∷◌, length, take, drop, reverse, get_or, Some, refl, sym, ap, ap₂, ◌∙◌, arith}
use Rattle.std.specs.Prelude.{slice_get}
use Rattle.std.proofs.Math.ListN.{set}
use Rattle.std.proofs.Math.Seq.{take-length, take-set-lt}
use Rattle.std.proofs.lemmas.List.{drop-set-add, drop-set-lt, get_or-drop, get_or-reverse, get_or-take, length-reverse, length-set, take-set-le, take_all}
use Rattle.std.proofs.lemmas.Option.{get_or_from_slice_get, slice_get_read}
use Rattle.wasm_ast.specs.declared.module.Module.{Module}
use Rattle.wasm_ast.specs.declared.position.Position.{Position}
use Rattle.wasm_ast.specs.Sequence.{Sequence}
use Rattle.guest_state.specs.declared.entries.OpenFrame.{OpenFrame}
use Rattle.guest_state.specs.declared.entries.OpenLabel.{OpenLabel}
use Rattle.guest_state.specs.GuestThread.{first_changed, in_frame}
use Rattle.guest_state.specs.Heights.{above, below}
use Rattle.guest_state.specs.Module.{body_of}
use Rattle.guest_state.specs.Snapshot.{Snapshot, first_locals, frames_of, height_of, labels_of, locals_of, placed, thread_at}
use Rattle.guest_state.specs.Sound.{AreHeights, AreParted, first_start}
use Rattle.guest_state.specs.Steps.{with_local}
use Rattle.guest_state.proofs.HeightLemmas.{below-top, length-above, length-below, set-stack}
use Rattle.guest_state.proofs.SnapshotLemmas.{heights_low, heights_top}

-- a stack of values in which locals stand between two heights
module _ (vs : List ℕ) (low high i : ℕ) (top : high ≤ length vs) (within : low + i < high) where
  abbrev k : ℕ
  k = length vs - 1 - (low + i)

  abbrev j : ℕ
  j = high - low - 1 - i

  abbrev region : List ℕ
  region = above low (below high vs)

  region_size : length region + low ≡ high
  region_size = length-above (below high vs) low (omega (arith, length-below vs high top)) ∙ length-below vs high top

  place : length vs - high + j ≡ k
  place = omega arith

  pub local_got : (x : ℕ) → slice_get vs k ≡ Some x → slice_get (reverse region) i ≡ Some x
  local_got x got =
      let bottom = length-below vs high top in
      let turned = get_or-reverse region i x (omega (arith, region_size)) in
      let at : length region - 1 - i ≡ j = omega (arith, region_size) in
      let front : get_or region j x ≡ get_or (below high vs) j x = get_or-take (length (below high vs) - low) (below high vs) j x (omega (arith, bottom)) in
      let back : get_or (below high vs) j x ≡ get_or vs (length vs - high + j) x = get_or-drop (length vs - high) vs j x in
      let value : get_or vs k x ≡ x = get_or_from_slice_get vs k x x got in
      let whole : get_or (reverse region) i x ≡ x = turned ∙ ap (λ n. get_or region n x) at ∙ front ∙ back ∙ ap (λ n. get_or vs n x) place ∙ value in
      slice_get_read (reverse region) (length (reverse region)) i x refl (omega (arith, length-reverse region, region_size)) (sym whole)

  -- a list turned round after one of its elements was replaced
  turned-set : (ys : List ℕ) (n x : ℕ) → n < length ys → reverse (set ys n x) ≡ set (reverse ys) (length ys - 1 - n) x
  turned-set ys n x l =
      ap reverse (sym (take_all (length ys) (set ys n x) (omega (arith, length-set ys n x)))) ∙ set-stack n (length ys) ys x l (omega arith)
      ∙ ap (λ zs. set (reverse zs) (length ys - 1 - n) x) (take-length ys)

  pub locals-set : (x : ℕ) → reverse (above low (below high (set vs k x))) ≡ set (reverse region) i x
  locals-set x =
      let bottom = length-below vs high top in
      let whole : below high (set vs k x) ≡ set (below high vs) j x =
      ap₂ (λ n m. drop (n - high) (set vs m x)) (length-set vs k x) (sym place) ∙ drop-set-add (length vs - high) vs j x in
      let size : length (set (below high vs) j x) ≡ high = length-set (below high vs) j x ∙ bottom in
      let cut : above low (set (below high vs) j x) ≡ set region j x =
      ap (λ n. take (n - low) (set (below high vs) j x)) size ∙ take-set-lt (high - low) (below high vs) j x (omega arith) ∙ ap (λ n. set (take (n - low) (below high vs)) j x) (sym bottom) in
      let index : length region - 1 - j ≡ i = omega (arith, region_size) in
      ap (λ zs. reverse (above low zs)) whole ∙ ap reverse cut ∙ turned-set region j x (omega (arith, region_size)) ∙ ap (λ n. set (reverse region) n x) index

  -- what stands above the locals, and below them, stays
  pub above-set : (x h g : ℕ) → high ≤ h → h ≤ g → g ≤ length vs → above h (below g (set vs k x)) ≡ above h (below g vs)
  above-set x h g a b c =
      let n = length vs - g in
      let at : n + (k - n) ≡ k = omega arith in
      let whole : below g (set vs k x) ≡ set (below g vs) (k - n) x = ap₂ (λ p m. drop (p - g) (set vs m x)) (length-set vs k x) (sym at) ∙ drop-set-add n vs (k - n) x in
      let size : length (set (below g vs) (k - n) x) ≡ length (below g vs) = length-set (below g vs) (k - n) x in
      ap (above h) whole ∙ ap (λ p. take (p - h) (set (below g vs) (k - n) x)) size
      ∙ take-set-le (length (below g vs) - h) (below g vs) (k - n) x (omega (arith, length-below vs g c))

  pub below-set : (x : ℕ) → below low (set vs k x) ≡ below low vs
  below-set x = ap (λ n. drop (n - low) (set vs k x)) (length-set vs k x) ∙ drop-set-lt (length vs - low) vs k x (omega arith)

  pub labels_of-set : (x : ℕ) (body : Sequence) (h : ℕ) (ls : List OpenLabel) → AreHeights high h ls → h ≤ length vs → labels_of body high (set vs k x) ls ≡ labels_of body high vs ls
  labels_of-set x body h [] heights c = refl
  labels_of-set x body h (l ∷ ls) heights c =
      let le : l.height ≤ h = heights.0 in
      let here = above-set x (height_of high ls) l.height (heights_low high l.height ls heights.1) (heights_top high l.height ls heights.1) (omega arith) in
      rw (here, labels_of-set x body l.height ls heights.1 (omega arith)) refl

-- by the innermost frame of a thread
local_within : (f : OpenFrame) (fs : List OpenFrame) (vs : List ℕ) (ls : List OpenLabel) (i : ℕ) → AreParted (f ∷ fs) (length vs) ls → i < length (first_locals (f ∷ fs) vs)
    → (f.locals_end ≤ length vs) × (f.locals_start + i < f.locals_end)
local_within f fs vs ls i parted few =
    let order : f.locals_start ≤ f.locals_end = parted.0 in
    let low = heights_low f.locals_end (length vs) (above f.labels_start ls) parted.2 in
    let top = heights_top f.locals_end (length vs) (above f.labels_start ls) parted.2 in
    let bottom = length-below vs f.locals_end (omega arith) in
    let size = length-above (below f.locals_end vs) f.locals_start (omega arith) in
    (omega arith, omega (arith, bottom, size, length-reverse (above f.locals_start (below f.locals_end vs))))

pub local_place : (fs : List OpenFrame) (vs : List ℕ) (ls : List OpenLabel) (i : ℕ) → AreParted fs (length vs) ls → i < length (first_locals fs vs) → first_start fs + i < length vs
local_place [] vs ls i parted few = absurd (omega arith)
local_place (f ∷ fs) vs ls i parted few = let w = local_within f fs vs ls i parted few in omega (arith, w.0, w.1)

pub local_value : (fs : List OpenFrame) (vs : List ℕ) (ls : List OpenLabel) (i x : ℕ) → AreParted fs (length vs) ls → i < length (first_locals fs vs)
    → slice_get vs (length vs - 1 - (first_start fs + i)) ≡ Some x → slice_get (first_locals fs vs) i ≡ Some x
local_value [] vs ls i x parted few got = absurd (omega arith)
local_value (f ∷ fs) vs ls i x parted few got =
    let w = local_within f fs vs ls i parted few in local_got vs f.locals_start f.locals_end i w.0 w.1 x got

with_local_frames : (m : Module) (fs : List OpenFrame) (vs : List ℕ) (ls : List OpenLabel) (i x : ℕ) → AreParted fs (length vs) ls → i < length (first_locals fs vs)
    → frames_of m fs (set vs (length vs - 1 - (first_start fs + i)) x) ls ≡ first_changed (with_local i x) (frames_of m fs vs ls)
with_local_frames m [] vs ls i x parted few = refl
with_local_frames m (f ∷ fs) vs ls i x parted few =
    let w = local_within f fs vs ls i parted few in
    let own = above f.labels_start ls in
    let low = heights_low f.locals_end (length vs) own parted.2 in
    let top = heights_top f.locals_end (length vs) own parted.2 in
    let all = below-top vs (length vs) refl in
    let size = length-set vs (length vs - 1 - (f.locals_start + i)) x in
    let values = set vs (length vs - 1 - (f.locals_start + i)) x in
    let operands : above (height_of f.locals_end own) values ≡ above (height_of f.locals_end own) vs =
    ap (above (height_of f.locals_end own)) (sym (below-top values (length vs) (sym size))) ∙ above-set vs f.locals_start f.locals_end i w.0 w.1 x (height_of f.locals_end own) (length vs) low top (omega arith)
    ∙ ap (above (height_of f.locals_end own)) all in
    rw (
      locals-set vs f.locals_start f.locals_end i w.0 w.1 x,
      labels_of-set vs f.locals_start f.locals_end i w.0 w.1 x (body_of m f.function) (length vs) own parted.2 (omega arith),
      operands,
      below-set vs f.locals_start f.locals_end i w.0 w.1 x,
    ) refl

pub with_local_at : (m : Module) (place : Position) (s : Snapshot) (i x : ℕ) → AreParted s.frames (length s.values) s.labels → i < length (locals_of s)
    → thread_at m place (record s { values = set s.values (length s.values - 1 - (first_start s.frames + i)) x }) ≡ in_frame (with_local i x) (thread_at m place s)
with_local_at m place s i x parted few = ap (λ fs. record (thread_at m place s) { frames = fs }) (by_frames s.frames parted few) where
  by_frames : (fs : List OpenFrame) → AreParted fs (length s.values) s.labels → i < length (first_locals fs s.values)
      → frames_of m (placed place fs) (set s.values (length s.values - 1 - (first_start fs + i)) x) s.labels ≡ first_changed (with_local i x) (frames_of m (placed place fs) s.values s.labels)
  by_frames [] p n = refl
  by_frames (f ∷ fs) p n = with_local_frames m (record f { place = place } ∷ fs) s.values s.labels i x p n

pub parted_set : (fs : List OpenFrame) (vs : List ℕ) (ls : List OpenLabel) (k x : ℕ) → AreParted fs (length vs) ls → AreParted fs (length (set vs k x)) ls
parted_set fs vs ls k x parted = rw (length-set vs k x) parted
