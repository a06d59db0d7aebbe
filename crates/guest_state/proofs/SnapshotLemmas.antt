-- What a thread stands for after one of its stacks has changed.
use Rattle.std.proofs.Common.{◌≡◌, ℕ, suc, ◌+◌, ◌-◌, ◌<◌, ◌≤◌, List, [], ◌∷◌, ◌++◌, length, take, drop, reverse, replicate, refl, sym, ap, ap₂, ◌∙◌, arith, length-append, Bool, true, false, Ok, Err, Option, option_to_list, cond, ◌&&◌, sum_by}
use Rattle.std.specs.Prelude.{nat_le}
use Rattle.std.proofs.lemmas.List.{append-nil, append_assoc, length-reverse, length-drop, length-take, reverse-reverse, take-append-le}
use Rattle.std.proofs.lemmas.List.Sums.{sum_by-cons}
use Rattle.wasm_ast.specs.Position.{behind, remaining}
use Rattle.wasm_ast.specs.declared.module.Module.{Module}
use Rattle.wasm_ast.specs.declared.position.Position.{Position}
use Rattle.wasm_ast.specs.Sequence.{Sequence}
use Rattle.guest_state.specs.declared.entries.OpenFrame.{OpenFrame}
use Rattle.guest_state.specs.declared.entries.OpenLabel.{OpenLabel}
use Rattle.guest_state.specs.GuestThread.{Frame, GuestThread, Label, value_count, first_changed, in_frame, frame_values, label_values}
use Rattle.guest_state.specs.Heights.{above, below}
use Rattle.guest_state.specs.Snapshot.{Snapshot, thread_of, thread_at, placed, height_of, labels_of, frame_at, frames_of, first_height, operands_of}
use Rattle.guest_state.specs.Module.{body_of, type_of, result_count, further_locals}
use Rattle.guest_state.specs.Steps.{answered, arguments_of, entered, has_room, operand_count, over_arguments, taken_count, with_frame, with_operands}
use Rattle.int_ops.specs.declared.trap.Cause.TheVariants.{StackFull}
use Rattle.guest_state.specs.Sound.{AreHeights, AreParted}
use Rattle.guest_state.proofs.HeightLemmas.{above-append, above-top, below-append, below-below, below-last, below-top, drop-above, length-above, length-below}

pub heights_top : (low high : ℕ) (ls : List OpenLabel) → AreHeights low high ls → height_of low ls ≤ high
heights_top low high [] h = h
heights_top low high (l ∷ ls) h = h.0

pub heights_low : (low high : ℕ) (ls : List OpenLabel) → AreHeights low high ls → low ≤ height_of low ls
heights_low low high [] h = omega arith
heights_low low high (l ∷ ls) h = let below = heights_low low l.height ls h.1 in let top = heights_top low l.height ls h.1 in omega arith

pub heights_to : (low high other : ℕ) (ls : List OpenLabel) → AreHeights low high ls → height_of low ls ≤ other → AreHeights low other ls
heights_to low high other [] h le = le
heights_to low high other (l ∷ ls) h le = (le, h.1)

-- labels depend on nothing above them
pub labels_of-same : (body : Sequence) (low high : ℕ) (vs ws : List ℕ) (ls : List OpenLabel) → AreHeights low high ls → high ≤ length vs → high ≤ length ws → below high vs ≡ below high ws
    → labels_of body low vs ls ≡ labels_of body low ws ls
labels_of-same body low high vs ws [] h v w same = refl
labels_of-same body low high vs ws (l ∷ ls) h v w same =
    let le : l.height ≤ high = h.0 in
    let here : below l.height vs ≡ below l.height ws = sym (below-below l.height high vs le v) ∙ ap (below l.height) same ∙ below-below l.height high ws le w in
    let rest = labels_of-same body low l.height vs ws ls h.1 (omega arith) (omega arith) here in
    rw (here, rest) refl

-- A frame whose innermost operands are others. The frames below it are the same.
module _ (m : Module) (f : OpenFrame) (vs : List ℕ) (ls : List OpenLabel)
    (order : f.locals_start ≤ f.locals_end) (heights : AreHeights f.locals_end (length vs) (above f.labels_start ls)) where
  abbrev pub own : List OpenLabel
  own = above f.labels_start ls

  abbrev pub level : ℕ
  level = height_of f.locals_end own

  within : level ≤ length vs
  within = heights_top f.locals_end (length vs) own heights

  over : f.locals_end ≤ level
  over = heights_low f.locals_end (length vs) own heights

  pub kept : (xs : List ℕ) (h : ℕ) → h ≤ level → below h (xs ++ below level vs) ≡ below h vs
  kept xs h le =
      below-append xs (below level vs) h (omega (arith, length-below vs level within))
      ∙ below-below h level vs le within

  pub other_operands : (place : Position) (xs : List ℕ) → frame_at m f place (xs ++ below level vs) ls ≡ record (frame_at m f place vs ls) { operands = xs }
  other_operands place xs =
      let values = xs ++ below level vs in
      let bottom : below level values ≡ below level vs = kept xs level (omega arith) in
      let size : length values ≡ length xs + level = omega (arith, length-append xs (below level vs), length-below vs level within) in
      let locals : below f.locals_end values ≡ below f.locals_end vs = kept xs f.locals_end over in
      let labels : labels_of (body_of m f.function) f.locals_end values own ≡ labels_of (body_of m f.function) f.locals_end vs own =
      labels_of-same (body_of m f.function) f.locals_end level values vs own (heights_to f.locals_end (length vs) level own heights (omega arith)) (omega arith) within bottom in
      let top : above level values ≡ xs =
      above-append xs (below level vs) level (omega (arith, length-below vs level within)) ∙ ap (λ zs. xs ++ zs) (above-top (below level vs) level (sym (length-below vs level within))) ∙ append-nil xs in
      rw (locals, labels, top) refl

-- a function that was entered: its arguments and zeros stand above the other values
pub entered_frame : (m : Module) (n start end first : ℕ) (returns : Bool) (place : Position) (arguments vs : List ℕ) (ls : List OpenLabel)
    → place ≡ record { list = 0; index = 0 }
    → cond returns 1 0 ≡ result_count (type_of m n)
    → start ≡ length vs → end ≡ length (reverse (arguments ++ replicate (further_locals m n) 0) ++ vs) → first ≡ length ls
    → frame_at m (record { function = n; returns = returns; locals_start = start; locals_end = end; labels_start = first; place = place }) place
    (reverse (arguments ++ replicate (further_locals m n) 0) ++ vs) ls ≡ entered m n arguments
entered_frame m n start end first returns place arguments vs ls p r s e f =
    let xs = arguments ++ replicate (further_locals m n) 0 in
    let values = reverse xs ++ vs in
    let locals : reverse (above start (below end values)) ≡ xs =
    ap (λ zs. reverse (above start zs)) (below-top values end e) ∙ ap reverse (above-append (reverse xs) vs start (omega arith) ∙ ap (λ zs. reverse xs ++ zs) (above-top vs start s) ∙ append-nil (reverse xs))
    ∙ reverse-reverse xs in
    rw (p, locals, above-top ls first f, above-top values end e, r) refl

-- the same above the other frames
pub entered_frames : (m : Module) (n start end first : ℕ) (returns : Bool) (place : Position) (arguments vs : List ℕ) (ls : List OpenLabel) (fs : List OpenFrame)
    → place ≡ record { list = 0; index = 0 }
    → cond returns 1 0 ≡ result_count (type_of m n)
    → start ≡ length vs → end ≡ length (reverse (arguments ++ replicate (further_locals m n) 0) ++ vs) → first ≡ length ls
    → frames_of m ((record { function = n; returns = returns; locals_start = start; locals_end = end; labels_start = first; place = place }) ∷ fs)
    (reverse (arguments ++ replicate (further_locals m n) 0) ++ vs) ls ≡ entered m n arguments ∷ frames_of m fs vs ls
entered_frames m n start end first returns place arguments vs ls fs p r s e f =
    let xs = reverse (arguments ++ replicate (further_locals m n) 0) in
    let values : below start (xs ++ vs) ≡ vs = below-append xs vs start (omega arith) ∙ below-top vs start s in
    ap₂ (λ frame rest. frame ∷ rest) (entered_frame m n start end first returns place arguments vs ls p r s e f)
    (ap₂ (frames_of m fs) values (below-top ls first f))

pub length-frames_of : (m : Module) (fs : List OpenFrame) (vs : List ℕ) (ls : List OpenLabel) → length (frames_of m fs vs ls) ≡ length fs
length-frames_of m [] vs ls = refl
length-frames_of m (f ∷ fs) vs ls = ap suc (length-frames_of m fs (below f.locals_start vs) (below f.labels_start ls))

-- the operands around the labels of a frame, and its locals, are the values below its innermost operands
label_values_is : (body : Sequence) (low high : ℕ) (vs : List ℕ) (ls : List OpenLabel) → AreHeights low high ls → high ≤ length vs
    → label_values (labels_of body low vs ls) + low ≡ height_of low ls
label_values_is body low high vs [] h v = omega arith
label_values_is body low high vs (l ∷ ls) h v =
    let le : l.height ≤ high = h.0 in
    let top = heights_top low l.height ls h.1 in
    let rest = label_values_is body low l.height vs ls h.1 (omega arith) in
    let size = length-below vs l.height (omega arith) in
    let here = length-above (below l.height vs) (height_of low ls) (omega arith) in
    let label : Label = record { arity = cond l.carries 1 0; continuation = remaining body l.branch; outer_operands = above (height_of low ls) (below l.height vs); outer_code = remaining body l.end } in
    omega (arith, rest, size, here, sum_by-cons {X = Label} (λ m. length m.outer_operands) label (labels_of body low vs ls))

-- a thread has as many values as its stack
pub frames_values : (m : Module) (fs : List OpenFrame) (vs : List ℕ) (ls : List OpenLabel) → AreParted fs (length vs) ls
    → sum_by frame_values (frames_of m fs vs ls) ≡ length vs
frames_values m [] vs ls parted = sym parted.0
frames_values m (f ∷ fs) vs ls parted =
    let order : f.locals_start ≤ f.locals_end = parted.0 in
    let heights = parted.2 in
    let own = above f.labels_start ls in
    let level = height_of f.locals_end own in
    let top : level ≤ length vs = heights_top f.locals_end (length vs) own heights in
    let low : f.locals_end ≤ level = heights_low f.locals_end (length vs) own heights in
    let rest_size : length (below f.locals_start vs) ≡ f.locals_start = length-below vs f.locals_start (omega arith) in
    let rest = frames_values m fs (below f.locals_start vs) (below f.labels_start ls) (rw rest_size parted.3) in
    let labels = label_values_is (body_of m f.function) f.locals_end (length vs) vs own heights (omega arith) in
    let operands = length-above vs level top in
    let end_size = length-below vs f.locals_end (omega arith) in
    let locals = length-above (below f.locals_end vs) f.locals_start (omega arith) in
    omega (
      arith,
      rest_size,
      rest,
      labels,
      operands,
      end_size,
      locals,
      length-reverse (above f.locals_start (below f.locals_end vs)),
      sum_by-cons {X = Frame} frame_values (frame_at m f f.place vs ls) (frames_of m fs (below f.locals_start vs) (below f.labels_start ls)),
    )

-- whether there is room, by the lengths of the stacks
pub has_room_is : (m : Module) (s : Snapshot) (more : ℕ) → AreParted s.frames (length s.values) s.labels
    → has_room (thread_of m s) more ≡ (nat_le (length s.frames + 1) 1024 && nat_le (length s.values + more) 65536)
has_room_is m s more parted = rw (length-frames_of m s.frames s.values s.labels, frames_values m s.frames s.values s.labels parted) refl

-- a frame is pushed where there is room
pub with_frame_ok : (m : Module) (n : ℕ) (arguments : List ℕ) (t : GuestThread) → has_room t (length arguments + further_locals m n) ≡ true
    → with_frame m n arguments t ≡ Ok (record t { frames = entered m n arguments ∷ t.frames })
with_frame_ok m n arguments t room = rw room refl

pub with_frame_full : (m : Module) (n : ℕ) (arguments : List ℕ) (t : GuestThread) → has_room t (length arguments + further_locals m n) ≡ false
    → with_frame m n arguments t ≡ Err StackFull
with_frame_full m n arguments t room = rw room refl

-- operands in the place of the last ones change nothing else
pub with_operands_is : (m : Module) (count : ℕ) (new : List ℕ) (s : Snapshot) → AreParted s.frames (length s.values) s.labels → count ≤ length (operands_of s)
    → thread_of m (record s { values = new ++ drop count s.values }) ≡ in_frame (with_operands count new) (thread_of m s)
with_operands_is m count new s parted few = ap (λ fs. record (thread_of m s) { frames = fs }) (by_frames s.frames parted few) where
  by_frames : (fs : List OpenFrame) → AreParted fs (length s.values) s.labels → count ≤ length (above (first_height fs s.labels) s.values)
      → frames_of m fs (new ++ drop count s.values) s.labels ≡ first_changed (with_operands count new) (frames_of m fs s.values s.labels)
  by_frames [] p n = refl
  by_frames (f ∷ fs) p n =
      let vs = s.values in
      let ls = s.labels in
      let order : f.locals_start ≤ f.locals_end = p.0 in
      let h = level m f vs ls order p.2 in
      let top : h ≤ length vs = heights_top f.locals_end (length vs) (above f.labels_start ls) p.2 in
      let low : f.locals_end ≤ h = heights_low f.locals_end (length vs) (above f.labels_start ls) p.2 in
      let xs = new ++ drop count (above h vs) in
      let values : new ++ drop count vs ≡ xs ++ below h vs = ap (λ zs. new ++ zs) (drop-above count h vs top n) ∙ sym (append_assoc new (drop count (above h vs)) (below h vs)) in
      let rest : below f.locals_start (xs ++ below h vs) ≡ below f.locals_start vs = kept m f vs ls order p.2 xs f.locals_start (omega arith) in
      rw values (ap₂ (λ frame others. frame ∷ others) (other_operands m f vs ls order p.2 f.place xs) (ap (λ zs. frames_of m fs zs (below f.labels_start ls)) rest))

pub parted_operands : (count more : ℕ) (fs : List OpenFrame) (vs : List ℕ) (ls : List OpenLabel) → AreParted fs (length vs) ls → count ≤ length (above (first_height fs ls) vs)
    → 0 < length fs → AreParted fs (more + (length vs - count)) ls
parted_operands count more [] vs ls parted few some = absurd (omega arith)
parted_operands count more (f ∷ fs) vs ls parted few some =
    let own = above f.labels_start ls in
    let top : height_of f.locals_end own ≤ length vs = heights_top f.locals_end (length vs) own parted.2 in
    let size = length-above vs (height_of f.locals_end own) top in
    (parted.0, parted.1, heights_to f.locals_end (length vs) (more + (length vs - count)) own parted.2 (omega (arith, size)), parted.3)

-- another place of the innermost frame
pub parted_placed : (place : Position) (fs : List OpenFrame) (height : ℕ) (ls : List OpenLabel) → AreParted fs height ls → AreParted (placed place fs) height ls
parted_placed place [] height ls parted = parted
parted_placed place (f ∷ fs) height ls parted = parted

pub operands_placed : (place : Position) (s : Snapshot) → operands_of (record s { frames = placed place s.frames }) ≡ operands_of s
operands_placed place s = by_frames s.frames where
  by_frames : (fs : List OpenFrame) → above (first_height (placed place fs) s.labels) s.values ≡ above (first_height fs s.labels) s.values
  by_frames [] = refl
  by_frames (f ∷ fs) = refl

pub with_operands_at : (m : Module) (place : Position) (count : ℕ) (new : List ℕ) (s : Snapshot) → AreParted s.frames (length s.values) s.labels → count ≤ length (operands_of s)
    → thread_at m place (record s { values = new ++ drop count s.values }) ≡ in_frame (with_operands count new) (thread_at m place s)
with_operands_at m place count new s parted few =
    with_operands_is m count new (record s { frames = placed place s.frames }) (parted_placed place s.frames (length s.values) s.labels parted)
    (rw (operands_placed place s) few)

-- operands are values
pub operands_few : (count height : ℕ) (vs : List ℕ) → count ≤ length (above height vs) → count ≤ length vs
operands_few count height vs few = omega (arith, length-take (length vs - height) vs)

-- a thread has as many values as its stack
pub value_count_at : (m : Module) (place : Position) (s : Snapshot) → AreParted s.frames (length s.values) s.labels → value_count (thread_at m place s) ≡ length s.values
value_count_at m place s parted =
    frames_values m (placed place s.frames) s.values s.labels (parted_placed place s.frames (length s.values) s.labels parted)

-- a thread with an innermost frame
module _ (m : Module) (s : Snapshot) (f : OpenFrame) (fs : List OpenFrame) (e : s.frames ≡ f ∷ fs) where
  pub taken_count_is : (count : ℕ) → taken_count (thread_of m s) count ≡ over_arguments (remaining (body_of m f.function) f.place) + count
  taken_count_is count = rw e refl

  pub operand_count_is : operand_count (thread_of m s) ≡ length (operands_of s)
  operand_count_is = rw e refl

  pub arguments_is : (count : ℕ) → arguments_of (thread_of m s) count ≡ reverse (take count (drop (over_arguments (remaining (body_of m f.function) f.place)) (operands_of s)))
  arguments_is count = rw e refl

  pub answered_is : (count : ℕ) (value : Option ℕ) (place : Position) → remaining (body_of m f.function) place ≡ behind 1 (remaining (body_of m f.function) f.place)
      → in_frame (with_operands (over_arguments (remaining (body_of m f.function) f.place) + count) (option_to_list value)) (thread_at m place s)
      ≡ in_frame (answered count value) (thread_of m s)
  answered_is count value place code = rw (e, code) refl

-- a range of the values under the last ones
pub range_is : (over count height : ℕ) (vs : List ℕ) → height ≤ length vs → over + count ≤ length (above height vs)
    → above (length vs - (over + count)) (below (length vs - (over + count) + count) vs) ≡ take count (drop over (above height vs))
range_is over count height vs h few =
    let all : over + count ≤ length vs = operands_few (over + count) height vs few in
    let end : length vs - (over + count) + count ≡ length vs - over = omega arith in
    let size : length (drop over vs) - (length vs - (over + count)) ≡ count = omega (arith, length-drop over vs) in
    rw (end, below-last over vs (omega arith), size)
    (ap (take count) (drop-above over height vs h (omega arith)) ∙ take-append-le count (drop over (above height vs)) (below height vs) (omega (arith, length-drop over (above height vs))))

pub first_height_top : (fs : List OpenFrame) (height : ℕ) (ls : List OpenLabel) → AreParted fs height ls → first_height fs ls ≤ height
first_height_top [] height ls parted = omega arith
first_height_top (f ∷ fs) height ls parted = heights_top f.locals_end height (above f.labels_start ls) parted.2

pub first_is : {T : Type 0} (xs : List T) → 0 < length xs → (x : T) × (rest : List T) × (xs ≡ x ∷ rest)
first_is [] some = absurd (omega arith)
first_is (x ∷ xs) some = (x, xs, refl)

-- what the call, wait or notify takes at which a thread stands
pub record Takes (s : Snapshot) (taken count : ℕ) : Type 0 where
  pub operands : taken ≤ length (operands_of s)
  pub values : taken ≤ length s.values
  pub more : count ≤ taken

pub takes_is : (m : Module) (s : Snapshot) (count : ℕ) → 0 < length s.frames → taken_count (thread_of m s) count ≤ operand_count (thread_of m s) → Takes s (taken_count (thread_of m s) count) count
takes_is m s count some stands =
    let first = first_is s.frames some in
    let taken = taken_count_is m s first.0 first.1 first.2 count in
    let operands = operand_count_is m s first.0 first.1 first.2 in
    let few : taken_count (thread_of m s) count ≤ length (operands_of s) = omega (arith, operands, stands) in
    record { operands = few; values = operands_few (taken_count (thread_of m s) count) _ s.values few; more = omega (arith, taken) }

pub arguments_law : (m : Module) (s : Snapshot) (count : ℕ) → AreParted s.frames (length s.values) s.labels → 0 < length s.frames → taken_count (thread_of m s) count ≤ operand_count (thread_of m s)
    → reverse (above (length s.values - taken_count (thread_of m s) count) (below (length s.values - taken_count (thread_of m s) count + count) s.values)) ≡ arguments_of (thread_of m s) count
arguments_law m s count parted some stands =
    let first = first_is s.frames some in
    let over = over_arguments (remaining (body_of m first.0.function) first.0.place) in
    let taken : taken_count (thread_of m s) count ≡ over + count = taken_count_is m s first.0 first.1 first.2 count in
    let few : over + count ≤ length (operands_of s) = omega (arith, taken, operand_count_is m s first.0 first.1 first.2, stands) in
    rw (taken, arguments_is m s first.0 first.1 first.2 count)
    (ap reverse (range_is over count (first_height s.frames s.labels) s.values (first_height_top s.frames (length s.values) s.labels parted) few))

pub answer_law : (m : Module) (s : Snapshot) (f : OpenFrame) (fs : List OpenFrame) (count : ℕ) (value : Option ℕ) (place : Position) → s.frames ≡ f ∷ fs
    → remaining (body_of m f.function) place ≡ behind 1 (remaining (body_of m f.function) f.place)
    → AreParted s.frames (length s.values) s.labels → taken_count (thread_of m s) count ≤ operand_count (thread_of m s)
    → thread_at m place (record s { values = option_to_list value ++ drop (taken_count (thread_of m s) count) s.values }) ≡ in_frame (answered count value) (thread_of m s)
answer_law m s f fs count value place e code parted stands =
    let over = over_arguments (remaining (body_of m f.function) f.place) in
    let taken : taken_count (thread_of m s) count ≡ over + count = taken_count_is m s f fs e count in
    let few : over + count ≤ length (operands_of s) = omega (arith, taken, operand_count_is m s f fs e, stands) in
    rw taken (with_operands_at m place (over + count) (option_to_list value) s parted few ∙ answered_is m s f fs e count value place code)
