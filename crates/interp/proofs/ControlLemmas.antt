-- The rows of control instructions, by the labels and operands of the innermost frame.
use Rattle.std.proofs.Common.{◌≡◌, ℕ, ◌+◌, ◌<◌, ◌≤◌, List, [], ◌∷◌, length, drop, refl, sym, ap, ◌∙◌, arith, subst, Bool, true, false, Option, Some, None}
use Rattle.std.specs.Prelude.{slice_get, slice_index_or, nat_eq, nat_le, nat_lt, if◌then◌else◌}
use Rattle.std.proofs.lemmas.Bool.Decides.{nat_tests}
use Rattle.std.proofs.lemmas.Option.{slice_get_within}
use Rattle.std.proofs.lemmas.List.{length-drop}
use Rattle.std.proofs.lemmas.List.Sums.{sum_by-cons}
use Rattle.wasm_steps.proofs.Calls.{got_within}
use Rattle.int_ops.specs.declared.trap.Cause.TheVariants.{StackFull}
use Rattle.linear_memory.specs.LinearMemory.{LinearMemory}
use Rattle.wasm_ast.specs.declared.module.Module.{Module}
use Rattle.wasm_ast.specs.declared.position.Position.{Position}
use Rattle.wasm_ast.specs.Sequence.{Sequence}
use Rattle.guest_state.specs.declared.entries.OpenFrame.{OpenFrame}
use Rattle.guest_state.specs.GuestThread.{Frame, GuestThread, Label, first_changed, in_frame, label_count}
use Rattle.guest_state.specs.Snapshot.{Snapshot, branch_arity, first_function, open_count, operands_of, placed, result_arity, thread_at, thread_of}
use Rattle.guest_state.specs.Steps.{branched, closed, left, opened, returned, with_operands}
use Rattle.guest_state.proofs.SnapshotLemmas.{first_is, length-frames_of}
use Rattle.guest_state.proofs.ThreadLemmas.{branch_arity_is, open_count_is, operands_is, result_arity_is}
use Rattle.wasm_steps.specs.Control.{enters, step_branch, step_br_if, step_br_table, step_end, step_return}
use Rattle.wasm_steps.specs.Stepped.{Next, Stuck, Trapped, goes, leaves}
use Rattle.interp.specs.Operands.{CanBranch}
use Rattle.interp.specs.Reached.{KeepsMarks, branches}
use Rattle.interp.specs.Rows.{chosen_over, chosen_row, left_at, of_first}
use Rattle.interp.proofs.MemoryLemmas.{last_one}
use Rattle.interp.proofs.RowLemmas.{leaves_at, operands_row}

-- a thread that has a frame
length-placed : (place : Position) (fs : List OpenFrame) → length (placed place fs) ≡ length fs
length-placed place [] = refl
length-placed place (f ∷ fs) = refl

pub has_first : (m : Module) (place : Position) (s : Snapshot) → 0 < length s.frames → (f : Frame) × (fs : List Frame) × ((thread_at m place s).frames ≡ f ∷ fs)
has_first m place s some = first_is (thread_at m place s).frames (omega (arith, length-frames_of m (placed place s.frames) s.values s.labels, length-placed place s.frames))

-- a label more, where there is room
pub entered_row : (m : Module) (memory : LinearMemory) (t : GuestThread) (change : Frame → Frame) (inner : Position) (new : Snapshot) → false ≡ nat_le 16384 (label_count t)
    → thread_at m inner new ≡ in_frame change t → enters memory t change ≡ Next memory (thread_at m inner new)
entered_row m memory t change inner new free ok =
    let room : nat_lt (label_count t) 16384 ≡ true = grind (arith, nat_tests) in
    rw room (ap (Next memory) (sym ok))

pub full_row : (memory : LinearMemory) (t : GuestThread) (change : Frame → Frame) → true ≡ nat_le 16384 (label_count t) → enters memory t change ≡ Trapped StackFull
full_row memory t change full =
    let none : nat_lt (label_count t) 16384 ≡ false = grind (arith, nat_tests) in
    rw none refl

-- taking operands away leaves the labels
pub labels_removed : (count : ℕ) (t : GuestThread) → label_count (in_frame (with_operands count []) t) ≡ label_count t
labels_removed count t = by_frames t.frames where
  by_frames : (fs : List Frame) → label_count (record t { frames = first_changed (with_operands count []) fs }) ≡ label_count (record t { frames = fs })
  by_frames [] = refl
  by_frames (f ∷ fs) = sum_by-cons {X = Frame} (λ g. length g.labels) (with_operands count [] f) fs ∙ sym (sum_by-cons {X = Frame} (λ g. length g.labels) f fs)

-- what a branch takes along
pub taken_result : (n over : ℕ) (s : Snapshot) → CanBranch n over s → n ≡ open_count s → over + result_arity s ≤ length (operands_of s)
taken_result n over s can out =
    let yes : nat_eq n (open_count s) ≡ true = grind (arith, nat_tests) in
    rw yes at can.enough

pub taken_label : (n over : ℕ) (s : Snapshot) → CanBranch n over s → (n ≡ open_count s → ⊥) → (n < open_count s) × (over + branch_arity n s ≤ length (operands_of s))
taken_label n over s can inside =
    let no : nat_eq n (open_count s) ≡ false = grind (arith, nat_tests) in
    let within = can.within in
    (grind arith, rw no at can.enough)

-- a branch on a number
pub br_if_first : (memory : LinearMemory) (t : GuestThread) (f : Frame) (n : ℕ) (rest : Sequence) (operands : List ℕ) (c : ℕ) → slice_get operands 0 ≡ Some c
    → step_br_if memory t f n rest operands ≡ (if nat_eq c 0 then leaves memory t rest (drop 1 operands) else step_branch memory t f n (drop 1 operands))
br_if_first memory t f n rest [] c got = absurd (cc)
br_if_first memory t f n rest (x ∷ operands) c got = let same : x ≡ c = cc in rw same refl

pub br_table_first : (memory : LinearMemory) (t : GuestThread) (f : Frame) (labels : List ℕ) (default : ℕ) (operands : List ℕ) (i : ℕ) → slice_get operands 0 ≡ Some i
    → step_br_table memory t f labels default operands ≡ step_branch memory t f (slice_index_or labels i default) (drop 1 operands)
br_table_first memory t f labels default [] i got = absurd (cc)
br_table_first memory t f labels default (x ∷ operands) i got = let same : x ≡ i = cc in rw same refl

module _ (m : Module) (place : Position) (s : Snapshot) (f : Frame) (fs : List Frame) (e : (thread_at m place s).frames ≡ f ∷ fs) where
  -- a branch by whether it goes out of all blocks
  pub branches_out : (n : ℕ) → n ≡ open_count s → in_frame (λ g. branches n g.operands g) (thread_at m place s) ≡ in_frame left (thread_at m place s)
  branches_out n out =
      let yes : nat_eq n (length f.labels) ≡ true = grind (arith, nat_tests, open_count_is m place s f fs e) in
      rw (e, yes) refl

  pub branches_inside : (n : ℕ) → (n ≡ open_count s → ⊥) → in_frame (λ g. branches n g.operands g) (thread_at m place s) ≡ in_frame (branched n) (thread_at m place s)
  branches_inside n inside =
      let no : nat_eq n (length f.labels) ≡ false = grind (arith, nat_tests, open_count_is m place s f fs e) in
      rw (e, no) refl

  -- a branch that finds its label and operands
  pub branch_goes : (memory : LinearMemory) (n over : ℕ) → CanBranch n over s → step_branch memory (thread_at m place s) f n (drop over f.operands) ≡ goes memory (thread_at m place s) (branches n (drop over f.operands))
  branch_goes memory n over can = by_end (nat_eq n (length f.labels)) refl where
    size : length (operands_of s) ≡ length f.operands
    size = ap length (operands_is m place s f fs e)

    by_end : (b : Bool) → nat_eq n (length f.labels) ≡ b → step_branch memory (thread_at m place s) f n (drop over f.operands) ≡ goes memory (thread_at m place s) (branches n (drop over f.operands))
    by_end true at =
        let out : n ≡ open_count s = grind (arith, nat_tests, open_count_is m place s f fs e) in
        let few = taken_result n over s can out in
        let enough : nat_lt (length (drop over f.operands)) f.arity ≡ false = grind (arith, nat_tests, length-drop over f.operands, size, result_arity_is m place s f fs e) in
        rw (at, enough) refl
    by_end false at =
        let inside : n ≡ open_count s → ⊥ = λ out. grind (arith, nat_tests, open_count_is m place s f fs e) in
        let label = taken_label n over s can inside in
        let within : n < length f.labels = omega (arith, label.0, open_count_is m place s f fs e) in
        let l = got_within f.labels n within in
        let few = label.1 in
        let enough : nat_lt (length (drop over f.operands)) l.0.arity ≡ false = grind (arith, nat_tests, length-drop over f.operands, size, branch_arity_is m place s f fs e n l.0 l.1) in
        rw (at, l.1, enough) refl

  -- and one that isn't stuck finds them
  pub branch_found : (memory : LinearMemory) (n over : ℕ) → (step_branch memory (thread_at m place s) f n (drop over f.operands) ≡ Stuck → ⊥) → over ≤ length f.operands → CanBranch n over s
  branch_found memory n over moves few = by_end (nat_eq n (length f.labels)) refl where
    size : length (operands_of s) ≡ length f.operands
    size = ap length (operands_is m place s f fs e)

    by_end : (b : Bool) → nat_eq n (length f.labels) ≡ b → CanBranch n over s
    by_end true at = by_count (nat_lt (length (drop over f.operands)) f.arity) refl where
      by_count : (b : Bool) → nat_lt (length (drop over f.operands)) f.arity ≡ b → CanBranch n over s
      by_count true lacks = absurd (moves (rw (at, lacks) refl))
      by_count false enough =
          let out : n ≡ open_count s = grind (arith, nat_tests, open_count_is m place s f fs e) in
          let yes : nat_eq n (open_count s) ≡ true = grind (arith, nat_tests) in
          let along : over + result_arity s ≤ length (operands_of s) = grind (arith, nat_tests, length-drop over f.operands, size, result_arity_is m place s f fs e) in
          record { within = omega arith; enough = rw yes along }
    by_end false at = by_label (slice_get f.labels n) refl where
      by_label : (o : Option Label) → slice_get f.labels n ≡ o → CanBranch n over s
      by_label None none = absurd (moves (rw (at, none) refl))
      by_label (Some l) got = by_count (nat_lt (length (drop over f.operands)) l.arity) refl where
        by_count : (b : Bool) → nat_lt (length (drop over f.operands)) l.arity ≡ b → CanBranch n over s
        by_count true lacks = absurd (moves (rw (at, got, lacks) refl))
        by_count false enough =
            let within = slice_get_within f.labels n l got in
            let count = open_count_is m place s f fs e in
            let no : nat_eq n (open_count s) ≡ false = grind (arith, nat_tests) in
            let along : over + branch_arity n s ≤ length (operands_of s) = grind (arith, nat_tests, length-drop over f.operands, size, branch_arity_is m place s f fs e n l got) in
            record { within = omega arith; enough = rw no along }

  -- over operands of which some were taken away
  pub branched_at : (memory : LinearMemory) (n over : ℕ) (mid : GuestThread) → mid ≡ in_frame (with_operands over []) (thread_at m place s)
      → goes memory (thread_at m place s) (branches n (drop over f.operands)) ≡ Next memory (in_frame (λ g. branches n g.operands g) mid)
  branched_at memory n over mid removed = rw (removed, e) refl

  pub branch_row : (memory : LinearMemory) (n over : ℕ) (mid : GuestThread) → CanBranch n over s → mid ≡ in_frame (with_operands over []) (thread_at m place s)
      → step_branch memory (thread_at m place s) f n (drop over f.operands) ≡ Next memory (in_frame (λ g. branches n g.operands g) mid)
  branch_row memory n over mid can removed = branch_goes memory n over can ∙ branched_at memory n over mid removed

  -- the label is still there once the operands above were taken away
  pub can_removed : (n over : ℕ) (mid : Snapshot) → CanBranch n over s → thread_at m place mid ≡ in_frame (with_operands over []) (thread_at m place s) → CanBranch n 0 mid
  can_removed n over mid can removed = by_end (nat_eq n (length f.labels)) refl where
    g : Frame
    g = with_operands over [] f

    first : (thread_at m place mid).frames ≡ g ∷ fs
    first = ap (λ (t : GuestThread). t.frames) removed ∙ ap (first_changed (with_operands over [])) e

    size : length (operands_of s) ≡ length f.operands
    size = ap length (operands_is m place s f fs e)

    left_size : length (operands_of mid) ≡ length (drop over f.operands)
    left_size = ap length (operands_is m place mid g fs first)

    by_end : (b : Bool) → nat_eq n (length f.labels) ≡ b → CanBranch n 0 mid
    by_end true at =
        let out : n ≡ open_count s = grind (arith, nat_tests, open_count_is m place s f fs e) in
        let few = taken_result n over s can out in
        let count : open_count mid ≡ length f.labels = open_count_is m place mid g fs first in
        let yes : nat_eq n (open_count mid) ≡ true = rw count at in
        let along : 0 + result_arity mid ≤ length (operands_of mid) = grind (arith, length-drop over f.operands, size, left_size, result_arity_is m place s f fs e, result_arity_is m place mid g fs first) in
        record { within = grind (arith, open_count_is m place s f fs e); enough = rw yes along }
    by_end false at =
        let inside : n ≡ open_count s → ⊥ = λ out. grind (arith, nat_tests, open_count_is m place s f fs e) in
        let label = taken_label n over s can inside in
        let within : n < length f.labels = omega (arith, label.0, open_count_is m place s f fs e) in
        let l = got_within f.labels n within in
        let few = label.1 in
        let count : open_count mid ≡ length f.labels = open_count_is m place mid g fs first in
        let no : nat_eq n (open_count mid) ≡ false = rw count at in
        let along : 0 + branch_arity n mid ≤ length (operands_of mid) = grind (arith, length-drop over f.operands, size, left_size, branch_arity_is m place s f fs e n l.0 l.1, branch_arity_is m place mid g fs first n l.0 l.1) in
        record { within = omega arith; enough = rw no along }

  first_operand : (k a : ℕ) → slice_get (operands_of s) k ≡ Some a → slice_get f.operands k ≡ Some a
  first_operand k a got = subst (λ os. slice_get os k ≡ Some a) (operands_is m place s f fs e) got

  pub br_if_stays : (memory : LinearMemory) (n c : ℕ) (next : Position) (mid : Snapshot) → slice_get (operands_of s) 0 ≡ Some c → c ≡ 0 → thread_at m next mid ≡ in_frame (with_operands 1 []) (thread_at m next s)
      → of_first (λ g. step_br_if memory (thread_at m place s) g n (left_at m next s) g.operands) (thread_at m place s).frames ≡ Next memory (thread_at m next mid)
  br_if_stays memory n c next mid got none removed =
      let t = thread_at m place s in
      let rest = left_at m next s in
      let yes : nat_eq c 0 ≡ true = grind (arith, nat_tests) in
      ap (of_first (λ g. step_br_if memory t g n rest g.operands)) e ∙ br_if_first memory t f n rest f.operands c (first_operand 0 c got)
      ∙ rw (yes, ← operands_is m place s f fs e) (leaves_at m memory place next 1 [] s mid removed)

  pub br_if_goes : (memory : LinearMemory) (n c : ℕ) (rest : Sequence) (mid : GuestThread) → slice_get (operands_of s) 0 ≡ Some c → (c ≡ 0 → ⊥) → CanBranch n 1 s → mid ≡ in_frame (with_operands 1 []) (thread_at m place s)
      → of_first (λ g. step_br_if memory (thread_at m place s) g n rest g.operands) (thread_at m place s).frames ≡ Next memory (in_frame (λ g. branches n g.operands g) mid)
  br_if_goes memory n c rest mid got other can removed =
      let t = thread_at m place s in
      let no : nat_eq c 0 ≡ false = grind (arith, nat_tests) in
      ap (of_first (λ g. step_br_if memory t g n rest g.operands)) e ∙ br_if_first memory t f n rest f.operands c (first_operand 0 c got)
      ∙ rw no (branch_row memory n 1 mid can removed)

  pub br_table_goes : (memory : LinearMemory) (labels : List ℕ) (default i : ℕ) (mid : GuestThread) → slice_get (operands_of s) 0 ≡ Some i → CanBranch (slice_index_or labels i default) 1 s → mid ≡ in_frame (with_operands 1 []) (thread_at m place s)
      → of_first (λ g. step_br_table memory (thread_at m place s) g labels default g.operands) (thread_at m place s).frames ≡ Next memory (in_frame (λ g. branches (slice_index_or labels i default) g.operands g) mid)
  br_table_goes memory labels default i mid got can removed =
      let t = thread_at m place s in
      ap (of_first (λ g. step_br_table memory t g labels default g.operands)) e ∙ br_table_first memory t f labels default f.operands i (first_operand 0 i got)
      ∙ branch_row memory (slice_index_or labels i default) 1 mid can removed

  -- into a block over operands of which one was taken away
  pub opened_over : (arity : ℕ) (continuation outer inner : Sequence) → in_frame (λ g. opened arity continuation outer inner (record g { operands = drop 1 (operands_of s) })) (thread_at m place s)
      ≡ in_frame (opened arity continuation outer inner) (in_frame (with_operands 1 []) (thread_at m place s))
  opened_over arity continuation outer inner = rw (operands_is m place s f fs e, e) refl

  -- the end of a block, and of the function
  pub closes : (memory : LinearMemory) → 0 < open_count s → of_first (λ g. step_end memory (thread_at m place s) g.labels) (thread_at m place s).frames ≡ Next memory (in_frame closed (thread_at m place s))
  closes memory inside = ap (of_first (λ g. step_end memory (thread_at m place s) g.labels)) e ∙ (by_labels f.labels (omega (arith, open_count_is m place s f fs e))) where
    by_labels : (ls : List Label) → 0 < length ls → step_end memory (thread_at m place s) ls ≡ Next memory (in_frame closed (thread_at m place s))
    by_labels [] none = absurd (omega arith)
    by_labels (l ∷ ls) some = refl

  pub ends : (memory : LinearMemory) → open_count s ≡ 0 → of_first (λ g. step_end memory (thread_at m place s) g.labels) (thread_at m place s).frames ≡ Next memory (returned (thread_at m place s))
  ends memory outside = ap (of_first (λ g. step_end memory (thread_at m place s) g.labels)) e ∙ (by_labels f.labels (omega (arith, open_count_is m place s f fs e))) where
    by_labels : (ls : List Label) → length ls ≡ 0 → step_end memory (thread_at m place s) ls ≡ Next memory (returned (thread_at m place s))
    by_labels [] none = refl
    by_labels (l ∷ ls) none = absurd (omega arith)

  pub returns_row : (memory : LinearMemory) → result_arity s ≤ length (operands_of s) → of_first (λ g. step_return memory (thread_at m place s) g) (thread_at m place s).frames ≡ Next memory (returned (thread_at m place s))
  returns_row memory few =
      let enough : nat_lt (length f.operands) f.arity ≡ false = grind (arith, nat_tests, ap length (operands_is m place s f fs e), result_arity_is m place s f fs e) in
      ap (of_first (λ g. step_return memory (thread_at m place s) g)) e ∙ (rw enough refl)

-- a return keeps the marks
pub marks_by : (m : Module) (place : Position) (old new : Snapshot) → thread_of m new ≡ returned (thread_at m place old) → KeepsMarks old new
marks_by m place old new e = record { main = ap (λ (t : GuestThread). t.main) e; full = ap (λ (t : GuestThread). t.full) e }

-- which keep the function
pub branches_same : (n : ℕ) (f : Frame) → (branches n f.operands f).function ≡ f.function
branches_same n f = by_end (nat_eq n (length f.labels)) refl where
  by_end : (b : Bool) → nat_eq n (length f.labels) ≡ b → (branches n f.operands f).function ≡ f.function
  by_end true at = rw at refl
  by_end false at = rw at (by_label (slice_get f.labels n) refl) where
    by_label : (o : Option Label) → slice_get f.labels n ≡ o → (branched n f).function ≡ f.function
    by_label None none = rw none refl
    by_label (Some l) got = rw got refl

pub closed_same : (f : Frame) → (closed f).function ≡ f.function
closed_same f = by_labels f.labels refl where
  by_labels : (ls : List Label) → f.labels ≡ ls → (closed f).function ≡ f.function
  by_labels [] at = rw at refl
  by_labels (l ∷ ls) at = rw at refl

-- into an arm of an if
abbrev pub arm_place : ℕ → ℕ → ℕ → Position
arm_place condition first second = record { list = if nat_eq condition 0 then second else first; index = 0 }

pub chosen_enters : (m : Module) (memory : LinearMemory) (place behind : Position) (carries : Bool) (first second condition : ℕ) (s mid new : Snapshot) → 0 < length s.frames → slice_get (operands_of s) 0 ≡ Some condition
    → false ≡ nat_le 16384 (label_count (thread_at m place s)) → thread_at m place mid ≡ in_frame (with_operands 1 []) (thread_at m place s) → first_function mid.frames ≡ first_function s.frames
    → thread_at m (arm_place condition first second) new ≡ in_frame (opened (if carries then 1 else 0) (left_at m behind mid) (left_at m behind mid) (left_at m (arm_place condition first second) mid)) (thread_at m place mid)
    → chosen_row m memory place behind carries first second s ≡ Next memory (thread_at m (arm_place condition first second) new)
chosen_enters m memory place behind carries first second condition s mid new some got free removed same entered =
    let inner = arm_place condition first second in
    let head = has_first m place s some in
    let row = chosen_over m memory place behind carries first second s in
    let arity : ℕ = if carries then 1 else 0 in
    let operands = drop 1 (operands_of s) in
    let change : Frame → Frame = λ f. opened arity (left_at m behind s) (left_at m behind s) (left_at m inner s) (record f { operands = operands }) in
    let whole : thread_at m inner new ≡ in_frame change (thread_at m place s) =
    rw same at entered ∙ ap (in_frame (opened arity (left_at m behind s) (left_at m behind s) (left_at m inner s))) removed
    ∙ sym (opened_over m place s head.0 head.1 head.2 arity (left_at m behind s) (left_at m behind s) (left_at m inner s)) in
    operands_row row m place s some ∙ ap row (last_one (operands_of s) condition got)
    ∙ entered_row m memory (thread_at m place s) change inner new free whole
