-- What the rows of a thread at a place come to, by the operands of its innermost frame.
use Rattle.std.proofs.Common.{◌≡◌, ℕ, ◌<◌, List, [], ◌∷◌, ◌++◌, length, drop, refl, sym, ap, ◌∙◌, arith, Result, Ok, Err, IfErr, OnOk, OnErr, None}
use Rattle.std.specs.Prelude.{slice_get, Some, IsOkUnless, is_err, nat_le, nat_lt, true, false, if◌then◌else◌}
use Rattle.std.proofs.lemmas.Bool.Decides.{nat_tests}
use Rattle.int_ops.specs.declared.trap.Cause.TheVariants.{StackFull}
use Rattle.int_ops.specs.declared.trap.Cause.{Cause}
use Rattle.linear_memory.specs.LinearMemory.{LinearMemory}
use Rattle.wasm_ast.specs.declared.instr.Instr.{Instr}
use Rattle.wasm_ast.specs.declared.module.Module.{Module}
use Rattle.wasm_ast.specs.declared.position.Position.{Position}
use Rattle.wasm_ast.specs.Sequence.{Sequence}
use Rattle.guest_state.specs.declared.entries.OpenFrame.{OpenFrame}
use Rattle.guest_state.specs.declared.entries.OpenLabel.{OpenLabel}
use Rattle.guest_state.specs.GuestThread.{Frame, GuestThread, first_changed, in_frame, value_count}
use Rattle.guest_state.specs.Snapshot.{Snapshot, first_function, frames_of, operands_of, placed, thread_at}
use Rattle.guest_state.specs.Steps.{with_operands}
use Rattle.wasm_steps.specs.Stepped.{Stepped, Next, Trapped, leaves, gives, pushes}
use Rattle.wasm_steps.specs.Numeric.{step_one, step_two}
use Rattle.interp.specs.Rows.{Comes, Keeps, Runs, left_at, of_first, outcome}
use Rattle.interp.specs.Stops.{stop_of}
use Rattle.interp.specs.declared.stop.Stop.{Stop}

-- a module, where any will do
abbrev pub any_module : Module
any_module = record { types = []; imports = []; functions = []; tables = []; memories = []; globals = []; exports = []; start = None; elements = []; codes = []; segments = [] }

abbrev pub any_place : Position
any_place = record { list = 0; index = 0 }

-- the row of the operands of the innermost frame
pub operands_row : (row : List ℕ → Stepped) (m : Module) (place : Position) (s : Snapshot) → 0 < length s.frames
    → of_first (λ f. row f.operands) (thread_at m place s).frames ≡ row (operands_of s)
operands_row row m place s some = by_frames s.frames some where
  by_frames : (fs : List OpenFrame) → 0 < length fs
      → of_first (λ f. row f.operands) (frames_of m (placed place fs) s.values s.labels) ≡ row (operands_of (record s { frames = fs }))
  by_frames [] none = absurd (omega arith)
  by_frames (f ∷ fs) first = refl

-- operands in the place of the last ones, and behind the instruction
pub behind_at : (m : Module) (place next : Position) (count : ℕ) (more : List ℕ) (s : Snapshot)
    → in_frame (λ f. record f { operands = more ++ drop count (operands_of s); code = left_at m next s }) (thread_at m place s) ≡ in_frame (with_operands count more) (thread_at m next s)
behind_at m place next count more s = ap (λ fs. record (thread_at m next s) { frames = fs }) (by_frames s.frames) where
  by_frames : (fs : List OpenFrame)
      → first_changed (λ f. record f { operands = more ++ drop count (operands_of (record s { frames = fs })); code = left_at m next (record s { frames = fs }) }) (frames_of m (placed place fs) s.values s.labels)
      ≡ first_changed (with_operands count more) (frames_of m (placed next fs) s.values s.labels)
  by_frames [] = refl
  by_frames (f ∷ fs) = refl

pub leaves_at : (m : Module) (memory : LinearMemory) (place next : Position) (count : ℕ) (more : List ℕ) (old new : Snapshot)
    → thread_at m next new ≡ in_frame (with_operands count more) (thread_at m next old)
    → leaves memory (thread_at m place old) (left_at m next old) (more ++ drop count (operands_of old)) ≡ Next memory (thread_at m next new)
leaves_at m memory place next count more old new e = ap (Next memory) (behind_at m place next count more old ∙ sym e)

-- what an instruction gives, by its value
pub gives_at : (m : Module) (memory : LinearMemory) (place next : Position) (count value : ℕ) (old new : Snapshot)
    → thread_at m next new ≡ in_frame (with_operands count (value ∷ [])) (thread_at m next old)
    → gives memory (thread_at m place old) (left_at m next old) (drop count (operands_of old)) (Ok value) ≡ Next memory (thread_at m next new)
gives_at m memory place next count value old new e = leaves_at m memory place next count (value ∷ []) old new e

-- the function of the first frame
abbrev head_function : List Frame → ℕ
head_function [] = 0
head_function (f ∷ fs) = f.function

head_is : (m : Module) (place : Position) (fs : List OpenFrame) (vs : List ℕ) (ls : List OpenLabel) → head_function (frames_of m (placed place fs) vs ls) ≡ first_function fs
head_is m place [] vs ls = refl
head_is m place (f ∷ fs) vs ls = refl

head_changed : (change : Frame → Frame) → ((f : Frame) → (change f).function ≡ f.function) → (fs : List Frame) → head_function (first_changed change fs) ≡ head_function fs
head_changed change same [] = refl
head_changed change same (f ∷ fs) = same f

pub keeps_to : (m : Module) (place to : Position) (change : Frame → Frame) (old new : Snapshot) → ((f : Frame) → (change f).function ≡ f.function)
    → length new.frames ≡ length old.frames → thread_at m to new ≡ in_frame change (thread_at m place old) → Keeps old new
keeps_to m place to change old new same size e = record {
  frames = size;
  function = sym (head_is m to new.frames new.values new.labels) ∙ ap (λ (t : GuestThread). head_function t.frames) e
      ∙ head_changed change same (thread_at m place old).frames ∙ head_is m place old.frames old.values old.labels;
  main = ap (λ (t : GuestThread). t.main) e;
  full = ap (λ (t : GuestThread). t.full) e;
}

pub keeps_by : (m : Module) (place : Position) (change : Frame → Frame) (old new : Snapshot) → ((f : Frame) → (change f).function ≡ f.function)
    → length new.frames ≡ length old.frames → thread_at m place new ≡ in_frame change (thread_at m place old) → Keeps old new
keeps_by m place change old new same size e = keeps_to m place place change old new same size e

pub keeps_same : (s : Snapshot) → Keeps s s
keeps_same s = record { frames = refl; function = refl; main = refl; full = refl }

-- the last operands, by their places
at_front : (ys : List ℕ) (x : ℕ) → slice_get ys 0 ≡ Some x → ys ≡ x ∷ drop 1 ys
at_front [] x g = absurd (cc)
at_front (y ∷ ys) x g = let same : y ≡ x = cc in rw same refl

pub one_row : (memory : LinearMemory) (t : GuestThread) (rest : Sequence) (op : ℕ → ℕ) (operands : List ℕ) (a : ℕ) → slice_get operands 0 ≡ Some a
    → step_one memory t rest op operands ≡ gives memory t rest (drop 1 operands) (Ok (op a))
one_row memory t rest op [] a got = absurd (cc)
one_row memory t rest op (b ∷ operands) a got = let same : b ≡ a = cc in rw same refl

pub two_row : (memory : LinearMemory) (t : GuestThread) (rest : Sequence) (op : ℕ → ℕ → Result ℕ Cause) (operands : List ℕ) (a b : ℕ) → slice_get operands 0 ≡ Some b → slice_get operands 1 ≡ Some a
    → step_two memory t rest op operands ≡ gives memory t rest (drop 2 operands) (op a b)
two_row memory t rest op [] a b last first = absurd (cc)
two_row memory t rest op (d ∷ []) a b last first = absurd (cc)
two_row memory t rest op (d ∷ e ∷ operands) a b last first = let second : d ≡ b = cc in let one : e ≡ a = cc in rw (second, one) refl

pub keeps_pushed : (value : ℕ) (old new : Snapshot) (r : Result (Unit {0}) Cause) → length new.frames ≡ length old.frames
    → OnOk r ((m : Module) (place : Position) → thread_at m place new ≡ in_frame (with_operands 0 (value ∷ [])) (thread_at m place old)) → OnErr r (new ≡ old) → Keeps old new
keeps_pushed value old new (Ok x) size ok unchanged = keeps_by any_module any_place (with_operands 0 (value ∷ [])) old new (λ f. refl) size (ok any_module any_place)
keeps_pushed value old new (Err cause) size ok unchanged = rw unchanged (keeps_same old)

-- a value more, where there is room
pub pushed_row : (m : Module) (memory : LinearMemory) (place next : Position) (value : ℕ) (old new : Snapshot) (r : Result (Unit {0}) Cause) → 0 < length old.frames
    → is_err r ≡ nat_le 65536 (value_count (thread_at m place old)) → IsOkUnless r StackFull
    → OnOk r ((m : Module) (place : Position) → thread_at m place new ≡ in_frame (with_operands 0 (value ∷ [])) (thread_at m place old))
    → of_first (λ f. pushes memory (thread_at m place old) f (left_at m next old) value) (thread_at m place old).frames ≡ outcome r memory (thread_at m next new)
pushed_row m memory place next value old new r some full only ok =
    operands_row (λ operands. if nat_lt (value_count (thread_at m place old)) 65536 then leaves memory (thread_at m place old) (left_at m next old) (value ∷ operands) else Trapped StackFull) m place old some
    ∙ by_result r full only ok
  where
    by_result : (r : Result (Unit {0}) Cause) → is_err r ≡ nat_le 65536 (value_count (thread_at m place old)) → IsOkUnless r StackFull
        → OnOk r ((m : Module) (place : Position) → thread_at m place new ≡ in_frame (with_operands 0 (value ∷ [])) (thread_at m place old))
        → (if nat_lt (value_count (thread_at m place old)) 65536 then leaves memory (thread_at m place old) (left_at m next old) (value ∷ operands_of old) else Trapped StackFull)
        ≡ outcome r memory (thread_at m next new)
    by_result (Ok x) full only ok =
        let room : nat_lt (value_count (thread_at m place old)) 65536 ≡ true = grind (arith, nat_tests) in
        rw room (leaves_at m memory place next 0 (value ∷ []) old new (ok m next))
    by_result (Err cause) full only ok =
        let none : nat_lt (value_count (thread_at m place old)) 65536 ≡ false = grind (arith, nat_tests) in
        rw (none, only) refl

pub keeps_then : (old mid new : Snapshot) → Keeps old mid → Keeps mid new → Keeps old new
keeps_then old mid new first second =
    record { frames = second.frames ∙ first.frames; function = second.function ∙ first.function; main = second.main ∙ first.main; full = second.full ∙ first.full }

-- code that has no part in the memory
pub unchanged_with : {X : Type 0} (memory : LinearMemory) (old new : Snapshot) (r : Result X Cause) → OnErr r (new ≡ old) → OnErr r ((new ≡ old) × (memory ≡ memory))
unchanged_with memory old new (Ok x) same = tt
unchanged_with memory old new (Err cause) same = (same, refl)

-- a trap as a stop
pub comes_by : (i : Instr) (r : Result (Unit {0}) Cause) (came : Result (Unit {0}) Stop) (memory new_memory : LinearMemory) (old new : Snapshot)
    → OnOk r (came ≡ Ok tt) → IfErr r (λ cause. came ≡ Err (Stop.Trap cause)) → Runs i r memory new_memory old new → Comes i came memory new_memory old new
comes_by i (Ok x) came memory new_memory old new goes traps runs = rw goes (record { row = runs.row; keeps = runs.keeps; unchanged = tt })
comes_by i (Err cause) came memory new_memory old new goes traps runs =
    rw traps (record { row = λ m place next. ap stop_of (runs.row m place next); keeps = runs.keeps; unchanged = runs.unchanged })
