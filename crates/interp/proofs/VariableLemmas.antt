-- The rows of parametric and variable instructions.
use Rattle.std.proofs.Common.{◌≡◌, ℕ, ◌<◌, ◌≤◌, List, [], ◌∷◌, length, drop, refl, sym, ap, ◌∙◌, arith, Some}
use Rattle.std.specs.Prelude.{slice_get, slice_set}
use Rattle.std.proofs.lemmas.Option.{slice_get-get_or}
use Rattle.linear_memory.specs.LinearMemory.{LinearMemory}
use Rattle.wasm_ast.specs.declared.module.Module.{Module}
use Rattle.wasm_ast.specs.declared.position.Position.{Position}
use Rattle.wasm_ast.specs.Sequence.{Sequence}
use Rattle.guest_state.specs.declared.entries.OpenFrame.{OpenFrame}
use Rattle.guest_state.specs.GuestThread.{Frame, GuestThread, first_changed, in_frame}
use Rattle.guest_state.specs.Heights.{above}
use Rattle.guest_state.specs.Snapshot.{Snapshot, first_height, first_locals, frame_at, frames_of, locals_of, operands_of, placed, thread_at}
use Rattle.guest_state.specs.Steps.{with_local, with_operands}
use Rattle.wasm_steps.specs.Stepped.{Next, goes, leaves, pushes}
use Rattle.wasm_steps.specs.Variable.{sets_local, step_drop, step_get, step_global_set, step_local_set, step_local_tee}
use Rattle.interp.specs.Rows.{left_at, of_first}

pub drop_row : (memory : LinearMemory) (t : GuestThread) (rest : Sequence) (operands : List ℕ) → 1 ≤ length operands → step_drop memory t rest operands ≡ leaves memory t rest (drop 1 operands)
drop_row memory t rest [] some = absurd (omega arith)
drop_row memory t rest (a ∷ operands) some = refl

-- the value of a local
pub local_row : (m : Module) (memory : LinearMemory) (place : Position) (rest : Sequence) (s : Snapshot) (x value : ℕ) → 0 < length s.frames → slice_get (locals_of s) x ≡ Some value
    → of_first (λ f. step_get memory (thread_at m place s) f rest (slice_get f.locals x)) (thread_at m place s).frames
    ≡ of_first (λ f. pushes memory (thread_at m place s) f rest value) (thread_at m place s).frames
local_row m memory place rest s x value some got = by_frames s.frames some got where
  by_frames : (fs : List OpenFrame) → 0 < length fs → slice_get (first_locals fs s.values) x ≡ Some value
      → of_first (λ f. step_get memory (thread_at m place s) f rest (slice_get f.locals x)) (frames_of m (placed place fs) s.values s.labels)
      ≡ of_first (λ f. pushes memory (thread_at m place s) f rest value) (frames_of m (placed place fs) s.values s.labels)
  by_frames [] none g = absurd (omega arith)
  by_frames (f ∷ fs) first g = rw g refl

-- the operands of the innermost frame
abbrev head_operands : List Frame → List ℕ
head_operands [] = []
head_operands (f ∷ fs) = f.operands

head_is : (m : Module) (place : Position) (s : Snapshot) → 0 < length s.frames → head_operands (thread_at m place s).frames ≡ operands_of s
head_is m place s some = by_frames s.frames some where
  by_frames : (fs : List OpenFrame) → 0 < length fs → head_operands (frames_of m (placed place fs) s.values s.labels) ≡ above (first_height fs s.labels) s.values
  by_frames [] none = absurd (omega arith)
  by_frames (f ∷ fs) first = refl

head_changed : (change : Frame → Frame) → ((f : Frame) → (change f).operands ≡ f.operands) → (fs : List Frame) → head_operands (first_changed change fs) ≡ head_operands fs
head_changed change same [] = refl
head_changed change same (f ∷ fs) = same f

pub operands_kept : (m : Module) (place : Position) (change : Frame → Frame) (old new : Snapshot) → ((f : Frame) → (change f).operands ≡ f.operands)
    → 0 < length old.frames → length new.frames ≡ length old.frames → thread_at m place new ≡ in_frame change (thread_at m place old) → operands_of new ≡ operands_of old
operands_kept m place change old new same some size e =
    sym (head_is m place new (omega arith)) ∙ ap (λ (t : GuestThread). head_operands t.frames) e ∙ head_changed change same (thread_at m place old).frames ∙ head_is m place old some

-- a local was set, and then operands were taken away
pub set_at : (m : Module) (memory : LinearMemory) (place next : Position) (x value count : ℕ) (old mid new : Snapshot)
    → thread_at m next mid ≡ in_frame (with_local x value) (thread_at m next old) → thread_at m next new ≡ in_frame (with_operands count []) (thread_at m next mid)
    → goes memory (thread_at m place old) (λ g. record g { locals = slice_set g.locals x value; operands = drop count (operands_of old); code = left_at m next old }) ≡ Next memory (thread_at m next new)
set_at m memory place next x value count old mid new set removed =
    ap (λ fs. Next memory (record (thread_at m next old) { frames = fs })) (by_frames old.frames) ∙ sym (ap (Next memory) (removed ∙ ap (in_frame (with_operands count [])) set))
  where
    by_frames : (fs : List OpenFrame)
        → first_changed (λ g. record g { locals = slice_set g.locals x value; operands = drop count (operands_of (record old { frames = fs })); code = left_at m next (record old { frames = fs }) }) (frames_of m (placed place fs) old.values old.labels)
        ≡ first_changed (with_operands count []) (first_changed (with_local x value) (frames_of m (placed next fs) old.values old.labels))
    by_frames [] = refl
    by_frames (f ∷ fs) = refl

pub none_removed : (t : GuestThread) → t ≡ in_frame (with_operands 0 []) t
none_removed t = ap (λ fs. record t { frames = fs }) (by_frames t.frames) where
  by_frames : (fs : List Frame) → fs ≡ first_changed (with_operands 0 []) fs
  by_frames [] = refl
  by_frames (f ∷ fs) = refl

-- where there is such a local
sets_there : (memory : LinearMemory) (t : GuestThread) (f : Frame) (rest : Sequence) (x value : ℕ) (operands : List ℕ) → x < length f.locals
    → sets_local memory t f rest x value operands (slice_get f.locals x) ≡ goes memory t (λ g. record g { locals = slice_set g.locals x value; operands = operands; code = rest })
sets_there memory t f rest x value operands within = rw (slice_get-get_or f.locals x 0 within) refl

-- the last operand goes into a local
pub local_set_row : (m : Module) (memory : LinearMemory) (place : Position) (rest : Sequence) (s : Snapshot) (x value : ℕ) → 0 < length s.frames → x < length (locals_of s) → slice_get (operands_of s) 0 ≡ Some value
    → of_first (λ f. step_local_set memory (thread_at m place s) f rest x f.operands) (thread_at m place s).frames
    ≡ goes memory (thread_at m place s) (λ g. record g { locals = slice_set g.locals x value; operands = drop 1 (operands_of s); code = rest })
local_set_row m memory place rest s x value some within got = by_frames s.frames some within got where
  by_operands : (t : GuestThread) (f : Frame) (operands : List ℕ) → x < length f.locals → slice_get operands 0 ≡ Some value
      → step_local_set memory t f rest x operands ≡ goes memory t (λ g. record g { locals = slice_set g.locals x value; operands = drop 1 operands; code = rest })
  by_operands t f [] w g = absurd (cc)
  by_operands t f (a ∷ operands) w g = let same : a ≡ value = cc in rw same (sets_there memory t f rest x value operands w)

  by_frames : (fs : List OpenFrame) → 0 < length fs → x < length (first_locals fs s.values) → slice_get (above (first_height fs s.labels) s.values) 0 ≡ Some value
      → of_first (λ f. step_local_set memory (thread_at m place s) f rest x f.operands) (frames_of m (placed place fs) s.values s.labels)
      ≡ goes memory (thread_at m place s) (λ g. record g { locals = slice_set g.locals x value; operands = drop 1 (above (first_height fs s.labels) s.values); code = rest })
  by_frames [] none w g = absurd (omega arith)
  by_frames (f ∷ fs) first w g = by_operands (thread_at m place s) (frame_at m (record f { place = place }) place s.values s.labels) (above (first_height (f ∷ fs) s.labels) s.values) w g

-- and stays
pub local_tee_row : (m : Module) (memory : LinearMemory) (place : Position) (rest : Sequence) (s : Snapshot) (x value : ℕ) → 0 < length s.frames → x < length (locals_of s) → slice_get (operands_of s) 0 ≡ Some value
    → of_first (λ f. step_local_tee memory (thread_at m place s) f rest x f.operands) (thread_at m place s).frames
    ≡ goes memory (thread_at m place s) (λ g. record g { locals = slice_set g.locals x value; operands = drop 0 (operands_of s); code = rest })
local_tee_row m memory place rest s x value some within got = by_frames s.frames some within got where
  by_operands : (t : GuestThread) (f : Frame) (operands : List ℕ) → x < length f.locals → slice_get operands 0 ≡ Some value
      → step_local_tee memory t f rest x operands ≡ goes memory t (λ g. record g { locals = slice_set g.locals x value; operands = drop 0 operands; code = rest })
  by_operands t f [] w g = absurd (cc)
  by_operands t f (a ∷ operands) w g = let same : a ≡ value = cc in rw same (sets_there memory t f rest x value (value ∷ operands) w)

  by_frames : (fs : List OpenFrame) → 0 < length fs → x < length (first_locals fs s.values) → slice_get (above (first_height fs s.labels) s.values) 0 ≡ Some value
      → of_first (λ f. step_local_tee memory (thread_at m place s) f rest x f.operands) (frames_of m (placed place fs) s.values s.labels)
      ≡ goes memory (thread_at m place s) (λ g. record g { locals = slice_set g.locals x value; operands = drop 0 (above (first_height fs s.labels) s.values); code = rest })
  by_frames [] none w g = absurd (omega arith)
  by_frames (f ∷ fs) first w g = by_operands (thread_at m place s) (frame_at m (record f { place = place }) place s.values s.labels) (above (first_height (f ∷ fs) s.labels) s.values) w g

-- the last operand goes into a global
pub global_set_row : (memory : LinearMemory) (t : GuestThread) (rest : Sequence) (x value : ℕ) (operands : List ℕ) → x < length t.globals → slice_get operands 0 ≡ Some value
    → step_global_set memory t rest x operands ≡ leaves memory (record t { globals = slice_set t.globals x value }) rest (drop 1 operands)
global_set_row memory t rest x value [] within got = absurd (cc)
global_set_row memory t rest x value (a ∷ operands) within got = let same : a ≡ value = cc in rw (same, slice_get-get_or t.globals x 0 within) refl
