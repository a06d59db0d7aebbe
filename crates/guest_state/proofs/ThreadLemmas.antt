-- What the innermost frame of a thread says of the snapshot that stands for it.
use Rattle.std.proofs.Common.{◌≡◌, ℕ, suc, zero, cond, List, [], ◌∷◌, length, Some, refl, sym, ap, ◌∙◌}
use Rattle.std.specs.Prelude.{slice_get}
use Rattle.wasm_ast.specs.declared.module.Module.{Module}
use Rattle.wasm_ast.specs.declared.position.Position.{Position}
use Rattle.wasm_ast.specs.Sequence.{Sequence}
use Rattle.guest_state.specs.declared.entries.OpenFrame.{OpenFrame}
use Rattle.guest_state.specs.declared.entries.OpenLabel.{OpenLabel}
use Rattle.guest_state.specs.GuestThread.{Frame, Label}
use Rattle.guest_state.specs.Heights.{above}
use Rattle.guest_state.specs.Module.{body_of}
use Rattle.guest_state.specs.Snapshot.{Snapshot, branch_arity, first_function, frame_at, frames_of, label_arity, labels_of, locals_of, open_count, operands_of, placed, result_arity, thread_at}
use Rattle.guest_state.proofs.LabelLemmas.{length-labels_of}

-- the frame that is kept of it
at_frame : (m : Module) (place : Position) (s : Snapshot) (f : Frame) (fs : List Frame) → (thread_at m place s).frames ≡ f ∷ fs
    → (g : OpenFrame) × (gs : List OpenFrame) × (s.frames ≡ g ∷ gs) × (frame_at m g place s.values s.labels ≡ f)
at_frame m place s f fs e = by_frames s.frames refl e where
  by_frames : (gs : List OpenFrame) → s.frames ≡ gs → frames_of m (placed place gs) s.values s.labels ≡ f ∷ fs
      → (h : OpenFrame) × (hs : List OpenFrame) × (s.frames ≡ h ∷ hs) × (frame_at m h place s.values s.labels ≡ f)
  by_frames [] at e = absurd (cc)
  by_frames (g ∷ gs) at e = (g, gs, at, (cc))

label_arity_is : (body : Sequence) (low : ℕ) (vs : List ℕ) (ls : List OpenLabel) (n : ℕ) (l : Label) → slice_get (labels_of body low vs ls) n ≡ Some l → label_arity (slice_get ls n) ≡ l.arity
label_arity_is body low vs [] n l got = absurd (cc)
label_arity_is body low vs (x ∷ ls) zero l got = some_arity (cc) where
  some_arity : labels_of body low vs (x ∷ ls) ≡ l ∷ labels_of body low vs ls → cond x.carries 1 0 ≡ l.arity
  some_arity same = cc
label_arity_is body low vs (x ∷ ls) (suc n) l got = label_arity_is body low vs ls n l got

module _ (m : Module) (place : Position) (s : Snapshot) (f : Frame) (fs : List Frame) (e : (thread_at m place s).frames ≡ f ∷ fs) where
  pub function_is : first_function s.frames ≡ f.function
  function_is = let at = at_frame m place s f fs e in rw at.2 (ap (λ (g : Frame). g.function) at.3)

  pub operands_is : operands_of s ≡ f.operands
  operands_is = let at = at_frame m place s f fs e in rw at.2 (ap (λ (g : Frame). g.operands) at.3)

  pub locals_is : locals_of s ≡ f.locals
  locals_is = let at = at_frame m place s f fs e in rw at.2 (ap (λ (g : Frame). g.locals) at.3)

  pub result_arity_is : result_arity s ≡ f.arity
  result_arity_is = let at = at_frame m place s f fs e in rw at.2 (ap (λ (g : Frame). g.arity) at.3)

  pub open_count_is : open_count s ≡ length f.labels
  open_count_is =
      let at = at_frame m place s f fs e in
      let own = above at.0.labels_start s.labels in
      rw at.2 (sym (length-labels_of m at.0.function at.0.locals_end s.values own) ∙ ap (λ (g : Frame). length g.labels) at.3)

  pub branch_arity_is : (n : ℕ) (l : Label) → slice_get f.labels n ≡ Some l → branch_arity n s ≡ l.arity
  branch_arity_is n l got =
      let at = at_frame m place s f fs e in
      let own = above at.0.labels_start s.labels in
      rw at.2 (label_arity_is (body_of m at.0.function) at.0.locals_end s.values own n l (rw (← at.3) at got))
