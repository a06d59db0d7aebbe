-- Several steps, and what is kept of a thread at a place.
use Rattle.std.proofs.Common.{◌≡◌, ℕ, ◌+◌, ◌<◌, length, refl, sym, ap, subst, ◌∙◌, true, Option, Some, None}
use Rattle.std.specs.Prelude.{slice_get}
use Rattle.std.proofs.lemmas.Option.{slice_get_within}
use Rattle.linear_memory.specs.LinearMemory.{LinearMemory}
use Rattle.wasm_ast.specs.declared.module.Code.{Code}
use Rattle.wasm_ast.specs.declared.module.Module.{Module}
use Rattle.wasm_ast.specs.declared.position.Position.{Position}
use Rattle.wasm_ast.specs.TypingModule.{is_typed}
use Rattle.wasm_ast.specs.Typing.{Context}
use Rattle.guest_state.specs.Fits.{FitFrames, Fits, function_context}
use Rattle.guest_state.specs.GuestThread.{GuestThread}
use Rattle.guest_state.specs.Snapshot.{Snapshot, first_function, thread_at}
use Rattle.guest_state.proofs.ThreadLemmas.{function_is}
use Rattle.wasm_steps.specs.Kept.{IsKept, IsMemory}
use Rattle.wasm_steps.specs.Step.{after, onward, step}
use Rattle.wasm_steps.specs.Stepped.{AtCall, AtNotify, AtWait, Finished, Next, Stepped, Stuck, Trapped}
use Rattle.wasm_steps.proofs.After.{after_split}
use Rattle.wasm_steps.proofs.Kept.{step_kept}
use Rattle.interp.specs.declared.stop.Stop.TheVariants as stop
use Rattle.interp.specs.Stops.{stop_of}
use Rattle.interp.proofs.ControlLemmas.{has_first}

-- a step is kept
pub kept_step : (m : Module) (memory : LinearMemory) (t : GuestThread) (memory' : LinearMemory) (t' : GuestThread) → is_typed m ≡ true → IsMemory memory → Fits m t → step m memory t ≡ Next memory' t' → IsMemory memory' × Fits m t'
kept_step m memory t memory' t' typed is fits e = subst (IsKept m) e (step_kept m memory t typed is fits)

-- the innermost function is one of the module's own
pub function_there : (m : Module) (place : Position) (s : Snapshot) → 0 < length s.frames → Fits m (thread_at m place s) → first_function s.frames < length m.codes
function_there m place s some fits =
    let head = has_first m place s some in
    let frame = (subst (FitFrames m None) head.2 fits.frames).0 in
    let n = head.0.function in
    let there : n < length m.codes = by_code n (slice_get m.codes n) frame.c refl frame.its_context in
    subst (λ k. k < length m.codes) (sym (function_is m place s head.0 head.1 head.2)) there
  where
    by_code : (n : ℕ) (o : Option Code) (c : Context) → slice_get m.codes n ≡ o → function_context m n ≡ Some c → n < length m.codes
    by_code n None c none e =
        let wrong : ◌≡◌ {A = Option Context} None (Some c) = rw none at e in
        absurd (cc)
    by_code n (Some code) c some e = slice_get_within m.codes n code some

-- no thread stops as spent
pub never_spent : (stepped : Stepped) → stop_of stepped ≡ Some stop.Spent → ⊥
never_spent (Next memory t) e = absurd (cc)
never_spent (Trapped cause) e = absurd (cc)
never_spent (AtCall f) e = absurd (cc)
never_spent (AtWait width at) e = absurd (cc)
never_spent (AtNotify at) e = absurd (cc)
never_spent Finished e = absurd (cc)
never_spent Stuck e = absurd (cc)

-- a step more of a run, and what is kept
pub record Went (n : ℕ) (m : Module) (memory : LinearMemory) (t : GuestThread) (memory' : LinearMemory) (t' : GuestThread) : Type 0 where
  pub steps : after (n + 1) m memory t ≡ Some (memory', t')
  pub bytes : IsMemory memory'
  pub fits : Fits m t'

pub went_on : (n : ℕ) (m : Module) (first memory memory' : LinearMemory) (began t t' : GuestThread) → is_typed m ≡ true → IsMemory memory → Fits m t
    → after n m first began ≡ Some (memory, t) → step m memory t ≡ Next memory' t' → Went n m first began memory' t'
went_on n m first memory memory' began t t' typed is fits steps here =
    let kept = kept_step m memory t memory' t' typed is fits here in
    record { steps = after_split n 1 m first began memory t steps ∙ ap (onward (after 0 m)) here; bytes = kept.0; fits = kept.1 }
