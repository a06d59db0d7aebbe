-- Several steps, and more behind them.
use Rattle.std.proofs.Common.{◌≡◌, ℕ, zero, suc, ◌+◌, Option, Some, refl, ap, ◌∙◌, arith, zero-add}
use Rattle.linear_memory.specs.LinearMemory.{LinearMemory}
use Rattle.wasm_ast.specs.declared.module.Module.{Module}
use Rattle.guest_state.specs.GuestThread.{GuestThread}
use Rattle.wasm_steps.specs.Stepped.{Stepped, Next, Trapped, AtCall, AtWait, AtNotify, Finished, Stuck}
use Rattle.wasm_steps.specs.Step.{step, onward, after}

-- what is gone on from was a step
pub onward_next : (f : LinearMemory → GuestThread → Option (LinearMemory × GuestThread)) (x : LinearMemory × GuestThread) (s : Stepped) → onward f s ≡ Some x
    → (memory : LinearMemory) × (thread : GuestThread) × (s ≡ Next memory thread) × (f memory thread ≡ Some x)
onward_next f x (Next memory thread) e = (memory, thread, refl, e)
onward_next f x (Trapped cause) e = absurd (cc)
onward_next f x (AtCall function) e = absurd (cc)
onward_next f x (AtWait width at) e = absurd (cc)
onward_next f x (AtNotify at) e = absurd (cc)
onward_next f x Finished e = absurd (cc)
onward_next f x Stuck e = absurd (cc)

-- n steps, and k more
pub after_split : (n k : ℕ) (m : Module) (memory : LinearMemory) (t : GuestThread) (memory' : LinearMemory) (t' : GuestThread) → after n m memory t ≡ Some (memory', t') → after (n + k) m memory t ≡ after k m memory' t'
after_split zero k m memory t memory' t' e =
    let same : ◌≡◌ {A = LinearMemory × GuestThread} (memory, t) (memory', t') = cc in
    rw zero-add (ap (λ (x : LinearMemory × GuestThread). after k m x.0 x.1) same)
after_split (suc n) k m memory t memory' t' e =
    let longer : suc n + k ≡ suc (n + k) = omega arith in
    let next = onward_next (after n m) (memory', t') (step m memory t) e in
    ap (λ j. after j m memory t) longer ∙ ap (onward (after (n + k) m)) next.2 ∙ after_split n k m next.0 next.1 memory' t' next.3
