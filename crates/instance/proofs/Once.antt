-- Bytes load in one way.
use Rattle.std.proofs.Common.{◌≡◌, ⊎_elim, Ok, Err}
use Rattle.wasm_reading.proofs.ModuleLaws.{one_module}
use Rattle.instance.specs.declared.fault.LoadFault.TheVariants.{Memory}
use Rattle.instance.specs.Loads.{LoadAsOne, LoadOrFail}
use Rattle.instance.proofs.AgreeLemmas.{Answer, one_answer}

pub loads_once : LoadAsOne
loads_once bytes p q x y =
    let a : Answer = Ok p in
    let b : Answer = Ok q in
    ⊎_elim (λ (e : a ≡ b). cc) (λ (e : a ≡ Err Memory). absurd (cc)) (one_answer bytes (one_module bytes) a b x y (λ e. cc))

pub loads_or_fails : LoadOrFail
loads_or_fails bytes program fault x y =
    let a : Answer = Err fault in
    let b : Answer = Ok program in
    ⊎_elim (λ (e : a ≡ b). absurd (cc)) (λ (e : a ≡ Err Memory). cc) (one_answer bytes (one_module bytes) a b y x (λ e. cc))
