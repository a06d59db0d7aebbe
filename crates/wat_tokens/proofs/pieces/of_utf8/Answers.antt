use Rattle.std.proofs.Common.{◌≡◌, Bool, true, false, take, refl}
use Rattle.std.specs.Str.{is_utf8}
use Rattle.std.proofs.lemmas.Str.{is_utf8-from_IsUtf8, IsUtf8-from_is_utf8}
use Rattle.wat_tokens.proofs.pieces.of_utf8.Goals as goal

fails : (b : Bool) → (b ≡ true → ⊥) → b ≡ false
fails b differs = elim b as (λ b. (b ≡ true → ⊥) → b ≡ false) [ true ↦ λ never. absurd (never refl) | false ↦ λ never. refl ] differs

pub returns-in-Ok-clause-value : goal.returns-in-Ok-clause-value
returns-in-Ok-clause-value c =
    let text : is_utf8 (take c.args.count c.args.text.now) ≡ true = is_utf8-from_IsUtf8 (take c.args.count c.args.text.now) c.in-Ok.ensures.cases.1 in
    rw text refl

pub returns-in-Err-clause-value : goal.returns-in-Err-clause-value
returns-in-Err-clause-value c =
    let none : is_utf8 (take c.args.count c.args.text.now) ≡ false =
    fails (is_utf8 (take c.args.count c.args.text.now)) (λ e. c.in-Err.ensures.cases.0 (IsUtf8-from_is_utf8 (take c.args.count c.args.text.now) e)) in
    rw none refl
