use Rattle.std.proofs.Common.{◌≡◌, ℕ, true, false, List, sym, refl}
use Rattle.std.proofs.lemmas.Str.{is_utf8-from_IsUtf8, IsUtf8-from_is_utf8}
use Rattle.std.specs.Str.{is_utf8, IsUtf8}
use Rattle.path_walk.proofs.parts.is_utf8.Goals as goal

no_utf8 : (bytes : List ℕ) → ¬ (IsUtf8 bytes) → false ≡ is_utf8 bytes
no_utf8 bytes h = elim (is_utf8 bytes) as (λ b. is_utf8 bytes ≡ b → false ≡ b) [ true ↦ λ e. absurd (h (IsUtf8-from_is_utf8 bytes e)) | false ↦ λ e. refl ] refl

pub returns-in-Ok : goal.returns-in-Ok
returns-in-Ok c = sym (is_utf8-from_IsUtf8 _ c.in-Ok.ensures.cases.1)

pub returns-in-Err : goal.returns-in-Err
returns-in-Err c = no_utf8 _ c.in-Err.ensures.cases.0
