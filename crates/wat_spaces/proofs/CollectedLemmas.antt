-- What the code collects is what the fields say.
use Rattle.std.proofs.Common.{◌≡◌, ℕ, List, [], ◌∷◌, ◌++◌, map, refl, sym, ◌∙◌, ap, append_assoc}
use Rattle.std.specs.List.{flat_map, fold}
use Rattle.std.proofs.lemmas.Grind.{flat_map-append}
use Rattle.wat_syntax.specs.declared.field.FieldInLine.{FieldInLine}
use Rattle.wat_syntax.specs.declared.parsed.ImportOf.{ImportOf}
use Rattle.wat_syntax.specs.Seen.{seen_import}
use Rattle.wat_syntax.specs.Parsed.{Instructions, Done, Then, Block, If, Field, FunctionParts, InLine}
use Rattle.wat_spaces.specs.Types.{uses_by, uses_within, uses_of, own_types, with_use, types_of_fields}
use Rattle.wat_syntax.specs.Flat.{Else, End, flat, seen_steps, else_label, end_label, SeesFunction}
use Rattle.wat_syntax.specs.SeenFields.{SeesField, SeesFields}
use Rattle.wat_spaces.specs.Collected.{step_uses, import_uses, kept_types, kept_uses, own_types_of, types_of_kept}
use Rattle.wat_syntax.specs.declared.field.Field as kept
use Rattle.wat_syntax.specs.declared.field.Field.TheVariants as field
use Rattle.wat_syntax.specs.declared.parsed.ImportOf.TheVariants as imported
use Rattle.wat_syntax.specs.declared.steps.FunctionField as kept_function

-- the uses of types by instructions are those by their steps
pub uses_flat : (is : Instructions) → uses_within is ≡ flat_map step_uses (flat is)
uses_flat Done = refl
uses_flat (Then i rest) = ap (λ us. uses_by i ++ us) (uses_flat rest)
uses_flat (Block k label repeated of body rest) =
    ap (λ us. us ++ uses_within rest) (uses_flat body) ∙ ap (λ us. flat_map step_uses (flat body) ++ us) (uses_flat rest)
    ∙ sym (flat_map-append step_uses (flat body) (End (end_label repeated) ∷ flat rest))
uses_flat (If label repeated of first second rest) =
    ap (λ us. us ++ (uses_within second ++ uses_within rest)) (uses_flat first)
    ∙ ap (λ us. flat_map step_uses (flat first) ++ (us ++ uses_within rest)) (uses_flat second)
    ∙ ap (λ us. flat_map step_uses (flat first) ++ (flat_map step_uses (flat second) ++ us)) (uses_flat rest)
    ∙ sym (append_assoc (flat_map step_uses (flat first)) (flat_map step_uses (flat second)) (flat_map step_uses (flat rest)))
    ∙ ap (λ us. us ++ flat_map step_uses (flat rest)) (sym (flat_map-append step_uses (flat first) (Else (else_label repeated) ∷ flat second)))
    ∙ sym (flat_map-append step_uses (flat first ++ (Else (else_label repeated) ∷ flat second)) (End (end_label repeated) ∷ flat rest))

function_uses : (f : kept_function.FunctionField) (parts : FunctionParts) → SeesFunction f parts → kept_uses (field.Function f) ≡ parts.of ∷ uses_within parts.body
function_uses f parts h = ap (λ u. u ∷ flat_map step_uses (seen_steps f.body.items)) h.of ∙ ap (λ ss. parts.of ∷ flat_map step_uses ss) h.body ∙ ap (λ us. parts.of ∷ us) (sym (uses_flat parts.body))

import_types : (from field : List ℕ) (of : ImportOf) → [] ≡ own_types (seen_import from field of)
import_types from field (imported.Function name of) = refl
import_types from field (imported.Memory name of) = refl

import_uses_are : (from field : List ℕ) (of : ImportOf) → import_uses of ≡ uses_of (seen_import from field of)
import_uses_are from field (imported.Function name of) = refl
import_uses_are from field (imported.Memory name of) = refl

types_seen : (f : kept.Field) (said : Field) → SeesField f said → kept_types f ≡ own_types said
types_seen (field.Import f) said h = import_types f.from f.field f.of ∙ ap own_types (sym h)
types_seen (field.Function f) said h = ap own_types (sym h.1)
types_seen f said h = ap own_types (sym h)

uses_seen : (f : kept.Field) (said : Field) → SeesField f said → kept_uses f ≡ uses_of said
uses_seen (field.Import f) said h = import_uses_are f.from f.field f.of ∙ ap uses_of (sym h)
uses_seen (field.Function f) said h = function_uses f h.0 h.2 ∙ ap uses_of (sym h.1)
uses_seen f said h = ap uses_of (sym h)

own_seen : (fs : List FieldInLine) (said : List (InLine Field)) → SeesFields fs said → own_types_of fs ≡ flat_map own_types (map (λ s. s.value) said)
own_seen [] [] h = refl
own_seen (f ∷ fs) (s ∷ said) h = ap (λ ts. ts ++ own_types_of fs) (types_seen f.field s.value h.1) ∙ ap (λ ts. own_types s.value ++ ts) (own_seen fs said h.2)
own_seen fs said h = absurd h

all_uses_seen : (fs : List FieldInLine) (said : List (InLine Field)) → SeesFields fs said → flat_map (λ (f : FieldInLine). kept_uses f.field) fs ≡ flat_map uses_of (map (λ s. s.value) said)
all_uses_seen [] [] h = refl
all_uses_seen (f ∷ fs) (s ∷ said) h =
    ap (λ us. us ++ flat_map (λ (g : FieldInLine). kept_uses g.field) fs) (uses_seen f.field s.value h.1) ∙ ap (λ us. uses_of s.value ++ us) (all_uses_seen fs said h.2)
all_uses_seen fs said h = absurd h

-- the types that the code collects are those of the fields
pub types_are : (fs : List FieldInLine) (said : List (InLine Field)) → SeesFields fs said → types_of_kept fs ≡ types_of_fields (map (λ s. s.value) said)
types_are fs said h =
    ap (λ ts. fold with_use ts (flat_map (λ (f : FieldInLine). kept_uses f.field) fs)) (own_seen fs said h)
    ∙ ap (fold with_use (flat_map own_types (map (λ s. s.value) said))) (all_uses_seen fs said h)
