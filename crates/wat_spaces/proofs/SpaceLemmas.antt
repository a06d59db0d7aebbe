-- The identifiers that the code collects are those of the fields.
use Rattle.std.proofs.Common.{◌≡◌, ℕ, Bool, true, false, ◌||◌, List, [], ◌∷◌, ◌++◌, map, refl, sym, ◌∙◌, ap, append_assoc}
use Rattle.std.proofs.lemmas.Grind.{flat_map-append}
use Rattle.std.proofs.lemmas.List.{append-nil}
use Rattle.wat_spaces.specs.declared.spaces.Spaces.{Spaces}
use Rattle.wat_syntax.specs.declared.field.FieldInLine.{FieldInLine}
use Rattle.wat_syntax.specs.declared.parsed.ImportOf.{ImportOf}
use Rattle.wat_syntax.specs.Parsed.{Field, InLine}
use Rattle.wat_spaces.specs.Spaces.{Space, Types, Functions, Tables, Memories, Globals, identifiers, space_of, is_taken, rebinds}
use Rattle.wat_syntax.specs.Seen.{seen_name, seen_import}
use Rattle.wat_syntax.specs.SeenFields.{SeesField, SeesFields}
use Rattle.wat_spaces.specs.KeptSpaces.{no_names, spaces_said, import_with, spaces_with, import_rebinds, kept_rebinds, spaces_of_kept}
use Rattle.wat_syntax.specs.declared.field.Field as kept
use Rattle.wat_syntax.specs.declared.field.Field.TheVariants as field
use Rattle.wat_syntax.specs.declared.parsed.ImportOf.TheVariants as imported

abbrev any_of : (a b c d e : Bool) → Bool
any_of a b c d e = a || b || c || d || e

same : (f : Bool → Bool) → f true ≡ true → f false ≡ false → (b : Bool) → b ≡ f b
same f t n true = sym t
same f t n false = sym n

in_functions : (b : Bool) → b ≡ any_of false (b || false) false false false
in_functions b = same (λ x. any_of false (x || false) false false false) refl refl b

in_memories : (b : Bool) → b ≡ any_of false false false (b || false) false
in_memories b = same (λ x. any_of false false false (x || false) false) refl refl b

import_seen : (before : List Field) (from field : List ℕ) (of : ImportOf) → import_rebinds (spaces_said before) of ≡ rebinds before (seen_import from field of)
import_seen before from field (imported.Function name of) = in_functions _
import_seen before from field (imported.Memory name of) = in_memories _

pub rebinds_seen : (before : List Field) (f : kept.Field) (said : Field) → SeesField f said → kept_rebinds (spaces_said before) f ≡ rebinds before said
rebinds_seen before (field.Type f) said h = same (λ x. any_of (x || false) false false false false) refl refl _ ∙ ap (rebinds before) (sym h)
rebinds_seen before (field.Import f) said h = import_seen before f.from f.field f.of ∙ ap (rebinds before) (sym h)
rebinds_seen before (field.Function f) said h = ap (is_taken (space_of Functions before)) h.2.name ∙ in_functions _ ∙ ap (rebinds before) (sym h.1)
rebinds_seen before (field.Table f) said h = same (λ x. any_of false false (x || false) false false) refl refl _ ∙ ap (rebinds before) (sym h)
rebinds_seen before (field.Memory f) said h = in_memories _ ∙ ap (rebinds before) (sym h)
rebinds_seen before (field.Global f) said h = same (λ x. any_of false false false false (x || false)) refl refl _ ∙ ap (rebinds before) (sym h)
rebinds_seen before f said h = ap (rebinds before) (sym h)

-- with the identifiers of one more field
abbrev pushed : List Field → Field → Spaces
pushed before said = record {
  types = space_of Types before ++ identifiers Types said;
  functions = space_of Functions before ++ identifiers Functions said;
  tables = space_of Tables before ++ identifiers Tables said;
  memories = space_of Memories before ++ identifiers Memories said;
  globals = space_of Globals before ++ identifiers Globals said;
}

space_push : (space : Space) (before : List Field) (said : Field) → space_of space before ++ identifiers space said ≡ space_of space (before ++ said ∷ [])
space_push space before said = ap (λ is. space_of space before ++ is) (sym (append-nil (identifiers space said))) ∙ sym (flat_map-append (identifiers space) before (said ∷ []))

spaces_push : (before : List Field) (said : Field) → pushed before said ≡ spaces_said (before ++ said ∷ [])
spaces_push before said = λ i. record {
  types = space_push Types before said i;
  functions = space_push Functions before said i;
  tables = space_push Tables before said i;
  memories = space_push Memories before said i;
  globals = space_push Globals before said i;
}

-- nothing behind lists
all_same : (s : Spaces) → s ≡ record { types = s.types ++ []; functions = s.functions ++ []; tables = s.tables ++ []; memories = s.memories ++ []; globals = s.globals ++ [] }
all_same s = λ i. record {
  types = sym (append-nil s.types) i;
  functions = sym (append-nil s.functions) i;
  tables = sym (append-nil s.tables) i;
  memories = sym (append-nil s.memories) i;
  globals = sym (append-nil s.globals) i;
}

module _ (before : List Field) where
  abbrev here : Spaces
  here = spaces_said before

  import_more : (from field : List ℕ) (of : ImportOf) → import_with here of ≡ pushed before (seen_import from field of)
  import_more from field (imported.Function name of) = λ i. record (all_same here i) { functions = here.functions ++ seen_name name ∷ [] }
  import_more from field (imported.Memory name of) = λ i. record (all_same here i) { memories = here.memories ++ seen_name name ∷ [] }

  more : (f : kept.Field) (said : Field) → SeesField f said → spaces_with here f ≡ pushed before said
  more (field.Type f) said h = (λ i. record (all_same here i) { types = here.types ++ seen_name f.name ∷ [] }) ∙ ap (pushed before) (sym h)
  more (field.Import f) said h = import_more f.from f.field f.of ∙ ap (pushed before) (sym h)
  more (field.Function f) said h = (λ i. record (all_same here i) { functions = here.functions ++ h.2.name i ∷ [] }) ∙ ap (pushed before) (sym h.1)
  more (field.Table f) said h = (λ i. record (all_same here i) { tables = here.tables ++ seen_name f.name ∷ [] }) ∙ ap (pushed before) (sym h)
  more (field.Memory f) said h = (λ i. record (all_same here i) { memories = here.memories ++ seen_name f.name ∷ [] }) ∙ ap (pushed before) (sym h)
  more (field.Global f) said h = (λ i. record (all_same here i) { globals = here.globals ++ seen_name f.name ∷ [] }) ∙ ap (pushed before) (sym h)
  more f said h = all_same here ∙ ap (pushed before) (sym h)

-- with one more field
pub spaces_more : (before : List Field) (f : kept.Field) (said : Field) → SeesField f said → spaces_with (spaces_said before) f ≡ spaces_said (before ++ said ∷ [])
spaces_more before f said h = more before f said h ∙ spaces_push before said

spaces_from : (before : List Field) (fs : List FieldInLine) (said : List (InLine Field)) → SeesFields fs said → spaces_of_kept (spaces_said before) fs ≡ spaces_said (before ++ map (λ s. s.value) said)
spaces_from before [] [] h = ap spaces_said (sym (append-nil before))
spaces_from before (f ∷ fs) (s ∷ said) h =
    ap (λ x. spaces_of_kept x fs) (spaces_more before f.field s.value h.1) ∙ spaces_from (before ++ s.value ∷ []) fs said h.2
    ∙ ap spaces_said (append_assoc before (s.value ∷ []) (map (λ s. s.value) said))
spaces_from before fs said h = absurd h

-- the identifiers that the code collects are those of all fields
pub spaces_are : (fs : List FieldInLine) (said : List (InLine Field)) → SeesFields fs said → spaces_of_kept no_names fs ≡ spaces_said (map (λ s. s.value) said)
spaces_are fs said h = spaces_from [] fs said h
