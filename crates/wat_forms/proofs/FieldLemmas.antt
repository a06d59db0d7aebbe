-- The fields of groups, by what stands in front of them.
use Rattle.std.proofs.Common.{◌≡◌, ℕ, Bool, true, false, cond, List, [], ◌∷◌, ◌++◌, Option, Some, None, Result, Ok, Err, refl, sym, ◌∙◌, ap, subst, append_assoc}
use Rattle.std.specs.List.{list_any}
use Rattle.std.specs.Option.{is_some, option_map}
use Rattle.std.proofs.lemmas.Option.{same_Some}
use Rattle.std.proofs.lemmas.List.{append-nil}
use Rattle.wat_tokens.specs.Tokens.{Token}
use Rattle.wat_fields.specs.declared.field_list.Item.{Item}
use Rattle.wat_fields.specs.declared.field_list.Place.{Place}
use Rattle.wat_fields.specs.Places.{in_front}
use Rattle.wat_fields.specs.Items.{Items, Empty, Word, Text, Group}
use Rattle.wat_forms.specs.declared.field_list.Before.{Before}
use Rattle.wat_syntax.specs.declared.field.FieldInLine.{FieldInLine}
use Rattle.wat_forms.specs.declared.fault.FormFault.{FormFault}
use Rattle.wat_syntax.specs.Parsed.{Field, InLine}
use Rattle.wat_forms.specs.FieldForms.{field_of}
use Rattle.wat_forms.specs.Fields.{groups_of, is_own, is_start, is_misplaced, if_placed, with_field, fields_of}
use Rattle.wat_syntax.specs.Seen.{at_place}
use Rattle.wat_syntax.specs.SeenFields.{SeesField, SeesFields}
use Rattle.wat_forms.specs.ReadFields.{ReadsInLine, ReadsFields, behind, placed}
use Rattle.wat_fields.specs.declared.field_list.Item.TheVariants as item
use Rattle.wat_forms.specs.declared.fault.FormFault.TheVariants as fault

-- what stands in front, of a list of fields
abbrev pub of_fields : List Field → Before
of_fields before = record { own = list_any is_own before; start = list_any is_start before }

abbrev pub and_further : ℕ → Option Field → (Field → Result (List (InLine Field)) ℕ) → Result (List (InLine Field)) ℕ
and_further line None more = Err line
and_further line (Some f) more = with_field line f (more f)

-- the fields of groups behind others; what is no group doesn't come
abbrev pub fields_from : Before → Items → Result (List (InLine Field)) ℕ
fields_from before Empty = Ok []
fields_from before (Group line inside rest) = and_further line (placed before (field_of inside)) (λ f. fields_from (behind before f) rest)
fields_from before (Word word rest) = Ok []
fields_from before (Text bytes rest) = Ok []

-- fields in front of others
abbrev pub after : List (InLine Field) → Result (List (InLine Field)) ℕ → Result (List (InLine Field)) ℕ
after front (Err line) = Err line
after front (Ok fs) = Ok (front ++ fs)

-- ---- what is asked of the fields in front is known of them

placed_case : (line : ℕ) (b : Bool) (f : Field) (K L : Field → Result (List (InLine Field)) ℕ) → K f ≡ L f →
    cond b (Err line) (with_field line f (K f)) ≡ and_further line (cond b None (Some f)) L
placed_case line true f K L e = refl
placed_case line false f K L e = ap (with_field line f) e

placed_so : (before : List Field) (line : ℕ) (o : Option Field) (K L : Field → Result (List (InLine Field)) ℕ) → ((f : Field) → K f ≡ L f) →
    if_placed before line o (λ f. with_field line f (K f)) ≡ and_further line (placed (of_fields before) o) L
placed_so before line None K L e = refl
placed_so before line (Some f) K L e = placed_case line (is_misplaced before f) f K L (e f)

pub from_list : (before : List Field) (items : Items) (groups : List (InLine Items)) → groups_of items ≡ Some groups →
    fields_of before groups ≡ fields_from (of_fields before) items
from_list before Empty groups e = subst (λ gs. fields_of before gs ≡ Ok []) (same_Some [] groups e) refl
from_list before (Group line inside rest) groups e = by (groups_of rest) e (λ f gs g. from_list (f ∷ before) rest gs g)
  where
    by : (o : Option (List (InLine Items))) → option_map (λ gs. record { line = line; value = inside } ∷ gs) o ≡ Some groups →
        ((f : Field) (gs : List (InLine Items)) → o ≡ Some gs → fields_of (f ∷ before) gs ≡ fields_from (of_fields (f ∷ before)) rest) →
        fields_of before groups ≡ fields_from (of_fields before) (Group line inside rest)
    by None h ih = cc
    by (Some gs) h ih =
        subst (λ all. fields_of before all ≡ fields_from (of_fields before) (Group line inside rest)) (same_Some _ groups h)
        (placed_so before line (field_of inside) (λ f. fields_of (f ∷ before) gs) (λ f. fields_from (behind (of_fields before) f) rest) (λ f. ih f gs refl))
from_list before items groups e = cc

-- ---- a field more

after_more : (acc : List (InLine Field)) (line : ℕ) (f : Field) (more : Result (List (InLine Field)) ℕ) →
    after acc (with_field line f more) ≡ after (acc ++ record { line = line; value = f } ∷ []) more
after_more acc line f (Err other) = refl
after_more acc line f (Ok fs) = ap Ok (sym (append_assoc acc (record { line = line; value = f } ∷ []) fs))

pub sees_more : (xs : List FieldInLine) (acc : List (InLine Field)) (x : FieldInLine) (said : InLine Field) → SeesFields xs acc →
    said.line ≡ x.line → SeesField x.field said.value → SeesFields (xs ++ x ∷ []) (acc ++ said ∷ [])
sees_more [] [] x said h l s = (l, s, h)
sees_more (y ∷ xs) (other ∷ acc) x said h l s = (h.0, h.1, sees_more xs acc x said h.2 l s)
sees_more xs acc x said h l s = absurd h

some_map : {A B : Type 0} (f : A → B) (o : Option A) → is_some (option_map f o) ≡ is_some o
some_map f None = refl
some_map f (Some a) = refl

-- ---- what is known at a place of the loop over the groups

-- the fields up to a place, and what stands in front of the next
abbrev pub ReadSoFar : (all items : Items) → Before → List FieldInLine → List (InLine Field) → Type 0
ReadSoFar all items before xs said =
    SeesFields xs said × (fields_from (of_fields []) all ≡ after said (fields_from before items)) × (is_some (groups_of all) ≡ is_some (groups_of items))

wrong_field : (all items inside rest : Items) (line : ℕ) (before : Before) (xs : List FieldInLine) (said : List (InLine Field)) (groups : List (InLine Items)) →
    groups_of all ≡ Some groups → ReadSoFar all items before xs said → items ≡ Group line inside rest → placed before (field_of inside) ≡ None →
    fields_of [] groups ≡ Err line
wrong_field all items inside rest line before xs said groups g h m n =
    from_list [] all groups g ∙ h.1 ∙ ap (λ is. after said (fields_from before is)) m
    ∙ ap (λ o. after said (and_further line o (λ f. fields_from (behind before f) rest))) n

pub wrong_fields : (all items inside rest : Items) (line : ℕ) (before : Before) (xs : List FieldInLine) (said : List (InLine Field)) (groups : List (InLine Items)) (why : FormFault) →
    groups_of all ≡ Some groups → ReadSoFar all items before xs said → items ≡ Group line inside rest → ReadsInLine line (Err why) (placed before (field_of inside)) →
    ReadsFields (Err why) (fields_of [] groups)
wrong_fields all items inside rest line before xs said groups (fault.Form at) g h m n =
    wrong_field all items inside rest line before xs said groups g h m n.1 ∙ ap Err (sym n.0)
wrong_fields all items inside rest line before xs said groups fault.Memory g h m n = n

pub no_more : (all items : Items) (before : Before) (xs : List FieldInLine) (said : List (InLine Field)) (groups : List (InLine Items)) →
    groups_of all ≡ Some groups → ReadSoFar all items before xs said → items ≡ Empty → fields_of [] groups ≡ Ok said
no_more all items before xs said groups g h m =
    from_list [] all groups g ∙ h.1 ∙ ap (λ is. after said (fields_from before is)) m ∙ ap Ok (append-nil said)

pub one_more : (all items inside rest : Items) (line : ℕ) (before next : Before) (xs new : List FieldInLine) (x : FieldInLine) (said : List (InLine Field)) (f : Field) →
    ReadSoFar all items before xs said → items ≡ Group line inside rest → placed before (field_of inside) ≡ Some f → line ≡ x.line → SeesField x.field f →
    next ≡ behind before f → new ≡ xs ++ x ∷ [] → ReadSoFar all rest next new (said ++ record { line = line; value = f } ∷ [])
one_more all items inside rest line before next xs new x said f h m p l s n e = (
  subst (λ ys. SeesFields ys (said ++ record { line = line; value = f } ∷ [])) (sym e) (sees_more xs said x (record { line = line; value = f }) h.0 l s),
  h.1 ∙ ap (λ is. after said (fields_from before is)) m
      ∙ ap (λ o. after said (and_further line o (λ g. fields_from (behind before g) rest))) p
      ∙ after_more said line f (fields_from (behind before f) rest)
      ∙ ap (λ b. after (said ++ record { line = line; value = f } ∷ []) (fields_from b rest)) (sym n),
  h.2 ∙ ap (λ is. is_some (groups_of is)) m ∙ some_map _ (groups_of rest),
)

-- a group that is met
pub met_group : (tokens : List Token) (items rest : Items) (i : Item) (line : ℕ) (inside : Place) → items ≡ in_front tokens i rest → i ≡ item.Group line inside →
    items ≡ Group line (at_place tokens inside) rest
met_group tokens items rest i line inside m e = m ∙ ap (λ j. in_front tokens j rest) e
