-- The labels of a branch by a table, the last of which is the default.
use Rattle.std.proofs.Common.{◌≡◌, List, [], ◌∷◌, ◌++◌, map, Option, Some, None, refl, ◌∙◌, ap}
use Rattle.std.proofs.lemmas.List.{map-append}
use Rattle.std.specs.Prelude.{Err}
use Rattle.std.specs.Option.{option_map, option_and_then}
use Rattle.wat_tokens.specs.Tokens.{Token}
use Rattle.wat_fields.specs.Items.{Items, Empty, Word, Text, Group}
use Rattle.wat_syntax.specs.declared.parsed.Refusal.{Refusal}
use Rattle.wat_syntax.specs.Parsed.{Reference, Plain, BrTable}
use Rattle.wat_syntax.specs.Immediates.{reference_of}
use Rattle.wat_immediates.specs.PlainForms.{with_label, table}
use Rattle.wat_immediates.specs.PlainForms.{references_of}
use Rattle.wat_syntax.specs.Flat.{seen_plain}
use Rattle.wat_immediates.specs.Rows.{immediates, ReadsFront}
use Rattle.wat_syntax.specs.Seen.{seen_reference}
use Rattle.wat_syntax.specs.declared.parsed.Refusal.TheVariants as refusal
use Rattle.wat_syntax.specs.declared.parsed.Reference as kept

-- the branch of labels, at least one
abbrev pub table_by : List Reference → Option Plain
table_by [] = None
table_by (x ∷ []) = Some (BrTable [] x)
table_by (x ∷ y ∷ xs) = option_map (with_label x) (table_by (y ∷ xs))

one_label : (x : Option Reference) → option_map (λ d. BrTable [] d) x ≡ option_and_then table_by (option_and_then (λ r. option_map (λ xs. r ∷ xs) (Some [])) x)
one_label None = refl
one_label (Some x) = refl

no_label : (x : Option Reference) → option_and_then (λ l. option_map (with_label l) None) x ≡ option_and_then table_by (option_and_then (λ r. option_map (λ xs. r ∷ xs) None) x)
no_label None = refl
no_label (Some x) = refl

first_label : (x : Reference) (y : Option Reference) (ys : Option (List Reference)) →
    option_map (with_label x) (option_and_then table_by (option_and_then (λ r. option_map (λ xs. r ∷ xs) ys) y))
    ≡ option_and_then table_by (option_map (λ xs. x ∷ xs) (option_and_then (λ r. option_map (λ xs. r ∷ xs) ys) y))
first_label x (Some y) None = refl
first_label x y ys = refl

more_labels : (x y : Option Reference) (ys : Option (List Reference)) (t : Option Plain) → t ≡ option_and_then table_by (option_and_then (λ r. option_map (λ xs. r ∷ xs) ys) y) →
    option_and_then (λ l. option_map (with_label l) t) x
    ≡ option_and_then table_by (option_and_then (λ r. option_map (λ xs. r ∷ xs) (option_and_then (λ q. option_map (λ xs. q ∷ xs) ys) y)) x)
more_labels None y ys t e = refl
more_labels (Some x) y ys t e = ap (option_map (with_label x)) e ∙ first_label x y ys

table_is : (items : Items) → table items ≡ option_and_then table_by (references_of items)
table_is (Word word Empty) = one_label (reference_of word)
table_is (Word word (Word other rest)) = more_labels (reference_of word) (reference_of other) (references_of rest) (table (Word other rest)) (table_is (Word other rest))
table_is (Word word (Text bytes rest)) = no_label (reference_of word)
table_is (Word word (Group line inside rest)) = no_label (reference_of word)
table_is items = refl

table_last : (xs : List Reference) (x : Reference) → table_by (xs ++ x ∷ []) ≡ Some (BrTable xs x)
table_last (y ∷ z ∷ xs) x = ap (option_map (with_label y)) (table_last (z ∷ xs) x)
table_last xs x = refl

pub table_there : (items : Items) (labels front : List kept.Reference) (default : kept.Reference) → references_of items ≡ Some (map seen_reference labels) → labels ≡ front ++ default ∷ [] →
    table items ≡ Some (BrTable (map seen_reference front) (seen_reference default))
table_there items labels front default e p =
    table_is items ∙ ap (option_and_then table_by) (e ∙ ap (λ xs. Some (map seen_reference xs)) p ∙ ap Some (map-append seen_reference front (default ∷ [])))
    ∙ table_last (map seen_reference front) (seen_reference default)

pub table_none : (items : Items) (labels : List kept.Reference) → references_of items ≡ Some (map seen_reference labels) → labels ≡ [] → table items ≡ None
table_none items labels e p = table_is items ∙ ap (option_and_then table_by) (e ∙ ap (λ xs. Some (map seen_reference xs)) p)

pub table_refused : {A : Type 0} (seen : A → List Reference) (tokens : List Token) (items : Items) (why : Refusal) →
    ReadsFront seen tokens items (Err why) (references_of (immediates items)) → ReadsFront seen_plain tokens items (Err why) (table (immediates items))
table_refused seen tokens items refusal.Form e = table_is (immediates items) ∙ ap (option_and_then table_by) e
table_refused seen tokens items refusal.Memory e = tt
