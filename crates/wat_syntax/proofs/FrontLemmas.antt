-- Lists of groups in front of other items, one group after another.
use Rattle.std.proofs.Common.{◌≡◌, ℕ, Bool, true, false, cond, List, [], ◌∷◌, ◌++◌, Option, Some, None, refl, sym, ◌∙◌, ap, append_assoc}
use Rattle.std.specs.Option.{option_map, option_and_then}
use Rattle.std.specs.Str.{bytes_eq, is_utf8, IsUtf8}
use Rattle.std.proofs.lemmas.Str.{IsUtf8-from_is_utf8}
use Rattle.std.specs.Prelude.{codes}
use Rattle.wat_fields.specs.Items.{Items, Empty, Word, Text, Group}
use Rattle.wat_syntax.specs.Parsed.{Variable}
use Rattle.wat_syntax.specs.Immediates.{Front, front, group_of, variables_of, variables_front, exports_front, one_name}

-- more of a list in front of what is read
abbrev pub with_front : {A : Type 0} → List A → Front (List A) → Front (List A)
with_front xs f = front (xs ++ f.value) f.rest

abbrev pub variables_by : List ℕ → Items → Option (Items × Items) → Option (Front (List Variable))
variables_by of items None = Some (front [] items)
variables_by of items (Some g) = option_and_then (λ vs. option_map (with_front vs) (variables_front of g.1)) (variables_of g.0)

variables_case : (of : List ℕ) (b : Bool) (inside rest items : Items) →
    cond b (option_and_then (λ vs. option_map (with_front vs) (variables_front of rest)) (variables_of inside)) (Some (front [] items)) ≡ variables_by of items (cond b (Some (inside, rest)) None)
variables_case of true inside rest items = refl
variables_case of false inside rest items = refl

pub variables_are : (of : List ℕ) (items : Items) → variables_front of items ≡ variables_by of items (group_of of items)
variables_are of Empty = refl
variables_are of (Word word rest) = refl
variables_are of (Text bytes rest) = refl
variables_are of (Group line Empty rest) = refl
variables_are of (Group line (Word keyword inside) rest) = variables_case of (bytes_eq keyword of) inside rest (Group line (Word keyword inside) rest)
variables_are of (Group line (Text bytes inside) rest) = refl
variables_are of (Group line (Group other within inside) rest) = refl

abbrev pub exports_by : Items → Option (Items × Items) → Option (Front (List (List ℕ)))
exports_by items None = Some (front [] items)
exports_by items (Some g) = option_and_then (λ name. option_map (with_front (name ∷ [])) (exports_front g.1)) (one_name g.0)

exports_case : (b : Bool) (inside rest items : Items) →
    cond b (option_and_then (λ name. option_map (with_front (name ∷ [])) (exports_front rest)) (one_name inside)) (Some (front [] items)) ≡ exports_by items (cond b (Some (inside, rest)) None)
exports_case true inside rest items = refl
exports_case false inside rest items = refl

pub exports_are : (items : Items) → exports_front items ≡ exports_by items (group_of (codes "export") items)
exports_are Empty = refl
exports_are (Word word rest) = refl
exports_are (Text bytes rest) = refl
exports_are (Group line Empty rest) = refl
exports_are (Group line (Word keyword inside) rest) = exports_case (bytes_eq keyword (codes "export")) inside rest (Group line (Word keyword inside) rest)
exports_are (Group line (Text bytes inside) rest) = refl
exports_are (Group line (Group other within inside) rest) = refl

-- ---- a turn of a loop that reads them

joined : {A : Type 0} (acc vs new : List A) (rest : Option (Front (List A))) → acc ++ vs ≡ new → option_map (with_front acc) (option_map (with_front vs) rest) ≡ option_map (with_front new) rest
joined acc vs new None e = refl
joined acc vs new (Some f) e = ap (λ x. Some (front x f.rest)) (sym (append_assoc acc vs f.value) ∙ ap (λ x. x ++ f.value) e)

some_more : {A : Type 0} (acc new : List A) (more : Option (List A)) (rest : Option (Front (List A))) → option_map (λ m. acc ++ m) more ≡ Some new →
    option_map (with_front acc) (option_and_then (λ vs. option_map (with_front vs) rest) more) ≡ option_map (with_front new) rest
some_more acc new None rest e = cc
some_more acc new (Some vs) rest e = joined acc vs new rest (cc)

pub variables_more : (of : List ℕ) (items inside rest : Items) (all : Option (Front (List Variable))) (acc new : List Variable) → all ≡ option_map (with_front acc) (variables_front of items) →
    Some (inside, rest) ≡ group_of of items → option_map (λ m. acc ++ m) (variables_of inside) ≡ Some new → all ≡ option_map (with_front new) (variables_front of rest)
variables_more of items inside rest all acc new h g e =
    h ∙ ap (option_map (with_front acc)) (variables_are of items ∙ ap (variables_by of items) (sym g)) ∙ some_more acc new (variables_of inside) (variables_front of rest) e

pub exports_more : (items inside rest : Items) (name : List ℕ) (all : Option (Front (List (List ℕ)))) (acc : List (List ℕ)) → all ≡ option_map (with_front acc) (exports_front items) →
    Some (inside, rest) ≡ group_of (codes "export") items → one_name inside ≡ Some name → all ≡ option_map (with_front (acc ++ name ∷ [])) (exports_front rest)
exports_more items inside rest name all acc h g e =
    h ∙ ap (option_map (with_front acc)) (exports_are items ∙ ap (exports_by items) (sym g) ∙ ap (option_and_then (λ n. option_map (with_front (n ∷ [])) (exports_front rest))) e)
    ∙ joined acc (name ∷ []) (acc ++ name ∷ []) (exports_front rest) refl

-- a test that fails shows the contrary
pub not_utf8 : (bs : List ℕ) → (IsUtf8 bs → ⊥) → false ≡ is_utf8 bs
not_utf8 bs h = by (is_utf8 bs) refl
  where
    by : (b : Bool) → is_utf8 bs ≡ b → false ≡ is_utf8 bs
    by true e = absurd (h (IsUtf8-from_is_utf8 bs e))
    by false e = sym e
