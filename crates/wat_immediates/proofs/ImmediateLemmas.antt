-- What is read in front of all items is read in front of the immediates.
use Rattle.std.proofs.Common.{◌≡◌, ℕ, Bool, true, false, cond, List, [], ◌++◌, Option, Some, None, refl, sym, ◌∙◌, ap, subst}
use Rattle.std.specs.Prelude.{codes, ◌||◌, Err}
use Rattle.std.specs.Option.{is_none, option_map, option_and_then}
use Rattle.std.specs.Str.{bytes_eq}
use Rattle.wasm_ast.specs.declared.types.ValType.{ValType}
use Rattle.wat_names.specs.Named.{named_by}
use Rattle.wat_tokens.specs.Tokens.{Token}
use Rattle.wat_fields.specs.declared.field_list.Item.{Item}
use Rattle.wat_fields.specs.Items.{Items, Empty, Word, Text, Group}
use Rattle.wat_fields.specs.Places.{in_front}
use Rattle.wat_syntax.specs.Parsed.{Reference, Variable}
use Rattle.wat_syntax.specs.Immediates.{Front, front, whole, group_of, one_type, one_reference, variables_of, variables_front, result_of, result_front, named_of, named_front, use_of, use_front}
use Rattle.wat_immediates.specs.InstructionForms.{is_immediate}
use Rattle.wat_syntax.specs.declared.parsed.Refusal.{Refusal}
use Rattle.wat_syntax.specs.Seen.{Reads, seen_front}
use Rattle.wat_immediates.specs.Rows.{immediates, past, ReadsFront}
use Rattle.wat_fields.specs.declared.field_list.Item.TheVariants as item
use Rattle.wat_syntax.specs.declared.parsed.Refusal.TheVariants as refusal

-- ---- what is read in front of immediates

abbrev pub cut : {A : Type 0} → Front A → Front A
cut f = front f.value (immediates f.rest)

-- what is read of the immediates is what is read of all items, and these come behind
abbrev pub Agrees : {A : Type 0} → Items → (inner outer : Option (Front A)) → Type 0
Agrees behind inner None = inner ≡ None
Agrees behind inner (Some f) = (inner ≡ Some (cut f)) × (past f.rest ≡ behind)

abbrev pub GroupAgrees : Items → (inner outer : Option (Items × Items)) → Type 0
GroupAgrees behind inner None = inner ≡ None
GroupAgrees behind inner (Some g) = (inner ≡ Some (g.0, immediates g.1)) × (past g.1 ≡ behind)

map_agrees : {A B : Type 0} (make : A → B) (behind : Items) (inner outer : Option (Front A)) → Agrees behind inner outer →
    Agrees behind (option_map (λ f. front (make f.value) f.rest) inner) (option_map (λ f. front (make f.value) f.rest) outer)
map_agrees make behind inner None e = ap (option_map (λ f. front (make f.value) f.rest)) e
map_agrees make behind inner (Some f) e = (ap (option_map (λ f. front (make f.value) f.rest)) e.0, e.1)

bind_agrees : {A B : Type 0} (k : Front A → Option (Front B)) (behind : Items) (inner outer : Option (Front A)) → Agrees behind inner outer →
    ((f : Front A) → Agrees (past f.rest) (k (cut f)) (k f)) → Agrees behind (option_and_then k inner) (option_and_then k outer)
bind_agrees k behind inner None e h = ap (option_and_then k) e
bind_agrees k behind inner (Some f) e h =
    subst (λ x. Agrees behind (option_and_then k x) (k f)) (sym e.0) (subst (λ q. Agrees q (k (cut f)) (k f)) e.1 (h f))

word_no_group : (k word : List ℕ) (rest : Items) (b : Bool) → group_of k (cond b (Word word rest) Empty) ≡ None
word_no_group k word rest true = refl
word_no_group k word rest false = refl

group_cases : (k keyword : List ℕ) (line : ℕ) (inside rest : Items) (b i : Bool) → bytes_eq keyword k ≡ b → (b ≡ true → i ≡ true) →
    GroupAgrees (cond i (past rest) (Group line (Word keyword inside) rest))
    (group_of k (cond i (Group line (Word keyword inside) (immediates rest)) Empty)) (cond b (Some (inside, rest)) None)
group_cases k keyword line inside rest true true e a = (ap (λ x. cond x (Some (inside, immediates rest)) None) e, refl)
group_cases k keyword line inside rest true false e a = let no : false ≡ true = a refl in absurd (cc)
group_cases k keyword line inside rest false true e a = ap (λ x. cond x (Some (inside, immediates rest)) None) e
group_cases k keyword line inside rest false false e a = refl

-- groups with these keywords are immediates
abbrev pub AreImmediates : List ℕ → Type 0
AreImmediates k = (keyword : List ℕ) → bytes_eq keyword k ≡ true → is_immediate keyword ≡ true

group_agrees : (k : List ℕ) → AreImmediates k → (items : Items) → GroupAgrees (past items) (group_of k (immediates items)) (group_of k items)
group_agrees k a (Word word rest) = word_no_group k word (immediates rest) (is_none (named_by word))
group_agrees k a (Group line (Word keyword inside) rest) = group_cases k keyword line inside rest (bytes_eq keyword k) (is_immediate keyword) refl (a keyword)
group_agrees k a items = refl

or_types : (a b c : Bool) → a ≡ true → (a || b || c) ≡ true
or_types true b c e = refl
or_types false b c e = cc

or_params : (a b c : Bool) → b ≡ true → (a || b || c) ≡ true
or_params false false c e = cc
or_params a b c e = refl

or_results : (a b c : Bool) → c ≡ true → (a || b || c) ≡ true
or_results false false c e = e
or_results a b c e = refl

types_are : AreImmediates (codes "type")
types_are keyword e = or_types (bytes_eq keyword (codes "type")) (bytes_eq keyword (codes "param")) (bytes_eq keyword (codes "result")) e

params_are : AreImmediates (codes "param")
params_are keyword e = or_params (bytes_eq keyword (codes "type")) (bytes_eq keyword (codes "param")) (bytes_eq keyword (codes "result")) e

results_are : AreImmediates (codes "result")
results_are keyword e = or_results (bytes_eq keyword (codes "type")) (bytes_eq keyword (codes "param")) (bytes_eq keyword (codes "result")) e

result_typed : (rest behind : Items) (t : Option ValType) → past rest ≡ behind →
    Agrees behind (option_map (λ of. front (Some of) (immediates rest)) t) (option_map (λ of. front (Some of) rest) t)
result_typed rest behind None e = refl
result_typed rest behind (Some t) e = (refl, e)

result_by : (items : Items) (inner outer : Option (Items × Items)) → GroupAgrees (past items) inner outer →
    Agrees (past items) (result_of (immediates items) inner) (result_of items outer)
result_by items inner None e = (ap (result_of (immediates items)) e, refl)
result_by items inner (Some g) e =
    subst (λ x. Agrees (past items) (result_of (immediates items) x) (result_of items (Some g))) (sym e.0) (result_typed g.1 (past items) (one_type g.0) e.1)

pub result_agrees : (items : Items) → Agrees (past items) (result_front (immediates items)) (result_front items)
result_agrees items =
    result_by items (group_of (codes "result") (immediates items)) (group_of (codes "result") items) (group_agrees (codes "result") results_are items)

named_as : (rest behind : Items) (x : Option Reference) → past rest ≡ behind →
    Agrees behind (option_map (λ of. front (Some of) (immediates rest)) x) (option_map (λ of. front (Some of) rest) x)
named_as rest behind None e = refl
named_as rest behind (Some x) e = (refl, e)

named_by_group : (items : Items) (inner outer : Option (Items × Items)) → GroupAgrees (past items) inner outer →
    Agrees (past items) (named_of (immediates items) inner) (named_of items outer)
named_by_group items inner None e = (ap (named_of (immediates items)) e, refl)
named_by_group items inner (Some g) e =
    subst (λ x. Agrees (past items) (named_of (immediates items) x) (named_of items (Some g))) (sym e.0) (named_as g.1 (past items) (one_reference g.0) e.1)

named_agrees : (items : Items) → Agrees (past items) (named_front (immediates items)) (named_front items)
named_agrees items =
    named_by_group items (group_of (codes "type") (immediates items)) (group_of (codes "type") items) (group_agrees (codes "type") types_are items)

word_no_variables : (k word : List ℕ) (rest : Items) (b : Bool) → variables_front k (cond b (Word word rest) Empty) ≡ Some (front [] (cond b (Word word rest) Empty))
word_no_variables k word rest true = refl
word_no_variables k word rest false = refl

-- variables of one group in front of more
abbrev pub more_variables : List ℕ → Items → Option (List Variable) → Option (Front (List Variable))
more_variables k rest vs = option_and_then (λ v. option_map (λ f. front (v ++ f.value) f.rest) (variables_front k rest)) vs

no_variables : (k keyword : List ℕ) (line : ℕ) (inside rest : Items) (i : Bool) → bytes_eq keyword k ≡ false →
    variables_front k (cond i (Group line (Word keyword inside) rest) Empty) ≡ Some (front [] (cond i (Group line (Word keyword inside) rest) Empty))
no_variables k keyword line inside rest true e = ap (λ b. cond b (more_variables k rest (variables_of inside)) (Some (front [] (Group line (Word keyword inside) rest)))) e
no_variables k keyword line inside rest false e = refl

variables_behind : (k : List ℕ) (rest : Items) (vs : Option (List Variable)) → Agrees (past rest) (variables_front k (immediates rest)) (variables_front k rest) →
    Agrees (past rest) (more_variables k (immediates rest) vs) (more_variables k rest vs)
variables_behind k rest None e = refl
variables_behind k rest (Some vs) e = map_agrees (λ v. vs ++ v) (past rest) (variables_front k (immediates rest)) (variables_front k rest) e

variables_there : (k keyword : List ℕ) (line : ℕ) (inside rest : Items) (i : Bool) → bytes_eq keyword k ≡ true → i ≡ true →
    Agrees (past rest) (variables_front k (immediates rest)) (variables_front k rest) →
    Agrees (cond i (past rest) (Group line (Word keyword inside) rest))
    (variables_front k (cond i (Group line (Word keyword inside) (immediates rest)) Empty)) (more_variables k rest (variables_of inside))
variables_there k keyword line inside rest true e i h =
    subst (λ b. Agrees (past rest) (cond b (more_variables k (immediates rest) (variables_of inside)) (Some (front [] (Group line (Word keyword inside) (immediates rest))))) (more_variables k rest (variables_of inside)))
    (sym e) (variables_behind k rest (variables_of inside) h)
variables_there k keyword line inside rest false e i h = absurd (cc)

variables_cases : (k : List ℕ) → AreImmediates k → (keyword : List ℕ) (line : ℕ) (inside rest : Items) (b : Bool) → bytes_eq keyword k ≡ b →
    Agrees (past rest) (variables_front k (immediates rest)) (variables_front k rest) →
    Agrees (past (Group line (Word keyword inside) rest)) (variables_front k (immediates (Group line (Word keyword inside) rest)))
    (cond b (more_variables k rest (variables_of inside)) (Some (front [] (Group line (Word keyword inside) rest))))
variables_cases k a keyword line inside rest true e h = variables_there k keyword line inside rest (is_immediate keyword) e (a keyword e) h
variables_cases k a keyword line inside rest false e h = (no_variables k keyword line inside (immediates rest) (is_immediate keyword) e, refl)

variables_agree : (k : List ℕ) → AreImmediates k → (items : Items) → Agrees (past items) (variables_front k (immediates items)) (variables_front k items)
variables_agree k a Empty = (refl, refl)
variables_agree k a (Word word rest) = (word_no_variables k word (immediates rest) (is_none (named_by word)), refl)
variables_agree k a (Text bytes rest) = (refl, refl)
variables_agree k a (Group line Empty rest) = (refl, refl)
variables_agree k a (Group line (Word keyword inside) rest) = variables_cases k a keyword line inside rest (bytes_eq keyword k) refl (variables_agree k a rest)
variables_agree k a (Group line (Text bytes inside) rest) = (refl, refl)
variables_agree k a (Group line (Group other within inside) rest) = (refl, refl)

pub use_agrees : (items : Items) → Agrees (past items) (use_front (immediates items)) (use_front items)
use_agrees items =
    bind_agrees (λ n. option_and_then (λ p. option_map (λ r. front (use_of n.value p.value r.value) r.rest) (result_front p.rest)) (variables_front (codes "param") n.rest))
    (past items) (named_front (immediates items)) (named_front items) (named_agrees items)
    (λ n. bind_agrees (λ p. option_map (λ r. front (use_of n.value p.value r.value) r.rest) (result_front p.rest)) (past n.rest)
    (variables_front (codes "param") (immediates n.rest)) (variables_front (codes "param") n.rest) (variables_agree (codes "param") params_are n.rest)
    (λ p. map_agrees (use_of n.value p.value) (past p.rest) (result_front (immediates p.rest)) (result_front p.rest) (result_agrees p.rest)))

-- ---- what is all of the immediates

whole_inner : {A : Type 0} (behind rest : Items) (inner : Option (Front A)) (v : A) → Agrees behind inner (Some (front v rest)) → immediates rest ≡ Empty → option_and_then whole inner ≡ Some v
whole_inner behind rest inner v a e = ap (option_and_then whole) a.0 ∙ ap (λ x. whole (front v x)) e

pub whole_there : {A : Type 0} (behind rest : Items) (inner outer : Option (Front A)) (v : A) → Agrees behind inner outer → outer ≡ Some (front v rest) →
    (immediates rest ≡ Empty) × (past rest ≡ rest) → (option_and_then whole inner ≡ Some v) × (rest ≡ behind)
whole_there behind rest inner outer v a o e =
    let b : Agrees behind inner (Some (front v rest)) = subst (λ x. Agrees behind inner x) o a in
    (whole_inner behind rest inner v b e.0, sym e.1 ∙ b.1)

pub whole_none : {A : Type 0} (behind : Items) (inner outer : Option (Front A)) → Agrees behind inner outer → outer ≡ None → option_and_then whole inner ≡ None
whole_none behind inner outer a o = ap (option_and_then whole) (subst (λ x. Agrees behind inner x) o a)

not_empty : {A : Type 0} (v : A) (tokens : List Token) (i : Item) (more : Items) → whole (front v (in_front tokens i more)) ≡ None
not_empty v tokens (item.Word word) more = refl
not_empty v tokens i more = refl

pub whole_more : {A : Type 0} (behind rest : Items) (inner outer : Option (Front A)) (v : A) (tokens : List Token) (i : Item) (more : Items) → Agrees behind inner outer →
    outer ≡ Some (front v rest) → immediates rest ≡ in_front tokens i more → option_and_then whole inner ≡ None
whole_more behind rest inner outer v tokens i more a o e =
    let b : Agrees behind inner (Some (front v rest)) = subst (λ x. Agrees behind inner x) o a in
    ap (option_and_then whole) b.0 ∙ ap (λ x. whole (front v x)) e ∙ not_empty v tokens i more

pub whole_refused : {A B : Type 0} (seen : A → B) (tokens : List Token) (items : Items) (inner outer : Option (Front B)) (why : Refusal) → Agrees (past items) inner outer →
    Reads (seen_front seen tokens) (Err why) outer → ReadsFront seen tokens items (Err why) (option_and_then whole inner)
whole_refused seen tokens items inner outer refusal.Form a o = whole_none (past items) inner outer a o
whole_refused seen tokens items inner outer refusal.Memory a o = tt
