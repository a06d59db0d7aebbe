-- The words and groups that stand behind a keyword: indices, types, uses of types and their like (WebAssembly Core 1.0, sections
-- 6.3 to 6.6).
use Rattle.std.specs.Prelude.{ℕ, Bool, true, false, if◌then◌else◌, List, [], ◌∷◌, ◌++◌, codes, Option, Some, None}
use Rattle.std.specs.Option.{option_map, option_and_then}
use Rattle.std.specs.Str.{bytes_eq, is_utf8}
use Rattle.wasm_ast.specs.declared.types.ValType.{ValType}
use Rattle.wasm_ast.specs.declared.types.ValType.TheVariants.{I32, I64}
use Rattle.wat_words.specs.Words.{is_identifier}
use Rattle.wat_words.specs.Numbers.{u32_of}
use Rattle.wat_fields.specs.Items.{Items, Empty, Word, Text, Group}
use Rattle.wat_syntax.specs.Parsed.{Identifier, Reference, Number, Named, Variable, TypeUse}

-- an index or an identifier
abbrev pub reference_of : List ℕ → Option Reference
reference_of word = if is_identifier word then Some (Named word) else option_map Number (u32_of word)

-- a value type; those of floating-point numbers are unknown words (6.4.1)
abbrev pub type_of : List ℕ → Option ValType
type_of word = if bytes_eq word (codes "i32") then Some I32 else (if bytes_eq word (codes "i64") then Some I64 else None)

-- ---- items that are all of a group

-- nothing
abbrev pub is_empty : Items → Bool
is_empty Empty = true
is_empty items = false

-- a word alone
abbrev pub one_word : Items → Option (List ℕ)
one_word (Word word Empty) = Some word
one_word items = None

abbrev pub one_type : Items → Option ValType
one_type items = option_and_then type_of (one_word items)

abbrev pub one_reference : Items → Option Reference
one_reference items = option_and_then reference_of (one_word items)

-- a name of an import or an export is UTF-8 (6.3.4)
abbrev pub name_of : List ℕ → Option (List ℕ)
name_of bytes = if is_utf8 bytes then Some bytes else None

abbrev pub one_name : Items → Option (List ℕ)
one_name (Text bytes Empty) = name_of bytes
one_name items = None

abbrev pub variable : Identifier → ValType → Variable
variable name of = record { name = name; of = of }

-- `t*`
abbrev pub types_of : Items → Option (List Variable)
types_of Empty = Some []
types_of (Word word rest) = option_and_then (λ of. option_map (λ vs. variable None of ∷ vs) (types_of rest)) (type_of word)
types_of items = None

-- `$id t`
abbrev pub named_variable : List ℕ → Items → Option (List Variable)
named_variable name items = option_map (λ of. variable (Some name) of ∷ []) (one_type items)

-- `t*`, or `$id t` (6.4.3)
abbrev pub variables_of : Items → Option (List Variable)
variables_of (Word word rest) = if is_identifier word then named_variable word rest else types_of (Word word rest)
variables_of items = types_of items

-- ---- what stands in front of other items

-- a word, and the items behind it
abbrev pub word_front : Items → Option (List ℕ × Items)
word_front (Word word rest) = Some (word, rest)
word_front items = None

-- a string, and the items behind it
abbrev pub text_front : Items → Option (List ℕ × Items)
text_front (Text bytes rest) = Some (bytes, rest)
text_front items = None

-- what is inside a group, and the items behind it
abbrev pub group_front : Items → Option (Items × Items)
group_front (Group line inside rest) = Some (inside, rest)
group_front items = None

-- a group that begins with a word: that word, the items behind it in the group, and those behind the group
pub record Keyed : Type 0 where
  pub keyword : List ℕ
  pub inside : Items
  pub rest : Items

abbrev pub keyed : Items → Option Keyed
keyed (Group line (Word keyword inside) rest) = Some (record { keyword = keyword; inside = inside; rest = rest })
keyed items = None

-- what is read in front, and the items behind it
pub record Front (A : Type 0) : Type 0 where
  pub value : A
  pub rest : Items

abbrev pub front : {A : Type 0} → A → Items → Front A
front value rest = record { value = value; rest = rest }

-- all of the items
abbrev pub whole : {A : Type 0} → Front A → Option A
whole f = if is_empty f.rest then Some f.value else None

-- `$id?`
abbrev pub identifier_front : Items → Front Identifier
identifier_front (Word word rest) = if is_identifier word then front (Some word) rest else front None (Word word rest)
identifier_front items = front None items

-- `(export "n")*`: none where one of them has no form
abbrev pub exports_front : Items → Option (Front (List (List ℕ)))
exports_front (Group line (Word keyword inside) rest) =
    if bytes_eq keyword (codes "export")
    then option_and_then (λ name. option_map (λ f. front (name ∷ f.value) f.rest) (exports_front rest)) (one_name inside)
    else Some (front [] (Group line (Word keyword inside) rest))
exports_front items = Some (front [] items)

-- `(param ..)*` or `(local ..)*`
abbrev pub variables_front : (keyword : List ℕ) → Items → Option (Front (List Variable))
variables_front of (Group line (Word keyword inside) rest) =
    if bytes_eq keyword of
    then option_and_then (λ vs. option_map (λ f. front (vs ++ f.value) f.rest) (variables_front of rest)) (variables_of inside)
    else Some (front [] (Group line (Word keyword inside) rest))
variables_front of items = Some (front [] items)

-- a group that begins with this keyword: what is inside behind that, and the items behind the group
abbrev pub group_of : (keyword : List ℕ) → Items → Option (Items × Items)
group_of of (Group line (Word keyword inside) rest) = if bytes_eq keyword of then Some (inside, rest) else None
group_of of items = None

-- `(result t)?`: none where it has no form
abbrev pub result_of : Items → Option (Items × Items) → Option (Front (Option ValType))
result_of items None = Some (front None items)
result_of items (Some g) = option_map (λ of. front (Some of) g.1) (one_type g.0)

abbrev pub result_front : Items → Option (Front (Option ValType))
result_front items = result_of items (group_of (codes "result") items)

-- `(type x)?`: none where it has no form
abbrev pub named_of : Items → Option (Items × Items) → Option (Front (Option Reference))
named_of items None = Some (front None items)
named_of items (Some g) = option_map (λ x. front (Some x) g.1) (one_reference g.0)

abbrev pub named_front : Items → Option (Front (Option Reference))
named_front items = named_of items (group_of (codes "type") items)

-- `(type x)? (param ..)* (result t)?` (6.6.3)
abbrev pub use_of : Option Reference → List Variable → Option ValType → TypeUse
use_of named params of = record { named = named; params = params; result = of }

abbrev pub use_front : Items → Option (Front TypeUse)
use_front items =
    option_and_then (λ n.
    option_and_then (λ p.
    option_map (λ r. front (use_of n.value p.value r.value) r.rest) (result_front p.rest)) (variables_front (codes "param") n.rest)) (named_front items)
