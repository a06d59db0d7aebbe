-- Items and the tokens that they are written with.
use Rattle.std.proofs.Common.{◌≡◌, ℕ, true, List, [], ◌∷◌, ◌++◌, Option, Some, None, refl, sym, ap, ◌∙◌}
use Rattle.std.proofs.lemmas.List.{append_assoc, append-nil}
use Rattle.std.specs.Option.{is_some, option_map, option_and_then}
use Rattle.wat_tokens.specs.Tokens as token
use Rattle.wat_tokens.specs.Tokens.{Token}
use Rattle.wat_fields.specs.Items.{Items, Empty, Word, Text, Group, flat, Parts, in_front, opened, parts_of, whole, items_of}

-- items in front of others
abbrev join : Items → Items → Items
join Empty more = more
join (Word bytes rest) more = Word bytes (join rest more)
join (Text bytes rest) more = Text bytes (join rest more)
join (Group line inside rest) more = Group line inside (join rest more)

join_empty : (items : Items) → join items Empty ≡ items
join_empty Empty = refl
join_empty (Word bytes rest) = ap (Word bytes) (join_empty rest)
join_empty (Text bytes rest) = ap (Text bytes) (join_empty rest)
join_empty (Group line inside rest) = ap (Group line inside) (join_empty rest)

abbrev joined : Items → Parts → Parts
joined items parts = record { items = join items parts.items; outer = parts.outer }

all_same : (o : Option Parts) → o ≡ option_map (joined Empty) o
all_same None = refl
all_same (Some parts) = refl

word_joined : (bytes : List ℕ) (rest : Items) (o : Option Parts) → option_and_then (in_front (token.Word bytes)) (option_map (joined rest) o) ≡ option_map (joined (Word bytes rest)) o
word_joined bytes rest None = refl
word_joined bytes rest (Some parts) = refl

text_joined : (bytes : List ℕ) (rest : Items) (o : Option Parts) → option_and_then (in_front (token.Text bytes)) (option_map (joined rest) o) ≡ option_map (joined (Text bytes rest)) o
text_joined bytes rest None = refl
text_joined bytes rest (Some parts) = refl

group_joined : (line : ℕ) (inside rest : Items) (o : Option Parts) → option_and_then (in_front (token.Open line)) (option_map (joined inside) (option_and_then (in_front token.Close) (option_map (joined rest) o))) ≡ option_map (joined (Group line inside rest)) o
group_joined line inside rest None = refl
group_joined line inside rest (Some parts) =
    let group : Items → Option Parts = λ inside. Some (record { items = Group line inside (join rest parts.items); outer = parts.outer }) in
    ap group (join_empty inside)

-- the parts of items in front of other tokens
flat_parts : (items : Items) (tokens : List Token) → parts_of (flat items ++ tokens) ≡ option_map (joined items) (parts_of tokens)
flat_parts Empty tokens = all_same (parts_of tokens)
flat_parts (Word bytes rest) tokens = ap (option_and_then (in_front (token.Word bytes))) (flat_parts rest tokens) ∙ word_joined bytes rest (parts_of tokens)
flat_parts (Text bytes rest) tokens = ap (option_and_then (in_front (token.Text bytes))) (flat_parts rest tokens) ∙ text_joined bytes rest (parts_of tokens)
flat_parts (Group line inside rest) tokens =
    let opening : Option Parts → Option Parts = option_and_then (in_front (token.Open line)) in
    ap (λ (tokens : List Token). opening (parts_of tokens)) (append_assoc (flat inside) (token.Close ∷ flat rest) tokens)
    ∙ ap opening (flat_parts inside (token.Close ∷ flat rest ++ tokens))
    ∙ ap (λ (o : Option Parts). opening (option_map (joined inside) (option_and_then (in_front token.Close) o))) (flat_parts rest tokens)
    ∙ group_joined line inside rest (parts_of tokens)

-- what the tokens of parts are
abbrev flat_outer : List Items → List Token
flat_outer [] = []
flat_outer (items ∷ outer) = token.Close ∷ flat items ++ flat_outer outer

abbrev flat_all : Option Parts → List Token
flat_all None = []
flat_all (Some parts) = flat parts.items ++ flat_outer parts.outer

opened_flat : (line : ℕ) (inside : Items) (outer : List Items) (tokens : List Token) → is_some (opened line inside outer) ≡ true → flat inside ++ flat_outer outer ≡ tokens → flat_all (opened line inside outer) ≡ token.Open line ∷ tokens
opened_flat line inside [] tokens some e = cc
opened_flat line inside (rest ∷ outer) tokens some e =
    ap (λ (tokens : List Token). token.Open line ∷ tokens) (append_assoc (flat inside) (token.Close ∷ flat rest) (flat_outer outer) ∙ e)

more_flat : (t : Token) (o : Option Parts) (tokens : List Token) → is_some (option_and_then (in_front t) o) ≡ true → (is_some o ≡ true → flat_all o ≡ tokens) → flat_all (option_and_then (in_front t) o) ≡ t ∷ tokens
more_flat t None tokens some e = cc
more_flat (token.Open line) (Some parts) tokens some e = opened_flat line parts.items parts.outer tokens some (e refl)
more_flat token.Close (Some parts) tokens some e = ap (λ (tokens : List Token). token.Close ∷ tokens) (e refl)
more_flat (token.Word bytes) (Some parts) tokens some e = ap (λ (tokens : List Token). token.Word bytes ∷ tokens) (e refl)
more_flat (token.Text bytes) (Some parts) tokens some e = ap (λ (tokens : List Token). token.Text bytes ∷ tokens) (e refl)

parts_flat : (tokens : List Token) → is_some (parts_of tokens) ≡ true → flat_all (parts_of tokens) ≡ tokens
parts_flat [] some = refl
parts_flat (t ∷ tokens) some = more_flat t (parts_of tokens) tokens some (parts_flat tokens)

abbrev whole_of : Option Parts → Option Items
whole_of o = option_and_then (λ parts. whole parts.items parts.outer) o

whole_some : (o : Option Parts) (items : Items) → whole_of o ≡ Some items → is_some o ≡ true
whole_some None items e = cc
whole_some (Some parts) items e = refl

whole_flat : (items : Items) (outer : List Items) (all : Items) → whole items outer ≡ Some all → flat items ++ flat_outer outer ≡ flat all
whole_flat items [] all e = let same : items ≡ all = cc in append-nil (flat items) ∙ ap flat same
whole_flat items (more ∷ outer) all e = cc

all_flat : (o : Option Parts) (items : Items) → whole_of o ≡ Some items → flat_all o ≡ flat items
all_flat None items e = cc
all_flat (Some parts) items e = whole_flat parts.items parts.outer items e

pub written : (tokens : List Token) (items : Items) → items_of tokens ≡ Some items → flat items ≡ tokens
unfolding items_of
written tokens items e = sym (all_flat (parts_of tokens) items e) ∙ parts_flat tokens (whole_some (parts_of tokens) items e)

pub read : (tokens : List Token) (items : Items) → flat items ≡ tokens → items_of tokens ≡ Some items
unfolding items_of
read tokens items e =
    let some : Items → Option Items = λ items. Some items in
    ap (λ (tokens : List Token). whole_of (parts_of tokens)) (sym e ∙ sym (append-nil (flat items)))
    ∙ ap whole_of (flat_parts items [])
    ∙ ap some (join_empty items)
