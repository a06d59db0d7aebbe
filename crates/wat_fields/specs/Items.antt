-- The fields into which parentheses part the tokens of a text: WebAssembly Core 1.0, section 6.1.
use Rattle.std.specs.Prelude.{ℕ, List, [], ◌∷◌, ◌++◌, Option, Some, None}
use Rattle.std.specs.Option.{option_and_then}
use Rattle.wat_tokens.specs.Tokens as token
use Rattle.wat_tokens.specs.Tokens.{Token}

-- Nothing; or a word, a string by the bytes that it stands for, or a group in parentheses, with the line of the one that opens
-- and what is inside; and what comes behind it.
pub data Items : Type 0 where
  Empty : Items
  Word : (bytes : List ℕ) (rest : Items) → Items
  Text : (bytes : List ℕ) (rest : Items) → Items
  Group : (line : ℕ) (inside rest : Items) → Items

-- the tokens that items are written with
abbrev pub flat : Items → List Token
flat Empty = []
flat (Word bytes rest) = token.Word bytes ∷ flat rest
flat (Text bytes rest) = token.Text bytes ∷ flat rest
flat (Group line inside rest) = token.Open line ∷ flat inside ++ token.Close ∷ flat rest

-- What tokens are: items up to the first parenthesis that closes a group which opens in front of them, or up to the end; and the
-- same of what stands behind that parenthesis, and so on.
pub record Parts : Type 0 where
  pub items : Items
  pub outer : List Items

-- behind a parenthesis that opens: none where its group doesn't close
abbrev pub opened : (line : ℕ) (inside : Items) → List Items → Option Parts
opened line inside [] = None
opened line inside (rest ∷ outer) = Some (record { items = Group line inside rest; outer = outer })

-- a token in front of others
abbrev pub in_front : Token → Parts → Option Parts
in_front (token.Open line) parts = opened line parts.items parts.outer
in_front token.Close parts = Some (record { items = Empty; outer = parts.items ∷ parts.outer })
in_front (token.Word bytes) parts = Some (record { items = Word bytes parts.items; outer = parts.outer })
in_front (token.Text bytes) parts = Some (record { items = Text bytes parts.items; outer = parts.outer })

abbrev pub parts_of : List Token → Option Parts
parts_of [] = Some (record { items = Empty; outer = [] })
parts_of (token ∷ tokens) = option_and_then (in_front token) (parts_of tokens)

-- all is one list of items: no parenthesis closes a group that doesn't open
abbrev pub whole : Items → List Items → Option Items
whole items [] = Some items
whole items (more ∷ outer) = None

-- The items of tokens whose parentheses are balanced, none of others. They are the items that are written with these tokens:
-- `items_of tokens ≡ Some items` exactly where `flat items ≡ tokens`.
unfoldable pub items_of : List Token → Option Items
items_of tokens = option_and_then (λ parts. whole parts.items parts.outer) (parts_of tokens)
