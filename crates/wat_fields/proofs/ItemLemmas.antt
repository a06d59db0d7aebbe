-- What is met at a place.
use Rattle.std.proofs.Common.{◌≡◌, ℕ, zero, suc, ◌+◌, ◌≤◌, ◌<◌, true, List, [], ◌∷◌, length, drop, Option, Some, None, refl, ap, ◌∙◌, arith}
use Rattle.std.proofs.lemmas.Option.{slice_get_within}
use Rattle.std.specs.List.{slice_get}
use Rattle.std.specs.Option.{is_some, option_and_then}
use Rattle.wat_tokens.specs.Tokens as token
use Rattle.wat_tokens.specs.Tokens.{Token}
use Rattle.wat_fields.specs.Items.{Empty, Word, Text, Parts, in_front, parts_of}
use Rattle.wat_fields.specs.Remaining.{front_items, remaining}
use Rattle.wat_fields.proofs.PartLemmas.{front_at}

some_under : (t : Token) (o : Option Parts) → is_some (option_and_then (in_front t) o) ≡ true → is_some o ≡ true
some_under t None e = e
some_under t (Some parts) e = refl

-- behind balanced tokens' places are parts
some_below : (place : ℕ) (tokens : List Token) → is_some (parts_of tokens) ≡ true → is_some (parts_of (drop place tokens)) ≡ true
some_below zero tokens e = e
some_below (suc place) [] e = e
some_below (suc place) (t ∷ tokens) e = some_below place tokens (some_under t (parts_of tokens) e)

front_word : (bytes : List ℕ) (o : Option Parts) → is_some o ≡ true → front_items (option_and_then (in_front (token.Word bytes)) o) ≡ Word bytes (front_items o)
front_word bytes None e = cc
front_word bytes (Some parts) e = refl

front_text : (bytes : List ℕ) (o : Option Parts) → is_some o ≡ true → front_items (option_and_then (in_front (token.Text bytes)) o) ≡ Text bytes (front_items o)
front_text bytes None e = cc
front_text bytes (Some parts) e = refl

front_close : (o : Option Parts) → front_items (option_and_then (in_front token.Close) o) ≡ Empty
front_close None = refl
front_close (Some parts) = refl

pub meets_word : (tokens : List Token) (place : ℕ) (bytes : List ℕ) → is_some (parts_of tokens) ≡ true → slice_get tokens place ≡ Some (token.Word bytes) → remaining tokens place ≡ Word bytes (remaining tokens (place + 1))
unfolding remaining
meets_word tokens place bytes e is =
    ap (λ (tokens : List Token). front_items (parts_of tokens)) (front_at tokens place (token.Word bytes) is) ∙ front_word bytes (parts_of (drop (place + 1) tokens)) (some_below (place + 1) tokens e)

pub meets_text : (tokens : List Token) (place : ℕ) (bytes : List ℕ) → is_some (parts_of tokens) ≡ true → slice_get tokens place ≡ Some (token.Text bytes) → remaining tokens place ≡ Text bytes (remaining tokens (place + 1))
unfolding remaining
meets_text tokens place bytes e is =
    ap (λ (tokens : List Token). front_items (parts_of tokens)) (front_at tokens place (token.Text bytes) is) ∙ front_text bytes (parts_of (drop (place + 1) tokens)) (some_below (place + 1) tokens e)

pub meets_close : (tokens : List Token) (place : ℕ) → slice_get tokens place ≡ Some token.Close → remaining tokens place ≡ Empty
unfolding remaining
meets_close tokens place is =
    ap (λ (tokens : List Token). front_items (parts_of tokens)) (front_at tokens place token.Close is) ∙ front_close (parts_of (drop (place + 1) tokens))

past : (tokens : List Token) (place : ℕ) → slice_get tokens place ≡ None → drop place tokens ≡ []
past [] zero e = refl
past [] (suc place) e = refl
past (t ∷ tokens) zero e = cc
past (t ∷ tokens) (suc place) e = past tokens place e

pub meets_none : (tokens : List Token) (place : ℕ) → slice_get tokens place ≡ None → remaining tokens place ≡ Empty
unfolding remaining
meets_none tokens place e = ap (λ (tokens : List Token). front_items (parts_of tokens)) (past tokens place e)

pub leads_on : (tokens : List Token) (place : ℕ) (t : Token) → slice_get tokens place ≡ Some t → (place < place + 1) × (place + 1 ≤ length tokens) × Unit {0}
leads_on tokens place t is = let within : place < length tokens = slice_get_within tokens place t is in (omega arith, omega arith, tt)
