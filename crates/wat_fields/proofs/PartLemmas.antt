-- Tokens parted, from their end to their start.
use Rattle.std.proofs.Common.{◌≡◌, ℕ, zero, suc, ◌+◌, ◌≤◌, ◌<◌, ◌^◌, List, [], ◌∷◌, ◌++◌, map, length, reverse, drop, get_or, set, Option, Some, None, Err, sym, ap, subst, ◌∙◌, arith}
use Rattle.std.proofs.Math.ListN.{drop_of_length-le, length-set}
use Rattle.std.proofs.lemmas.List.{get_or-set_same, get_or-set_other, nil_from_length, length-reverse, reverse-append}
use Rattle.std.proofs.lemmas.Option.{slice_get_past}
use Rattle.std.specs.List.{slice_get, AllByRecursion}
use Rattle.std.specs.Option.{is_some, option_and_then}
use Rattle.wat_tokens.specs.Tokens as token
use Rattle.wat_tokens.specs.Tokens.{Token}
use Rattle.wat_fields.specs.Items.{Items, Empty, Word, Text, Group, Parts, in_front, parts_of, whole, items_of}
use Rattle.wat_fields.specs.Remaining.{front_items, remaining}
use Rattle.wat_fields.specs.Closings.{Closes, IsParted, IsPartedFrom}
use Rattle.wat_fields.specs.Parting.{IsRefused, PartsFrom}
use Rattle.wat_fields.specs.declared.fault.FieldsFault.{FieldsFault}
use Rattle.wat_fields.specs.declared.fault.FieldsFault.TheVariants.{Unbalanced, Memory}

-- the token at a place stands in front of what is behind it
pub front_at : (tokens : List Token) (place : ℕ) (t : Token) → slice_get tokens place ≡ Some t → drop place tokens ≡ t ∷ drop (place + 1) tokens
front_at [] place t e = cc
front_at (first ∷ rest) zero t e = let same : first ≡ t = cc in ap (λ (x : Token). x ∷ rest) same
front_at (first ∷ rest) (suc place) t e =
    let one : suc (place + 1) ≡ suc place + 1 = omega arith in
    front_at rest place t e ∙ ap (λ (k : ℕ). t ∷ drop k (first ∷ rest)) one

abbrev some_parts : Items → List Items → Option Parts
some_parts items outer = Some (record { items = items; outer = outer })

-- the items at a place are those of its parts
found : (tokens : List Token) (place : ℕ) (items : Items) (outer : List Items) → parts_of (drop place tokens) ≡ some_parts items outer → remaining tokens place ≡ items
unfolding remaining
found tokens place items outer e = ap front_items e

found_parts : (tokens : List Token) (place : ℕ) (items : Items) (outer : List Items) → parts_of (drop place tokens) ≡ some_parts items outer → parts_of (drop place tokens) ≡ some_parts (remaining tokens place) outer
found_parts tokens place items outer e = e ∙ ap (λ (items : Items). some_parts items outer) (sym (found tokens place items outer e))

-- the parts of one token more
more_parts : (tokens : List Token) (place : ℕ) (t : Token) (items : Items) (outer : List Items) → slice_get tokens place ≡ Some t → parts_of (drop (place + 1) tokens) ≡ some_parts items outer → parts_of (drop place tokens) ≡ in_front t (record { items = items; outer = outer })
more_parts tokens place t items outer is e = ap parts_of (front_at tokens place t is) ∙ ap (option_and_then (in_front t)) e

abbrev After : List Token → ℕ → ℕ → Type 0
After tokens place closing = (place ≤ closing) × (closing < length tokens)

earlier : (tokens : List Token) (place : ℕ) (outer : List ℕ) → AllByRecursion (After tokens (place + 1)) outer → AllByRecursion (After tokens place) outer
earlier tokens place [] h = tt
earlier tokens place (closing ∷ outer) h = ((let low : place + 1 ≤ closing = h.0.0 in let lower : place ≤ closing = omega arith in lower, h.0.1), earlier tokens place outer h.1)

-- one place more at which groups close
more_closed : (tokens : List Token) (place : ℕ) (closings : List ℕ) → Closes tokens place (get_or closings place 0) → ((k : ℕ) → Closes tokens (place + 1 + k) (get_or closings (place + 1 + k) 0)) → (k : ℕ) → Closes tokens (place + k) (get_or closings (place + k) 0)
more_closed tokens place closings here later zero =
    let same : place ≡ place + 0 = omega arith in subst (λ (q : ℕ). Closes tokens q (get_or closings q 0)) same here
more_closed tokens place closings here later (suc k) =
    let same : place + 1 + k ≡ place + suc k = omega arith in subst (λ (q : ℕ). Closes tokens q (get_or closings q 0)) same (later k)

abbrev after : List Token → List ℕ → List Items
after tokens outer = map (λ closing. remaining tokens (closing + 1)) outer

pub word_step : (tokens : List Token) (place : ℕ) (closings outer bytes : List ℕ) → slice_get tokens place ≡ Some (token.Word bytes) → IsPartedFrom tokens (place + 1) closings outer → IsPartedFrom tokens place closings outer
word_step tokens place closings outer bytes is p = record {
  counted = p.counted;
  parts = found_parts tokens place (Word bytes (remaining tokens (place + 1))) (after tokens outer) (more_parts tokens place (token.Word bytes) (remaining tokens (place + 1)) (after tokens outer) is p.parts);
  within = earlier tokens place outer p.within;
  close = more_closed tokens place closings (λ line e. cc) p.close;
}

pub text_step : (tokens : List Token) (place : ℕ) (closings outer bytes : List ℕ) → slice_get tokens place ≡ Some (token.Text bytes) → IsPartedFrom tokens (place + 1) closings outer → IsPartedFrom tokens place closings outer
text_step tokens place closings outer bytes is p = record {
  counted = p.counted;
  parts = found_parts tokens place (Text bytes (remaining tokens (place + 1))) (after tokens outer) (more_parts tokens place (token.Text bytes) (remaining tokens (place + 1)) (after tokens outer) is p.parts);
  within = earlier tokens place outer p.within;
  close = more_closed tokens place closings (λ line e. cc) p.close;
}

pub close_step : (tokens : List Token) (place : ℕ) (closings outer : List ℕ) → place < length tokens → slice_get tokens place ≡ Some token.Close → IsPartedFrom tokens (place + 1) closings outer → IsPartedFrom tokens place closings (place ∷ outer)
close_step tokens place closings outer h is p = record {
  counted = p.counted;
  parts = found_parts tokens place Empty (after tokens (place ∷ outer)) (more_parts tokens place token.Close (remaining tokens (place + 1)) (after tokens outer) is p.parts);
  within = ((omega arith, h), earlier tokens place outer p.within);
  close = more_closed tokens place closings (λ line e. cc) p.close;
}

pub open_step : (tokens : List Token) (place line closing : ℕ) (closings outer : List ℕ) → place < length tokens → slice_get tokens place ≡ Some (token.Open line) → IsPartedFrom tokens (place + 1) closings (closing ∷ outer) → IsPartedFrom tokens place (set closings place closing) outer
open_step tokens place line closing closings outer h is p =
    let group : Items = Group line (remaining tokens (place + 1)) (remaining tokens (closing + 1)) in
    let parts : parts_of (drop place tokens) ≡ some_parts group (after tokens outer) = more_parts tokens place (token.Open line) (remaining tokens (place + 1)) (after tokens (closing ∷ outer)) is p.parts in
    let items : remaining tokens place ≡ group = found tokens place group (after tokens outer) parts in
    let low : place < closing = let from : place + 1 ≤ closing = p.within.0.0 in omega arith in
    let here : Closes tokens place closing = λ other e.
    let same : line ≡ other = cc in
    (low, p.within.0.1, items ∙ ap (λ (line : ℕ). Group line (remaining tokens (place + 1)) (remaining tokens (closing + 1))) same) in
    record {
      counted = length-set closings place closing ∙ p.counted;
      parts = found_parts tokens place group (after tokens outer) parts;
      within = earlier tokens place outer p.within.1;
      close = more_closed tokens place (set closings place closing) (subst (Closes tokens place) (sym (get_or-set_same closings place closing 0 (omega (arith, p.counted)))) here)
          (λ k. subst (Closes tokens (place + 1 + k)) (sym (get_or-set_other closings place (place + 1 + k) closing 0 (λ e. omega arith))) (p.close k));
    }

pub open_none : (tokens : List Token) (place line : ℕ) (closings : List ℕ) → slice_get tokens place ≡ Some (token.Open line) → IsPartedFrom tokens (place + 1) closings [] → parts_of (drop place tokens) ≡ None
open_none tokens place line closings is p = more_parts tokens place (token.Open line) (remaining tokens (place + 1)) [] is p.parts

-- where tokens have no parts, more in front of them have none
pub none_below : (place : ℕ) (tokens : List Token) → parts_of (drop place tokens) ≡ None → parts_of tokens ≡ None
none_below zero tokens e = e
none_below (suc place) [] e = e
none_below (suc place) (t ∷ tokens) e = ap (option_and_then (in_front t)) (none_below place tokens e)

-- the end of the tokens
pub at_end : (tokens : List Token) (closings : List ℕ) → length closings ≡ length tokens → IsPartedFrom tokens (length tokens) closings []
at_end tokens closings counted =
    let none : drop (length tokens) tokens ≡ [] = drop_of_length-le tokens (let low : length tokens ≤ length tokens = omega arith in low) in
    record {
      counted = counted;
      parts = found_parts tokens (length tokens) Empty [] (ap parts_of none);
      within = tt;
      close = λ k line e. let past : slice_get tokens (length tokens + k) ≡ None = slice_get_past tokens (length tokens + k) (omega arith) in cc;
    }

pub parted : (tokens : List Token) (closings : List ℕ) → length tokens < 2 ^ 31 → IsPartedFrom tokens 0 closings [] → IsParted tokens closings
parted tokens closings short p = record {
  counted = p.counted;
  short = short;
  balanced = ap is_some p.parts;
  close = λ k. let same : 0 + k ≡ k = omega arith in subst (λ (q : ℕ). Closes tokens q (get_or closings q 0)) same (p.close k);
}

pub parted_items : (tokens : List Token) (closings : List ℕ) → IsPartedFrom tokens 0 closings [] → items_of tokens ≡ Some (remaining tokens 0)
unfolding items_of
parted_items tokens closings p = ap (option_and_then (λ parts. whole parts.items parts.outer)) p.parts

pub unparted : (tokens : List Token) (closings outer : List ℕ) → 0 < length outer → IsPartedFrom tokens 0 closings outer → items_of tokens ≡ None
unfolding items_of
unparted tokens closings [] h p = absurd (omega arith)
unparted tokens closings (closing ∷ outer) h p = ap (option_and_then (λ parts. whole parts.items parts.outer)) p.parts

-- a stack of places, the last first
pub reverse_last : (places : List ℕ) (last : ℕ) → reverse (places ++ last ∷ []) ≡ last ∷ reverse places
reverse_last places last = reverse-append places (last ∷ [])

pub reverse_none : (places : List ℕ) → length places ≡ 0 → reverse places ≡ []
reverse_none places none = ap reverse (nil_from_length places none)

pub reverse_some : (places : List ℕ) → 0 < length places → 0 < length (reverse places)
reverse_some places some = let same : length (reverse places) ≡ length places = length-reverse places in omega arith

pub none_within : (tokens : List Token) (place : ℕ) → slice_get tokens place ≡ None → place < length tokens → ⊥
none_within [] place e h = omega arith
none_within (t ∷ tokens) zero e h = cc
none_within (t ∷ tokens) (suc place) e h = none_within tokens place e (omega arith)

pub at_start : (tokens : List Token) (place : ℕ) (closings outer : List ℕ) → place ≤ 0 → IsPartedFrom tokens place closings outer → IsPartedFrom tokens 0 closings outer
at_start tokens place closings outer h p = let zero : place ≡ 0 = omega arith in subst (λ (n : ℕ). IsPartedFrom tokens n closings outer) zero p

-- why tokens from a place on have no fields is why all have none
pub refused : (tokens : List Token) (place : ℕ) (closings outer : List ℕ) (fault : FieldsFault) → PartsFrom tokens place (Err fault) closings outer → IsRefused tokens fault
unfolding items_of
refused tokens place closings outer Unbalanced e = ap (option_and_then (λ parts. whole parts.items parts.outer)) (none_below place tokens e)
refused tokens place closings outer Memory e = tt
