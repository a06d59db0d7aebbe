-- Rows are their immediates and the parts behind them.
use Rattle.std.proofs.Common.{◌≡◌, ℕ, Bool, true, false, cond, List, ◌∷◌, Option, Some, None, refl, ◌∙◌, ap}
use Rattle.std.specs.Option.{is_none, option_map, option_and_then}
use Rattle.wat_names.specs.Named.{named_by}
use Rattle.wat_names.specs.declared.named.Named.{Named}
use Rattle.wat_fields.specs.Items.{Items, Empty, Word, Group}
use Rattle.wat_immediates.specs.InstructionForms.{Part, Row, row, row_of, parts_alone, part_of, with_word, with_part, with_group, folded, is_immediate}
use Rattle.wat_immediates.specs.Rows.{immediates, past, parts_of}

-- ---- rows

-- a row whose parts come behind these immediates
abbrev pub behind_these : Items → Option (List Part) → Option Row
behind_these items ps = option_map (λ p. row items p) ps

word_is_immediate : (word : List ℕ) (items : Items) (ps : Option (List Part)) →
    option_and_then (λ r. with_word word r None) (behind_these items ps) ≡ behind_these (Word word items) ps
word_is_immediate word items None = refl
word_is_immediate word items (Some ps) = refl

-- a row that begins with an instruction has no immediates
begins_so : (n : Named) (word : List ℕ) (r : Option Row) →
    option_and_then (λ x. with_word word x (Some n)) r ≡ behind_these Empty (option_and_then parts_alone (option_and_then (λ x. with_word word x (Some n)) r))
begins_so n word None = refl
begins_so n word (Some r) = by (part_of n r.immediates)
  where
    by : (p : Option Part) → option_map (λ x. row Empty (x ∷ r.parts)) p ≡ behind_these Empty (option_and_then parts_alone (option_map (λ x. row Empty (x ∷ r.parts)) p))
    by None = refl
    by (Some p) = refl

begins_by : (n : Named) (word : List ℕ) (r : Option Row) (m : Option Named) → m ≡ Some n →
    option_and_then (λ x. with_word word x m) r ≡ behind_these Empty (option_and_then parts_alone (option_and_then (λ x. with_word word x m) r))
begins_by n word r None e = cc
begins_by n word r (Some m) e = begins_so m word r

word_row : (word : List ℕ) (rest : Items) (n : Option Named) → named_by word ≡ n → row_of rest ≡ behind_these (immediates rest) (parts_of (past rest)) →
    row_of (Word word rest) ≡ behind_these (cond (is_none n) (Word word (immediates rest)) Empty) (parts_of (cond (is_none n) (past rest) (Word word rest)))
word_row word rest None n e =
    ap (λ m. option_and_then (λ r. with_word word r m) (row_of rest)) n ∙ ap (option_and_then (λ r. with_word word r None)) e ∙ word_is_immediate word (immediates rest) (parts_of (past rest))
word_row word rest (Some m) n e = begins_by m word (row_of rest) (named_by word) n

group_is_immediate : (line : ℕ) (keyword : List ℕ) (inside items : Items) (ps : Option (List Part)) (b : Bool) (o : Row → Option Row) → b ≡ true →
    option_and_then (λ r. cond b (Some (row (Group line (Word keyword inside) r.immediates) r.parts)) (o r)) (behind_these items ps) ≡ behind_these (Group line (Word keyword inside) items) ps
group_is_immediate line keyword inside items None b o e = refl
group_is_immediate line keyword inside items (Some ps) b o e = ap (λ x. cond x (Some (row (Group line (Word keyword inside) items) ps)) (o (row items ps))) e

part_begins : (r : Row) (p : Option Part) → option_and_then (with_part r) p ≡ behind_these Empty (option_and_then parts_alone (option_and_then (with_part r) p))
part_begins r None = refl
part_begins r (Some p) = by (parts_alone r)
  where
    by : (ps : Option (List Part)) → option_map (λ x. row Empty (p ∷ x)) ps ≡ behind_these Empty (option_and_then parts_alone (option_map (λ x. row Empty (p ∷ x)) ps))
    by None = refl
    by (Some ps) = refl

group_begins : (r : Option Row) (p : Option Part) (b : Bool) (o : Row → Option Row) → b ≡ false →
    option_and_then (λ x. cond b (o x) (option_and_then (with_part x) p)) r
    ≡ behind_these Empty (option_and_then parts_alone (option_and_then (λ x. cond b (o x) (option_and_then (with_part x) p)) r))
group_begins r p true o e = cc
group_begins None p false o e = refl
group_begins (Some r) p false o e = part_begins r p

group_row : (line : ℕ) (keyword : List ℕ) (inside rest : Items) (b : Bool) → is_immediate keyword ≡ b → row_of rest ≡ behind_these (immediates rest) (parts_of (past rest)) →
    row_of (Group line (Word keyword inside) rest)
    ≡ behind_these (cond b (Group line (Word keyword inside) (immediates rest)) Empty) (parts_of (cond b (past rest) (Group line (Word keyword inside) rest)))
group_row line keyword inside rest true b e =
    ap (option_and_then (with_group line keyword inside (row_of inside))) e
    ∙ group_is_immediate line keyword inside (immediates rest) (parts_of (past rest)) (is_immediate keyword) (λ r. option_and_then (with_part r) (option_and_then (folded keyword) (row_of inside))) b
group_row line keyword inside rest false b e =
    group_begins (row_of rest) (option_and_then (folded keyword) (row_of inside)) (is_immediate keyword) (λ r. Some (row (Group line (Word keyword inside) r.immediates) r.parts)) b

-- the row of items is their immediates and the parts of what comes behind these
pub row_is : (items : Items) → row_of items ≡ behind_these (immediates items) (parts_of (past items))
row_is (Word word rest) = word_row word rest (named_by word) refl (row_is rest)
row_is (Group line (Word keyword inside) rest) = group_row line keyword inside rest (is_immediate keyword) refl (row_is rest)
row_is items = refl
