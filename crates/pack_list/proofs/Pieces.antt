-- Cuts and pieces.
use Rattle.std.proofs.Common.{◌≡◌, ◌≢◌, ◌⊎◌, inl, inr, ℕ, true, false, cond, eqb, List, [], ◌∷◌, ◌++◌, Option, Some, None, refl, sym, ap, ◌∙◌, eq-eqb}
use Rattle.std.proofs.lemmas.Bool.{ne_eqb}
use Rattle.std.specs.List.{AllByRecursion}
use Rattle.pack_list.specs.Prelude.{before_first, pieces, words, lines, said, Cuts}

module _ (separator : ℕ) (last : List (List ℕ)) where
  -- a piece before the separator
  pub pieces_cut : (front rest : List ℕ) → AllByRecursion (λ byte. byte ≢ separator) front → pieces separator last (front ++ separator ∷ rest) ≡ front ∷ pieces separator last rest
  pieces_cut [] rest none = rw (eq-eqb separator separator refl) refl
  pieces_cut (byte ∷ front) rest none = rw (ne_eqb byte separator none.0, pieces_cut front rest none.1) refl

-- a piece that is the whole
whole : (separator : ℕ) (last : List (List ℕ)) (byte : ℕ) (bytes : List ℕ) → (last ≡ []) ⊎ (last ≡ [] ∷ []) → AllByRecursion (λ byte. byte ≢ separator) (byte ∷ bytes) → pieces separator last (byte ∷ bytes) ≡ (byte ∷ bytes) ∷ []
whole separator last byte [] end none = rw (ne_eqb byte separator none.0) (elim end [ inl e ↦ ap (before_first byte) e | inr e ↦ ap (before_first byte) e ])
whole separator last byte (next ∷ bytes) end none = rw (ne_eqb byte separator none.0) (ap (before_first byte) (whole separator last next bytes end none.1))

-- the words behind the first
abbrev pub words_behind : Option (List ℕ) → List (List ℕ)
words_behind None = []
words_behind (Some rest) = words rest

pub words_cut : (line front : List ℕ) (rest : Option (List ℕ)) → Cuts 32 line front rest → words line ≡ front ∷ words_behind rest
words_cut [] front None cuts = ap (λ (word : List ℕ). word ∷ []) (sym cuts.1)
words_cut (byte ∷ line) front None cuts = whole 32 ([] ∷ []) byte line (inr refl) cuts.0 ∙ ap (λ (word : List ℕ). word ∷ []) (sym cuts.1)
words_cut line front (Some rest) cuts = ap words cuts.1 ∙ pieces_cut 32 ([] ∷ []) front rest cuts.0

-- the lines behind the first
abbrev pub lines_behind : Option (List ℕ) → List (List ℕ)
lines_behind None = []
lines_behind (Some rest) = lines rest

pub lines_cut : (text front : List ℕ) (rest : Option (List ℕ)) → text ≢ [] → Cuts 10 text front rest → lines text ≡ front ∷ lines_behind rest
lines_cut [] front rest some cuts = absurd (some refl)
lines_cut (byte ∷ text) front None some cuts = whole 10 [] byte text (inl refl) cuts.0 ∙ ap (λ (line : List ℕ). line ∷ []) (sym cuts.1)
lines_cut (byte ∷ text) front (Some rest) some cuts = ap lines cuts.1 ∙ pieces_cut 10 [] front rest cuts.0

-- ---- what a line says

before_some : (byte : ℕ) (pieces : List (List ℕ)) → before_first byte pieces ≢ []
before_some byte [] e = cc
before_some byte (piece ∷ pieces) e = cc

has_words : (line : List ℕ) → words line ≢ []
has_words [] e = cc
has_words (byte ∷ line) e =
    elim (eqb byte 32) as (λ b. cond b ([] ∷ words line) (before_first byte (words line)) ≡ [] → ⊥) [
      | true ↦ λ e. cc
      | false ↦ λ e. before_some byte (words line) e
    ] e

several : (kind path name : List ℕ) (more : List (List ℕ)) → more ≢ [] → said (kind ∷ path ∷ name ∷ more) ≡ None
several kind path name [] some = absurd (some refl)
several kind path name (word ∷ more) some = refl

-- four words or more say nothing
pub too_many : (kind path name rest : List ℕ) → said (kind ∷ path ∷ name ∷ words rest) ≡ None
too_many kind path name rest = several kind path name (words rest) (has_words rest)
