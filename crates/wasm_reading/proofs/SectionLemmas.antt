-- A loop that splits a module into its sections.
use Rattle.std.proofs.Common.{◌≡◌, ℕ, zero, suc, ◌<◌, ◌≤◌, List, [], ◌∷◌, ◌++◌, length, Option, Some, None, refl, sym, ◌∙◌, ap, arith, drop, append_assoc, length-append}
use Rattle.std.proofs.lemmas.List.{append-nil, nil_from_length}
use Rattle.std.specs.Option.{option_map}
use Rattle.wasm_ast.specs.SpelledModule.{Section, SpellsSection}
use Rattle.wasm_reading.specs.ReadValues.{and_then, next_at}
use Rattle.wasm_reading.specs.ReadModule.{section_at, sections_at, preamble_at}
use Rattle.wasm_reading.proofs.ModuleLaws.{section_exact}

-- these sections in front of others
abbrev with_parts : List Section → Option (List Section) → Option (List Section)
with_parts xs o = option_map (λ ys. xs ++ ys) o

parts_more : (xs : List Section) (s : Section) (o : Option (List Section)) → with_parts xs (option_map (λ ss. s ∷ ss) o) ≡ with_parts (xs ++ s ∷ []) o
parts_more xs s None = refl
parts_more xs s (Some ys) = ap (λ z. Some z) (sym (append_assoc xs (s ∷ []) ys))

front_none : (o : Option (List Section)) → with_parts [] o ≡ o
front_none None = refl
front_none (Some ys) = refl

-- these sections were split off, and the next number is at least that
pub record Split (start : List ℕ) (parts : List Section) (least : ℕ) (now : List ℕ) : Type 0 where
  pub left : ℕ
  pub fits : length now ≤ left
  pub goes : sections_at (length start) 1 start ≡ with_parts parts (sections_at left least now)

pub split_first : (start : List ℕ) (parts : List Section) → parts ≡ [] → Split start parts 1 start
split_first start parts e = record {
  left = length start;
  fits = omega arith;
  goes = sym (front_none (sections_at (length start) 1 start)) ∙ ap (λ p. with_parts p (sections_at (length start) 1 start)) (sym e);
}

some_bytes : (front : List ℕ) (s : Section) → SpellsSection front s → 0 < length front
some_bytes [] s h = absurd h
some_bytes (b ∷ front) s h = omega arith

pub section_shorter : (least : ℕ) (now : List ℕ) (p : Section × ℕ) (rest : List ℕ) → section_at least now ≡ Some (p, rest) → length rest < length now
section_shorter least now p rest h =
    let t = (section_exact least).takes now p rest h in
    omega (arith, some_bytes t.0 p.0 t.1.0, ap length t.2, length-append t.0 rest)

section_step : (n least : ℕ) (now : List ℕ) (s : Section) (next : ℕ) (rest : List ℕ) → length now ≤ n → section_at least now ≡ Some ((s, next), rest) →
    (m : ℕ) × (length rest ≤ m) × (sections_at n least now ≡ option_map (λ ss. s ∷ ss) (sections_at m next rest))
section_step n least [] s next rest f h = cc
section_step zero least (b ∷ now) s next rest f h = absurd (omega arith)
section_step (suc m) least (b ∷ now) s next rest f h =
    (m, omega (arith, f, section_shorter least (b ∷ now) (s, next) rest h), ap (λ o. and_then o (λ s rest. option_map (λ ss. s.0 ∷ ss) (sections_at m s.1 rest))) h)

section_cut : (n least : ℕ) (now : List ℕ) → 0 < length now → section_at least now ≡ None → sections_at n least now ≡ None
section_cut n least [] p h = absurd (omega arith)
section_cut zero least (b ∷ now) p h = refl
section_cut (suc m) least (b ∷ now) p h = ap (λ o. and_then o (λ s rest. option_map (λ ss. s.0 ∷ ss) (sections_at m s.1 rest))) h

module _ (start : List ℕ) (parts : List Section) (least : ℕ) (now : List ℕ) (s : Split start parts least now) where
  pub split_more : (more : List Section) (x : Section) (next : ℕ) (rest : List ℕ) → section_at least now ≡ Some ((x, next), rest) → more ≡ parts ++ x ∷ [] → Split start more next rest
  split_more more x next rest h m =
      let t = section_step s.left least now x next rest s.fits h in
      record {
        left = t.0;
        fits = t.1;
        goes = s.goes ∙ ap (λ o. with_parts parts o) t.2 ∙ parts_more parts x (sections_at t.0 next rest) ∙ ap (λ p. with_parts p (sections_at t.0 next rest)) (sym m);
      }

  pub split_cut : 0 < length now → section_at least now ≡ None → sections_at (length start) 1 start ≡ None
  split_cut p h = s.goes ∙ ap (λ o. with_parts parts o) (section_cut s.left least now p h)

  pub split_done : length now ≡ 0 → sections_at (length start) 1 start ≡ Some parts
  split_done h = s.goes ∙ ap (λ x. with_parts parts (sections_at s.left least x)) (nil_from_length now h) ∙ ap (λ p. Some p) (append-nil parts)

pub none_left : (now : List ℕ) → next_at now ≡ None → length now ≡ 0
none_left [] h = refl
none_left (b ∷ now) h = cc

preamble_cut : (cs : List ℕ) (i : ℕ) (now : List ℕ) → i < length cs → now ≡ [] → preamble_at (drop i cs) now ≡ None
preamble_cut [] i now l e = absurd (omega arith)
preamble_cut (c ∷ cs) zero now l e = ap (λ x. preamble_at (c ∷ cs) x) e
preamble_cut (c ∷ cs) (suc i) now l e = preamble_cut cs i now (omega arith) e

pub preamble_none : (cs : List ℕ) (i : ℕ) (now : List ℕ) → i < length cs → next_at now ≡ None → preamble_at (drop i cs) now ≡ None
preamble_none cs i now l h = preamble_cut cs i now l (nil_from_length now (none_left now h))
