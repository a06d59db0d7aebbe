-- Sequences of instructions, and expressions, are written so that they are spelled, in the fewest bytes.
use Rattle.std.proofs.Common.{◌≡◌, ◌⊎◌, inl, inr, ℕ, List, [], ◌∷◌, ◌++◌, length, refl, sym, ◌∙◌, ap, subst, arith, length-append, append_assoc}
use Rattle.std.proofs.lemmas.List.{append-nil}
use Rattle.wasm_ast.specs.declared.types.ValType.{ValType}
use Rattle.std.specs.Prelude.{Option}
use Rattle.wasm_ast.specs.Sequence.{Sequence, Empty, Plain, Block, If}
use Rattle.wasm_ast.specs.Spelling.{Joined, Behind}
use Rattle.wasm_ast.specs.SpelledTypes.{SpellsBlockType}
use Rattle.wasm_ast.specs.SpelledInstr.{SpellsSequence, SpellsExpr}
use Rattle.wasm_ast.specs.Opcodes.{block_byte}
use Rattle.wasm_ast.specs.CanonInstr.{block_type_byte, canon_plain, canon_else, canon_sequence, canon_expr}
use Rattle.wasm_encode.proofs.ShortestNumbers.{AreBytes, bytes_split, NoLonger}
use Rattle.wasm_encode.proofs.ShortestVectors.{IsShortest, fixed, joined_shortest, behind_shortest}
use Rattle.wasm_encode.proofs.ShortestTypes.{blocktype_shortest}
use Rattle.wasm_encode.proofs.ShortestInstrs.{plain_shortest}

-- a block type behind an opcode, and what is behind it
typed_shortest : {P : List ℕ → Type 0} (c : ℕ) (of : Option ValType) (bytes w : List ℕ) → AreBytes bytes → Behind c (Joined (λ a. SpellsBlockType a of) P) bytes →
    ((x : List ℕ) → AreBytes x → P x → NoLonger P x w) → NoLonger (Behind c (Joined (λ a. SpellsBlockType a of) P)) bytes (c ∷ block_type_byte of ∷ w)
typed_shortest {P} c of bytes w a s f =
    behind_shortest c bytes (block_type_byte of ∷ w) a s (λ x b j. joined_shortest x (block_type_byte of ∷ []) w b j (λ d. blocktype_shortest j.front of d j.first) (λ d. f j.back d j.second))

-- what stands in an else, behind its byte
else_written : (s : Sequence) (w : List ℕ) → ((s ≡ Empty) × (canon_else s w ≡ [])) ⊎ (canon_else s w ≡ 0x05 ∷ w)
else_written Empty w = inl (refl, refl)
else_written s w = inr refl

-- a part, the end, and what is behind it
inner_shortest : {P Q : List ℕ → Type 0} (bytes v w : List ℕ) → AreBytes bytes → Joined P (Behind 0x0B Q) bytes → ((x : List ℕ) → AreBytes x → P x → NoLonger P x v) →
    ((x : List ℕ) → AreBytes x → Q x → NoLonger Q x w) → NoLonger (Joined P (Behind 0x0B Q)) bytes (v ++ 0x0B ∷ w)
inner_shortest {P} {Q} bytes v w a j f g =
    joined_shortest bytes v (0x0B ∷ w) a j (λ b. f j.front b j.first) (λ b. behind_shortest 0x0B j.back w b j.second g)

-- what stands behind the type of an if
abbrev Arms : (List ℕ → Type 0) → Sequence → (List ℕ → Type 0) → List ℕ → Type 0
Arms P otherwise Q x =
    (Joined P (Behind 0x0B Q) x × (otherwise ≡ Empty))
    ⊎ Joined P (Behind 0x05 (Joined (λ c. SpellsSequence c otherwise) (Behind 0x0B Q))) x

module _ {P Q : List ℕ → Type 0} (v w : List ℕ) (otherwise : Sequence) (f : (x : List ℕ) → AreBytes x → P x → NoLonger P x v)
    (h : (x : List ℕ) → AreBytes x → SpellsSequence x otherwise → NoLonger (λ c. SpellsSequence c otherwise) x (canon_sequence otherwise))
    (g : (x : List ℕ) → AreBytes x → Q x → NoLonger Q x w) where
  -- with no else
  short_arms : (bytes written : List ℕ) → otherwise ≡ Empty → written ≡ [] → NoLonger (Joined P (Behind 0x0B Q)) bytes (v ++ 0x0B ∷ w) → NoLonger (Arms P otherwise Q) bytes (v ++ written ++ 0x0B ∷ w)
  short_arms bytes written e k p =
      let same : v ++ 0x0B ∷ w ≡ v ++ written ++ 0x0B ∷ w = ap (λ z. z ++ 0x0B ∷ w) (sym (append-nil v) ∙ ap (λ z. v ++ z) (sym k)) in
      subst (λ z. NoLonger (Arms P otherwise Q) bytes z) same (record { spells = inl (p.spells, e); shorter = p.shorter })

  -- an else is left out
  left_out : (bytes : List ℕ) → AreBytes bytes → Joined P (Behind 0x05 (Joined (λ c. SpellsSequence c otherwise) (Behind 0x0B Q))) bytes → NoLonger (Joined P (Behind 0x0B Q)) bytes (v ++ 0x0B ∷ w)
  left_out bytes a j = joined_shortest bytes v (0x0B ∷ w) a j (λ b. f j.front b j.first) (λ b. part j.back b j.second) where
    part : (back : List ℕ) → AreBytes back → Behind 0x05 (Joined (λ c. SpellsSequence c otherwise) (Behind 0x0B Q)) back → NoLonger (Behind 0x0B Q) back (0x0B ∷ w)
    part [] b s = absurd s
    part (c ∷ back) b s =
        let k = s.1 in
        let q : NoLonger (Behind 0x0B Q) k.back (0x0B ∷ w) = behind_shortest 0x0B k.back w (bytes_split k.front k.back (subst AreBytes k.parts b.1)).1 k.second g in
        record { spells = q.spells; shorter = omega (arith, q.shorter, ap length k.parts, length-append k.front k.back) }

  arms_shortest : (bytes : List ℕ) → AreBytes bytes → Arms P otherwise Q bytes → NoLonger (Arms P otherwise Q) bytes (v ++ canon_else otherwise (canon_sequence otherwise) ++ 0x0B ∷ w)
  arms_shortest bytes a s =
      let u : List ℕ = canon_sequence otherwise in
      elim s [
        | inl p ↦ short_arms bytes (canon_else otherwise u) p.1 (ap (λ o. canon_else o u) p.1) (inner_shortest bytes v w a p.0 f g)
        | inr j ↦ elim (else_written otherwise u) [
          | inl e ↦ short_arms bytes (canon_else otherwise u) e.0 e.1 (left_out bytes a j)
          | inr e ↦
              let p : NoLonger (Joined P (Behind 0x05 (Joined (λ c. SpellsSequence c otherwise) (Behind 0x0B Q)))) bytes (v ++ 0x05 ∷ (u ++ 0x0B ∷ w)) = joined_shortest bytes v (0x05 ∷ (u ++ 0x0B ∷ w)) a j (λ b. f j.front b j.first)
              (λ b. behind_shortest 0x05 j.back (u ++ 0x0B ∷ w) b j.second (λ more c k. inner_shortest more u w c k h g)) in
              let same : v ++ (0x05 ∷ (u ++ 0x0B ∷ w)) ≡ v ++ canon_else otherwise u ++ 0x0B ∷ w = sym (ap (λ z. v ++ z ++ 0x0B ∷ w) e ∙ append_assoc v (0x05 ∷ u) (0x0B ∷ w)) in
              subst (λ z. NoLonger (Arms P otherwise Q) bytes z) same (record { spells = inr p.spells; shorter = p.shorter })
        ]
      ]

pub sequence_shortest : (s : Sequence) (bytes : List ℕ) → AreBytes bytes → SpellsSequence bytes s → NoLonger (λ a. SpellsSequence a s) bytes (canon_sequence s)
sequence_shortest Empty bytes a s = fixed bytes [] s
sequence_shortest (Plain i rest) bytes a s =
    joined_shortest bytes (canon_plain i) (canon_sequence rest) a s (λ b. plain_shortest s.front i b s.first) (λ b. sequence_shortest rest s.back b s.second)
sequence_shortest (Block k of body rest) bytes a s =
    typed_shortest (block_byte k) of bytes (canon_sequence body ++ 0x0B ∷ canon_sequence rest) a s
    (λ x b j. inner_shortest x (canon_sequence body) (canon_sequence rest) b j (λ y c t. sequence_shortest body y c t) (λ y c t. sequence_shortest rest y c t))
sequence_shortest (If of then otherwise rest) bytes a s =
    typed_shortest 0x04 of bytes (canon_sequence then ++ canon_else otherwise (canon_sequence otherwise) ++ 0x0B ∷ canon_sequence rest) a s
    (λ x b j. arms_shortest (canon_sequence then) (canon_sequence rest) otherwise (λ y c t. sequence_shortest then y c t) (λ y c t. sequence_shortest otherwise y c t) (λ y c t. sequence_shortest rest y c t) x b j)

pub expr_shortest : IsShortest SpellsExpr canon_expr
expr_shortest bytes s a e = inner_shortest bytes (canon_sequence s) [] a e (λ x b t. sequence_shortest s x b t) (λ x b t. fixed x [] t)
