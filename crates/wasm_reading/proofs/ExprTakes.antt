-- What is read as an expression is spelled so.
use Rattle.std.proofs.Common.{◌≡◌, inl, inr, ℕ, zero, suc, List, [], ◌∷◌, ◌++◌, length, Option, Some, refl, sym, ◌∙◌, ap, subst, append_assoc, true}
use Rattle.std.proofs.lemmas.Bool.{false≢true}
use Rattle.std.proofs.lemmas.List.{append-nil}
use Rattle.byte_cursor.specs.Integers.{BeginsWith}
use Rattle.wasm_ast.specs.declared.types.ValType.{ValType}
use Rattle.wasm_ast.specs.declared.instr.Construct.{Construct}
use Rattle.wasm_ast.specs.declared.instr.Construct.TheVariants as construct
use Rattle.wasm_ast.specs.Sequence.{Sequence, Empty, Plain, Block, If}
use Rattle.wasm_ast.specs.Built.{Open, Inside, Else, Built, append, nothing_built, with_plain, with_open, with_else, takes_else, else_opens, closed}
use Rattle.wasm_ast.specs.Spelling.{Joined, Behind}
use Rattle.wasm_ast.specs.SpelledTypes.{SpellsBlockType}
use Rattle.wasm_ast.specs.Opcodes.{block_byte, construct_byte}
use Rattle.wasm_ast.specs.SpelledInstr.{SpellsSequence, SpellsExpr}
use Rattle.wasm_ast.specs.OpcodeTables.{opcode_at}
use Rattle.wasm_ast.proofs.OpcodeLaws.{behind_is_spelled}
use Rattle.wasm_reading.specs.declared.exprs.Shape.{Shape}
use Rattle.wasm_reading.specs.declared.exprs.Shape.TheVariants as shape
use Rattle.wasm_reading.specs.ReadTypes.{blocktype_at}
use Rattle.wasm_reading.specs.ReadInstr.{immediates_at}
use Rattle.wasm_reading.specs.ReadExpr.{Step, Continue, Complete, shape_of, end_step, behind_shape, step_at, goes_on, steps_at, expr_at}
use Rattle.wasm_reading.proofs.ValueLaws.{read_first, chose_some, begins_as}
use Rattle.wasm_reading.proofs.TypeLaws.{blocktype_exact}
use Rattle.wasm_reading.proofs.InstrLaws.{immediates_exact}
use Rattle.wasm_reading.proofs.Shapes.{end_byte, else_byte, begin_byte}

-- more bytes behind the last part
back_longer : {P Q R : List ℕ → Type 0} (a b : List ℕ) → Joined P Q a → ((x : List ℕ) → Q x → R (x ++ b)) → Joined P R (a ++ b)
back_longer a b j f = record { front = j.front; back = j.back ++ b; parts = ap (λ x. x ++ b) j.parts ∙ append_assoc j.front j.back b; first = j.first; second = f j.back j.second }

behind_longer : {P : List ℕ → Type 0} (Q : List ℕ → Type 0) (c : ℕ) (a b : List ℕ) → Behind c P a → ((x : List ℕ) → P x → Q (x ++ b)) → Behind c Q (a ++ b)
behind_longer Q c [] b h f = absurd h
behind_longer Q c (d ∷ a) b h f = (h.0, f a h.1)

-- one sequence behind another
both_spelled : (s t : Sequence) (a b : List ℕ) → SpellsSequence a s → SpellsSequence b t → SpellsSequence (a ++ b) (append s t)
both_spelled Empty t a b s u = subst (λ x. SpellsSequence (x ++ b) t) (sym s) u
both_spelled (Plain i rest) t a b s u = back_longer a b s (λ x r. both_spelled rest t x b r u)
both_spelled (Block k of body rest) t a b s u =
    behind_longer _ (block_byte k) a b s (λ x j. back_longer x b j (λ y l. back_longer y b l (λ z e. behind_longer _ 0x0B z b e (λ w r. both_spelled rest t w b r u))))
both_spelled (If of one two rest) t a b s u =
    behind_longer _ 0x04 a b s (λ x j. back_longer x b j (λ y h. elim h [
      | inl l ↦ inl (back_longer y b l.0 (λ z e. behind_longer _ 0x0B z b e (λ w r. both_spelled rest t w b r u)), l.1)
      | inr l ↦ inr (back_longer y b l (λ z e. behind_longer _ 0x05 z b e (λ w m. back_longer w b m (λ v d. behind_longer _ 0x0B v b d (λ o r. both_spelled rest t o b r u)))))
    ]))

-- the bytes spell the beginnings of the open constructs, each behind what stands in front of it, and the innermost sequence
abbrev Spelled : List Open → Sequence → List ℕ → Type 0
Spelled [] before bytes = SpellsSequence bytes before
Spelled (Inside c of under ∷ opens) before bytes =
    Joined (λ a. Spelled opens under a) (Behind (construct_byte c) (Joined (λ q. SpellsBlockType q of) (λ b. SpellsSequence b before))) bytes
Spelled (Else of one under ∷ opens) before bytes =
    Joined (λ a. Spelled opens under a) (Behind 0x04 (Joined (λ q. SpellsBlockType q of) (Joined (λ b. SpellsSequence b one) (Behind 0x05 (λ c. SpellsSequence c before))))) bytes

-- more of the innermost sequence
more_spelled : (opens : List Open) (before part : Sequence) (a b : List ℕ) → Spelled opens before a → SpellsSequence b part → Spelled opens (append before part) (a ++ b)
more_spelled [] before part a b s u = both_spelled before part a b s u
more_spelled (Inside c of under ∷ opens) before part a b s u =
    back_longer a b s (λ x h. behind_longer _ (construct_byte c) x b h (λ y j. back_longer y b j (λ z r. both_spelled before part z b r u)))
more_spelled (Else of one under ∷ opens) before part a b s u =
    back_longer a b s (λ x h. behind_longer _ 0x04 x b h (λ y j. back_longer y b j (λ z l. back_longer z b l (λ w e. behind_longer _ 0x05 w b e (λ v r. both_spelled before part v b r u)))))

-- a byte, and nothing behind it
with_byte : {P : List ℕ → Type 0} (d c : ℕ) (x : List ℕ) → d ≡ c → P x → Joined P (Behind c (λ y. y ≡ [])) (x ++ d ∷ [])
with_byte d c x e p = record { front = x; back = d ∷ []; parts = refl; first = p; second = (e, refl) }

-- a construct that is complete with some more bytes
construct_spelled : {P : List ℕ → Type 0} (os : List Open) (under part : Sequence) (a b : List ℕ) → Joined (λ x. Spelled os under x) P a → ((x : List ℕ) → P x → SpellsSequence (x ++ b) part) → Spelled os (append under part) (a ++ b)
construct_spelled os under part a b j f =
    subst (λ x. Spelled os (append under part) x) (sym (ap (λ x. x ++ b) j.parts ∙ append_assoc j.front j.back b)) (more_spelled os under part j.front (j.back ++ b) j.first (f j.back j.second))

-- the end of the innermost construct
closed_spelled : (o : Open) (os : List Open) (before : Sequence) (d : ℕ) (a : List ℕ) → d ≡ 0x0B → Spelled (o ∷ os) before a → Spelled os (closed o before) (a ++ d ∷ [])
closed_spelled (Inside (construct.Block k) of under) os before d a e s =
    construct_spelled os under (Block k of before Empty) a (d ∷ []) s
    (λ x h. behind_longer _ (block_byte k) x (d ∷ []) h (λ y j. back_longer y (d ∷ []) j (λ z r. with_byte d 0x0B z e r)))
closed_spelled (Inside construct.If of under) os before d a e s =
    construct_spelled os under (If of before Empty Empty) a (d ∷ []) s
    (λ x h. behind_longer _ 0x04 x (d ∷ []) h (λ y j. back_longer y (d ∷ []) j (λ z r. inl (with_byte d 0x0B z e r, refl))))
closed_spelled (Else of one under) os before d a e s =
    construct_spelled os under (If of one before Empty) a (d ∷ []) s
    (λ x h. behind_longer _ 0x04 x (d ∷ []) h (λ y j. back_longer y (d ∷ []) j (λ z l. inr (back_longer z (d ∷ []) l (λ w m. behind_longer _ 0x05 w (d ∷ []) m (λ v r. with_byte d 0x0B v e r))))))

-- what a step leaves is spelled by the bytes up to there
abbrev Leaves : Step → List ℕ → Type 0
Leaves (Continue w) bytes = Spelled w.opens w.before bytes
Leaves (Complete s) bytes = SpellsExpr bytes s

-- the bytes of a step, behind those that were read before
abbrev Steps : List ℕ → List ℕ → Step → Type 0
Steps before bytes p = Leaves p (before ++ bytes)

end_leaves : (opens : List Open) (before : Sequence) (d : ℕ) (a : List ℕ) → d ≡ 0x0B → Spelled opens before a → Leaves (end_step (record { opens = opens; before = before })) (a ++ d ∷ [])
end_leaves [] before d a e s = with_byte d 0x0B a e s
end_leaves (o ∷ os) before d a e s = closed_spelled o os before d a e s

else_leaves : (opens : List Open) (before : Sequence) (d : ℕ) (a : List ℕ) → d ≡ 0x05 → takes_else opens ≡ true → Spelled opens before a → Spelled (else_opens opens before) Empty (a ++ d ∷ [])
else_leaves (Inside construct.If of under ∷ os) before d a e t s =
    back_longer a (d ∷ []) s (λ x h. behind_longer _ 0x04 x (d ∷ []) h (λ y j. back_longer y (d ∷ []) j (λ z r. with_byte d 0x05 z e r)))
else_leaves _ before d a e t s = absurd (false≢true t)

begin_leaves : (v : Built) (c : Construct) (of : Option ValType) (d : ℕ) (q a : List ℕ) → d ≡ construct_byte c → SpellsBlockType q of → Spelled v.opens v.before a → Steps a (d ∷ q) (Continue (with_open c of v))
begin_leaves v c of d q a e t s = record { front = a; back = d ∷ q; parts = refl; first = s; second = (e, record { front = q; back = []; parts = sym (append-nil q); first = t; second = refl }) }

step_leaves : (v : Built) (b : ℕ) (bytes a : List ℕ) → Spelled v.opens v.before a → (of : Shape) → shape_of (opcode_at b) ≡ of → (p : Step) (mid : List ℕ) → behind_shape of (opcode_at b) v bytes ≡ Some (p, mid) → BeginsWith (Steps a) (b ∷ bytes) p mid
step_leaves v b bytes a s shape.End e p mid h = begins_as (Steps a) (b ∷ [], end_leaves v.opens v.before b a (end_byte b e) s, refl) h
step_leaves v b bytes a s shape.Else e p mid h =
    let chosen = chose_some (takes_else v.opens) (Some (Continue (with_else v), bytes)) (p, mid) h in
    begins_as (Steps a) (b ∷ [], else_leaves v.opens v.before b a (else_byte b e) chosen.0 s, refl) chosen.1
step_leaves v b bytes a s (shape.Begin c) e p mid h =
    let u = read_first (blocktype_at bytes) (λ of more. Some (Continue (with_open c of v), more)) (p, mid) h in
    let t = blocktype_exact.takes bytes u.0 u.1 u.2 in
    begins_as (Steps a) (b ∷ t.0, begin_leaves v c u.0 b t.0 a (begin_byte b c e) t.1 s, ap (λ m. b ∷ m) t.2) u.3
step_leaves v b bytes a s shape.Plain e p mid h =
    let u = read_first (immediates_at (opcode_at b) bytes) (λ i more. Some (Continue (with_plain i v), more)) (p, mid) h in
    let t = (immediates_exact (opcode_at b)).takes bytes u.0 u.1 u.2 in
    let one : SpellsSequence (b ∷ t.0) (Plain u.0 Empty) = record { front = b ∷ t.0; back = []; parts = sym (append-nil (b ∷ t.0)); first = behind_is_spelled b t.0 u.0 t.1; second = refl } in
    begins_as (Steps a) (b ∷ t.0, more_spelled v.opens v.before (Plain u.0 Empty) a (b ∷ t.0) s one, ap (λ m. b ∷ m) t.2) u.3

-- what is read as the rest of an expression spells it with what was read before
abbrev Ends : List ℕ → List ℕ → Sequence → Type 0
Ends before bytes s = SpellsExpr (before ++ bytes) s

abbrev IsSound : (Built → List ℕ → Option (Sequence × List ℕ)) → Type 0
IsSound go = (v : Built) (a bytes : List ℕ) (s : Sequence) (rest : List ℕ) → Spelled v.opens v.before a → go v bytes ≡ Some (s, rest) → BeginsWith (Ends a) bytes s rest

behind_step : (go : Built → List ℕ → Option (Sequence × List ℕ)) → IsSound go → (a bytes : List ℕ) (p : Step) (mid : List ℕ) (s : Sequence) (rest : List ℕ) → BeginsWith (Steps a) bytes p mid → goes_on go p mid ≡ Some (s, rest) → BeginsWith (Ends a) bytes s rest
behind_step go sound a bytes (Continue w) mid s rest t h =
    let g = sound w (a ++ t.0) mid s rest t.1 h in
    (t.0 ++ g.0, subst (λ x. SpellsExpr x s) (append_assoc a t.0 g.0) g.1, t.2 ∙ ap (λ m. t.0 ++ m) g.2 ∙ sym (append_assoc t.0 g.0 rest))
behind_step go sound a bytes (Complete r) mid s rest t h = begins_as (Ends a) t h

steps_sound : (n : ℕ) → IsSound (steps_at n)
unfolding steps_at
steps_sound zero v a bytes s rest l h = cc
steps_sound (suc n) v a [] s rest l h = cc
steps_sound (suc n) v a (b ∷ bytes) s rest l h =
    let u = read_first (step_at v (b ∷ bytes)) (goes_on (steps_at n)) (s, rest) h in
    behind_step (steps_at n) (steps_sound n) a (b ∷ bytes) u.0 u.1 s rest (step_leaves v b bytes a l (shape_of (opcode_at b)) refl u.0 u.1 u.2) u.3

pub expr_takes : (bytes : List ℕ) (s : Sequence) (rest : List ℕ) → expr_at bytes ≡ Some (s, rest) → BeginsWith SpellsExpr bytes s rest
expr_takes bytes s rest h = steps_sound (length bytes) nothing_built [] bytes s rest refl h
