-- What is spelled as an expression is read so.
use Rattle.std.proofs.Common.{◌≡◌, ◌⊎◌, inl, inr, ℕ, List, [], ◌∷◌, ◌++◌, Option, Some, refl, sym, ◌∙◌, ap, append_assoc}
use Rattle.wasm_ast.specs.declared.types.ValType.{ValType}
use Rattle.wasm_ast.specs.declared.instr.{Instr.Instr, Construct.Construct}
use Rattle.wasm_ast.specs.declared.instr.Construct.TheVariants as construct
use Rattle.wasm_ast.specs.declared.opcode.Opcode.{Opcode}
use Rattle.wasm_ast.specs.declared.opcode.Opcode.TheVariants as op
use Rattle.wasm_ast.specs.Sequence.{Sequence, Empty, Plain, Block, If}
use Rattle.wasm_ast.specs.Built.{Open, Inside, Else, Built, append, nothing_built, with_plain, with_open, closed}
use Rattle.wasm_ast.specs.Spelling.{Joined, Behind}
use Rattle.wasm_ast.specs.SpelledTypes.{SpellsBlockType}
use Rattle.wasm_ast.specs.Opcodes.{block_byte, construct_byte}
use Rattle.wasm_ast.specs.SpelledInstr.{SpellsPlain, SpellsSequence, SpellsExpr}
use Rattle.wasm_ast.specs.OpcodeTables.{opcode_at, SpellsBehind}
use Rattle.wasm_ast.proofs.OpcodeLaws.{spelled_is_behind, plain_begins}
use Rattle.wasm_reading.specs.declared.exprs.Shape.{Shape}
use Rattle.wasm_reading.specs.declared.exprs.Shape.TheVariants as shape
use Rattle.wasm_reading.specs.ReadValues.{and_then, IsExact}
use Rattle.wasm_reading.specs.ReadExpr.{Step, Continue, Complete, shape_of, behind_shape, goes_on, rest_at, expr_at}
use Rattle.wasm_reading.proofs.TypeLaws.{blocktype_exact}
use Rattle.wasm_reading.proofs.InstrLaws.{immediates_exact}
use Rattle.wasm_reading.proofs.Sequences.{append-empty, append-append}
use Rattle.wasm_reading.proofs.Steps.{step_to}
use Rattle.wasm_reading.proofs.Shapes.{shape_end, shape_else, shape_begin}
use Rattle.wasm_reading.proofs.ExprTakes.{expr_takes}

-- a byte whose shape is known, and what is read behind it
step_read : (v : Built) (b : ℕ) (bytes more : List ℕ) (of : Shape) (p : Step) → shape_of (opcode_at b) ≡ of → behind_shape of (opcode_at b) v bytes ≡ Some (p, more) → rest_at v (b ∷ bytes) ≡ goes_on rest_at p more
step_read v b bytes more of p e h = step_to v (b ∷ bytes) p more (ap (λ x. behind_shape x (opcode_at b) v bytes) e ∙ h)

-- an instruction without inner instructions
behind_plain : (o : Opcode) (v : Built) (imm more : List ℕ) (i : Instr) → SpellsBehind o imm i → behind_shape (shape_of o) o v (imm ++ more) ≡ Some (Continue (with_plain i v), more)
behind_plain op.End v imm more i h = absurd h.1
behind_plain op.Else v imm more i h = absurd h.1
behind_plain op.Block v imm more i h = absurd h.1
behind_plain op.Loop v imm more i h = absurd h.1
behind_plain op.If v imm more i h = absurd h.1
behind_plain o v imm more i h = ap (λ x. and_then x (λ i rest. Some (Continue (with_plain i v), rest))) ((immediates_exact o).again imm more i h)

plain_read : (i : Instr) (p more : List ℕ) (v : Built) → SpellsPlain p i → rest_at v (p ++ more) ≡ rest_at (with_plain i v) more
plain_read i [] more v s = absurd (plain_begins i s)
plain_read i (b ∷ imm) more v s = step_to v (b ∷ (imm ++ more)) (Continue (with_plain i v)) more (behind_plain (opcode_at b) v imm more i (spelled_is_behind b imm i s))

-- a sequence behind what was read
abbrev behind : Built → Sequence → Built
behind v t = record { opens = v.opens; before = append v.before t }

abbrev IsRead : Sequence → Type 0
IsRead t = (v : Built) (a more : List ℕ) → SpellsSequence a t → rest_at v (a ++ more) ≡ rest_at (behind v t) more

parts_read : (v : Built) (a front back more : List ℕ) → a ≡ front ++ back → rest_at v (a ++ more) ≡ rest_at v (front ++ (back ++ more))
parts_read v a front back more p = ap (rest_at v) (ap (λ x. x ++ more) p ∙ append_assoc front back more)

-- the instructions of a construct, its end, and the rest of the sequence round it
close_read : (o : Open) (os : List Open) (before part t r : Sequence) → IsRead t → IsRead r → closed o t ≡ append before part → (a more : List ℕ) → Joined (λ b. SpellsSequence b t) (Behind 0x0B (λ c. SpellsSequence c r)) a →
    rest_at (record { opens = o ∷ os; before = Empty }) (a ++ more) ≡ rest_at (record { opens = os; before = append before (append part r) }) more
close_read o os before part t r read_t read_r is a more j = parts_read _ a j.front j.back more j.parts ∙ read_t _ j.front (j.back ++ more) j.first ∙ ends j.back j.second where
  ends : (back : List ℕ) → Behind 0x0B (λ c. SpellsSequence c r) back → rest_at (record { opens = o ∷ os; before = t }) (back ++ more) ≡ rest_at (record { opens = os; before = append before (append part r) }) more
  ends [] h = absurd h
  ends (e ∷ back) h =
      step_read (record { opens = o ∷ os; before = t }) e (back ++ more) (back ++ more) shape.End (Continue (record { opens = os; before = closed o t })) (shape_end e h.0) refl ∙ ap (λ s. rest_at (record { opens = os; before = s }) (back ++ more)) is
      ∙ read_r (record { opens = os; before = append before part }) back more h.1 ∙ ap (λ s. rest_at (record { opens = os; before = s }) more) (append-append before part r)

-- what opens a construct, and its inside
open_read : (c : Construct) (d : ℕ) (v w : Built) (of : Option ValType) (P : List ℕ → Type 0) → d ≡ construct_byte c → (a more : List ℕ) → Behind d (Joined (λ q. SpellsBlockType q of) P) a →
    ((x : List ℕ) → P x → rest_at (with_open c of v) (x ++ more) ≡ rest_at w more) → rest_at v (a ++ more) ≡ rest_at w more
open_read c d v w of P is [] more h inside = absurd h
open_read c d v w of P is (b ∷ a) more h inside =
    let j = h.1 in
    parts_read v (b ∷ a) (b ∷ j.front) j.back more (ap (λ x. b ∷ x) j.parts) ∙ step_read v b (j.front ++ (j.back ++ more)) (j.back ++ more) (shape.Begin c) (Continue (with_open c of v)) (shape_begin b c (h.0 ∙ is))
    (ap (λ x. and_then x (λ of rest. Some (Continue (with_open c of v), rest))) (blocktype_exact.again j.front (j.back ++ more) of j.first)) ∙ inside j.back j.second

-- the arms of an if, behind its type
module _ (v : Built) (of : Option ValType) (one two r : Sequence) (read_one : IsRead one) (read_two : IsRead two) (read_r : IsRead r) (more : List ℕ) where
  second_read : (back : List ℕ) → Behind 0x05 (Joined (λ c. SpellsSequence c two) (Behind 0x0B (λ d. SpellsSequence d r))) back →
      rest_at (record { opens = Inside construct.If of v.before ∷ v.opens; before = one }) (back ++ more) ≡ rest_at (behind v (If of one two r)) more
  second_read [] h = absurd h
  second_read (e ∷ back) h =
      step_read (record { opens = Inside construct.If of v.before ∷ v.opens; before = one }) e (back ++ more) (back ++ more) shape.Else (Continue (record { opens = Else of one v.before ∷ v.opens; before = Empty })) (shape_else e h.0) refl
      ∙ close_read (Else of one v.before) v.opens v.before (If of one two Empty) two r read_two read_r refl back more h.1

  arms_read : (x : List ℕ) → (Joined (λ b. SpellsSequence b one) (Behind 0x0B (λ c. SpellsSequence c r)) x × (two ≡ Empty))
      ⊎ Joined (λ b. SpellsSequence b one) (Behind 0x05 (Joined (λ c. SpellsSequence c two) (Behind 0x0B (λ d. SpellsSequence d r)))) x → rest_at (with_open construct.If of v) (x ++ more) ≡ rest_at (behind v (If of one two r)) more
  arms_read x (inl w) =
      close_read (Inside construct.If of v.before) v.opens v.before (If of one Empty Empty) one r read_one read_r refl x more w.0 ∙ ap (λ z. rest_at (behind v (If of one z r)) more) (sym w.1)
  arms_read x (inr w) = parts_read (with_open construct.If of v) x w.front w.back more w.parts ∙ read_one (with_open construct.If of v) w.front (w.back ++ more) w.first ∙ second_read w.back w.second

sequence_read : (t : Sequence) → IsRead t
sequence_read Empty v a more s = ap (λ b. rest_at v (b ++ more)) s ∙ ap (λ z. rest_at (record { opens = v.opens; before = z }) more) (sym (append-empty v.before))
sequence_read (Plain i r) v a more s =
    parts_read v a s.front s.back more s.parts ∙ plain_read i s.front (s.back ++ more) v s.first ∙ sequence_read r (with_plain i v) s.back more s.second
    ∙ ap (λ z. rest_at (record { opens = v.opens; before = z }) more) (append-append v.before (Plain i Empty) r)
sequence_read (Block k of body r) v a more s =
    open_read (construct.Block k) (block_byte k) v (behind v (Block k of body r)) of (Joined (λ b. SpellsSequence b body) (Behind 0x0B (λ c. SpellsSequence c r))) refl a more s
    (λ x j. close_read (Inside (construct.Block k) of v.before) v.opens v.before (Block k of body Empty) body r (sequence_read body) (sequence_read r) refl x more j)
sequence_read (If of one two r) v a more s =
    open_read construct.If 0x04 v (behind v (If of one two r)) of
    (λ x. (Joined (λ b. SpellsSequence b one) (Behind 0x0B (λ c. SpellsSequence c r)) x × (two ≡ Empty)) ⊎ Joined (λ b. SpellsSequence b one) (Behind 0x05 (Joined (λ c. SpellsSequence c two) (Behind 0x0B (λ d. SpellsSequence d r)))) x)
    refl a more s (arms_read v of one two r (sequence_read one) (sequence_read two) (sequence_read r) more)

last_read : (s : Sequence) (back rest : List ℕ) → Behind 0x0B (λ c. c ≡ []) back → rest_at (record { opens = []; before = s }) (back ++ rest) ≡ Some (s, rest)
last_read s [] rest h = absurd h
last_read s (e ∷ back) rest h =
    step_read (record { opens = []; before = s }) e (back ++ rest) (back ++ rest) shape.End (Complete s) (shape_end e h.0) refl ∙ ap (λ b. Some (s, b ++ rest)) h.1

pub expr_again : (front rest : List ℕ) (s : Sequence) → SpellsExpr front s → expr_at (front ++ rest) ≡ Some (s, rest)
expr_again front rest s h =
    parts_read nothing_built front h.front h.back rest h.parts ∙ sequence_read s nothing_built h.front (h.back ++ rest) h.first ∙ last_read s h.back rest h.second

pub expr_exact : IsExact SpellsExpr expr_at
expr_exact = record { takes = expr_takes; again = expr_again }
