-- A turn over a group, and the end of one.
use Rattle.std.proofs.Common.{◌≡◌, ℕ, Bool, true, false, cond, List, [], ◌∷◌, ◌++◌, Option, Some, None, refl, sym, ◌∙◌, ap, subst, arith}
use Rattle.std.proofs.lemmas.List.{append-nil}
use Rattle.std.specs.Prelude.{codes}
use Rattle.std.specs.Option.{option_map, option_and_then}
use Rattle.std.specs.Str.{bytes_eq}
use Rattle.wasm_ast.specs.declared.types.ValType.{ValType}
use Rattle.wasm_ast.specs.declared.instr.BlockKind.{BlockKind}
use Rattle.wat_names.specs.Named.{named_by}
use Rattle.wat_names.specs.declared.named.Named.{Named}
use Rattle.wat_fields.specs.Items.{Items, Empty, Word, Group}
use Rattle.wat_syntax.specs.Parsed.{Identifier, Plain, Instructions, Done, Then, Block, If}
use Rattle.wat_immediates.specs.InstructionForms.{append, Part, One, Opens, Folded, FirstArm, SecondArm, Level, before, levels, nested, operands, arms, Row, row, row_of, alone, parts_alone, part_of, with_word, with_part, folded, folded_open, first_arm, second_arm, named_group, is_immediate}
use Rattle.wat_syntax.specs.Immediates.{is_empty}
use Rattle.wat_immediates.specs.Rows.{immediates, past, parts_of}
use Rattle.wat_syntax.specs.Flat.{FlatStep, flat}
use Rattle.wat_bodies.specs.Nesting.{Frame, ahead, after, second_part, under, held, to_come, stands_in, is_else, Begins, BeginsElse, IsNested, size, frame_size, frames_size, left, Moves}
use Rattle.wat_bodies.proofs.NestingLemmas.{ahead_nothing, five, flat_append, flat_if}
use Rattle.wat_bodies.proofs.PutLemmas.{steps_more}
use Rattle.wat_bodies.proofs.TurnLemmas.{led_by, past_size, group_parts, folded_parts, folded_steps, operands_held, tests_held, second_held, body_held, first_held}
use Rattle.wasm_ast.specs.declared.instr.Construct.TheVariants as construct
use Rattle.wat_names.specs.declared.named.Named.TheVariants as named
use Rattle.wat_bodies.specs.declared.nesting.Stands.TheVariants as stands
use Rattle.wat_syntax.specs.Flat as step
use Rattle.wat_bodies.specs.Nesting as frame

-- ---- the end of a group

pub bottom_end : (E : List FlatStep) → ahead E (to_come [] Empty) ≡ Some E
unfolding to_come held under
bottom_end E = ap Some (append-nil E)

pub block_unended : (fs : List Frame) → to_come (frame.Block ∷ fs) Empty ≡ None
unfolding to_come held under
block_unended fs = refl

pub if_unended : (fs : List Frame) → to_come (frame.If ∷ fs) Empty ≡ None
unfolding to_come held under
if_unended fs = refl

pub tests_unended : (fs : List Frame) (label : Identifier) (of : Option ValType) (behind : Items) → to_come (frame.Tests label of behind ∷ fs) Empty ≡ None
unfolding to_come held under
tests_unended fs label of behind = refl

body_comes : (fs : List Frame) (behind : Items) → to_come (frame.Body behind ∷ fs) Empty ≡ ahead (step.End None ∷ []) (to_come fs behind)
unfolding to_come
body_comes fs behind = body_held fs behind [] ∙ ahead_nothing (ahead (step.End None ∷ []) (to_come fs behind))

operands_come : (fs : List Frame) (i : Plain) (behind : Items) → to_come (frame.Operands i behind ∷ fs) Empty ≡ ahead (step.One i ∷ []) (to_come fs behind)
unfolding to_come
operands_come fs i behind = operands_held fs i behind [] ∙ ahead_nothing (ahead (step.One i ∷ []) (to_come fs behind))

second_comes : (fs : List Frame) (behind : Items) → to_come (frame.Second behind ∷ fs) Empty ≡ ahead (step.End None ∷ []) (to_come fs behind)
unfolding to_come
second_comes fs behind = second_held fs behind [] ∙ ahead_nothing (ahead (step.End None ∷ []) (to_come fs behind))

second_after : (fs : List Frame) (behind : Items) (ps : Option (List Part)) →
    after (option_and_then second_part ps) (step.End None ∷ []) (to_come fs behind) ≡ option_and_then (λ q. held (frame.Second behind ∷ fs) q) ps
unfolding to_come
second_after fs behind None = refl
second_after fs behind (Some ps) = sym (second_held fs behind ps)

first_comes : (fs : List Frame) (others behind : Items) → to_come (frame.First others behind ∷ fs) Empty ≡ ahead (step.Else None ∷ []) (to_come (frame.Second behind ∷ fs) others)
unfolding to_come
first_comes fs others behind =
    first_held fs others behind [] ∙ ahead_nothing (ahead (step.Else None ∷ []) (after (option_and_then second_part (parts_of others)) (step.End None ∷ []) (to_come fs behind)))
    ∙ ap (ahead (step.Else None ∷ [])) (second_after fs behind (parts_of others))

pub body_end : (E E' : List FlatStep) (fs : List Frame) (behind : Items) → E' ≡ E ++ step.End None ∷ [] → IsNested fs → Moves E E' (frame.Body behind ∷ fs) fs Empty behind
unfolding size frame_size frames_size
body_end E E' fs behind e n = record {
  same = steps_more E E' (step.End None ∷ []) (to_come (frame.Body behind ∷ fs) Empty) (to_come fs behind) e (body_comes fs behind);
  less = omega arith;
  nested = n;
}

pub operands_end : (E E' : List FlatStep) (fs : List Frame) (i : Plain) (behind : Items) → E' ≡ E ++ step.One i ∷ [] → IsNested fs → Moves E E' (frame.Operands i behind ∷ fs) fs Empty behind
unfolding size frame_size frames_size
operands_end E E' fs i behind e n = record {
  same = steps_more E E' (step.One i ∷ []) (to_come (frame.Operands i behind ∷ fs) Empty) (to_come fs behind) e (operands_come fs i behind);
  less = omega arith;
  nested = n;
}

pub second_end : (E E' : List FlatStep) (fs : List Frame) (behind : Items) → E' ≡ E ++ step.End None ∷ [] → IsNested fs → Moves E E' (frame.Second behind ∷ fs) fs Empty behind
unfolding size frame_size frames_size
second_end E E' fs behind e n = record {
  same = steps_more E E' (step.End None ∷ []) (to_come (frame.Second behind ∷ fs) Empty) (to_come fs behind) e (second_comes fs behind);
  less = omega arith;
  nested = n;
}

-- where other names stand for what is open then and for what is left
moves_to : (E E' : List FlatStep) (fs gs fs' : List Frame) (items rest at : Items) → fs' ≡ gs → at ≡ rest → Moves E E' fs gs items rest → Moves E E' fs fs' items at
moves_to E E' fs gs fs' items rest at f a m = subst (λ y. Moves E E' fs y items at) (sym f) (subst (λ x. Moves E E' fs gs items x) (sym a) m)

pub first_end : (E E' : List FlatStep) (fs fs' : List Frame) (others behind : Items) → E' ≡ E ++ step.Else None ∷ [] → IsNested fs → fs' ≡ frame.Second behind ∷ fs →
    Moves E E' (frame.First others behind ∷ fs) fs' Empty others
unfolding size frame_size frames_size
first_end E E' fs fs' others behind e n f = moves_to E E' (frame.First others behind ∷ fs) (frame.Second behind ∷ fs) fs' Empty others others f refl (record {
  same = steps_more E E' (step.Else None ∷ []) (to_come (frame.First others behind ∷ fs) Empty) (to_come (frame.Second behind ∷ fs) others) e (first_comes fs others behind);
  less = omega arith;
  nested = n;
})

-- ---- folded instructions

group_come : (fs : List Frame) (line : ℕ) (keyword : List ℕ) (inside rest : Items) (n : Named) (p : Option Part) → Begins keyword n → part_of n (immediates inside) ≡ p →
    to_come fs (Group line (Word keyword inside) rest) ≡ option_and_then (λ xs. held fs xs) (led_by (parts_of rest) (option_and_then (λ q. folded_open q p) (parts_of (past inside))))
unfolding to_come
group_come fs line keyword inside rest n p b o =
    ap (option_and_then (λ xs. held fs xs)) (folded_parts line keyword inside rest n p b.no_immediate b.no_arm b.its_name b.no_else o)

no_open : (p : Option Part) (qs : Option (List Part)) → ((q : List Part) → folded_open q p ≡ None) → option_and_then (λ q. folded_open q p) qs ≡ None
no_open p None h = refl
no_open p (Some qs) h = h qs

pub formless_group : (fs : List Frame) (line : ℕ) (keyword : List ℕ) (inside rest : Items) (n : Named) (p : Option Part) → Begins keyword n → part_of n (immediates inside) ≡ p →
    ((q : List Part) → folded_open q p ≡ None) → to_come fs (Group line (Word keyword inside) rest) ≡ None
formless_group fs line keyword inside rest n p b o h =
    group_come fs line keyword inside rest n p b o ∙ ap (λ x. option_and_then (λ xs. held fs xs) (led_by (parts_of rest) x)) (no_open p (parts_of (past inside)) h)

operator_come : (fs : List Frame) (line : ℕ) (keyword : List ℕ) (inside rest : Items) (n : Named) (i : Plain) → Begins keyword n → part_of n (immediates inside) ≡ Some (One i) →
    (stands_in fs ≡ stands.Second → ⊥) → to_come fs (Group line (Word keyword inside) rest) ≡ to_come (frame.Operands i rest ∷ fs) (past inside)
unfolding to_come
operator_come fs line keyword inside rest n i b o h =
    group_come fs line keyword inside rest n (Some (One i)) b o
    ∙ folded_steps fs (frame.Operands i rest) (λ is. append is (Then i Done)) [] (step.One i ∷ []) operands (parts_of (past inside)) (parts_of rest)
    (λ is. flat_append is (Then i Done)) h (operands_held fs i rest)
    ∙ ahead_nothing (option_and_then (λ q. held (frame.Operands i rest ∷ fs) q) (parts_of (past inside)))

block_come : (fs : List Frame) (line : ℕ) (keyword : List ℕ) (inside rest : Items) (n : Named) (k : BlockKind) (label : Identifier) (of : Option ValType) → Begins keyword n →
    part_of n (immediates inside) ≡ Some (Opens (construct.Block k) label of) → (stands_in fs ≡ stands.Second → ⊥) →
    to_come fs (Group line (Word keyword inside) rest) ≡ ahead (step.Open (construct.Block k) label of ∷ []) (to_come (frame.Body rest ∷ fs) (past inside))
unfolding to_come
block_come fs line keyword inside rest n k label of b o h =
    group_come fs line keyword inside rest n (Some (Opens (construct.Block k) label of)) b o
    ∙ folded_steps fs (frame.Body rest) (λ body. Block k label [] of body Done) (step.Open (construct.Block k) label of ∷ []) (step.End None ∷ []) nested (parts_of (past inside)) (parts_of rest)
    (λ is. refl) h (body_held fs rest)

tests_come : (fs : List Frame) (line : ℕ) (keyword : List ℕ) (inside rest : Items) (n : Named) (label : Identifier) (of : Option ValType) → Begins keyword n →
    part_of n (immediates inside) ≡ Some (Opens construct.If label of) → (stands_in fs ≡ stands.Second → ⊥) →
    to_come fs (Group line (Word keyword inside) rest) ≡ to_come (frame.Tests label of rest ∷ fs) (past inside)
unfolding to_come
tests_come fs line keyword inside rest n label of b o h =
    group_come fs line keyword inside rest n (Some (Opens construct.If label of)) b o
    ∙ folded_steps fs (frame.Tests label of rest) (λ is. is) [] [] (arms label of) (parts_of (past inside)) (parts_of rest)
    (λ is. sym (append-nil (flat is))) h (tests_held fs label of rest)
    ∙ ahead_nothing (option_and_then (λ q. held (frame.Tests label of rest ∷ fs) q) (parts_of (past inside)))

pub operator_moves : (E : List FlatStep) (fs fs' : List Frame) (line : ℕ) (keyword : List ℕ) (inside rest at : Items) (n : Named) (i : Plain) → Begins keyword n →
    part_of n (immediates inside) ≡ Some (One i) → (stands_in fs ≡ stands.Second → ⊥) → IsNested fs → fs' ≡ frame.Operands i rest ∷ fs → at ≡ past inside →
    Moves E E fs fs' (Group line (Word keyword inside) rest) at
unfolding size frame_size frames_size
operator_moves E fs fs' line keyword inside rest at n i b o h k f a = moves_to E E fs (frame.Operands i rest ∷ fs) fs' (Group line (Word keyword inside) rest) (past inside) at f a (record {
  same = ap (ahead E) (operator_come fs line keyword inside rest n i b o h);
  less = omega (arith, past_size inside);
  nested = k;
})

pub block_moves : (E E' : List FlatStep) (fs fs' : List Frame) (line : ℕ) (keyword : List ℕ) (inside rest at : Items) (n : Named) (k : BlockKind) (label : Identifier) (of : Option ValType) →
    Begins keyword n → part_of n (immediates inside) ≡ Some (Opens (construct.Block k) label of) → (stands_in fs ≡ stands.Second → ⊥) → IsNested fs → E' ≡ E ++ step.Open (construct.Block k) label of ∷ [] →
    fs' ≡ frame.Body rest ∷ fs → at ≡ past inside → Moves E E' fs fs' (Group line (Word keyword inside) rest) at
unfolding size frame_size frames_size
block_moves E E' fs fs' line keyword inside rest at n k label of b o h m e f a = moves_to E E' fs (frame.Body rest ∷ fs) fs' (Group line (Word keyword inside) rest) (past inside) at f a (record {
  same = steps_more E E' (step.Open (construct.Block k) label of ∷ []) (to_come fs (Group line (Word keyword inside) rest)) (to_come (frame.Body rest ∷ fs) (past inside)) e
      (block_come fs line keyword inside rest n k label of b o h);
  less = omega (arith, past_size inside);
  nested = m;
})

pub tests_moves : (E : List FlatStep) (fs fs' : List Frame) (line : ℕ) (keyword : List ℕ) (inside rest at : Items) (n : Named) (label : Identifier) (of : Option ValType) →
    Begins keyword n → part_of n (immediates inside) ≡ Some (Opens construct.If label of) → (stands_in fs ≡ stands.Second → ⊥) → IsNested fs →
    fs' ≡ frame.Tests label of rest ∷ fs → at ≡ past inside → Moves E E fs fs' (Group line (Word keyword inside) rest) at
unfolding size frame_size frames_size
tests_moves E fs fs' line keyword inside rest at n label of b o h m f a = moves_to E E fs (frame.Tests label of rest ∷ fs) fs' (Group line (Word keyword inside) rest) (past inside) at f a (record {
  same = ap (ahead E) (tests_come fs line keyword inside rest n label of b o h);
  less = omega (arith, past_size inside);
  nested = m;
})

-- where the second arm of an if may stand, no folded instruction does
folded_second : (fs : List Frame) (is : Instructions) (ps : List Part) → stands_in fs ≡ stands.Second → held fs (Folded is ∷ ps) ≡ None
unfolding held
folded_second (frame.Second behind ∷ fs) is ps e = refl
folded_second fs is ps e = cc

-- a part that may not stand here, however it is made
never : (fs : List Frame) (made : Instructions → Part) (ps : Option (List Part)) (x : Option Instructions) → ((is : Instructions) (xs : List Part) → held fs (made is ∷ xs) ≡ None) →
    option_and_then (λ xs. held fs xs) (led_by ps (option_map made x)) ≡ None
never fs made ps None h = refl
never fs made None (Some is) h = refl
never fs made (Some ps) (Some is) h = h is ps

-- a folded instruction where only the second arm of an if may stand
pub second_folded : (fs : List Frame) (line : ℕ) (keyword : List ℕ) (inside rest : Items) (n : Named) → Begins keyword n → stands_in fs ≡ stands.Second → to_come fs (Group line (Word keyword inside) rest) ≡ None
second_folded fs line keyword inside rest n b e =
    group_come fs line keyword inside rest n (part_of n (immediates inside)) b refl ∙ opens_none (part_of n (immediates inside)) (parts_of (past inside))
  where
    made_none : (made : Instructions → Instructions) (x : Option Instructions) → option_and_then (λ xs. held fs xs) (led_by (parts_of rest) (option_map (λ is. Folded (made is)) x)) ≡ None
    made_none made x = never fs (λ is. Folded (made is)) (parts_of rest) x (λ is xs. folded_second fs (made is) xs e)

    opens_none : (p : Option Part) (qs : Option (List Part)) → option_and_then (λ xs. held fs xs) (led_by (parts_of rest) (option_and_then (λ q. folded_open q p) qs)) ≡ None
    opens_none p None = refl
    opens_none (Some (One i)) (Some q) = made_none (λ is. append is (Then i Done)) (operands q)
    opens_none (Some (Opens (construct.Block k) label of)) (Some q) = made_none (λ body. Block k label [] of body Done) (nested q)
    opens_none (Some (Opens construct.If label of)) (Some q) = made_none (λ is. is) (arms label of q)
    opens_none p qs = refl

-- ---- the arms of a folded if

arm_made : (made : Instructions → Part) (r : Option Row) → option_and_then (λ x. option_map made (alone x)) r ≡ option_map made (option_and_then nested (option_and_then parts_alone r))
arm_made made None = refl
arm_made made (Some r) = refl

then_row : (keyword : List ℕ) (r : Option Row) → bytes_eq keyword (codes "then") ≡ true → option_and_then (folded keyword) r ≡ option_and_then (λ x. option_map FirstArm (alone x)) r
then_row keyword None e = refl
then_row keyword (Some r) e = ap (λ b. cond b (first_arm r) (option_and_then (named_group r) (named_by keyword))) e

named_else : (n : Named) (r : Row) → is_else n ≡ true → named_group r n ≡ second_arm r
named_else named.Else r e = refl
named_else n r e = cc

else_row : (keyword : List ℕ) (n : Named) (r : Option Row) → bytes_eq keyword (codes "then") ≡ false → named_by keyword ≡ Some n → is_else n ≡ true →
    option_and_then (folded keyword) r ≡ option_and_then (λ x. option_map SecondArm (alone x)) r
else_row keyword n None e h k = refl
else_row keyword n (Some r) e h k =
    ap (λ b. cond b (first_arm r) (option_and_then (named_group r) (named_by keyword))) e ∙ ap (option_and_then (named_group r)) h ∙ named_else n r k

then_parts : (line : ℕ) (keyword : List ℕ) (inside rest : Items) → is_immediate keyword ≡ false → bytes_eq keyword (codes "then") ≡ true →
    parts_of (Group line (Word keyword inside) rest) ≡ led_by (parts_of rest) (option_map FirstArm (option_and_then nested (parts_of inside)))
then_parts line keyword inside rest i e =
    group_parts line keyword inside rest (option_map FirstArm (option_and_then nested (parts_of inside))) i (then_row keyword (row_of inside) e ∙ arm_made FirstArm (row_of inside))

else_parts : (line : ℕ) (keyword : List ℕ) (inside rest : Items) (n : Named) → BeginsElse keyword n →
    parts_of (Group line (Word keyword inside) rest) ≡ led_by (parts_of rest) (option_map SecondArm (option_and_then nested (parts_of inside)))
else_parts line keyword inside rest n b =
    group_parts line keyword inside rest (option_map SecondArm (option_and_then nested (parts_of inside))) b.no_immediate
    (else_row keyword n (row_of inside) b.no_arm b.its_name b.its_else ∙ arm_made SecondArm (row_of inside))

arms_first : (label : Identifier) (of : Option ValType) (first : Instructions) (ps : List Part) → arms label of (FirstArm first ∷ ps) ≡ option_map (λ second. If label [] of first second Done) (second_part ps)
arms_first label of first (SecondArm is ∷ []) = refl
arms_first label of first ps = refl

arm_after : (label : Identifier) (of : Option ValType) (first : Instructions) (second : Option Instructions) (m : Option (List FlatStep)) →
    after (option_map (λ x. If label [] of first x Done) second) [] m
    ≡ ahead (step.Open construct.If label of ∷ []) (ahead (flat first) (ahead (step.Else None ∷ []) (after second (step.End None ∷ []) m)))
arm_after label of first None m = refl
arm_after label of first (Some second) m =
    ap (ahead (flat (If label [] of first second Done))) (ahead_nothing m) ∙ ap (λ x. ahead x m) (flat_if label [] of first second Done)
    ∙ sym (five (step.Open construct.If label of ∷ []) (flat first) (step.Else None ∷ []) (flat second) (step.End None ∷ []) m)

first_steps : (label : Identifier) (of : Option ValType) (x : Option Instructions) (ps : Option (List Part)) (m : Option (List FlatStep)) →
    option_and_then (λ q. after (arms label of q) [] m) (led_by ps (option_map FirstArm x))
    ≡ ahead (step.Open construct.If label of ∷ []) (after x (step.Else None ∷ []) (after (option_and_then second_part ps) (step.End None ∷ []) m))
first_steps label of (Some first) (Some ps) m =
    ap (λ x. after x [] m) (arms_first label of first ps) ∙ arm_after label of first (second_part ps) m
first_steps label of x ps m = refl

held_as : (f : Frame) (fs : List Frame) (g : List Part → Option (List FlatStep)) (ps : Option (List Part)) → ((q : List Part) → held (f ∷ fs) q ≡ g q) →
    option_and_then (λ q. held (f ∷ fs) q) ps ≡ option_and_then g ps
held_as f fs g None h = refl
held_as f fs g (Some ps) h = h ps

arm_bind : (t : List FlatStep) (m : Option (List FlatStep)) (ps : Option (List Part)) → option_and_then (λ q. after (nested q) t m) ps ≡ after (option_and_then nested ps) t m
arm_bind t m None = refl
arm_bind t m (Some ps) = refl

then_come_so : (fs : List Frame) (line : ℕ) (keyword : List ℕ) (inside rest : Items) (label : Identifier) (of : Option ValType) (behind : Items) → is_immediate keyword ≡ false →
    bytes_eq keyword (codes "then") ≡ true →
    to_come (frame.Tests label of behind ∷ fs) (Group line (Word keyword inside) rest) ≡ ahead (step.Open construct.If label of ∷ []) (to_come (frame.First rest behind ∷ fs) inside)
unfolding to_come
then_come_so fs line keyword inside rest label of behind i e =
    ap (option_and_then (λ q. held (frame.Tests label of behind ∷ fs) q)) (then_parts line keyword inside rest i e)
    ∙ held_as (frame.Tests label of behind) fs (λ q. after (arms label of q) [] (to_come fs behind)) (led_by (parts_of rest) (option_map FirstArm (option_and_then nested (parts_of inside)))) (tests_held fs label of behind)
    ∙ first_steps label of (option_and_then nested (parts_of inside)) (parts_of rest) (to_come fs behind)
    ∙ ap (ahead (step.Open construct.If label of ∷ []))
    (sym (held_as (frame.First rest behind) fs (λ q. after (nested q) (step.Else None ∷ []) (after (option_and_then second_part (parts_of rest)) (step.End None ∷ []) (to_come fs behind)))
    (parts_of inside) (first_held fs rest behind)
    ∙ arm_bind (step.Else None ∷ []) (after (option_and_then second_part (parts_of rest)) (step.End None ∷ []) (to_come fs behind)) (parts_of inside)))

pub then_moves : (E E' : List FlatStep) (fs fs' : List Frame) (line : ℕ) (keyword : List ℕ) (inside rest : Items) (label : Identifier) (of : Option ValType) (behind : Items) → is_immediate keyword ≡ false →
    bytes_eq keyword (codes "then") ≡ true → IsNested fs → E' ≡ E ++ step.Open construct.If label of ∷ [] → fs' ≡ frame.First rest behind ∷ fs →
    Moves E E' (frame.Tests label of behind ∷ fs) fs' (Group line (Word keyword inside) rest) inside
unfolding size frame_size frames_size
then_moves E E' fs fs' line keyword inside rest label of behind i e n p f = moves_to E E' (frame.Tests label of behind ∷ fs) (frame.First rest behind ∷ fs) fs' (Group line (Word keyword inside) rest) inside inside f refl (record {
  same = steps_more E E' (step.Open construct.If label of ∷ []) (to_come (frame.Tests label of behind ∷ fs) (Group line (Word keyword inside) rest)) (to_come (frame.First rest behind ∷ fs) inside) p
      (then_come_so fs line keyword inside rest label of behind i e);
  less = omega arith;
  nested = n;
})

first_levels : (fs : List Frame) (is : Instructions) (ls : Option (List Level)) → option_and_then (λ ms. under fs ms) (option_and_then (before (FirstArm is)) ls) ≡ None
first_levels fs is None = refl
first_levels fs is (Some ls) = refl

first_elsewhere : (fs : List Frame) (is : Instructions) (ps : List Part) → (stands_in fs ≡ stands.Tests → ⊥) → held fs (FirstArm is ∷ ps) ≡ None
unfolding held
first_elsewhere (frame.Operands i behind ∷ fs) is ps h = refl
first_elsewhere (frame.Tests label of behind ∷ fs) is ps h = absurd (h refl)
first_elsewhere (frame.Second behind ∷ fs) is ps h = refl
first_elsewhere fs is ps h = first_levels fs is (levels ps)

-- the first arm of an if elsewhere
pub then_elsewhere : (fs : List Frame) (line : ℕ) (keyword : List ℕ) (inside rest : Items) → is_immediate keyword ≡ false → bytes_eq keyword (codes "then") ≡ true → (stands_in fs ≡ stands.Tests → ⊥) →
    to_come fs (Group line (Word keyword inside) rest) ≡ None
unfolding to_come
then_elsewhere fs line keyword inside rest i e h =
    ap (option_and_then (λ q. held fs q)) (then_parts line keyword inside rest i e)
    ∙ never fs FirstArm (parts_of rest) (option_and_then nested (parts_of inside)) (λ is xs. first_elsewhere fs is xs h)

second_levels : (fs : List Frame) (is : Instructions) (ls : Option (List Level)) → option_and_then (λ ms. under fs ms) (option_and_then (before (SecondArm is)) ls) ≡ None
second_levels fs is None = refl
second_levels fs is (Some ls) = refl

second_elsewhere : (fs : List Frame) (is : Instructions) (ps : List Part) → (stands_in fs ≡ stands.Second → ⊥) → held fs (SecondArm is ∷ ps) ≡ None
unfolding held
second_elsewhere (frame.Operands i behind ∷ fs) is ps h = refl
second_elsewhere (frame.Tests label of behind ∷ fs) is ps h = refl
second_elsewhere (frame.Second behind ∷ fs) is ps h = absurd (h refl)
second_elsewhere fs is ps h = second_levels fs is (levels ps)

-- the second arm of an if elsewhere
pub else_elsewhere : (fs : List Frame) (line : ℕ) (keyword : List ℕ) (inside rest : Items) (n : Named) → BeginsElse keyword n → (stands_in fs ≡ stands.Second → ⊥) →
    to_come fs (Group line (Word keyword inside) rest) ≡ None
unfolding to_come
else_elsewhere fs line keyword inside rest n b h =
    ap (option_and_then (λ q. held fs q)) (else_parts line keyword inside rest n b)
    ∙ never fs SecondArm (parts_of rest) (option_and_then nested (parts_of inside)) (λ is xs. second_elsewhere fs is xs h)

second_steps : (x : Option Instructions) (t : List FlatStep) (m : Option (List FlatStep)) → option_and_then (λ q. after (second_part q) t m) (led_by (Some []) (option_map SecondArm x)) ≡ after x t m
second_steps None t m = refl
second_steps (Some is) t m = refl

else_come_so : (fs : List Frame) (line : ℕ) (keyword : List ℕ) (inside behind : Items) (n : Named) → BeginsElse keyword n →
    to_come (frame.Second behind ∷ fs) (Group line (Word keyword inside) Empty) ≡ to_come (frame.Body behind ∷ fs) inside
unfolding to_come
else_come_so fs line keyword inside behind n b =
    ap (option_and_then (λ q. held (frame.Second behind ∷ fs) q)) (else_parts line keyword inside Empty n b)
    ∙ held_as (frame.Second behind) fs (λ q. after (second_part q) (step.End None ∷ []) (to_come fs behind)) (led_by (Some []) (option_map SecondArm (option_and_then nested (parts_of inside)))) (second_held fs behind)
    ∙ second_steps (option_and_then nested (parts_of inside)) (step.End None ∷ []) (to_come fs behind)
    ∙ sym (held_as (frame.Body behind) fs (λ q. after (nested q) (step.End None ∷ []) (to_come fs behind)) (parts_of inside) (body_held fs behind)
    ∙ arm_bind (step.End None ∷ []) (to_come fs behind) (parts_of inside))

pub else_moves : (E : List FlatStep) (fs fs' : List Frame) (line : ℕ) (keyword : List ℕ) (inside rest behind : Items) (n : Named) → BeginsElse keyword n → IsNested fs → rest ≡ Empty →
    fs' ≡ frame.Body behind ∷ fs → Moves E E (frame.Second behind ∷ fs) fs' (Group line (Word keyword inside) rest) inside
unfolding size frame_size frames_size
else_moves E fs fs' line keyword inside rest behind n b h r f =
    subst (λ x. Moves E E (frame.Second behind ∷ fs) fs' (Group line (Word keyword inside) x) inside) (sym r) (moves_to E E (frame.Second behind ∷ fs) (frame.Body behind ∷ fs) fs' (Group line (Word keyword inside) Empty) inside inside f refl (record {
      same = ap (ahead E) (else_come_so fs line keyword inside behind n b);
      less = omega arith;
      nested = h;
    }))

-- none, or at least one part
abbrev pub NoneOrMore : Option (List Part) → Type 0
NoneOrMore None = Unit {0}
NoneOrMore (Some []) = ⊥
NoneOrMore (Some (p ∷ ps)) = Unit {0}

made_more : (ps : List Part) (p : Option Part) → NoneOrMore (option_and_then parts_alone (option_map (λ x. row Empty (x ∷ ps)) p))
made_more ps None = tt
made_more ps (Some p) = tt

word_more : (word : List ℕ) (n : Option Named) (r : Option Row) → NoneOrMore (option_and_then parts_alone (option_and_then (λ x. with_word word x n) r))
word_more word n None = tt
word_more word (Some n) (Some r) = made_more r.parts (part_of n r.immediates)
word_more word n r = tt

joined_more : (p : Part) (ps : Option (List Part)) → NoneOrMore (option_and_then parts_alone (option_map (λ x. row Empty (p ∷ x)) ps))
joined_more p None = tt
joined_more p (Some ps) = tt

group_more : (line : ℕ) (inner : Items) (b : Bool) (p : Option Part) (r : Option Row) →
    NoneOrMore (option_and_then parts_alone (option_and_then (λ x. cond b (Some (row (Group line inner x.immediates) x.parts)) (option_and_then (with_part x) p)) r))
group_more line inner b p None = tt
group_more line inner false (Some p) (Some r) = joined_more p (parts_alone r)
group_more line inner b p r = tt

some_parts : (items : Items) → is_empty items ≡ false → NoneOrMore (parts_of items)
some_parts Empty e = absurd (cc)
some_parts (Word word rest) e = word_more word (named_by word) (row_of rest)
some_parts (Group line (Word keyword inside) rest) e = group_more line (Word keyword inside) (is_immediate keyword) (option_and_then (folded keyword) (row_of inside)) (row_of rest)
some_parts items e = tt

second_more : (x : Option Instructions) (ps : Option (List Part)) (t : List FlatStep) (m : Option (List FlatStep)) → NoneOrMore ps →
    option_and_then (λ q. after (second_part q) t m) (led_by ps (option_map SecondArm x)) ≡ None
second_more (Some is) (Some []) t m h = absurd h
second_more x ps t m h = refl

-- more stands behind the second arm
pub else_more : (fs : List Frame) (line : ℕ) (keyword : List ℕ) (inside rest behind : Items) (n : Named) → BeginsElse keyword n → is_empty rest ≡ false →
    to_come (frame.Second behind ∷ fs) (Group line (Word keyword inside) rest) ≡ None
unfolding to_come
else_more fs line keyword inside rest behind n b e =
    ap (option_and_then (λ q. held (frame.Second behind ∷ fs) q)) (else_parts line keyword inside rest n b)
    ∙ held_as (frame.Second behind) fs (λ q. after (second_part q) (step.End None ∷ []) (to_come fs behind)) (led_by (parts_of rest) (option_map SecondArm (option_and_then nested (parts_of inside)))) (second_held fs behind)
    ∙ second_more (option_and_then nested (parts_of inside)) (parts_of rest) (step.End None ∷ []) (to_come fs behind) (some_parts rest e)
