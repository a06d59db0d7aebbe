-- What is still to come, read from the left.
use Rattle.std.proofs.Common.{◌≡◌, Bool, true, false, List, [], ◌∷◌, ◌++◌, Option, Some, None, refl, sym, ◌∙◌, ap, append_assoc}
use Rattle.std.specs.Option.{option_map, option_and_then}
use Rattle.wasm_ast.specs.declared.types.ValType.{ValType}
use Rattle.wasm_ast.specs.declared.instr.BlockKind.{BlockKind}
use Rattle.wasm_ast.specs.declared.instr.Construct.{Construct}
use Rattle.wat_fields.specs.Items.{Items}
use Rattle.wat_syntax.specs.Parsed.{Identifier, Plain, Instructions, Done, Then, Block, If}
use Rattle.wat_immediates.specs.InstructionForms.{append, Part, One, Opens, Elses, Ends, Folded, FirstArm, SecondArm, Ending, Last, AtEnd, AtElse, Level, level, in_front, arm_ending, block_of, if_last, before_open, before, levels, only_level}
use Rattle.wat_immediates.specs.Rows.{parts_of}
use Rattle.wat_syntax.specs.Flat.{FlatStep, flat, else_label, end_label}
use Rattle.wat_bodies.specs.Nesting.{Frame, ahead, after, block_ends, if_ends, second_part, levels_in, under, held, stands_in, is_row, opened, outer}
use Rattle.wasm_ast.specs.declared.instr.Construct.TheVariants as construct
use Rattle.wat_bodies.specs.declared.nesting.Stands.TheVariants as stands
use Rattle.wat_syntax.specs.Flat as step
use Rattle.wat_bodies.specs.Nesting as frame

-- ---- steps in front of others

pub ahead_nothing : (m : Option (List FlatStep)) → ahead [] m ≡ m
ahead_nothing None = refl
ahead_nothing (Some m) = refl

pub ahead_both : (xs ys : List FlatStep) (m : Option (List FlatStep)) → ahead xs (ahead ys m) ≡ ahead (xs ++ ys) m
ahead_both xs ys None = refl
ahead_both xs ys (Some m) = ap Some (sym (append_assoc xs ys m))

regroup : (a b c d : List FlatStep) (x y : FlatStep) → a ++ (x ∷ (b ++ (y ∷ (c ++ d)))) ≡ (a ++ (x ∷ (b ++ (y ∷ c)))) ++ d
regroup a b c d x y = ap (λ z. a ++ (x ∷ z)) (sym (append_assoc b (y ∷ c) d)) ∙ sym (append_assoc a (x ∷ (b ++ (y ∷ c))) d)

pub flat_if : (label : Identifier) (repeated : List Identifier) (of : Option ValType) (first second rest : Instructions) →
    flat (If label repeated of first second rest)
    ≡ step.Open construct.If label of ∷ (flat first ++ (step.Else (else_label repeated) ∷ (flat second ++ (step.End (end_label repeated) ∷ flat rest))))
flat_if label repeated of first second rest =
    ap (λ x. step.Open construct.If label of ∷ x) (append_assoc (flat first) (step.Else (else_label repeated) ∷ flat second) (step.End (end_label repeated) ∷ flat rest))

pub flat_append : (is js : Instructions) → flat (append is js) ≡ flat is ++ flat js
flat_append Done js = refl
flat_append (Then i rest) js = ap (λ x. step.One i ∷ x) (flat_append rest js)
flat_append (Block k label repeated of body rest) js = simp (append_assoc, flat_append rest js)
flat_append (If label repeated of first second rest) js =
    flat_if label repeated of first second (append rest js)
    ∙ ap (λ x. step.Open construct.If label of ∷ x)
    (ap (λ x. flat first ++ (step.Else (else_label repeated) ∷ (flat second ++ (step.End (end_label repeated) ∷ x)))) (flat_append rest js)
    ∙ regroup (flat first) (flat second) (flat rest) (flat js) (step.Else (else_label repeated)) (step.End (end_label repeated)))
    ∙ sym (ap (λ x. x ++ flat js) (flat_if label repeated of first second rest))

-- ---- instructions in front of the innermost level

-- what puts instructions in front of others puts these steps in front
abbrev pub PutsSteps : (Instructions → Instructions) → List FlatStep → Type 0
PutsSteps f xs = (is : Instructions) → flat (f is) ≡ xs ++ flat is

front_step : (f : Instructions → Instructions) (xs : List FlatStep) → PutsSteps f xs → (is : Instructions) (m : Option (List FlatStep)) → ahead (flat (f is)) m ≡ ahead xs (ahead (flat is) m)
front_step f xs h is m = ap (λ x. ahead x m) (h is) ∙ sym (ahead_both xs (flat is) m)

last_front : (f : Instructions → Instructions) (is : Instructions) (e : Ending) → if_last e (f is) ≡ option_map f (if_last e is)
last_front f is Last = refl
last_front f is e = refl

after_front : (f : Instructions → Instructions) (xs : List FlatStep) → PutsSteps f xs → (is : Option Instructions) (ys : List FlatStep) (m : Option (List FlatStep)) →
    after (option_map f is) ys m ≡ ahead xs (after is ys m)
after_front f xs h None ys m = refl
after_front f xs h (Some is) ys m = front_step f xs h is (ahead ys m)

after_levels : (f : Instructions → Instructions) (xs : List FlatStep) → PutsSteps f xs → (ls : List Level) (ys : List FlatStep) (m : Option (List FlatStep)) →
    option_and_then (λ ms. after (only_level ms) ys m) (in_front f ls) ≡ ahead xs (after (only_level ls) ys m)
after_levels f xs h (l ∷ []) ys m = ap (λ x. after x ys m) (last_front f l.instructions l.ending) ∙ after_front f xs h (if_last l.ending l.instructions) ys m
after_levels f xs h ls ys m = refl

flat_front : (f : Instructions → Instructions) (xs : List FlatStep) → PutsSteps f xs → (is : Instructions) (e : Ending) → option_map flat (if_last e (f is)) ≡ ahead xs (option_map flat (if_last e is))
flat_front f xs h is Last = ap Some (h is)
flat_front f xs h is e = refl

block_front : (f : Instructions → Instructions) (xs : List FlatStep) → PutsSteps f xs → (is : Instructions) (e : Ending) (m : Option (List FlatStep)) → block_ends (f is) e m ≡ ahead xs (block_ends is e m)
block_front f xs h is (AtEnd label) m = front_step f xs h is (ahead (step.End label ∷ []) m)
block_front f xs h is e m = refl

if_front : (f : Instructions → Instructions) (xs : List FlatStep) → PutsSteps f xs → (is : Instructions) (e : Ending) (m : Option (List FlatStep)) → if_ends (f is) e m ≡ ahead xs (if_ends is e m)
if_front f xs h is Last m = refl
if_front f xs h is (AtEnd label) m = front_step f xs h is (ahead (step.Else None ∷ step.End label ∷ []) m)
if_front f xs h is (AtElse label second end_label) m =
    front_step f xs h is (ahead (step.Else label ∷ []) (ahead (flat second) (ahead (step.End end_label ∷ []) m)))

-- what comes behind the items of a group
abbrev pub then_come : List Frame → Items → Option (List FlatStep)
then_come fs items = option_and_then (λ ps. option_and_then (λ ms. under fs ms) (levels_in fs ps)) (parts_of items)

pub under_front : (f : Instructions → Instructions) (xs : List FlatStep) → PutsSteps f xs → (fs : List Frame) (ls : List Level) → option_and_then (λ ms. under fs ms) (in_front f ls) ≡ ahead xs (under fs ls)
unfolding under
under_front f xs h [] (l ∷ []) = flat_front f xs h l.instructions l.ending
under_front f xs h (frame.Block ∷ fs) (l ∷ ls) = block_front f xs h l.instructions l.ending (under fs ls)
under_front f xs h (frame.If ∷ fs) (l ∷ ls) = if_front f xs h l.instructions l.ending (under fs ls)
under_front f xs h (frame.Body behind ∷ fs) ls = after_levels f xs h ls (step.End None ∷ []) (then_come fs behind)
under_front f xs h (frame.Operands i behind ∷ fs) ls = after_levels f xs h ls (step.One i ∷ []) (then_come fs behind)
under_front f xs h (frame.Tests label of behind ∷ fs) ls = after_levels f xs h ls [] (then_come fs behind)
under_front f xs h (frame.First others behind ∷ fs) ls =
    after_levels f xs h ls (step.Else None ∷ []) (after (option_and_then second_part (parts_of others)) (step.End None ∷ []) (then_come fs behind))
under_front f xs h (frame.Second behind ∷ fs) ls = after_levels f xs h ls (step.End None ∷ []) (then_come fs behind)
under_front f xs h fs ls = refl

under_none : (fs : List Frame) → under fs [] ≡ None
unfolding under
under_none (frame.Block ∷ fs) = refl
under_none fs = refl

-- ---- parts of a row

row_levels : (fs : List Frame) (ps : List Part) → is_row (stands_in fs) ≡ true → levels_in fs ps ≡ levels ps
row_levels (frame.Operands i behind ∷ fs) ps e = cc
row_levels (frame.Tests label of behind ∷ fs) ps e = cc
row_levels (frame.Second behind ∷ fs) ps e = cc
row_levels fs ps e = refl

row_held : (fs : List Frame) (ps : List Part) → is_row (stands_in fs) ≡ true → held fs ps ≡ option_and_then (λ ms. under fs ms) (levels ps)
unfolding held
row_held fs ps e = ap (option_and_then (λ ms. under fs ms)) (row_levels fs ps e)

one_before : (fs : List Frame) (i : Plain) (ls : Option (List Level)) →
    option_and_then (λ ms. under fs ms) (option_and_then (before (One i)) ls) ≡ ahead (step.One i ∷ []) (option_and_then (λ ms. under fs ms) ls)
one_before fs i None = refl
one_before fs i (Some ls) = under_front (Then i) (step.One i ∷ []) (λ is. refl) fs ls

-- a plain instruction
pub one_held : (fs : List Frame) (i : Plain) (ps : List Part) → is_row (stands_in fs) ≡ true → held fs (One i ∷ ps) ≡ ahead (step.One i ∷ []) (held fs ps)
one_held fs i ps e = row_held fs (One i ∷ ps) e ∙ one_before fs i (levels ps) ∙ ap (ahead (step.One i ∷ [])) (sym (row_held fs ps e))

block_none : (is : Instructions) (e : Ending) → block_ends is e None ≡ None
block_none is Last = refl
block_none is e = refl

if_none : (is : Instructions) (e : Ending) → if_ends is e None ≡ None
if_none is Last = refl
if_none is e = refl

pub three : (a b c : List FlatStep) (m : Option (List FlatStep)) → ahead a (ahead b (ahead c m)) ≡ ahead (a ++ (b ++ c)) m
three a b c m = ap (ahead a) (ahead_both b c m) ∙ ahead_both a (b ++ c) m

pub five : (a b c d e : List FlatStep) (m : Option (List FlatStep)) → ahead a (ahead b (ahead c (ahead d (ahead e m)))) ≡ ahead (a ++ (b ++ (c ++ (d ++ e)))) m
five a b c d e m = ap (λ x. ahead a (ahead b x)) (three c d e m) ∙ three a b (c ++ (d ++ e)) m

block_opens : (k : BlockKind) (label : Identifier) (of : Option ValType) (fs : List Frame) (body : Instructions) (e : Ending) (behind : Level) (ls : List Level) →
    option_and_then (λ ms. under fs ms) (option_map (λ is. level is behind.ending ∷ ls) (block_of (construct.Block k) label of body e behind.instructions))
    ≡ ahead (step.Open (construct.Block k) label of ∷ []) (block_ends body e (under fs (behind ∷ ls)))
block_opens k label of fs body (AtEnd end) behind ls =
    under_front (Block k label (end ∷ []) of body) (step.Open (construct.Block k) label of ∷ flat body ++ step.End end ∷ [])
    (λ is. ap (λ x. step.Open (construct.Block k) label of ∷ x) (sym (append_assoc (flat body) (step.End end ∷ []) (flat is)))) fs (behind ∷ ls)
    ∙ sym (three (step.Open (construct.Block k) label of ∷ []) (flat body) (step.End end ∷ []) (under fs (behind ∷ ls)))
block_opens k label of fs body e behind ls = refl

if_opens : (label : Identifier) (of : Option ValType) (fs : List Frame) (body : Instructions) (e : Ending) (behind : Level) (ls : List Level) →
    option_and_then (λ ms. under fs ms) (option_map (λ is. level is behind.ending ∷ ls) (block_of construct.If label of body e behind.instructions))
    ≡ ahead (step.Open construct.If label of ∷ []) (if_ends body e (under fs (behind ∷ ls)))
if_opens label of fs body Last behind ls = refl
if_opens label of fs body (AtEnd end) behind ls =
    under_front (If label (end ∷ []) of body Done) (step.Open construct.If label of ∷ flat body ++ step.Else None ∷ step.End end ∷ [])
    (λ is. flat_if label (end ∷ []) of body Done is
    ∙ ap (λ x. step.Open construct.If label of ∷ x) (sym (append_assoc (flat body) (step.Else None ∷ step.End end ∷ []) (flat is)))) fs (behind ∷ ls)
    ∙ sym (three (step.Open construct.If label of ∷ []) (flat body) (step.Else None ∷ step.End end ∷ []) (under fs (behind ∷ ls)))
if_opens label of fs body (AtElse l second end) behind ls =
    under_front (If label (l ∷ end ∷ []) of body second) (step.Open construct.If label of ∷ (flat body ++ (step.Else l ∷ (flat second ++ (step.End end ∷ [])))))
    (λ is. flat_if label (l ∷ end ∷ []) of body second is
    ∙ ap (λ x. step.Open construct.If label of ∷ x) (regroup (flat body) (flat second) [] (flat is) (step.Else l) (step.End end))) fs (behind ∷ ls)
    ∙ sym (five (step.Open construct.If label of ∷ []) (flat body) (step.Else l ∷ []) (flat second) (step.End end ∷ []) (under fs (behind ∷ ls)))

open_levels : (c : Construct) (label : Identifier) (of : Option ValType) (fs : List Frame) (ls : List Level) →
    option_and_then (λ ms. under fs ms) (before_open c label of ls) ≡ ahead (step.Open c label of ∷ []) (under (opened c ∷ fs) ls)
unfolding under
open_levels (construct.Block k) label of fs (body ∷ []) =
    sym (ap (λ m. ahead (step.Open (construct.Block k) label of ∷ []) (block_ends body.instructions body.ending m)) (under_none fs)
    ∙ ap (ahead (step.Open (construct.Block k) label of ∷ [])) (block_none body.instructions body.ending))
open_levels (construct.Block k) label of fs (body ∷ behind ∷ ls) = block_opens k label of fs body.instructions body.ending behind ls
open_levels construct.If label of fs (body ∷ []) =
    sym (ap (λ m. ahead (step.Open construct.If label of ∷ []) (if_ends body.instructions body.ending m)) (under_none fs)
    ∙ ap (ahead (step.Open construct.If label of ∷ [])) (if_none body.instructions body.ending))
open_levels construct.If label of fs (body ∷ behind ∷ ls) = if_opens label of fs body.instructions body.ending behind ls
open_levels c label of fs ls = refl

open_before : (c : Construct) (label : Identifier) (of : Option ValType) (fs : List Frame) (ls : Option (List Level)) →
    option_and_then (λ ms. under fs ms) (option_and_then (before (Opens c label of)) ls) ≡ ahead (step.Open c label of ∷ []) (option_and_then (λ ms. under (opened c ∷ fs) ms) ls)
open_before c label of fs None = refl
open_before c label of fs (Some ls) = open_levels c label of fs ls

opened_row : (c : Construct) (fs : List Frame) → is_row (stands_in (opened c ∷ fs)) ≡ true
opened_row (construct.Block k) fs = refl
opened_row construct.If fs = refl

-- the start of a block, a loop or an if
pub open_held : (fs : List Frame) (c : Construct) (label : Identifier) (of : Option ValType) (ps : List Part) → is_row (stands_in fs) ≡ true →
    held fs (Opens c label of ∷ ps) ≡ ahead (step.Open c label of ∷ []) (held (opened c ∷ fs) ps)
open_held fs c label of ps e =
    row_held fs (Opens c label of ∷ ps) e ∙ open_before c label of fs (levels ps) ∙ ap (ahead (step.Open c label of ∷ [])) (sym (row_held (opened c ∷ fs) ps (opened_row c fs)))

else_ends : (fs : List Frame) (label : Identifier) (is : Instructions) (e : Ending) (ls : List Level) →
    option_and_then (λ ms. under (frame.If ∷ fs) ms) (option_map (λ x. level Done x ∷ ls) (arm_ending label is e)) ≡ ahead (step.Else label ∷ []) (block_ends is e (under fs ls))
unfolding under
else_ends fs label is (AtEnd end) ls = ahead_nothing (ahead (step.Else label ∷ []) (ahead (flat is) (ahead (step.End end ∷ []) (under fs ls))))
else_ends fs label is e ls = refl

else_before : (fs : List Frame) (label : Identifier) (ls : Option (List Level)) →
    option_and_then (λ ms. under (frame.If ∷ fs) ms) (option_and_then (before (Elses label)) ls) ≡ ahead (step.Else label ∷ []) (option_and_then (λ ms. under (frame.Block ∷ fs) ms) ls)
unfolding under
else_before fs label (Some (l ∷ ls)) = else_ends fs label l.instructions l.ending ls
else_before fs label ls = refl

-- the middle of an if
pub else_held : (fs : List Frame) (label : Identifier) (ps : List Part) → stands_in fs ≡ stands.If → held fs (Elses label ∷ ps) ≡ ahead (step.Else label ∷ []) (held (frame.Block ∷ outer fs) ps)
unfolding held
else_held (frame.If ∷ fs) label ps e = else_before fs label (levels ps)
else_held fs label ps e = cc

end_before : (fs : List Frame) (label : Identifier) (ls : Option (List Level)) →
    option_and_then (λ ms. under (frame.Block ∷ fs) ms) (option_and_then (before (Ends label)) ls) ≡ ahead (step.End label ∷ []) (option_and_then (λ ms. under fs ms) ls)
unfolding under
end_before fs label None = refl
end_before fs label (Some ls) = ahead_nothing (ahead (step.End label ∷ []) (under fs ls))

end_if_before : (fs : List Frame) (label : Identifier) (ls : Option (List Level)) →
    option_and_then (λ ms. under (frame.If ∷ fs) ms) (option_and_then (before (Ends label)) ls) ≡ ahead (step.Else None ∷ step.End label ∷ []) (option_and_then (λ ms. under fs ms) ls)
unfolding under
end_if_before fs label None = refl
end_if_before fs label (Some ls) = ahead_nothing (ahead (step.Else None ∷ step.End label ∷ []) (under fs ls))

-- the end of a block
pub end_held : (fs : List Frame) (label : Identifier) (ps : List Part) → stands_in fs ≡ stands.Block → is_row (stands_in (outer fs)) ≡ true →
    held fs (Ends label ∷ ps) ≡ ahead (step.End label ∷ []) (held (outer fs) ps)
unfolding held
end_held (frame.Block ∷ fs) label ps e r = end_before fs label (levels ps) ∙ ap (ahead (step.End label ∷ [])) (sym (row_held fs ps r))
end_held fs label ps e r = cc

-- the end of an if that has no `else`
pub end_if_held : (fs : List Frame) (label : Identifier) (ps : List Part) → stands_in fs ≡ stands.If → is_row (stands_in (outer fs)) ≡ true →
    held fs (Ends label ∷ ps) ≡ ahead (step.Else None ∷ step.End label ∷ []) (held (outer fs) ps)
unfolding held
end_if_held (frame.If ∷ fs) label ps e r = end_if_before fs label (levels ps) ∙ ap (ahead (step.Else None ∷ step.End label ∷ [])) (sym (row_held fs ps r))
end_if_held fs label ps e r = cc

else_levels : (fs : List Frame) (l : Identifier) (second : Instructions) (e : Identifier) (ls : List Level) → is_row (stands_in fs) ≡ true → (stands_in fs ≡ stands.If → ⊥) →
    under fs (level Done (AtElse l second e) ∷ ls) ≡ None
unfolding under
else_levels [] l second e [] r h = refl
else_levels (frame.Body behind ∷ fs) l second e [] r h = refl
else_levels (frame.First others behind ∷ fs) l second e [] r h = refl
else_levels (frame.If ∷ fs) l second e ls r h = absurd (h refl)
else_levels (frame.Operands i behind ∷ fs) l second e ls r h = cc
else_levels (frame.Tests label of behind ∷ fs) l second e ls r h = cc
else_levels (frame.Second behind ∷ fs) l second e ls r h = cc
else_levels fs l second e ls r h = refl

else_ending : (fs : List Frame) (label : Identifier) (is : Instructions) (e : Ending) (ls : List Level) → is_row (stands_in fs) ≡ true → (stands_in fs ≡ stands.If → ⊥) →
    option_and_then (λ ms. under fs ms) (option_map (λ x. level Done x ∷ ls) (arm_ending label is e)) ≡ None
else_ending fs label is (AtEnd end) ls r h = else_levels fs label is end ls r h
else_ending fs label is e ls r h = refl

else_row : (fs : List Frame) (label : Identifier) (ls : Option (List Level)) → is_row (stands_in fs) ≡ true → (stands_in fs ≡ stands.If → ⊥) →
    option_and_then (λ ms. under fs ms) (option_and_then (before (Elses label)) ls) ≡ None
else_row fs label (Some (l ∷ ls)) r h = else_ending fs label l.instructions l.ending ls r h
else_row fs label ls r h = refl

-- a part that stands in rows alone
abbrev pub IsInRows : Part → Type 0
IsInRows (One i) = Unit {0}
IsInRows (Opens c label of) = Unit {0}
IsInRows (Elses label) = Unit {0}
IsInRows (Ends label) = Unit {0}
IsInRows (Folded is) = ⊥
IsInRows (FirstArm is) = ⊥
IsInRows (SecondArm is) = ⊥

no_row_operands : (fs : List Frame) (p : Part) (ps : List Part) → IsInRows p → is_row (stands_in fs) ≡ false → levels_in fs (p ∷ ps) ≡ None
no_row_operands [] p ps q e = cc
no_row_operands (frame.Block ∷ fs) p ps q e = cc
no_row_operands (frame.If ∷ fs) p ps q e = cc
no_row_operands (frame.Body behind ∷ fs) p ps q e = cc
no_row_operands (frame.First others behind ∷ fs) p ps q e = cc
no_row_operands (frame.Operands i behind ∷ fs) (Folded is) ps q e = absurd q
no_row_operands (frame.Operands i behind ∷ fs) (FirstArm is) ps q e = absurd q
no_row_operands (frame.Operands i behind ∷ fs) (SecondArm is) ps q e = absurd q
no_row_operands (frame.Tests l o behind ∷ fs) (Folded is) ps q e = absurd q
no_row_operands (frame.Tests l o behind ∷ fs) (FirstArm is) ps q e = absurd q
no_row_operands (frame.Tests l o behind ∷ fs) (SecondArm is) ps q e = absurd q
no_row_operands (frame.Second behind ∷ fs) (Folded is) ps q e = absurd q
no_row_operands (frame.Second behind ∷ fs) (FirstArm is) ps q e = absurd q
no_row_operands (frame.Second behind ∷ fs) (SecondArm is) ps q e = absurd q
no_row_operands fs p ps q e = refl

-- such a part elsewhere
pub elsewhere_held : (fs : List Frame) (p : Part) (ps : List Part) → IsInRows p → is_row (stands_in fs) ≡ false → held fs (p ∷ ps) ≡ None
unfolding held
elsewhere_held fs p ps q e = ap (option_and_then (λ ms. under fs ms)) (no_row_operands fs p ps q e)

by_row : (fs : List Frame) (p : Part) (ps : List Part) (b : Bool) → IsInRows p → is_row (stands_in fs) ≡ b →
    (is_row (stands_in fs) ≡ true → option_and_then (λ ms. under fs ms) (levels (p ∷ ps)) ≡ None) → held fs (p ∷ ps) ≡ None
by_row fs p ps true q e h = row_held fs (p ∷ ps) e ∙ h e
by_row fs p ps false q e h = elsewhere_held fs p ps q e

-- an `else` that belongs to no if
pub else_none : (fs : List Frame) (label : Identifier) (ps : List Part) → (stands_in fs ≡ stands.If → ⊥) → held fs (Elses label ∷ ps) ≡ None
else_none fs label ps h = by_row fs (Elses label) ps (is_row (stands_in fs)) tt refl (λ r. else_row fs label (levels ps) r h)

end_levels : (fs : List Frame) (label : Identifier) (ls : List Level) → is_row (stands_in fs) ≡ true → (stands_in fs ≡ stands.Block → ⊥) → (stands_in fs ≡ stands.If → ⊥) →
    under fs (level Done (AtEnd label) ∷ ls) ≡ None
unfolding under
end_levels [] label [] r h k = refl
end_levels (frame.Body behind ∷ fs) label [] r h k = refl
end_levels (frame.First others behind ∷ fs) label [] r h k = refl
end_levels (frame.Block ∷ fs) label ls r h k = absurd (h refl)
end_levels (frame.If ∷ fs) label ls r h k = absurd (k refl)
end_levels (frame.Operands i behind ∷ fs) label ls r h k = cc
end_levels (frame.Tests l of behind ∷ fs) label ls r h k = cc
end_levels (frame.Second behind ∷ fs) label ls r h k = cc
end_levels fs label ls r h k = refl

end_row : (fs : List Frame) (label : Identifier) (ls : Option (List Level)) → is_row (stands_in fs) ≡ true → (stands_in fs ≡ stands.Block → ⊥) → (stands_in fs ≡ stands.If → ⊥) →
    option_and_then (λ ms. under fs ms) (option_and_then (before (Ends label)) ls) ≡ None
end_row fs label None r h k = refl
end_row fs label (Some ls) r h k = end_levels fs label ls r h k

-- an `end` where no block is open
pub end_none : (fs : List Frame) (label : Identifier) (ps : List Part) → (stands_in fs ≡ stands.Block → ⊥) → (stands_in fs ≡ stands.If → ⊥) → held fs (Ends label ∷ ps) ≡ None
end_none fs label ps h k = by_row fs (Ends label) ps (is_row (stands_in fs)) tt refl (λ r. end_row fs label (levels ps) r h k)
