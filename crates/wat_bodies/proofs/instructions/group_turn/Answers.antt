use Rattle.std.proofs.Common.{rules, ◌≡◌, ℕ, true, false, sym, codes}
use Rattle.std.specs.Str.{bytes_eq}
use Rattle.wat_immediates.specs.InstructionForms.{is_immediate}
use Rattle.wat_syntax.specs.Flat.{seen_steps}
use Rattle.wat_bodies.specs.Nesting.{seen_frames}
use Rattle.wat_syntax.specs.Seen.{at_place}
use Rattle.wat_bodies.proofs.TurnLemmas.{immediate_group, unnamed_group}
use Rattle.wat_bodies.proofs.instructions.group_turn.Goals as goal

pub returns-then-is_immediate : goal.returns-then-is_immediate
returns-then-is_immediate c = λ (line : ℕ). immediate_group (seen_frames c.args.fields.now c.args.frames.now.items) line c.args.keyword.now (at_place c.args.fields.now c.args.inside) (at_place c.args.fields.now c.args.rest) (cc)

pub returns-then-eq : goal.returns-then-eq
returns-then-eq c = λ (line : ℕ).
    let imm : is_immediate c.args.keyword.now ≡ false = cc in
    let arm : bytes_eq c.args.keyword.now (codes "then") ≡ true = search rules in
    c.first_arm_turn.ensures c.args.fields.now line c.args.keyword.now imm arm c.requires

pub returns-then-is_else : goal.returns-then-is_else
returns-then-is_else c = λ (line : ℕ).
    let imm : is_immediate c.args.keyword.now ≡ false = cc in
    let arm : bytes_eq c.args.keyword.now (codes "then") ≡ false = search rules in
    c.second_arm_turn.ensures (seen_steps c.args.steps.now.items) line c.args.keyword.now c.in-Some.n (record { no_immediate = imm; no_arm = arm; its_name = sym c.in-Some.ensures; its_else = cc })

pub returns-else-is_else : goal.returns-else-is_else
returns-else-is_else c = λ (line : ℕ).
    let imm : is_immediate c.args.keyword.now ≡ false = cc in
    let arm : bytes_eq c.args.keyword.now (codes "then") ≡ false = search rules in
    c.fold.ensures line c.args.keyword.now (record { no_immediate = imm; no_arm = arm; its_name = sym c.in-Some.ensures; no_else = cc })

pub returns-in-None : goal.returns-in-None
returns-in-None c = λ (line : ℕ).
    let imm : is_immediate c.args.keyword.now ≡ false = cc in
    let arm : bytes_eq c.args.keyword.now (codes "then") ≡ false = search rules in
    unnamed_group (seen_frames c.args.fields.now c.args.frames.now.items) line c.args.keyword.now (at_place c.args.fields.now c.args.inside) (at_place c.args.fields.now c.args.rest) imm arm (sym c.in-None.ensures)
