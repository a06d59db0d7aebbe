use Rattle.std.proofs.Common.{◌+◌, ◌++◌, ℕ, List, length, map, sym, ap, ◌∙◌, arith}
use Rattle.std.specs.Option.{option_copied}
use Rattle.pack_list.specs.Prelude.{lines, Named, behind, judge_lines, seen}
use Rattle.pack_list.proofs.JudgeLemmas.{one_line, shorter}
use Rattle.pack_list.proofs.judging.judge_lines.Goals as goal

pub lines-preserved : goal.lines-preserved
lines-preserved c =
    let some = sym c.is_empty.ensures ∙ c.lines-test.true in
    let taken = c.in-Ok.ensures in
    let less = shorter c.lines.number c.lines.tree c.lines.rest.now c.cut.result.0.now (option_copied c.cut.result.1) some c.cut.ensures in
    let len = ap (λ (b : List ℕ). length b) c.rest_of-rest.ensures in
    record {
      given =
          ap (λ (f : List Named). behind f (judge_lines (c.lines.number + 1) c.take_line.new.tree (lines c.rest_of-rest.result.now))) taken.2
          ∙ ap (λ (r : List ℕ). behind (map seen c.lines.files.items ++ taken.0) (judge_lines (c.lines.number + 1) c.take_line.new.tree (lines r))) c.rest_of-rest.ensures
          ∙ one_line c.lines.number c.lines.tree c.lines.rest.now c.cut.result.0.now (option_copied c.cut.result.1) some c.cut.ensures
          (map seen c.lines.files.items) (judge_lines 1 c.args.tree (lines c.args.text.now)) c.lines.invariant.given c.take_line.new.tree taken.0 taken.1;
      few = omega (arith, c.lines.invariant.few, less, len);
    }
