use Rattle.std.proofs.Common.{◌∙◌, ◌+◌, ◌≤◌, map, drop, length, length-drop, ap, sym, arith}
use Rattle.std.proofs.Math.ListN.{drop_of_length-le}
use Rattle.wat_tokens.specs.Tokens.{tokens}
use Rattle.wat_tokens.specs.Pieces.{seen}
use Rattle.wat_tokens.specs.Stored.{token_at}
use Rattle.wat_tokens.proofs.TokenLemmas.{behind_tokens, fault_at, read_step, behind_end}
use Rattle.wat_tokens.proofs.token_list.Tokens.read.Goals as goal

-- src/token_list.rt:70:17
pub returns-in_default : goal.returns-in_default
unfolding tokens
returns-in_default c =
    sym c.loop-start.invariant.read
    ∙ ap (behind_tokens (map (token_at c.args.text.now) c.loop-start.items.items)) (fault_at c.args.text.now c.loop-start.start c.loop-start.line c.loop-start-test.true (sym c.in_default.ensures.value))

-- src/token_list.rt:68:9
pub loop-start-preserved : goal.loop-start-preserved
loop-start-preserved c =
    let piece = seen (drop c.loop-start.start c.args.text.now) c.in-Some.piece in
    let within : c.loop-start.start + c.in-Some.piece.length ≤ length c.args.text.now = omega (arith, length-drop c.loop-start.start c.args.text.now, c.in-Some.ensures.bound.1) in
    record {
      read = read_step c.args.text.now c.loop-start.start c.loop-start.line c.lines_at.result piece (map (token_at c.args.text.now) c.loop-start.items.items) (map (token_at c.args.text.now) c.store.new.items.items) c.loop-start-test.true (sym c.in-Some.ensures.value) c.in-Some.ensures.bound.0 (c.in-Ok.ensures.value c.args.text.now) c.lines_at.ensures.value
          ∙ c.loop-start.invariant.read;
      lie = c.in-Ok.ensures.lie c.args.text.now c.loop-start.invariant.lie c.in-Some.ensures.bound.2 c.in-Some.ensures.bound.0 within;
      few = omega (arith, c.in-Some.ensures.bound.0, c.store.ensures.few);
      within = within;
      lines = omega arith;
    }

-- src/token_list.rt:61:5
pub returns : goal.returns
unfolding tokens
returns c =
    sym c.loop-start.invariant.read
    ∙ behind_end (map (token_at c.args.text.now) c.loop-start.items.items) c.loop-start.line (drop c.loop-start.start c.args.text.now) (drop_of_length-le c.args.text.now c.loop-start-test.false)
