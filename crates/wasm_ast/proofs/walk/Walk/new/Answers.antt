use Rattle.std.proofs.Common.{◌∙◌, ap, reverse}
use Rattle.wasm_ast.specs.Walk.{walk_events}
use Rattle.wasm_ast.proofs.WalkLemmas.{at_start}
use Rattle.wasm_ast.proofs.walk.Walk.new.Goals as goal

pub returns : goal.returns
returns c = ap (λ os. walk_events c.args.body.now c.list.result.now (reverse os)) c.new.ensures.items ∙ at_start c.args.body.now c.list.result.now c.list.ensures
