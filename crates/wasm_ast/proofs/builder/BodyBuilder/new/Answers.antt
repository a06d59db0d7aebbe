use Rattle.std.proofs.Common.{arith}
use Rattle.std.proofs.lemmas.Grind.{common_steps}
use Rattle.wasm_ast.proofs.BuilderLemmas.{first_made}
use Rattle.wasm_ast.proofs.builder.BodyBuilder.new.Goals as goal

pub invariant_of-result : goal.invariant_of-result
invariant_of-result c = (first_made c.push.new.self.items c.new-2.result.items (grind (arith, common_steps)) (grind (arith, common_steps))).1

pub returns : goal.returns
returns c = (first_made c.push.new.self.items c.new-2.result.items (grind (arith, common_steps)) (grind (arith, common_steps))).0
