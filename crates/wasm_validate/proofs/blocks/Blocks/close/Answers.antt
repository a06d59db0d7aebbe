use Rattle.std.proofs.Common.{true, subst, ap, ◌∙◌}
use Rattle.wasm_ast.specs.Typing.{is_empty}
use Rattle.wasm_validate.specs.Blocks.{OpenBlocks, Closes}
use Rattle.wasm_validate.proofs.StackLemmas.{close_whole, closes}
use Rattle.wasm_validate.proofs.blocks.Blocks.close.Goals as goal

pub invariant_of-self-in-Some : goal.invariant_of-self-in-Some
invariant_of-self-in-Some c =
    close_whole c.in-Some.frame c.self.inside.innermost c.pop.new.self.items c.self.inside.outer.items c.self.inside.operands.items
    c.in-Some.ensures.items c.self.invariant (ap (λ (v : OpenBlocks). is_empty v.operands.types) c.self.view_is ∙ c.requires)

pub returns-in-Some : goal.returns-in-Some
returns-in-Some c =
    let family : OpenBlocks → Type 0 = λ v. Closes v.enclosing.outer true (Rattle.wasm_validate.specs.contracts.blocks.Blocks.the_view (record { innermost = c.in-Some.frame; outer = c.pop.new.self; operands = c.self.inside.operands })) in
    subst family c.self.view_is
    (closes c.in-Some.frame c.self.inside.innermost c.pop.new.self.items c.self.inside.outer.items c.self.inside.operands.items
    c.in-Some.ensures.items c.self.invariant (ap (λ (v : OpenBlocks). is_empty v.operands.types) c.self.view_is ∙ c.requires))
