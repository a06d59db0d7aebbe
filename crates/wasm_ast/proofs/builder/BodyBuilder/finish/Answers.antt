use Rattle.std.proofs.Common.{reverse, ap, ◌∙◌}
use Rattle.wasm_ast.specs.Built.{Built}
use Rattle.wasm_ast.proofs.BuilderLemmas.{finish_made}
use Rattle.wasm_ast.proofs.builder.BodyBuilder.finish.Goals as goal

pub new-requires : goal.new-requires
new-requires c =
    (finish_made c.self.inside.lists.items (reverse c.self.inside.opens.items) c.self.inside.list (ap (λ (v : Built). v.opens) c.self.view_is ∙ c.requires) c.self.invariant).0

pub returns : goal.returns
returns c =
    c.new.ensures
    ∙ (finish_made c.self.inside.lists.items (reverse c.self.inside.opens.items) c.self.inside.list (ap (λ (v : Built). v.opens) c.self.view_is ∙ c.requires) c.self.invariant).1
    ∙ ap (λ (v : Built). v.before) c.self.view_is
