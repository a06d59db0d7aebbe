use Rattle.std.proofs.Common.{◌≡◌, reverse, subst, OnOk}
use Rattle.wasm_ast.specs.Built.{Built, with_plain}
use Rattle.wasm_ast.specs.Building.{built_of}
use Rattle.wasm_ast.proofs.BuilderLemmas.{kept_either, inside_lists}
use Rattle.wasm_ast.proofs.builder.BodyBuilder.plain.Goals as goal

pub push_at-requires : goal.push_at-requires
push_at-requires c = inside_lists _ _ _ c.self.invariant

pub invariant_of-self : goal.invariant_of-self
invariant_of-self c =
    (kept_either c.push_at.result c.self.inside.lists.items c.push_at.new.lists.items (reverse c.self.inside.opens.items) c.self.inside.list c.args.instr c.self.invariant c.requires c.push_at.ensures.ok c.push_at.ensures.err).0

pub returns-clause-ok : goal.returns-clause-ok
returns-clause-ok c =
    let family : Built → Type 0 = λ v. OnOk c.push_at.result (built_of c.push_at.new.lists.items (reverse c.self.inside.opens.items) c.self.inside.list ≡ with_plain c.args.instr v) in
    subst family c.self.view_is
    (kept_either c.push_at.result c.self.inside.lists.items c.push_at.new.lists.items (reverse c.self.inside.opens.items) c.self.inside.list c.args.instr c.self.invariant c.requires c.push_at.ensures.ok c.push_at.ensures.err).1
