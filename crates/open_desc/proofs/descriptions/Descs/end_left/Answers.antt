use Rattle.std.proofs.Common.{true, false, ap, sym, ◌∙◌}
use Rattle.open_desc.specs.Descriptions.{end_left}
use Rattle.open_desc.proofs.CountLemmas.{end_left-counted}
use Rattle.open_desc.proofs.descriptions.Descs.end_left.Goals as goal

pub returns-then-writing : goal.returns-then-writing
returns-then-writing c =
    c.has_end.ensures ∙ end_left-counted _ c.self.inside.writers true c.self.invariant.writing c.args.pipe
    ∙ ap (λ descs. end_left descs c.args.pipe true) c.self.view_is
    ∙ ap (λ writing. end_left c.args.self.now c.args.pipe writing) (sym c.if-writing.true)

pub returns-else-writing : goal.returns-else-writing
returns-else-writing c =
    c.has_end-else-writing.ensures ∙ end_left-counted _ c.self.inside.readers false c.self.invariant.reading c.args.pipe
    ∙ ap (λ descs. end_left descs c.args.pipe false) c.self.view_is
    ∙ ap (λ writing. end_left c.args.self.now c.args.pipe writing) (sym c.if-writing.false)
