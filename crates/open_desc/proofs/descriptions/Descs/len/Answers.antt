use Rattle.std.proofs.Common.{ap, sym, ◌∙◌, arith}
use Rattle.std.specs.FinMap.{len}
use Rattle.open_desc.proofs.SlabLemmas.{len-by_place}
use Rattle.open_desc.proofs.descriptions.Descs.len.Goals as goal

pub returns-clause-value : goal.returns-clause-value
returns-clause-value c = c.len.ensures ∙ sym (len-by_place c.self.inside.slab) ∙ ap (λ descs. len descs.opens) c.self.view_is

pub returns-clause-most : goal.returns-clause-most
returns-clause-most c = omega (arith, c.len.ensures, len-by_place c.self.inside.slab, c.self.invariant.few)
