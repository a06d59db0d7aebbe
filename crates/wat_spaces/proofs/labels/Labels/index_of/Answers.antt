use Rattle.std.proofs.Common.{◌≡◌, ◌∙◌, length, sym, ap, arith, rules}
use Rattle.std.specs.List.{position}
use Rattle.wat_spaces.specs.Names.{at_name}
use Rattle.wat_spaces.specs.Spaces.{is_named, index_in}
use Rattle.wat_syntax.specs.Seen.{seen_reference}
use Rattle.wat_spaces.proofs.LabelLemmas.{index_found, index_missing, found_within}
use Rattle.wat_spaces.proofs.labels.Labels.index_of.Goals as goal

pub overflow_sub-result : goal.overflow_sub-result
overflow_sub-result c =
    let n : c.len.result ≡ length c.self.inside.open.items = search rules in
    omega (arith, found_within c.self.inside.open.items (at_name c.self.inside.places) c.self.invariant c.in-Named.name.now c.in-Some.place.now c.len.result c.in-Some.ensures.value n)

pub overflow_sub-result-in-Some : goal.overflow_sub-result-in-Some
overflow_sub-result-in-Some c =
    let n : c.len.result ≡ length c.self.inside.open.items = search rules in
    omega (arith, found_within c.self.inside.open.items (at_name c.self.inside.places) c.self.invariant c.in-Named.name.now c.in-Some.place.now c.len.result c.in-Some.ensures.value n)

pub overflow_cast-result-in-Some : goal.overflow_cast-result-in-Some
overflow_cast-result-in-Some c =
    let n : c.len.result ≡ length c.self.inside.open.items = search rules in
    omega (arith, c.self.invariant.few, n, found_within c.self.inside.open.items (at_name c.self.inside.places) c.self.invariant c.in-Named.name.now c.in-Some.place.now c.len.result c.in-Some.ensures.value n)

pub returns-in-Some : goal.returns-in-Some
returns-in-Some c =
    let n : c.len.result ≡ length c.self.inside.open.items = search rules in
    index_found c.self.inside.open.items (at_name c.self.inside.places) c.self.invariant c.in-Named.name.now c.in-Some.place.now c.len.result c.in-Some.ensures.value n
    ∙ ap (position (is_named c.in-Named.name.now)) c.self.view_is ∙ ap (λ r. index_in c.args.self.now (seen_reference r)) (sym c.in-Named.is)

pub returns-in-None : goal.returns-in-None
returns-in-None c =
    index_missing c.self.inside.open.items (at_name c.self.inside.places) c.self.invariant c.in-Named.name.now c.in-None.ensures.value
    ∙ ap (position (is_named c.in-Named.name.now)) c.self.view_is ∙ ap (λ r. index_in c.args.self.now (seen_reference r)) (sym c.in-Named.is)
