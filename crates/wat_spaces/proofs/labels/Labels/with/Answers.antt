use Rattle.std.proofs.Common.{◌≡◌, length, subst, rules, arith}
use Rattle.wat_spaces.specs.Names.{at_name}
use Rattle.wat_spaces.specs.Labels.{Hides}
use Rattle.wat_syntax.specs.Seen.{seen_name}
use Rattle.wat_spaces.proofs.LabelLemmas.{inside}
use Rattle.wat_spaces.proofs.labels.Labels.with.Goals as goal

pub invariant_of-result : goal.invariant_of-result
invariant_of-result c =
    let n : c.len-place.result ≡ length c.self.inside.open.items = search rules in
    inside c.self.inside.open.items c.push.new.self.items (record { name = c.args.name; hidden = c.in_ok-hidden.hidden }) (at_name c.self.inside.places) (at_name c.hide.new.places) c.in_ok-push.ensures.items
    (omega (arith, n, c.if-place.false)) c.self.invariant
    (subst (λ k. Hides (seen_name c.args.name) k (at_name c.self.inside.places) c.in_ok-hidden.hidden (at_name c.hide.new.places)) n c.in_ok-hidden.ensures)
