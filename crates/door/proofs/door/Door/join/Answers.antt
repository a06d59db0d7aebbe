use Rattle.std.proofs.Common.{rules, ap, ◌∙◌, ◌++◌, subst}
use Rattle.door.specs.History.{HasBoth, AreApart}
use Rattle.door.specs.Steps.{is_idle, is_empty}
use Rattle.door.proofs.Passes.{joins}
use Rattle.door.proofs.Rests.{nothing_in, idle_is, more_numbers}
use Rattle.door.proofs.door.Door.join.Goals as goal

pub join_seat-requires : goal.join_seat-requires
join_seat-requires g c =
    let from = c.args.from.rests in
    let into = c.args.into.now.rests in
    (search rules, search rules, nothing_in _ from.1, search rules, joins _ _ _ _ _ c.args.into.now.seat.me.0 c.args.from.seat.me.0 (idle_is _ into.0) (idle_is _ from.0))

pub merge-requires-clause-joins : goal.merge-requires-clause-joins
merge-requires-clause-joins g c = (c.args.from.seat.me.0.numbers, c.args.from.seat.me.0.turns, ap (λ m. m.0.stage) c.join_seat.ensures.2)

pub invariant_of-into : goal.invariant_of-into
invariant_of-into g c =
    let into = c.args.into.now.rests in
    let joined = c.join_seat.ensures.2 in
    let ns = c.args.from.seat.me.0.numbers in
    let told = c.merge.ensures.merged ns c.args.from.seat.me.0.turns (ap (λ m. m.0.stage) joined) in record {
      rests = (
        ap (λ v. is_idle v.stage) told.1,
        ap is_empty (told.0 ∙ ap (λ m. m.1) joined) ∙ into.1,
        more_numbers _ ns _ into.2 (ap (λ v. v.numbers) told.1 ∙ ap (λ m. m.0.numbers ++ ns) joined),
      );
    }

pub returns-clause-pass : goal.returns-clause-pass
returns-clause-pass g c =
    let joined = c.join_seat.ensures.2 in
    let told = c.merge.ensures.merged c.args.from.seat.me.0.numbers c.args.from.seat.me.0.turns (ap (λ m. m.0.stage) joined) in
    (c.merge.ensures.same.0 ∙ c.join_seat.ensures.0 ∙ c.requires.into.0, ap (λ v. v.opening) told.1 ∙ ap (λ m. m.0.opening) joined ∙ c.requires.into.1)

pub returns-clause-turns : goal.returns-clause-turns
returns-clause-turns g c =
    let joined = c.join_seat.ensures.2 in
    let told = c.merge.ensures.merged c.args.from.seat.me.0.numbers c.args.from.seat.me.0.turns (ap (λ m. m.0.stage) joined) in
    subst (λ ts. HasBoth ts c.args.from.seat.me.0.turns c.merge.new.seat.me.0.turns) (ap (λ m. m.0.turns) joined) told.2

pub returns-clause-numbers : goal.returns-clause-numbers
returns-clause-numbers g c =
    let joined = c.join_seat.ensures.2 in
    let ns = c.args.from.seat.me.0.numbers in
    let told = c.merge.ensures.merged ns c.args.from.seat.me.0.turns (ap (λ m. m.0.stage) joined) in
    (ap (λ v. v.numbers) told.1 ∙ ap (λ m. m.0.numbers ++ ns) joined, subst (λ l. AreApart l ns) (ap (λ m. m.0.numbers) joined) told.3)
