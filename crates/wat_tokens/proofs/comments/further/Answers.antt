use Rattle.std.proofs.Common.{◌∙◌, ◌+◌, ◌&&◌, true, false, eqb, get_or, sym, refl}
use Rattle.wat_tokens.proofs.CommentLemmas.{by_place}
use Rattle.wat_tokens.proofs.comments.further.Goals as goal

pub returns-then-has_pair-clause-length : goal.returns-then-has_pair-clause-length
returns-then-has_pair-clause-length c =
    by_place c.args.text.now c.args.place.at c.args.place.open_comments true (eqb (get_or c.args.text.now c.args.place.at 0) 40 && eqb (get_or c.args.text.now (c.args.place.at + 1) 0) 59)
    c.requires.within c.requires.low (sym c.has_pair.ensures ∙ c.if-has_pair.true) refl

pub returns-then-has_pair-2-clause-length : goal.returns-then-has_pair-2-clause-length
returns-then-has_pair-2-clause-length c =
    by_place c.args.text.now c.args.place.at c.args.place.open_comments false true c.requires.within c.requires.low
    (sym c.has_pair.ensures ∙ c.if-has_pair.false) (sym c.has_pair-2.ensures ∙ c.if-has_pair-2.true)

pub returns-clause-length : goal.returns-clause-length
returns-clause-length c =
    by_place c.args.text.now c.args.place.at c.args.place.open_comments false false c.requires.within c.requires.low
    (sym c.has_pair.ensures ∙ c.if-has_pair.false) (sym c.has_pair-2.ensures ∙ c.if-has_pair-2.false)
