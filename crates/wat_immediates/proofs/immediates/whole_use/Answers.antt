use Rattle.wat_syntax.specs.Immediates.{use_front}
use Rattle.wat_immediates.specs.Rows.{immediates, past}
use Rattle.wat_syntax.specs.Seen.{at_place, seen_use}
use Rattle.wat_immediates.proofs.ImmediateLemmas.{use_agrees, whole_there, whole_more, whole_refused}
use Rattle.wat_immediates.proofs.immediates.whole_use.Goals as goal

pub returns : goal.returns
returns c =
    whole_refused seen_use c.args.fields.now (at_place c.args.fields.now c.args.at) (use_front (immediates (at_place c.args.fields.now c.args.at))) (use_front (at_place c.args.fields.now c.args.at)) c.in-Err.why (use_agrees (at_place c.args.fields.now c.args.at)) c.in-Err.ensures

pub returns-in-Some : goal.returns-in-Some
returns-in-Some c =
    whole_more (past (at_place c.args.fields.now c.args.at)) (at_place c.args.fields.now c.in-Ok.behind) (use_front (immediates (at_place c.args.fields.now c.args.at))) (use_front (at_place c.args.fields.now c.args.at)) (seen_use c.in-Ok.of) c.args.fields.now c.in-Some.field-0.item
    (immediates (at_place c.args.fields.now c.in-Some.field-0.behind)) (use_agrees (at_place c.args.fields.now c.args.at)) c.in-Ok.ensures c.in-Some.ensures.meets.0

pub returns-in-Ok : goal.returns-in-Ok
returns-in-Ok c =
    whole_there (past (at_place c.args.fields.now c.args.at)) (at_place c.args.fields.now c.in-Ok.behind) (use_front (immediates (at_place c.args.fields.now c.args.at))) (use_front (at_place c.args.fields.now c.args.at)) (seen_use c.in-Ok.of) (use_agrees (at_place c.args.fields.now c.args.at)) c.in-Ok.ensures c.in-None.ensures.meets
