use Rattle.wat_syntax.specs.Immediates.{result_front}
use Rattle.wat_immediates.specs.Rows.{immediates, past}
use Rattle.wat_syntax.specs.Seen.{at_place}
use Rattle.wat_immediates.proofs.ImmediateLemmas.{result_agrees, whole_there, whole_more, whole_refused}
use Rattle.wat_immediates.proofs.immediates.whole_result.Goals as goal

pub returns-in-Err : goal.returns-in-Err
returns-in-Err c =
    whole_refused (λ of. of) c.args.fields.now (at_place c.args.fields.now c.args.at) (result_front (immediates (at_place c.args.fields.now c.args.at))) (result_front (at_place c.args.fields.now c.args.at)) c.in-Err.why (result_agrees (at_place c.args.fields.now c.args.at)) c.in-Err.ensures

pub returns-in-Some : goal.returns-in-Some
returns-in-Some c =
    whole_more (past (at_place c.args.fields.now c.args.at)) (at_place c.args.fields.now c.in-Ok.behind) (result_front (immediates (at_place c.args.fields.now c.args.at))) (result_front (at_place c.args.fields.now c.args.at)) c.in-Ok.of c.args.fields.now c.in-Some.field-0.item
    (immediates (at_place c.args.fields.now c.in-Some.field-0.behind)) (result_agrees (at_place c.args.fields.now c.args.at)) c.in-Ok.ensures c.in-Some.ensures.meets.0

pub returns-in-None : goal.returns-in-None
returns-in-None c =
    whole_there (past (at_place c.args.fields.now c.args.at)) (at_place c.args.fields.now c.in-Ok.behind) (result_front (immediates (at_place c.args.fields.now c.args.at))) (result_front (at_place c.args.fields.now c.args.at)) c.in-Ok.of (result_agrees (at_place c.args.fields.now c.args.at)) c.in-Ok.ensures c.in-None.ensures.meets
