use Rattle.std.proofs.Common.{sym}
use Rattle.wat_immediates.specs.Rows.{seen_part}
use Rattle.wat_syntax.specs.Flat.{seen_steps}
use Rattle.wat_bodies.specs.Nesting.{seen_frames}
use Rattle.wat_syntax.specs.Seen.{at_place}
use Rattle.wat_bodies.proofs.TurnLemmas.{word_moves, unnamed_word}
use Rattle.wat_bodies.proofs.RefusalLemmas.{word_misput, word_refused}
use Rattle.wat_bodies.proofs.instructions.word_turn.Goals as goal

pub returns-in-Ok-put_part : goal.returns-in-Ok-put_part
returns-in-Ok-put_part c =
    word_moves (seen_steps c.args.steps.now.items) (seen_steps c.put_part.new.steps.items) (seen_frames c.args.fields.now c.args.frames.now.items) (seen_frames c.args.fields.now c.put_part.new.frames.items) c.args.word.now (at_place c.args.fields.now c.args.at) (at_place c.args.fields.now c.in-Ok.behind) c.in-Some.n (seen_part c.in-Ok.part) (sym c.in-Some.ensures)
    c.in-Ok.ensures.0 c.in-Ok.ensures.1 (c.in-Ok-put_part.ensures c.args.fields.now c.requires)

pub returns-in-Err-put_part : goal.returns-in-Err-put_part
returns-in-Err-put_part c =
    word_misput c.args.fields.now (seen_steps c.args.steps.now.items) (seen_steps c.put_part.new.steps.items) (seen_frames c.args.fields.now c.args.frames.now.items) (seen_frames c.args.fields.now c.put_part.new.frames.items) c.args.word.now (at_place c.args.fields.now c.args.at) c.in-Some.n (seen_part c.in-Ok.part) c.in-Err-put_part.why (sym c.in-Some.ensures)
    c.in-Ok.ensures.0 (c.in-Err-put_part.ensures c.args.fields.now c.requires)

pub returns-in-Err : goal.returns-in-Err
returns-in-Err c = word_refused c.args.fields.now (seen_steps c.args.steps.now.items) (seen_steps c.args.steps.now.items) (seen_frames c.args.fields.now c.args.frames.now.items) (seen_frames c.args.fields.now c.args.frames.now.items) c.args.word.now (at_place c.args.fields.now c.args.at) c.in-Some.n c.in-Err.why (sym c.in-Some.ensures) c.in-Err.ensures

pub returns-in-None : goal.returns-in-None
returns-in-None c = unnamed_word (seen_frames c.args.fields.now c.args.frames.now.items) c.args.word.now (at_place c.args.fields.now c.args.at) (sym c.in-None.ensures)
