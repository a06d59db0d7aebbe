use Rattle.std.proofs.Common.{◌≡◌, sym, ◌∙◌, ap, subst}
use Rattle.wat_fields.specs.Items.{Word, Group}
use Rattle.wat_fields.specs.Places.{in_front}
use Rattle.wat_syntax.specs.Flat.{seen_steps}
use Rattle.wat_bodies.specs.Nesting.{seen_frames, Turns}
use Rattle.wat_syntax.specs.Seen.{at_place}
use Rattle.wat_immediates.specs.Rows.{parts_of}
use Rattle.wat_bodies.proofs.TurnLemmas.{no_parts}
use Rattle.wat_bodies.proofs.instructions.turn.Goals as goal

pub returns-in-Text : goal.returns-in-Text
returns-in-Text c =
    no_parts (seen_frames c.args.fields.now c.args.frames.now.items) (at_place c.args.fields.now c.args.at) (ap parts_of (c.in-Some.ensures.meets ∙ ap (λ x. in_front c.args.fields.now x (at_place c.args.fields.now c.in-Some.met.behind)) c.in-Text.is))

pub returns-in-Word-item : goal.returns-in-Word-item
returns-in-Word-item c =
    let f : (at_place c.args.fields.now c.args.at) ≡ Group c.in-Group.field-0 (Word c.in-Word-item.keyword.now (at_place c.args.fields.now c.in-Some-item.head.behind)) (at_place c.args.fields.now c.in-Some.met.behind) = c.in-Some.ensures.meets ∙ ap (λ x. in_front c.args.fields.now x (at_place c.args.fields.now c.in-Some.met.behind)) c.in-Group.is ∙ ap (λ x. Group c.in-Group.field-0 x (at_place c.args.fields.now c.in-Some.met.behind)) (c.in-Some-item.ensures.meets ∙ ap (λ x. in_front c.args.fields.now x (at_place c.args.fields.now c.in-Some-item.head.behind)) c.in-Word-item.is) in
    subst (λ x. Turns c.args.fields.now (seen_steps c.args.steps.now.items) (seen_steps c.group_turn.new.steps.items) (seen_frames c.args.fields.now c.args.frames.now.items) (seen_frames c.args.fields.now c.group_turn.new.frames.items) x c.group_turn.result) (sym f) (c.group_turn.ensures c.in-Group.field-0)

pub returns-in-Text-item : goal.returns-in-Text-item
returns-in-Text-item c = no_parts (seen_frames c.args.fields.now c.args.frames.now.items) (at_place c.args.fields.now c.args.at) (ap parts_of (c.in-Some.ensures.meets ∙ ap (λ x. in_front c.args.fields.now x (at_place c.args.fields.now c.in-Some.met.behind)) c.in-Group.is ∙ ap (λ x. Group c.in-Group.field-0 x (at_place c.args.fields.now c.in-Some.met.behind)) (c.in-Some-item.ensures.meets ∙ ap (λ x. in_front c.args.fields.now x (at_place c.args.fields.now c.in-Some-item.head.behind)) c.in-Text-item.is)))

pub returns-in-Group-item : goal.returns-in-Group-item
returns-in-Group-item c =
    no_parts (seen_frames c.args.fields.now c.args.frames.now.items) (at_place c.args.fields.now c.args.at) (ap parts_of (c.in-Some.ensures.meets ∙ ap (λ x. in_front c.args.fields.now x (at_place c.args.fields.now c.in-Some.met.behind)) c.in-Group.is ∙ ap (λ x. Group c.in-Group.field-0 x (at_place c.args.fields.now c.in-Some.met.behind)) (c.in-Some-item.ensures.meets ∙ ap (λ x. in_front c.args.fields.now x (at_place c.args.fields.now c.in-Some-item.head.behind)) c.in-Group-item.is)))

pub returns-in-None-item : goal.returns-in-None-item
returns-in-None-item c = no_parts (seen_frames c.args.fields.now c.args.frames.now.items) (at_place c.args.fields.now c.args.at) (ap parts_of (c.in-Some.ensures.meets ∙ ap (λ x. in_front c.args.fields.now x (at_place c.args.fields.now c.in-Some.met.behind)) c.in-Group.is ∙ ap (λ x. Group c.in-Group.field-0 x (at_place c.args.fields.now c.in-Some.met.behind)) c.in-None-item.ensures.meets))

pub returns-in-None : goal.returns-in-None
returns-in-None c =
    subst (λ x. Turns c.args.fields.now (seen_steps c.args.steps.now.items) (seen_steps c.end_group.new.steps.items) (seen_frames c.args.fields.now c.args.frames.now.items) (seen_frames c.args.fields.now c.end_group.new.frames.items) x c.end_group.result) (sym c.in-None.ensures.meets) (c.end_group.ensures c.args.fields.now c.requires)
