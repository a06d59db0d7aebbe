use Rattle.std.proofs.Common.{rules, ◌≡◌, ◌∙◌, ◌+◌, ◌∷◌, reverse, length, Some, Option, sym, ap, subst}
use Rattle.wat_tokens.specs.Tokens as token
use Rattle.wat_tokens.specs.Reads.{seen_token}
use Rattle.wat_tokens.specs.declared.token_list.Token as code
use Rattle.wat_tokens.specs.Quoted.{quoted_bytes}
use Rattle.wat_fields.specs.Closings.{IsPartedFrom}
use Rattle.wat_fields.proofs.PartLemmas.{word_step, text_step, close_step, open_step, open_none, reverse_last, reverse_none, none_within}
use Rattle.wat_fields.proofs.parting.part_token.Goals as goal

some_seen : code.Token → Option token.Token
some_seen t = Some (seen_token t)

pub returns-in-Some : goal.returns-in-Some
unfolding some_seen
returns-in-Some c =
    let stack : reverse c.args.outer.now.items ≡ c.in-Some.closing ∷ reverse c.pop.new.self.items = ap reverse c.in-Some.ensures.items ∙ reverse_last c.pop.new.self.items c.in-Some.closing in
    open_step c.args.tokens.now c.args.place c.in-Some-Open.field-0-0 c.in-Some.closing c.args.closings.now.items (reverse c.pop.new.self.items) c.requires.low
    (sym c.in-Some-Open.ensures ∙ ap some_seen c.in-Some-Open.field-0-is)
    (subst (IsPartedFrom c.args.tokens.now (c.args.place + 1) c.args.closings.now.items) stack c.requires.parted)

pub returns-in-None-pop : goal.returns-in-None-pop
unfolding some_seen
returns-in-None-pop c =
    let none : length c.args.outer.now.items ≡ 0 = search rules in
    open_none c.args.tokens.now c.args.place c.in-Some-Open.field-0-0 c.args.closings.now.items (sym c.in-Some-Open.ensures ∙ ap some_seen c.in-Some-Open.field-0-is)
    (subst (IsPartedFrom c.args.tokens.now (c.args.place + 1) c.args.closings.now.items) (reverse_none c.args.outer.now.items none) c.requires.parted)

pub returns-in-Ok : goal.returns-in-Ok
unfolding some_seen
returns-in-Ok c =
    let stack : reverse c.push.new.self.items ≡ c.args.place ∷ reverse c.args.outer.now.items = ap reverse c.in-Ok.ensures.items ∙ reverse_last c.args.outer.now.items c.args.place in
    subst (IsPartedFrom c.args.tokens.now c.args.place c.args.closings.now.items) (sym stack)
    (close_step c.args.tokens.now c.args.place c.args.closings.now.items (reverse c.args.outer.now.items) c.requires.low (sym c.in-Some-Close.ensures ∙ ap some_seen c.in-Some-Close.field-0-is) c.requires.parted)

pub returns-in-Some-Word : goal.returns-in-Some-Word
unfolding some_seen
returns-in-Some-Word c =
    word_step c.args.tokens.now c.args.place c.args.closings.now.items (reverse c.args.outer.now.items) c.in-Some-Word.field-0-0.now (sym c.in-Some-Word.ensures ∙ ap some_seen c.in-Some-Word.field-0-is) c.requires.parted

pub returns-in-Some-Text : goal.returns-in-Some-Text
unfolding some_seen
returns-in-Some-Text c =
    text_step c.args.tokens.now c.args.place c.args.closings.now.items (reverse c.args.outer.now.items) (quoted_bytes c.in-Some-Text.field-0-0) (sym c.in-Some-Text.ensures ∙ ap some_seen c.in-Some-Text.field-0-is) c.requires.parted

pub returns-in-None : goal.returns-in-None
returns-in-None c = absurd (none_within c.args.tokens.now c.args.place (sym c.in-None.ensures) c.requires.low)
