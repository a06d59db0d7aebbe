use Rattle.std.proofs.Common.{◌≡◌, ◌∙◌, ◌+◌, ◌<◌, ◌≤◌, List, length, Some, Option, sym, ap, subst}
use Rattle.wat_tokens.specs.Tokens as token
use Rattle.wat_tokens.specs.Tokens.{Token}
use Rattle.wat_tokens.specs.Quoted.{quoted_bytes}
use Rattle.wat_tokens.specs.Reads.{seen_token}
use Rattle.wat_tokens.specs.declared.token_list.Token as code
use Rattle.wat_fields.specs.Items.{Empty, Word, Text}
use Rattle.wat_fields.specs.Remaining.{remaining}
use Rattle.wat_fields.proofs.ItemLemmas.{meets_word, meets_text, meets_close, meets_none, leads_on}
use Rattle.wat_fields.proofs.field_list.Fields.item.Goals as goal

some_seen : code.Token → Option token.Token
some_seen t = Some (seen_token t)

pub returns-in-Some-Word-clause-meets : goal.returns-in-Some-Word-clause-meets
unfolding some_seen
returns-in-Some-Word-clause-meets c =
    subst (λ (tokens : List Token). remaining tokens c.args.at.index ≡ Word c.in-Some-Word.word.now (remaining tokens (c.args.at.index + 1))) c.self.view_is
    (meets_word c.self.inside.tokens c.args.at.index c.in-Some-Word.word.now c.self.invariant.balanced (sym c.in-Some-Word.ensures ∙ ap some_seen c.in-Some-Word.field-0-is))

pub returns-in-Some-Word-clause-forward : goal.returns-in-Some-Word-clause-forward
returns-in-Some-Word-clause-forward c =
    subst (λ (tokens : List Token). (c.args.at.index < c.args.at.index + 1) × (c.args.at.index + 1 ≤ length tokens) × Unit {0}) c.self.view_is
    (leads_on c.self.inside.tokens c.args.at.index (seen_token c.in-Some-Word.field-0) (sym c.in-Some-Word.ensures))

pub returns-in-Some-Text-clause-meets : goal.returns-in-Some-Text-clause-meets
unfolding some_seen
returns-in-Some-Text-clause-meets c =
    subst (λ (tokens : List Token). remaining tokens c.args.at.index ≡ Text (quoted_bytes c.in-Some-Text.text) (remaining tokens (c.args.at.index + 1))) c.self.view_is
    (meets_text c.self.inside.tokens c.args.at.index (quoted_bytes c.in-Some-Text.text) c.self.invariant.balanced (sym c.in-Some-Text.ensures ∙ ap some_seen c.in-Some-Text.field-0-is))

pub returns-in-Some-Text-clause-forward : goal.returns-in-Some-Text-clause-forward
returns-in-Some-Text-clause-forward c =
    subst (λ (tokens : List Token). (c.args.at.index < c.args.at.index + 1) × (c.args.at.index + 1 ≤ length tokens) × Unit {0}) c.self.view_is
    (leads_on c.self.inside.tokens c.args.at.index (seen_token c.in-Some-Text.field-0) (sym c.in-Some-Text.ensures))

pub returns-in-Some-Close-clause-meets : goal.returns-in-Some-Close-clause-meets
unfolding some_seen
returns-in-Some-Close-clause-meets c =
    subst (λ (tokens : List Token). remaining tokens c.args.at.index ≡ Empty) c.self.view_is
    (meets_close c.self.inside.tokens c.args.at.index (sym c.in-Some-Close.ensures ∙ ap some_seen c.in-Some-Close.field-0-is))

pub returns-in-None-clause-meets : goal.returns-in-None-clause-meets
returns-in-None-clause-meets c =
    subst (λ (tokens : List Token). remaining tokens c.args.at.index ≡ Empty) c.self.view_is
    (meets_none c.self.inside.tokens c.args.at.index (sym c.in-None.ensures))
