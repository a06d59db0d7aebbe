use Rattle.std.proofs.Common.{◌≡◌, true, List, ℕ, drop, Some, Option, ap, sym, subst, ◌∙◌, arith}
use Rattle.std.proofs.lemmas.List.{drop-drop}
use Rattle.std.specs.Option.{is_some}
use Rattle.wat_tokens.specs.Strings.{string}
use Rattle.wat_tokens.specs.Tokens as token
use Rattle.wat_tokens.specs.Pieces.{bytes_of, token_of, IsClosed}
use Rattle.wat_tokens.specs.declared.pieces.Kind.{Kind}
use Rattle.wat_tokens.proofs.stored.stored_at.Goals as goal

pub returns-in-Text-clause-value : goal.returns-in-Text-clause-value
returns-in-Text-clause-value c text =
    let of_rest : List ℕ → Option token.Token = λ rest. Some (token.Text (bytes_of (string rest))) in
    ap of_rest (sym (drop-drop 1 c.args.start text)) ∙ ap (λ (kind : Kind). token_of (drop c.args.start text) c.args.piece.length kind) (sym c.in-Text.is)

pub returns-in-Text-clause-lies : goal.returns-in-Text-clause-lies
returns-in-Text-clause-lies c text closed low within =
    let is : is_some (string (drop 1 (drop c.args.start text))) ≡ true = subst (λ (kind : Kind). IsClosed (drop c.args.start text) kind) c.in-Text.is closed in
    (omega arith, subst (λ (rest : List ℕ). is_some (string rest) ≡ true) (drop-drop 1 c.args.start text) is)
