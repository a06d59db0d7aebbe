-- the tokens so far and those of the rest are those of the text
use Rattle.std.proofs.Common.{◌≡◌, ◌+◌, ◌-◌, ◌≤◌, map, length, drop}
use Rattle.std.specs.List.{AllByRecursion}
use Rattle.wat_tokens.specs.Tokens.{tokens_from}
use Rattle.wat_tokens.specs.Stored.{Lies, token_at}
use Rattle.wat_tokens.proofs.TokenLemmas.{behind_tokens}
use Rattle.wat_tokens.proofs.token_list.Tokens.read.Given as goal

abbrev pub invariant-loop-start : goal.invariant-loop-start
invariant-loop-start l = record {
  read : behind_tokens (map (token_at l.text) l.items.items) (tokens_from 0 l.line (drop l.start l.text)) ≡ tokens_from 0 1 l.text;
  lie : AllByRecursion (Lies l.text) l.items.items;
  few : length l.items.items ≤ l.start;
  within : l.start ≤ length l.text;
  lines : l.line ≤ l.start + 1;
}

abbrev pub decreases-loop-start : goal.decreases-loop-start
decreases-loop-start l = length l.initial.text - l.start
