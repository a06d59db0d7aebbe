-- the bytes so far and those in front of the byte in what is left are those in front of it in all
use Rattle.std.proofs.Common.{◌≡◌, ◌+◌, eqb, not, drop}
use Rattle.std.specs.List.{prefix_len}
use Rattle.wat_tokens.proofs.comments.length_before.Given as goal

abbrev pub invariant-loop-i : goal.invariant-loop-i
invariant-loop-i l =
    l.i + prefix_len (λ byte. not (eqb byte l.end)) (drop l.i l.text) ≡ prefix_len (λ byte. not (eqb byte l.end)) l.text
