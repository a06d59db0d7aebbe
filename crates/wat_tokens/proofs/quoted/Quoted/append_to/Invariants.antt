-- the bytes so far and those of the rest of the string are those of the whole string
use Rattle.std.proofs.Common.{◌≡◌, ◌-◌, ◌≤◌, ◌++◌, length, drop}
use Rattle.std.specs.Option.{option_map}
use Rattle.wat_tokens.specs.Strings.{elements, string}
use Rattle.wat_tokens.proofs.quoted.Quoted.append_to.Given as goal

abbrev pub invariant-loop-at : goal.invariant-loop-at
invariant-loop-at l = record {
  bytes : option_map (λ s. l.out.items ++ s.bytes) (elements 0 (drop l.at l.text)) ≡ option_map (λ s. l.fn.out.items ++ s.bytes) (string l.text);
  within : l.at ≤ length l.text;
}

abbrev pub decreases-loop-at : goal.decreases-loop-at
decreases-loop-at l = length l.initial.text - l.at
