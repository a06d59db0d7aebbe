use Rattle.std.proofs.Common.{◌≡◌, ◌-◌, length}
use Rattle.std.specs.Option.{option_map}
use Rattle.wat_syntax.specs.Immediates.{exports_front}
use Rattle.wat_syntax.specs.Seen.{at_place}
use Rattle.wat_syntax.proofs.FrontLemmas.{with_front}
use Rattle.wat_syntax.proofs.lists.exports_at.Given as goal

abbrev pub invariant-loop-inside : goal.invariant-loop-inside
invariant-loop-inside l =
    exports_front (at_place l.fields l.initial.at)
    ≡ option_map (with_front l.exports.items) (exports_front (at_place l.fields l.at))

abbrev pub decreases-loop-inside : goal.decreases-loop-inside
decreases-loop-inside l = length l.fields - l.at.index
