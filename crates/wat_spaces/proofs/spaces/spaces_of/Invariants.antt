use Rattle.std.proofs.Common.{◌≡◌, drop}
use Rattle.wat_spaces.specs.KeptSpaces.{no_names, spaces_of_kept}
use Rattle.wat_spaces.proofs.spaces.spaces_of.Given as goal

abbrev pub invariant-loop-field : goal.invariant-loop-field
invariant-loop-field l = spaces_of_kept l.spaces (drop l.field-index l.fields) ≡ spaces_of_kept no_names l.fields
