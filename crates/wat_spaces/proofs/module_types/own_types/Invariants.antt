use Rattle.std.proofs.Common.{◌≡◌, ◌++◌, drop}
use Rattle.wat_spaces.specs.Collected.{own_types_of}
use Rattle.wat_spaces.proofs.module_types.own_types.Given as goal

abbrev pub invariant-loop-field : goal.invariant-loop-field
invariant-loop-field l = l.types ++ own_types_of (drop l.field-index l.fields) ≡ own_types_of l.fields
