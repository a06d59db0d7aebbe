use Rattle.std.proofs.Common.{◌≡◌, drop}
use Rattle.wat_spaces.specs.KeptSpaces.{no_names}
use Rattle.wat_meaning.specs.Meaning.{nothing}
use Rattle.wat_asm.specs.Taken.{all_taken}
use Rattle.wat_asm.proofs.module.parts_of.Given as goal

abbrev pub invariant-loop-field : goal.invariant-loop-field
invariant-loop-field l = all_taken l.bindings l.before (drop l.field-index l.fields) l.module ≡ all_taken l.bindings no_names l.fields nothing
