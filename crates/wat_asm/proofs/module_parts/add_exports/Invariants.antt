use Rattle.std.proofs.Common.{◌≡◌, ◌++◌, take}
use Rattle.wat_asm.specs.Taken.{exports_named}
use Rattle.wat_asm.proofs.module_parts.add_exports.Given as goal

abbrev pub invariant-loop-name : goal.invariant-loop-name
invariant-loop-name l = l.exports ≡ l.initial.exports ++ exports_named l.kind (take l.name-index l.names)
