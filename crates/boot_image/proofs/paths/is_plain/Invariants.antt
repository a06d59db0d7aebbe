use Rattle.std.proofs.Common.{◌≡◌, drop}
use Rattle.boot_image.proofs.PlainPaths.{is_just}
use Rattle.boot_image.proofs.paths.is_plain.Given as goal

abbrev pub invariant-loop-index : goal.invariant-loop-index
invariant-loop-index l = is_just l.path l.parts.names ≡ is_just l.rest (drop l.index l.parts.names)
