use Rattle.std.proofs.Common.{◌≡◌, drop, filter_map}
use Rattle.instance.specs.Program.{imported_memory}
use Rattle.instance.proofs.segments.first_memory.Given as goal

abbrev pub invariant-loop-import : goal.invariant-loop-import
invariant-loop-import l = filter_map imported_memory (drop l.import-index l.imports) ≡ filter_map imported_memory l.imports
