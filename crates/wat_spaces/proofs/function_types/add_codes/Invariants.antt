use Rattle.std.proofs.Common.{◌≡◌, ◌++◌, map, take}
use Rattle.wat_spaces.specs.TypeKeys.{type_code}
use Rattle.wat_spaces.proofs.function_types.add_codes.Given as goal

abbrev pub invariant-loop-of : goal.invariant-loop-of
invariant-loop-of l = l.codes.items ≡ l.initial.codes.items ++ map type_code (take l.of-index l.types)
