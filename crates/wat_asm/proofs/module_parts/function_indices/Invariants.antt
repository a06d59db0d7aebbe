use Rattle.std.proofs.Common.{◌≡◌, ◌++◌, map, drop}
use Rattle.std.specs.Option.{option_map}
use Rattle.wat_meaning.specs.Meaning.{all_some}
use Rattle.wat_spaces.specs.Spaces.{index_in}
use Rattle.wat_syntax.specs.Seen.{seen_reference}
use Rattle.wat_asm.proofs.module_parts.function_indices.Given as goal

abbrev pub invariant-loop-reference : goal.invariant-loop-reference
invariant-loop-reference l =
    all_some (map (index_in l.functions) (map seen_reference l.references))
    ≡ option_map (λ more. l.indices.items ++ more) (all_some (map (index_in l.functions) (map seen_reference (drop l.reference-index l.references))))
