use Rattle.std.proofs.Common.{◌≡◌, drop}
use Rattle.std.specs.List.{flat_map, fold}
use Rattle.wat_syntax.specs.declared.field.FieldInLine.{FieldInLine}
use Rattle.wat_spaces.specs.Types.{with_use}
use Rattle.wat_spaces.specs.Collected.{kept_uses, types_of_kept}
use Rattle.wat_spaces.proofs.module_types.types_of.Given as goal

abbrev pub invariant-loop-field : goal.invariant-loop-field
invariant-loop-field l = fold with_use l.types (flat_map (λ (f : FieldInLine). kept_uses f.field) (drop l.field-index l.fields)) ≡ types_of_kept l.fields
