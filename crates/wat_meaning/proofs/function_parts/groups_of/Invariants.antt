use Rattle.std.proofs.Common.{◌≡◌, List, drop}
use Rattle.std.specs.List.{fold}
use Rattle.wasm_ast.specs.Locals.{added, total}
use Rattle.wasm_ast.specs.declared.locals.LocalGroup.{LocalGroup}
use Rattle.wat_syntax.specs.Parsed.{Variable}
use Rattle.wat_meaning.specs.Meaning.{groups}
use Rattle.wat_syntax.specs.Seen.{seen_variables}
use Rattle.wat_meaning.proofs.function_parts.groups_of.Given as goal

abbrev pub invariant-loop-local : goal.invariant-loop-local
invariant-loop-local l = record {
  grouped : fold (λ (gs : List LocalGroup) (v : Variable). added gs (record { count = 1; of = v.of })) l.made (seen_variables (drop l.local-index l.locals)) ≡ groups (seen_variables l.locals);
  counted : total l.made ≡ l.local-index;
}
