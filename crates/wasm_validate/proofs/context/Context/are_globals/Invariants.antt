use Rattle.std.proofs.Common.{◌≡◌, drop}
use Rattle.std.specs.List.{list_all}
use Rattle.wasm_validate.specs.Prelude.{is_global, context}
use Rattle.wasm_validate.proofs.context.Context.are_globals.Given as goal

abbrev pub invariant-loop-global : goal.invariant-loop-global
invariant-loop-global l = list_all (is_global (context l.self) l.imported) (drop l.global-index l.globals) ≡ list_all (is_global (context l.self) l.imported) l.globals
