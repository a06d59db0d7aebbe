use Rattle.std.proofs.Common.{◌≡◌, [], sym, subst, ◌≤◌}
use Rattle.std.specs.Prelude.{Option, IfSome}
use Rattle.wasm_ast.specs.declared.types.Limits.{Limits}
use Rattle.wasm_ast.specs.declared.module.Module.{Module}
use Rattle.wasm_ast.specs.TypingModule.{globals_of}
use Rattle.instance.proofs.LinkLemmas.{few_pages, no_globals}
use Rattle.instance.proofs.program.Program.memory.Goals as goal

pub empty_memory-requires : goal.empty_memory-requires
empty_memory-requires c =
    subst (λ (o : Option Limits). IfSome o (λ (l : Limits). l.min ≤ 256)) (sym c.self.invariant.0.its_memory) (few_pages c.self.inside.valid c.self.invariant.0.modest)

pub write_segments-requires-clause-none_imported : goal.write_segments-requires-clause-none_imported
write_segments-requires-clause-none_imported c = subst (λ (m : Module). globals_of m.imports ≡ []) (sym c.module.ensures.value) (no_globals c.self.inside.valid c.self.invariant.0.linked)
