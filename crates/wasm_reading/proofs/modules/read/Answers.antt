use Rattle.std.proofs.Common.{◌≡◌, List, ℕ, Some, None, Result, Ok, Err, sym, ◌∙◌, IfOk}
use Rattle.wasm_ast.specs.declared.module.Module.{Module}
use Rattle.wasm_ast.specs.SpelledModule.{SpellsModule}
use Rattle.wasm_reading.specs.declared.fault.ReadFault.{ReadFault}
use Rattle.wasm_reading.specs.declared.fault.ReadFault.TheVariants.{Malformed, Memory}
use Rattle.wasm_reading.specs.ReadAnswers.{Answers}
use Rattle.wasm_reading.specs.ReadModule.{module_at}
use Rattle.wasm_reading.proofs.ModuleLaws.{module_takes, module_again}
use Rattle.wasm_reading.proofs.modules.read.Goals as goal

found_of : (bytes : List ℕ) (r : Result Module ReadFault) → Answers (λ x. x) r (module_at bytes) → IfOk r (λ m. SpellsModule bytes m)
found_of bytes (Ok m) h = module_takes bytes m h
found_of bytes (Err e) h = tt

malformed_of : (bytes : List ℕ) (r : Result Module ReadFault) → Answers (λ x. x) r (module_at bytes) → r ≡ Err Malformed → (m : Module) → SpellsModule bytes m → ⊥
malformed_of bytes (Ok m) h e n s = cc
malformed_of bytes (Err Malformed) h e n s = let no_module : None ≡ Some n = sym h ∙ module_again bytes n s in cc
malformed_of bytes (Err Memory) h e n s = cc

pub returns-clause-found : goal.returns-clause-found
returns-clause-found c = found_of c.args.bytes.now c.read_all.result c.read_all.ensures

pub returns-clause-malformed : goal.returns-clause-malformed
returns-clause-malformed c = λ e. malformed_of c.args.bytes.now c.read_all.result c.read_all.ensures e
