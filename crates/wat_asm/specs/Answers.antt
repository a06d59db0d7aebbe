-- What is answered of a text, against its module or its first fault.
use Rattle.std.specs.Prelude.{◌≡◌, ℕ, List, Result, Ok, Err}
use Rattle.wasm_ast.specs.declared.module.Module.{Module}
use Rattle.wat_asm.specs.declared.fault.AsmFault.{AsmFault}
use Rattle.wat_asm.specs.Assembled.{Fault, fault, assembled}
use Rattle.wat_asm.specs.declared.fault.AsmFault.TheVariants as asm

-- the answer is the module, or the fault with its kind and its line, unless memory ran out
abbrev pub Answers : Result Module Fault → Result Module AsmFault → Type 0
Answers expected (Ok m) = expected ≡ Ok m
Answers expected (Err (asm.Text line of)) = expected ≡ Err (fault of line)
Answers expected (Err asm.Memory) = Unit {0}

-- the answer to a text
abbrev pub Assembles : List ℕ → Result Module AsmFault → Type 0
Assembles text result = Answers (assembled text) result
