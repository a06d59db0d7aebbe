-- Rows of the calls, looked up, and a small program.
use Rattle.std.specs.Prelude.{◌≡◌, ℕ, List, [], ◌∷◌, codes, pos, refl, Some, None, Ok, Err}
use Rattle.wasm_ast.specs.declared.types.ValType.TheVariants.{I32, I64}
use Rattle.wasm_ast.specs.declared.instr.Instr.TheVariants as instr
use Rattle.wasm_ast.specs.declared.module.ImportKind.TheVariants as imported
use Rattle.wasm_ast.specs.declared.module.ExportKind.TheVariants as exported
use Rattle.wasm_ast.specs.declared.module.Module.{Module}
use Rattle.wasm_ast.specs.Sequence.{Sequence, Empty, Plain}
use Rattle.instance.specs.declared.fault.LoadFault.TheVariants.{Invalid, Unlinked}
use Rattle.instance.specs.Calls.{preview1, wasix, i32s, call_number}
use Rattle.instance.specs.Links.{linked}

write_links : call_number preview1 (codes "fd_write") (record { params = i32s 4; results = I32 ∷ [] }) ≡ Some 17
write_links = refl

exit_links : call_number preview1 (codes "proc_exit") (record { params = I32 ∷ []; results = [] }) ≡ Some 37
exit_links = refl

exit_with_result : call_number preview1 (codes "proc_exit") (record { params = I32 ∷ []; results = I32 ∷ [] }) ≡ None
exit_with_result = refl

random_links : call_number preview1 (codes "random_get") (record { params = I64 ∷ []; results = I32 ∷ [] }) ≡ Some 8
random_links = refl

fork_links : call_number wasix (codes "proc_fork") (record { params = I32 ∷ []; results = I32 ∷ [] }) ≡ Some 57
fork_links = refl

fork_of_preview : call_number preview1 (codes "proc_fork") (record { params = I32 ∷ []; results = I32 ∷ [] }) ≡ None
fork_of_preview = refl

-- a module that imports a function of the type of index 0 by a name of preview 1, and exports a function with this body
abbrev pub one_function : List ℕ → Sequence → Module
one_function name body = record {
  types = record { params = I32 ∷ []; results = [] } ∷ record { params = []; results = [] } ∷ [];
  imports = record { «module» = preview1; name = name; kind = imported.Func 0 } ∷ [];
  functions = 1 ∷ [];
  tables = [];
  memories = [];
  globals = [];
  exports = record { name = codes "_start"; kind = exported.Func 1 } ∷ [];
  start = None;
  elements = [];
  codes = record { locals = []; body = body } ∷ [];
  segments = [];
}

-- proc_exit(7)
abbrev pub exits : Module
exits = one_function (codes "proc_exit") (Plain (instr.I32Const (pos 7)) (Plain (instr.Call 0) Empty))

exits_links : linked exits ≡ Ok (record { «module» = exits; calls = 37 ∷ [] })
exits_links = refl

-- without an argument it isn't typed, and by another name it isn't linked
no_argument : linked (one_function (codes "proc_exit") (Plain (instr.Call 0) Empty)) ≡ Err Invalid
no_argument = refl

other_name : linked (one_function (codes "exit") (Plain (instr.I32Const (pos 7)) (Plain (instr.Call 0) Empty))) ≡ Err Unlinked
other_name = refl
