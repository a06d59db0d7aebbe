-- Programs, and what a process that runs one begins with (WebAssembly Core 1.0, 4.5.4).
use Rattle.std.specs.Coded.{Coded, code_by, coded×, coded_list, coded_ℕ}
use Rattle.std.specs.Prelude.{refl, ℕ, nat_le, Bool, true, false, ◌&&◌, if◌then◌else◌, List, [], ◌∷◌, ◌++◌, length, slice_get, codes, fold, find, filter_map, Option, Some, None, option_and_then, unwrap_or}
use Rattle.std.specs.Str.{bytes_eq}
use Rattle.linear_memory.specs.LinearMemory.{LinearMemory, zero_pages, with_bytes}
use Rattle.wasm_ast.specs.declared.types.ValType.{ValType}
use Rattle.wasm_ast.specs.declared.types.ValType.TheVariants.{I32}
use Rattle.wasm_ast.specs.declared.types.FuncType.{FuncType}
use Rattle.wasm_ast.specs.declared.types.Limits.{Limits}
use Rattle.wasm_ast.specs.declared.module.ImportKind.{ImportKind}
use Rattle.wasm_ast.specs.declared.module.ImportKind.TheVariants as imported
use Rattle.wasm_ast.specs.declared.module.Import.{Import}
use Rattle.wasm_ast.specs.declared.module.ExportKind.{ExportKind}
use Rattle.wasm_ast.specs.declared.module.ExportKind.TheVariants as exported
use Rattle.wasm_ast.specs.declared.module.Export.{Export}
use Rattle.wasm_ast.specs.declared.module.Segment.{Segment}
use Rattle.wasm_ast.specs.declared.module.Module.{Module}
use Rattle.wasm_ast.specs.contracts.module.Module as the_module
use Rattle.wasm_ast.specs.TypingModule.{functions_of}
use Rattle.guest_state.specs.GuestThread.{GuestThread}
use Rattle.guest_state.specs.Module.{own_function}
use Rattle.guest_state.specs.Steps.{entered, started}
use Rattle.wasm_ast.specs.Table.{function_type, same_types, offset_value}
use Rattle.instance.specs.declared.exports.ExportKind.{ExportKind as ExportedFor}
use Rattle.instance.specs.declared.exports.ExportKind.TheVariants.{Start, ThreadStart, Handler}

-- a module whose imports are linked: the number of the call that each imported function is, in the order of the imports
pub record Program : Type 0 where
  pub «module» : Module
  pub calls : List ℕ

-- as the pair of its fields
abbrev pub program_code : Coded Program
program_code = code_by (Module × List ℕ) (coded× the_module.the_row.coded (coded_list coded_ℕ)) (λ p. (p.module, p.calls)) (λ p. record { «module» = p.0; calls = p.1 }) (λ p. refl)

-- the call that an imported function is, by its index
abbrev pub call_of : Program → ℕ → Option ℕ
call_of program import = slice_get program.calls import

-- ---- exports

-- the function of that type, if it is one of the module's own: imported functions come first in the counting
abbrev pub own_of_type : Module → List ValType → ℕ → Option FuncType → Option ℕ
own_of_type m params x None = None
own_of_type m params x (Some of) =
    if nat_le (length (functions_of m.imports)) x && (same_types params of.params && same_types [] of.results) then Some x else None

abbrev pub exported_of_type : Module → List ValType → ExportKind → Option ℕ
exported_of_type m params (exported.Func x) = own_of_type m params x (function_type m x)
exported_of_type m params (exported.Table x) = None
exported_of_type m params (exported.Memory x) = None
exported_of_type m params (exported.Global x) = None

-- the index of the function of the module's own that is exported under a name, takes these parameters and gives nothing
abbrev pub exported_function : Module → List ℕ → List ValType → Option ℕ
exported_function m name params =
    option_and_then (λ (e : Export). exported_of_type m params e.kind) (find (λ (e : Export). bytes_eq e.name name) m.exports)

-- what such a function takes: where a program begins nothing, where a further thread begins its number and an argument, and
-- where signals are handled the signal's number
abbrev pub params_of : ExportedFor → List ValType
params_of Start = []
params_of ThreadStart = I32 ∷ I32 ∷ []
params_of Handler = I32 ∷ []

-- where a program begins: each has such a function
abbrev pub main_function : Module → Option ℕ
main_function m = exported_function m (codes "_start") (params_of Start)

-- where a further thread begins
abbrev pub thread_function : Module → Option ℕ
thread_function m = exported_function m (codes "wasi_thread_start") (params_of ThreadStart)

-- a function that may handle signals
abbrev pub handler_function : Module → List ℕ → Option ℕ
handler_function m name = exported_function m name (params_of Handler)

-- ---- memory

abbrev pub imported_memory : Import → Option Limits
imported_memory i = of_kind i.kind where
  of_kind : ImportKind → Option Limits
  of_kind (imported.Func of) = None
  of_kind (imported.Table limits) = None
  of_kind (imported.Memory limits) = Some limits
  of_kind (imported.Global of mutable) = None

-- the limits of the memory, imported or the module's own: there is at most one
abbrev pub memory_limits : Module → Option Limits
memory_limits m = slice_get (filter_map imported_memory m.imports ++ m.memories) 0

-- a memory of so many pages, all of them 0; none is a memory of no page
abbrev pub empty_memory : Option Limits → LinearMemory
empty_memory None = record { bytes = zero_pages 0; maximum = 0; shared = false }
empty_memory (Some limits) = record { bytes = zero_pages limits.min; maximum = unwrap_or limits.max 65536; shared = limits.shared }

abbrev pub with_segment : Module → List ℕ → Segment → List ℕ
with_segment m bytes s = with_bytes bytes (offset_value m s.offset) s.bytes

-- the memory at first: the data segments are written in their order
abbrev pub first_memory : Module → LinearMemory
first_memory m =
    let memory = empty_memory (memory_limits m) in
    record memory { bytes = fold (with_segment m) memory.bytes m.segments }

-- ---- threads

-- a thread that begins a function of the module's own, given by its index
abbrev pub begun : Module → ℕ → List ℕ → Bool → GuestThread
begun m x arguments main = started m (own_function m x) arguments main

-- the frame of the start function, where there is one, above those of a thread: it runs first
abbrev pub after_start : Module → Option ℕ → GuestThread → GuestThread
after_start m None thread = thread
after_start m (Some x) thread = record thread { frames = entered m (own_function m x) [] ∷ thread.frames }

-- the thread that a program begins with
abbrev pub main_thread : Module → GuestThread
main_thread m = after_start m m.start (begun m (unwrap_or (main_function m) 0) [] true)
