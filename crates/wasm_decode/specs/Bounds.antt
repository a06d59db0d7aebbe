-- The limits of a module that this project sets, and the first that one passes.
use Rattle.std.specs.Prelude.{ℕ, ◌+◌, nat_lt, Bool, false, ◌||◌, if◌then◌else◌, List, [], ◌∷◌, length, slice_get, Option, Some, None}
use Rattle.std.specs.List.{list_any}
use Rattle.wasm_ast.specs.declared.types.{FuncType.FuncType, Limits.Limits}
use Rattle.wasm_ast.specs.declared.module.{ImportKind.ImportKind, Import.Import, Code.Code, Module.Module}
use Rattle.wasm_ast.specs.declared.module.ImportKind.TheVariants as imported
use Rattle.wasm_ast.specs.Locals.{total}
use Rattle.wasm_ast.specs.Sequence.{Sequence}
use Rattle.wasm_ast.specs.TypingModule.{functions_of}
use Rattle.wasm_decode.specs.declared.fault.Bound.{Bound}
use Rattle.wasm_decode.specs.declared.fault.Bound.TheVariants.{Types, Functions, Locals, Nesting, Table, Pages}
use Rattle.wasm_decode.specs.Bodies.{any_body}
use Rattle.wasm_decode.specs.Nesting.{depth}

-- how many bytes a module may have
abbrev pub most_bytes : ℕ
most_bytes = 4194304

-- how many functions a module has, imported ones among them
abbrev pub functions_in : Module → ℕ
functions_in m = length (functions_of m.imports) + length m.functions

-- how many parameters a function of the type has, none where there is no such type
abbrev pub parameters : Option FuncType → ℕ
parameters None = 0
parameters (Some of) = length of.params

-- some function of the module's own has more than 8,192 locals, its parameters among them
abbrev pub any_has_many : List FuncType → List ℕ → List Code → Bool
any_has_many types [] codes = false
any_has_many types (of ∷ ofs) [] = false
any_has_many types (of ∷ ofs) (code ∷ codes) = nat_lt 8192 (parameters (slice_get types of) + total code.locals) || any_has_many types ofs codes

abbrev pub is_deep : Sequence → Bool
is_deep s = nat_lt 256 (depth s)

-- a table of more than 65,536 elements at first
abbrev pub is_large : Limits → Bool
is_large limits = nat_lt 65536 limits.min

abbrev pub import_is_large : ImportKind → Bool
import_is_large (imported.Table limits) = is_large limits
import_is_large _ = false

-- a memory of more than 256 pages at first
abbrev pub has_many_pages : Limits → Bool
has_many_pages limits = nat_lt 256 limits.min

abbrev pub import_has_many_pages : ImportKind → Bool
import_has_many_pages (imported.Memory limits) = has_many_pages limits
import_has_many_pages _ = false

-- the first limit that a module passes, apart from that of its bytes
abbrev pub first_passed : Module → Option Bound
first_passed m =
    if nat_lt 10000 (length m.types) then Some Types
    else (if nat_lt 20000 (functions_in m) then Some Functions
    else (if any_has_many m.types m.functions m.codes then Some Locals
    else (if any_body is_deep m then Some Nesting
    else (if list_any (λ (i : Import). import_is_large i.kind) m.imports || list_any is_large m.tables then Some Table
    else (if list_any (λ (i : Import). import_has_many_pages i.kind) m.imports || list_any has_many_pages m.memories then Some Pages
    else None)))))
