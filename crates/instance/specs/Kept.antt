-- What a program keeps beside its module.
use Rattle.std.specs.Prelude.{◌≡◌, ℕ, true, List, filter_map, find, Option, Some, None, option_map}
use Rattle.std.specs.BTreeMap as tree
use Rattle.std.specs.BTreeMap.{BTreeMap}
use Rattle.std.specs.Cmp.Lexicographic.{slice_cmp}
use Rattle.std.specs.Global.{Vec}
use Rattle.std.specs.Ordering.{nat_cmp}
use Rattle.std.specs.Str.{bytes_eq}
use Rattle.wasm_ast.specs.declared.types.Limits.{Limits}
use Rattle.wasm_ast.specs.declared.module.Export.{Export}
use Rattle.wasm_ast.specs.declared.module.ExportKind.{ExportKind}
use Rattle.wasm_ast.specs.declared.module.Module.{Module}
use Rattle.wasm_ast.specs.TypingModule.{is_typed}
use Rattle.wasm_decode.specs.Bounds.{first_passed}
use Rattle.instance.specs.Program.{main_function, memory_limits}
use Rattle.instance.specs.Links.{import_call, is_answered, links, segments_fit}

-- what the first export of a name is, if there is one
abbrev pub export_named : List Export → List ℕ → Option ExportKind
export_named exports name = option_map (λ (e : Export). e.kind) (find (λ (e : Export). bytes_eq e.name name) exports)

-- a map has what each name is exported as
abbrev pub HasExports : List Export → BTreeMap (Vec ℕ) ExportKind → Type 0
HasExports exports map = (name : List ℕ) → tree.get_by (λ k. slice_cmp nat_cmp name k.items) map ≡ export_named exports name

-- The module is typed and passes no limit, and its imports link.
pub record CanStart (m : Module) : Type 0 where
  pub typed : is_typed m ≡ true
  pub modest : first_passed m ≡ None
  pub linked : links m ≡ true

-- The module links and its segments fit; its calls, where it begins, and the limits of its memory.
pub record IsProgram (m : Module) (calls : List ℕ) (main : ℕ) (memory : Option Limits) : Type 0 where
  pub modest : first_passed m ≡ None
  pub linked : links m ≡ true
  pub its_calls : calls ≡ filter_map (import_call m) m.imports
  pub fits : segments_fit m ≡ true
  pub answered : is_answered (record { «module» = m; calls = calls }) ≡ true
  pub its_main : main_function m ≡ Some main
  pub its_memory : memory ≡ memory_limits m
