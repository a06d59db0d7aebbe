-- A module as it is written: WebAssembly Core 1.0, section 5.5, with the shortest numbers, each run of
-- equal local types as one group, no `else` before an empty list, and no empty and no custom section.
use Rattle.std.specs.Prelude.{ℕ, Bool, true, false, if◌then◌else◌, List, [], ◌∷◌, ◌++◌, length, Option, Some, None}
use Rattle.wasm_ast.specs.declared.types.{ValType.ValType, FuncType.FuncType, Limits.Limits}
use Rattle.wasm_ast.specs.declared.locals.LocalGroup.{LocalGroup}
use Rattle.wasm_ast.specs.declared.module.{ImportKind.ImportKind, Import.Import, GlobalVar.GlobalVar, ExportKind.ExportKind, Export.Export, Element.Element, Segment.Segment, Code.Code, Module.Module}
use Rattle.wasm_ast.specs.declared.module.ImportKind.TheVariants as imported
use Rattle.wasm_ast.specs.declared.module.ExportKind.TheVariants as exported
use Rattle.wasm_ast.specs.SpelledTypes.{valtype_byte}
use Rattle.wasm_ast.specs.SpelledModule.{preamble}
use Rattle.wasm_ast.specs.Shortest.{shortest_unsigned, canon_vec}
use Rattle.wasm_ast.specs.CanonInstr.{canon_expr}

-- bytes, in front of them how many there are (5.1.3, 5.2.4)
abbrev pub canon_bytes : List ℕ → List ℕ
canon_bytes content = shortest_unsigned (length content) ++ content

abbrev pub canon_val_type : ValType → List ℕ
canon_val_type of = valtype_byte of ∷ []

-- functype (5.3.3)
abbrev pub canon_func_type : FuncType → List ℕ
canon_func_type f = 0x60 ∷ canon_vec canon_val_type f.params ++ canon_vec canon_val_type f.results

-- limits (5.3.4). Shared limits without a greatest size have no spelling: with the byte 02 in front
-- they are refused by a reader.
abbrev pub canon_limits_of : ℕ → Option ℕ → Bool → List ℕ
canon_limits_of min None false = 0x00 ∷ shortest_unsigned min
canon_limits_of min (Some max) false = 0x01 ∷ shortest_unsigned min ++ shortest_unsigned max
canon_limits_of min None true = 0x02 ∷ shortest_unsigned min
canon_limits_of min (Some max) true = 0x03 ∷ shortest_unsigned min ++ shortest_unsigned max

-- memtype (5.3.5)
abbrev pub canon_memory : Limits → List ℕ
canon_memory l = canon_limits_of l.min l.max l.shared

-- tabletype (5.3.6)
abbrev pub canon_table : Limits → List ℕ
canon_table l = 0x70 ∷ canon_limits_of l.min l.max l.shared

-- globaltype (5.3.7)
abbrev pub canon_global_type : ValType → Bool → List ℕ
canon_global_type of mutable = valtype_byte of ∷ (if mutable then 0x01 else 0x00) ∷ []

-- import (5.5.5)
abbrev pub canon_import_kind : ImportKind → List ℕ
canon_import_kind (imported.Func of) = 0x00 ∷ shortest_unsigned of
canon_import_kind (imported.Table limits) = 0x01 ∷ canon_table limits
canon_import_kind (imported.Memory limits) = 0x02 ∷ canon_memory limits
canon_import_kind (imported.Global of mutable) = 0x03 ∷ canon_global_type of mutable

abbrev pub canon_import : Import → List ℕ
canon_import i = canon_bytes i.module ++ canon_bytes i.name ++ canon_import_kind i.kind

-- global (5.5.9)
abbrev pub canon_global : GlobalVar → List ℕ
canon_global g = canon_global_type g.of g.mutable ++ canon_expr g.init

-- export (5.5.10)
abbrev pub canon_export_kind : ExportKind → List ℕ
canon_export_kind (exported.Func index) = 0x00 ∷ shortest_unsigned index
canon_export_kind (exported.Table index) = 0x01 ∷ shortest_unsigned index
canon_export_kind (exported.Memory index) = 0x02 ∷ shortest_unsigned index
canon_export_kind (exported.Global index) = 0x03 ∷ shortest_unsigned index

abbrev pub canon_export : Export → List ℕ
canon_export e = canon_bytes e.name ++ canon_export_kind e.kind

-- elem (5.5.12)
abbrev pub canon_element : Element → List ℕ
canon_element e = shortest_unsigned e.table ++ canon_expr e.offset ++ canon_vec shortest_unsigned e.functions

-- data (5.5.14)
abbrev pub canon_segment : Segment → List ℕ
canon_segment s = shortest_unsigned s.memory ++ canon_expr s.offset ++ canon_bytes s.bytes

-- locals (5.5.13)
abbrev pub canon_group : LocalGroup → List ℕ
canon_group g = shortest_unsigned g.count ++ valtype_byte g.of ∷ []

-- code (5.5.13)
abbrev pub canon_func : Code → List ℕ
canon_func c = canon_vec canon_group c.locals ++ canon_expr c.body

abbrev pub canon_code : Code → List ℕ
canon_code c = canon_bytes (canon_func c)

-- section (5.5.2)
abbrev pub canon_section : ℕ → List ℕ → List ℕ
canon_section id content = id ∷ canon_bytes content

-- a section of that number, none for an empty list
abbrev pub canon_list : {X : Type 0} → (X → List ℕ) → ℕ → List X → List ℕ
canon_list written id [] = []
canon_list written id (x ∷ xs) = canon_section id (canon_vec written (x ∷ xs))

-- start (5.5.11)
abbrev pub canon_start : Option ℕ → List ℕ
canon_start None = []
canon_start (Some function) = canon_section 8 (shortest_unsigned function)

-- module (5.5.15)
abbrev pub canon : Module → List ℕ
canon m =
    preamble
    ++ canon_list canon_func_type 1 m.types
    ++ canon_list canon_import 2 m.imports
    ++ canon_list shortest_unsigned 3 m.functions
    ++ canon_list canon_table 4 m.tables
    ++ canon_list canon_memory 5 m.memories
    ++ canon_list canon_global 6 m.globals
    ++ canon_list canon_export 7 m.exports
    ++ canon_start m.start
    ++ canon_list canon_element 9 m.elements
    ++ canon_list canon_code 10 m.codes
    ++ canon_list canon_segment 11 m.segments
