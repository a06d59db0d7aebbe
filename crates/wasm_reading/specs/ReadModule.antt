-- Reading modules.
use Rattle.std.specs.Prelude.{ℕ, ◌+◌, ◌^◌, zero, suc, ◌==◌, nat_lt, if◌then◌else◌, List, [], ◌∷◌, length, Option, Some, None, is_some, option_and_then}
use Rattle.std.specs.Option.{option_map}
use Rattle.wasm_ast.specs.declared.types.{FuncType.FuncType, Limits.Limits}
use Rattle.wasm_ast.specs.declared.locals.LocalGroup.{LocalGroup}
use Rattle.wasm_ast.specs.declared.module.{ImportKind.ImportKind, Import.Import, GlobalVar.GlobalVar, ExportKind.ExportKind, Export.Export, Element.Element, Segment.Segment, Code.Code, Module.Module}
use Rattle.wasm_ast.specs.declared.module.ImportKind.TheVariants as imported
use Rattle.wasm_ast.specs.declared.module.ExportKind.TheVariants as exported
use Rattle.wasm_ast.specs.Locals.{added}
use Rattle.wasm_ast.specs.SpelledModule.{Section, content_of, preamble}
use Rattle.wasm_reading.specs.ReadValues.{and_then, mapped, pair_at, next_at, u32_at, many_at, counted_at, vec_at, bytes_at, name_at, all_of, with_rest, sized_at}
use Rattle.wasm_reading.specs.ReadTypes.{valtype_at, functype_at, memory_at, table_at, globaltype_at}
use Rattle.wasm_reading.specs.ReadExpr.{expr_at}

abbrev pub import_kind_at : List ℕ → Option (ImportKind × List ℕ)
import_kind_at bytes = and_then (next_at bytes) (λ b rest.
    if b == 0x00 then mapped (λ of. imported.Func of) u32_at rest
    else (if b == 0x01 then mapped (λ limits. imported.Table limits) table_at rest
    else (if b == 0x02 then mapped (λ limits. imported.Memory limits) memory_at rest
    else (if b == 0x03 then mapped (λ g. imported.Global g.0 g.1) globaltype_at rest else None))))

abbrev pub import_at : List ℕ → Option (Import × List ℕ)
import_at bytes = mapped (λ i. record { «module» = i.0; name = i.1.0; kind = i.1.1 }) (pair_at name_at (pair_at name_at import_kind_at)) bytes

abbrev pub global_at : List ℕ → Option (GlobalVar × List ℕ)
global_at bytes = mapped (λ g. record { of = g.0.0; mutable = g.0.1; init = g.1 }) (pair_at globaltype_at expr_at) bytes

abbrev pub export_kind_at : List ℕ → Option (ExportKind × List ℕ)
export_kind_at bytes = and_then (next_at bytes) (λ b rest.
    if b == 0x00 then mapped (λ index. exported.Func index) u32_at rest
    else (if b == 0x01 then mapped (λ index. exported.Table index) u32_at rest
    else (if b == 0x02 then mapped (λ index. exported.Memory index) u32_at rest
    else (if b == 0x03 then mapped (λ index. exported.Global index) u32_at rest else None))))

abbrev pub export_at : List ℕ → Option (Export × List ℕ)
export_at bytes = mapped (λ e. record { name = e.0; kind = e.1 }) (pair_at name_at export_kind_at) bytes

abbrev pub element_at : List ℕ → Option (Element × List ℕ)
element_at bytes = mapped (λ e. record { table = e.0; offset = e.1.0; functions = e.1.1 }) (pair_at u32_at (pair_at expr_at (vec_at u32_at))) bytes

abbrev pub segment_at : List ℕ → Option (Segment × List ℕ)
segment_at bytes = mapped (λ s. record { memory = s.0; offset = s.1.0; bytes = s.1.1 }) (pair_at u32_at (pair_at expr_at bytes_at)) bytes

abbrev pub group_at : List ℕ → Option (LocalGroup × List ℕ)
group_at bytes = mapped (λ g. record { count = g.0; of = g.1 }) (pair_at u32_at valtype_at) bytes

-- a group behind so many locals in groups
abbrev pub with_group : ℕ × List LocalGroup → LocalGroup → Option (ℕ × List LocalGroup)
with_group ls g = if nat_lt (ls.0 + g.count) (2 ^ 32) then Some (ls.0 + g.count, added ls.1 g) else None

-- so many groups of locals
abbrev pub groups_at : ℕ → List ℕ → Option (List LocalGroup × List ℕ)
groups_at n bytes = mapped (λ ls. ls.1) (many_at with_group group_at n (0, [])) bytes

abbrev pub locals_at : List ℕ → Option (List LocalGroup × List ℕ)
locals_at bytes = mapped (λ ls. ls.1) (counted_at with_group group_at (0, [])) bytes

abbrev pub code_at : List ℕ → Option (Code × List ℕ)
code_at bytes = sized_at (mapped (λ c. record { locals = c.0; body = c.1 }) (pair_at locals_at expr_at)) bytes

-- The number from which on the section behind one of that number may be: from the same on behind a
-- custom section, which has a name; behind another, which is in order, from the following on.
abbrev pub next_from : ℕ → ℕ → List ℕ → Option ℕ
next_from next b content =
    if b == 0
    then (if is_some (name_at content) then Some next else None)
    else (if nat_lt b next then None else (if nat_lt 11 b then None else Some (b + 1)))

-- a section of a number from that one on, or a custom one, and the number from which on the next may be
abbrev pub section_at : ℕ → List ℕ → Option ((Section × ℕ) × List ℕ)
section_at next bytes = and_then (next_at bytes) (λ b mid. and_then (bytes_at mid) (λ content rest.
    with_rest rest (option_map (λ n. (record { id = b; content = content }, n)) (next_from next b content))))

-- the sections from a number on, to the end of the bytes; at most so many
abbrev pub sections_at : ℕ → ℕ → List ℕ → Option (List Section)
sections_at n next [] = Some []
sections_at zero next (b ∷ bytes) = None
sections_at (suc n) next (b ∷ bytes) = and_then (section_at next (b ∷ bytes)) (λ s rest. option_map (λ ss. s.0 ∷ ss) (sections_at n s.1 rest))

-- the items of a section, none where there is no such section
abbrev pub all_held : {X : Type 0} → (List ℕ → Option (X × List ℕ)) → Option (List ℕ) → Option (List X)
all_held r None = Some []
all_held r (Some content) = all_of (vec_at r content)

abbrev pub held_at : {X : Type 0} → (List ℕ → Option (X × List ℕ)) → ℕ → List Section → Option (List X)
held_at r id sections = all_held r (content_of id sections)

abbrev pub start_held : Option (List ℕ) → Option (Option ℕ)
start_held None = Some None
start_held (Some content) = option_map (λ f. Some f) (all_of (u32_at content))

-- both, where both are there
unfoldable pub both : {X Y : Type 0} → Option X → Option Y → Option (X × Y)
both None p = None
both (Some x) p = option_map (λ y. (x, y)) p

abbrev pub Fields : Type 0
Fields = List FuncType × (List Import × (List ℕ × (List Limits × (List Limits × (List GlobalVar × (List Export × (Option ℕ × (List Element × (List Code × List Segment)))))))))

-- what each section holds
abbrev pub fields_of : List Section → Option Fields
fields_of ss =
    both (held_at functype_at 1 ss) (both (held_at import_at 2 ss) (both (held_at u32_at 3 ss) (both (held_at table_at 4 ss)
    (both (held_at memory_at 5 ss) (both (held_at global_at 6 ss) (both (held_at export_at 7 ss) (both (start_held (content_of 8 ss))
    (both (held_at element_at 9 ss) (both (held_at code_at 10 ss) (held_at segment_at 11 ss))))))))))

abbrev pub module_with : Fields → Module
module_with (types, (imports, (functions, (tables, (memories, (globals, (exports, (start, (elements, (codes, segments)))))))))) =
    record {
      types = types;
      imports = imports;
      functions = functions;
      tables = tables;
      memories = memories;
      globals = globals;
      exports = exports;
      start = start;
      elements = elements;
      codes = codes;
      segments = segments;
    }

-- the module, where it has as many functions as codes
abbrev pub counted : Module → Option Module
counted m = if length m.functions == length m.codes then Some m else None

-- the module of the sections
unfoldable pub module_of : List Section → Option Module
module_of ss = option_and_then (λ f. counted (module_with f)) (fields_of ss)

abbrev pub preamble_at : List ℕ → List ℕ → Option (List ℕ)
preamble_at [] bytes = Some bytes
preamble_at (c ∷ cs) [] = None
preamble_at (c ∷ cs) (b ∷ bytes) = if b == c then preamble_at cs bytes else None

-- a module, of all the bytes
unfoldable pub body_at : List ℕ → Option Module
body_at body = option_and_then module_of (sections_at (length body) 1 body)

unfoldable pub module_at : List ℕ → Option Module
module_at bytes = option_and_then body_at (preamble_at preamble bytes)
