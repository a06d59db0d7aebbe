-- The sequences of instructions of a module: WebAssembly Core 1.0, section 2.5.
use Rattle.std.specs.Prelude.{Bool, ◌||◌}
use Rattle.std.specs.List.{list_any}
use Rattle.wasm_ast.specs.declared.module.{GlobalVar.GlobalVar, Element.Element, Segment.Segment, Code.Code, Module.Module}
use Rattle.wasm_ast.specs.Sequence.{Sequence}

-- One of them has the property: the first value of a global, the offset of an element or data segment,
-- or the instructions of a function.
abbrev pub any_body : (Sequence → Bool) → Module → Bool
any_body has m =
    list_any (λ (g : GlobalVar). has g.init) m.globals
    || list_any (λ (e : Element). has e.offset) m.elements
    || list_any (λ (c : Code). has c.body) m.codes
    || list_any (λ (s : Segment). has s.offset) m.segments
