use Rattle.std.proofs.Common.{◌≡◌, drop}
use Rattle.wasm_ast.specs.SpelledModule.{content_of}
use Rattle.wasm_reading.specs.Sections.{views}
use Rattle.wasm_reading.proofs.modules.content.Given as goal

abbrev pub invariant-loop-part : goal.invariant-loop-part
invariant-loop-part l = content_of l.id (views l.parts) ≡ content_of l.id (views (drop l.part-index l.parts))
