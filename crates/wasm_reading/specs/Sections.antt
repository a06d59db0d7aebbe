-- Sections as the code keeps them.
use Rattle.std.specs.Prelude.{List, map}
use Rattle.wasm_ast.specs.SpelledModule.{Section}
use Rattle.wasm_reading.specs.declared.modules.Part.{Part}

abbrev pub view : Part → Section
view p = record { id = p.id; content = p.content.now }

abbrev pub views : List Part → List Section
views ps = map view ps
