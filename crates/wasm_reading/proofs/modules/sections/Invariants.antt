use Rattle.std.proofs.Common.{length}
use Rattle.wasm_reading.specs.Sections.{views}
use Rattle.wasm_reading.proofs.SectionLemmas.{Split}
use Rattle.wasm_reading.proofs.modules.sections.Given as goal

abbrev pub invariant-loop-cursor : goal.invariant-loop-cursor
invariant-loop-cursor l = Split l.initial.cursor (views l.parts.items) l.least l.cursor

abbrev pub decreases-loop-cursor : goal.decreases-loop-cursor
decreases-loop-cursor l = length l.cursor
