use Rattle.std.proofs.Common.{◌≡◌, drop}
use Rattle.wasm_reading.specs.ReadModule.{preamble_at}
use Rattle.wasm_reading.proofs.modules.skip.Given as goal

abbrev pub invariant-loop-byte : goal.invariant-loop-byte
invariant-loop-byte l = preamble_at l.known l.initial.cursor ≡ preamble_at (drop l.byte-index l.known) l.cursor
