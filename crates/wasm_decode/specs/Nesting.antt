-- How deep the blocks of a sequence of instructions are nested: WebAssembly Core 1.0, section 2.4.5.
use Rattle.std.specs.Prelude.{ℕ, ◌+◌, max}
use Rattle.wasm_ast.specs.Sequence.{Sequence, Empty, Plain, Block, If}

abbrev pub depth : Sequence → ℕ
depth Empty = 0
depth (Plain i rest) = depth rest
depth (Block k of body rest) = max (1 + depth body) (depth rest)
depth (If of first second rest) = max (1 + max (depth first) (depth second)) (depth rest)
