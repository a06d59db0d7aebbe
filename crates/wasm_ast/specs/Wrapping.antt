-- The instruction of a construct that ends, by the numbers of its lists.
use Rattle.std.specs.Prelude.{◌≡◌, ℕ, List, [], ◌∷◌, ◌++◌, length}
use Rattle.wasm_ast.specs.declared.instr.Instr.{Instr}
use Rattle.wasm_ast.specs.declared.instr.Instr.TheVariants as instr
use Rattle.wasm_ast.specs.declared.instr.Construct.TheVariants as construct
use Rattle.wasm_ast.specs.declared.builder.Frame.{Frame}
use Rattle.wasm_ast.specs.declared.builder.Frame.TheVariants.{Inside, Else}
use Rattle.wasm_ast.specs.Numbering.{block_instr}

abbrev pub outer_of : Frame → ℕ
outer_of (Inside c of outer) = outer
outer_of (Else of then outer) = outer

-- the instruction, and the lists with an empty one more for the second arm that an if doesn't have
abbrev pub Wraps : Frame → ℕ → List (List Instr) → Instr → List (List Instr) → Type 0
Wraps (Inside (construct.Block k) of outer) last lists i lists' = (i ≡ block_instr k of last) × (lists' ≡ lists)
Wraps (Inside construct.If of outer) last lists i lists' = (i ≡ instr.If of last (length lists)) × (lists' ≡ lists ++ [] ∷ [])
Wraps (Else of then outer) last lists i lists' = (i ≡ instr.If of then last) × (lists' ≡ lists)
