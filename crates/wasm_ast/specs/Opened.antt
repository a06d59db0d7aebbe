-- What an instruction with inner instructions begins.
use Rattle.std.specs.Prelude.{Option, Some, None}
use Rattle.wasm_ast.specs.declared.instr.Instr.{Instr}
use Rattle.wasm_ast.specs.declared.instr.Instr.TheVariants as instr
use Rattle.wasm_ast.specs.declared.instr.BlockKind.TheVariants as kind
use Rattle.wasm_ast.specs.declared.instr.Construct.TheVariants as construct
use Rattle.wasm_ast.specs.declared.walk.Inner.{Inner}

abbrev pub opened_by : Instr → Option Inner
opened_by (instr.Block of body) = Some (record { construct = construct.Block kind.Block; of = of; first = body; second = None })
opened_by (instr.Loop of body) = Some (record { construct = construct.Block kind.Loop; of = of; first = body; second = None })
opened_by (instr.If of then otherwise) = Some (record { construct = construct.If; of = of; first = then; second = Some otherwise })
opened_by i = None
