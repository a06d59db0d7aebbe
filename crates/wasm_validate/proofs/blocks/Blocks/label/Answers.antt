use Rattle.std.proofs.Common.{reverse, drop, slice_get, Some, ap, ◌∙◌, arith}
use Rattle.wasm_validate.specs.Prelude.{label_of, OpenBlocks, labels_of}
use Rattle.wasm_validate.proofs.StackLemmas.{label_at, label_past}
use Rattle.wasm_validate.proofs.blocks.Blocks.label.Goals as goal

pub returns-then-label-count : goal.returns-then-label-count
returns-then-label-count c =
    label_past c.self.inside.outer.items (drop c.self.inside.innermost.own (reverse c.self.inside.operands.items)) (label_of c.self.inside.innermost.block.kind c.self.inside.innermost.block.of) c.args.label (omega arith) (omega arith)
    ∙ ap (λ (v : OpenBlocks). slice_get (labels_of v.enclosing) c.args.label) c.self.view_is

pub returns : goal.returns
returns c =
    ap Some c.label-2.ensures
    ∙ label_at c.self.inside.outer.items c.index.result.now (drop c.self.inside.innermost.own (reverse c.self.inside.operands.items)) (label_of c.self.inside.innermost.block.kind c.self.inside.innermost.block.of) c.len-count.result c.args.label (omega arith) (omega arith) (omega arith) c.index.ensures
    ∙ ap (λ (v : OpenBlocks). slice_get (labels_of v.enclosing) c.args.label) c.self.view_is
