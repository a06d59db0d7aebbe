use Rattle.std.proofs.Common.{◌≡◌, ◌-◌, length, reverse, take, drop, sym, ap, ◌∙◌, arith}
use Rattle.wasm_validate.specs.Prelude.{OpenBlocks, outer_of}
use Rattle.wasm_validate.proofs.StackLemmas.{drop-reverse}
use Rattle.wasm_validate.proofs.blocks.Blocks.become_unreachable.Goals as goal

pub returns-clause-enclosing : goal.returns-clause-enclosing
returns-clause-enclosing c =
    let kept : reverse c.truncate.new.self.items ≡ drop c.self.inside.innermost.own (reverse c.self.inside.operands.items) =
    let long : c.len.result ≡ length c.self.inside.operands.items = omega arith in
    ap reverse (c.truncate.ensures.items ∙ ap (λ n. take (n - c.self.inside.innermost.own) c.self.inside.operands.items) long)
    ∙ sym (drop-reverse c.self.inside.operands.items c.self.inside.innermost.own (omega (arith, c.self.invariant))) in
    ap (λ xs. record { block = c.self.inside.innermost.block; outer = outer_of (reverse c.self.inside.outer.items) xs }) kept
    ∙ ap (λ (v : OpenBlocks). v.enclosing) c.self.view_is
