use Rattle.std.proofs.Common.{arith}
use Rattle.wasm_ast.proofs.LocalsLemmas.{locals-joined}
use Rattle.wasm_ast.proofs.locals.Locals.add.Goals as goal

pub invariant_of-self : goal.invariant_of-self
invariant_of-self c =
    rw c.if-joins_last.ensures.yes (locals-joined _ _ (omega arith) c.self.invariant (rw c.self.view_is c.requires))

pub invariant_of-self-2 : goal.invariant_of-self-2
invariant_of-self-2 c =
    rw (c.in_ok-push.ensures.items, c.if-joins_last.ensures.no.0, ← c.if-joins_last.ensures.no.1) (locals-joined _ _ (omega arith) c.self.invariant (rw c.self.view_is c.requires))
