use Rattle.std.proofs.Common.{rules}
use Rattle.std.specs.Vec.{vec_len}
use Rattle.wasm_ast.specs.declared.builder.Frame.TheVariants as frame
use Rattle.wasm_ast.proofs.BuilderLemmas.{else_by, lasts, unchanged, always_err}
use Rattle.wasm_ast.proofs.builder.BodyBuilder.else_.Goals as goal

pub invariant_of-self : goal.invariant_of-self
invariant_of-self c = (unchanged _ _ _ _ _ c.self.invariant c.self.view_is c.in_err-list.ensures.err).1

pub returns-in_err-list-clause-err : goal.returns-in_err-list-clause-err
returns-in_err-list-clause-err c = always_err _ (unchanged _ _ _ _ _ c.self.invariant c.self.view_is c.in_err-list.ensures.err).0

pub invariant_of-self-2 : goal.invariant_of-self-2
invariant_of-self-2 c =
    let os = c.self.inside.opens in
    let other = frame.Else c.in-Inside.of c.self.inside.list c.in-Inside.outer in
    let l = lasts os.items c.in-Some.frame.now other (vec_len os) os.ok.0 (search rules) c.in-Some.ensures.value in
    (else_by _ _ _ _ _ _ _ _ _ _ _ _ c.self.invariant c.self.view_is c.requires l.1 c.in-Inside.is l.2 c.in_ok-list.ensures.ok.1 c.in_ok-list.ensures.ok.0).1

pub returns-clause-ok : goal.returns-clause-ok
returns-clause-ok c =
    let os = c.self.inside.opens in
    let other = frame.Else c.in-Inside.of c.self.inside.list c.in-Inside.outer in
    let l = lasts os.items c.in-Some.frame.now other (vec_len os) os.ok.0 (search rules) c.in-Some.ensures.value in
    (else_by _ _ _ _ _ _ _ _ _ _ _ _ c.self.invariant c.self.view_is c.requires l.1 c.in-Inside.is l.2 c.in_ok-list.ensures.ok.1 c.in_ok-list.ensures.ok.0).0
