use Rattle.std.proofs.Common.{◌≡◌, ◌-◌, length, slice_get, ◌++◌, ◌∷◌, [], reverse, arith, ap, take, ◌∙◌}
use Rattle.std.proofs.lemmas.Grind.{common_steps}
use Rattle.wasm_ast.specs.Built.{with_end}
use Rattle.wasm_ast.proofs.BuilderLemmas.{Becomes, always_err, end_by, end_within, last_of, taken_back, unchanged}
use Rattle.wasm_ast.proofs.builder.BodyBuilder.end.Goals as goal

pub invariant_of-self : goal.invariant_of-self
invariant_of-self c = (unchanged _ _ _ _ _ c.self.invariant c.self.view_is c.in_err-instr.ensures.err).1

pub returns-in_err-instr-clause-err : goal.returns-in_err-instr-clause-err
returns-in_err-instr-clause-err c = always_err _ (unchanged _ _ _ _ _ c.self.invariant c.self.view_is c.in_err-instr.ensures.err).0

pub push_at-requires : goal.push_at-requires
push_at-requires c =
    let os = c.self.inside.opens.items in
    let lay : os ≡ take (length os - 1) os ++ c.in-Some.frame.now ∷ [] = last_of os c.in-Some.frame.now (c.in-Some.ensures.value ∙ ap (λ xs. slice_get xs (length xs - 1)) c.deref.ensures.value) in
    end_within _ _ _ _ _ _ _ _ c.self.invariant lay c.in_ok-instr.ensures.ok c.outer-outer.ensures

taken : (c : goal.After-truncate) → Becomes c.truncate.new.self.items (reverse c.self.inside.opens.items) c.self.inside.list c.args.self.now
taken c =
    unchanged _ _ _ _ _ c.self.invariant c.self.view_is
    (c.truncate.ensures.items ∙ ap (take c.len-count.result) c.in_default-push_at.ensures.err ∙ ap (λ k. take k c.wrapped.new.lists.items) (c.len-count.ensures ∙ c.self.inside.lists.ok.0) ∙ taken_back _ _ _ _ _ c.in_ok-instr.ensures.ok)

pub invariant_of-self-in_default-push_at : goal.invariant_of-self-in_default-push_at
invariant_of-self-in_default-push_at c = (taken c).1

pub returns-in_default-push_at-clause-err : goal.returns-in_default-push_at-clause-err
returns-in_default-push_at-clause-err c = (taken c).0

done : (c : goal.After-self-1) → Becomes c.push_at.new.lists.items (reverse c.pop.new.self.items) c.outer-outer.result (with_end c.args.self.now)
done c =
    let lay : c.self.inside.opens.items ≡ c.pop.new.self.items ++ c.in-Some.frame.now ∷ [] = grind (arith, common_steps) in
    end_by _ _ _ _ _ _ _ _ _ _ c.self.invariant c.self.view_is lay c.in_ok-instr.ensures.ok c.outer-outer.ensures c.in-Ok.ensures.ok

pub invariant_of-self-2 : goal.invariant_of-self-2
invariant_of-self-2 c = (done c).1

pub returns-clause-ok : goal.returns-clause-ok
returns-clause-ok c = (done c).0
