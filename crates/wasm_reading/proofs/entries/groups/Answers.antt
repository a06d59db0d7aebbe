use Rattle.std.proofs.Common.{◌≡◌, ℕ, ◌+◌, ◌^◌, nat_lt, true, List, [], Option, Some, sym, ap, ◌∙◌, arith, lt-ltb}
use Rattle.std.proofs.lemmas.Result.{err_from_is_err_and}
use Rattle.wasm_ast.specs.declared.locals.LocalGroup.{LocalGroup}
use Rattle.wasm_ast.specs.Locals.{total, added}
use Rattle.wasm_ast.proofs.LocalsLemmas.{total-joined}
use Rattle.wasm_reading.specs.ReadValues.{and_then}
use Rattle.wasm_reading.specs.ReadModule.{with_group, group_at}
use Rattle.wasm_reading.proofs.ItemLemmas.{begun_more, begun_cut, begun_past, begun_all, handed_on}
use Rattle.wasm_reading.proofs.entries.groups.Goals as goal

total-added : (gs : List LocalGroup) (g : LocalGroup) → total (added gs g) ≡ total gs + g.count
total-added gs g = grind (arith, total-joined gs g)

-- the groups alone
abbrev groups_of : Option ((ℕ × List LocalGroup) × List ℕ) → Option (List LocalGroup × List ℕ)
groups_of o = and_then o (λ ls rest. Some (ls.1, rest))

pub returns-in_err-group : goal.returns-in_err-group
returns-in_err-group c =
    let p = err_from_is_err_and c.from_residual.result c.from_residual.ensures.1 in
    rw (p.1, p.2) (handed_on c.in_err-group.field-0.0 _ _ c.in_err-group.ensures
    (λ h. ap groups_of (begun_cut with_group group_at c.args.n (0, []) c.args.cursor.now c.loop.counter _ c.loop.cursor c.loop.invariant.begun c.loop-test.true h)))

pub returns-then-count-group : goal.returns-then-count-group
returns-then-count-group c =
    ap groups_of (begun_past with_group group_at c.args.n (0, []) c.args.cursor.now c.loop.counter _ c.loop.cursor _ _ c.loop.invariant.begun c.loop-test.true c.in_ok-group.ensures (grind arith))

pub loop-preserved : goal.loop-preserved
loop-preserved c =
    let few : nat_lt (c.loop.count + c.in_ok-group.group.count) (2 ^ 32) ≡ true = lt-ltb _ _ (omega arith) in
    record {
      begun = begun_more with_group group_at c.args.n (0, []) c.args.cursor.now c.loop.counter _ _ c.loop.cursor _ _ c.loop.invariant.begun c.in_ok-group.ensures (rw few (ap (λ ls. Some (c.loop.count + c.in_ok-group.group.count, ls)) (sym c.in_ok-add.ensures.ok)));
      counts = ap total c.in_ok-add.ensures.ok ∙ total-added c.loop.locals c.in_ok-group.group ∙ ap (λ k. k + c.in_ok-group.group.count) c.loop.invariant.counts;
    }

pub returns : goal.returns
returns c = ap groups_of (begun_all with_group group_at c.args.n (0, []) c.args.cursor.now c.loop.counter _ c.loop.cursor c.loop.invariant.begun (omega arith))
