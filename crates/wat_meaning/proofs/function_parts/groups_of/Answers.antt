use Rattle.std.proofs.Common.{◌≡◌, ℕ, ◌+◌, ◌<◌, ◌∙◌, List, length, drop, get_or, ap, sym, None}
use Rattle.std.specs.List.{fold}
use Rattle.std.proofs.lemmas.List.{drop_more}
use Rattle.wasm_ast.specs.declared.types.ValType.TheVariants.{I32}
use Rattle.wasm_ast.specs.declared.locals.LocalGroup.{LocalGroup}
use Rattle.wasm_ast.specs.Locals.{added, total}
use Rattle.wasm_ast.proofs.LocalsLemmas.{total-joined}
use Rattle.wat_syntax.specs.declared.parsed.Variable as kept_variable
use Rattle.wat_syntax.specs.Parsed.{Variable}
use Rattle.wat_syntax.specs.Seen.{seen_variables}
use Rattle.wat_meaning.proofs.function_parts.groups_of.Goals as goal

groups_step : (ls : List kept_variable.Variable) (i : ℕ) (d : kept_variable.Variable) (gs new all : List LocalGroup) → i < length ls →
    fold (λ (hs : List LocalGroup) (v : Variable). added hs (record { count = 1; of = v.of })) gs (seen_variables (drop i ls)) ≡ all → new ≡ added gs (record { count = 1; of = (get_or ls i d).of }) →
    fold (λ (hs : List LocalGroup) (v : Variable). added hs (record { count = 1; of = v.of })) new (seen_variables (drop (i + 1) ls)) ≡ all
groups_step ls i d gs new all h seen e =
    let go : List LocalGroup → List Variable → List LocalGroup = λ hs vs. fold (λ (hs : List LocalGroup) (v : Variable). added hs (record { count = 1; of = v.of })) hs vs in
    ap (λ hs. go hs (seen_variables (drop (i + 1) ls))) e ∙ ap (λ ys. go gs (seen_variables ys)) (sym (drop_more ls i d h)) ∙ seen

pub loop-local-preserved : goal.loop-local-preserved
loop-local-preserved c = record {
  grouped = groups_step c.args.locals.now c.loop-local.local-index (record { name = None; of = I32 }) c.loop-local.made _ _ c.loop-local-test.true c.loop-local.invariant.grouped c.in_ok-add.ensures.ok;
  counted = ap total c.in_ok-add.ensures.ok ∙ total-joined c.loop-local.made _ ∙ ap (λ n. n + 1) c.loop-local.invariant.counted;
}
