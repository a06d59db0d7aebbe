use Rattle.std.proofs.Common.{◌≡◌, ◌++◌, Some, rules, refl}
use Rattle.std.specs.Prelude.{codes}
use Rattle.std.proofs.lemmas.Slice.Eq.{strip_prefix_is}
use Rattle.std.proofs.lemmas.Bool.Decides.{Decides-eqb}
use Rattle.wasm_ast.specs.declared.types.IntType.TheVariants as int
use Rattle.wasm_ast.specs.declared.instr.Form.TheVariants as form
use Rattle.wat_names.proofs.NameLemmas.{whole_is, rmw_is}
use Rattle.wat_names.proofs.accesses.i64_rmw_named.Goals as goal

pub returns-in-Some : goal.returns-in-Some
returns-in-Some c = rmw_is form.I64 int.I64 c.args.word.now c.in-Some.op.now refl (search rules) c.modify_named.result (whole_is form.I64 c.in-Some.op.now refl c.modify_named.result c.modify_named.ensures)

pub returns-in-Some-strip_prefix : goal.returns-in-Some-strip_prefix
returns-in-Some-strip_prefix c = rmw_is form.I64Low8 int.I64 c.args.word.now c.in-Some-strip_prefix.op.now refl (search rules) c.narrow_named.result c.narrow_named.ensures

pub returns-in-Some-strip_prefix-2 : goal.returns-in-Some-strip_prefix-2
returns-in-Some-strip_prefix-2 c = rmw_is form.I64Low16 int.I64 c.args.word.now c.in-Some-strip_prefix-2.op.now refl (search rules) c.narrow_named-in-Some-strip_prefix-2.result c.narrow_named-in-Some-strip_prefix-2.ensures

pub returns-in-Some-strip_prefix-3 : goal.returns-in-Some-strip_prefix-3
returns-in-Some-strip_prefix-3 c =
    let w : c.args.word.now ≡ c.as_slice-4.result.now ++ c.in-Some-strip_prefix-3.op.now = strip_prefix_is Decides-eqb c.args.word.now c.as_slice-4.result.now (Some c.in-Some-strip_prefix-3.op) c.in-Some-strip_prefix-3.ensures.cases in
    let e : c.as_slice-4.result.now ≡ codes "rmw32." = search rules in
    rmw_is form.I64Low32 int.I64 c.args.word.now c.in-Some-strip_prefix-3.op.now refl (rw e at w) c.narrow_named-in-Some-strip_prefix-3.result c.narrow_named-in-Some-strip_prefix-3.ensures
