use Rattle.std.proofs.Common.{rules, refl}
use Rattle.wasm_ast.specs.declared.types.IntType.TheVariants as int
use Rattle.wasm_ast.specs.declared.instr.Form.TheVariants as form
use Rattle.wat_names.proofs.NameLemmas.{whole_is, rmw_is}
use Rattle.wat_names.proofs.accesses.i32_rmw_named.Goals as goal

pub returns-in-Some : goal.returns-in-Some
returns-in-Some c = rmw_is form.I32 int.I32 c.args.word.now c.in-Some.op.now refl (search rules) c.modify_named.result (whole_is form.I32 c.in-Some.op.now refl c.modify_named.result c.modify_named.ensures)

pub returns-in-Some-strip_prefix : goal.returns-in-Some-strip_prefix
returns-in-Some-strip_prefix c = rmw_is form.I32Low8 int.I32 c.args.word.now c.in-Some-strip_prefix.op.now refl (search rules) c.narrow_named.result c.narrow_named.ensures

pub returns-in-Some-strip_prefix-2 : goal.returns-in-Some-strip_prefix-2
returns-in-Some-strip_prefix-2 c = rmw_is form.I32Low16 int.I32 c.args.word.now c.in-Some-strip_prefix-2.op.now refl (search rules) c.narrow_named-in-Some-strip_prefix-2.result c.narrow_named-in-Some-strip_prefix-2.ensures
