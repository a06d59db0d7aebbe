-- What is read is below the width, so its low bits are all of it.
use Rattle.std.proofs.Common.{ℕ, ◌*◌, ◌^◌, ◌<◌, arith, subst}
use Rattle.int_ops.specs.Conversion.{extend_u}
use Rattle.wasm_ast.specs.declared.instr.LoadOp.{LoadOp}
use Rattle.wasm_ast.specs.Operators.{load_exponent}
use Rattle.wasm_numeric.proofs.Extension.{wrapped_low}
use Rattle.wasm_numeric.proofs.conversion.extend_loaded.Goals as goal

abbrev IsRead : ℕ → LoadOp → Type 0
IsRead n op = n < 2 ^ (8 * 2 ^ load_exponent op)

pub returns-in-I32From8S-clause-value : goal.returns-in-I32From8S-clause-value
returns-in-I32From8S-clause-value c = grind (arith, wrapped_low 32 8 c.args.n (subst (IsRead c.args.n) c.in-I32From8S.is c.requires))

pub returns-in-I32From16S-clause-value : goal.returns-in-I32From16S-clause-value
returns-in-I32From16S-clause-value c = grind (arith, wrapped_low 32 16 c.args.n (subst (IsRead c.args.n) c.in-I32From16S.is c.requires))

pub returns-in-I64From8S-clause-value : goal.returns-in-I64From8S-clause-value
returns-in-I64From8S-clause-value c = grind (arith, wrapped_low 64 8 c.args.n (subst (IsRead c.args.n) c.in-I64From8S.is c.requires))

pub returns-in-I64From16S-clause-value : goal.returns-in-I64From16S-clause-value
returns-in-I64From16S-clause-value c = grind (arith, wrapped_low 64 16 c.args.n (subst (IsRead c.args.n) c.in-I64From16S.is c.requires))

pub returns-in-I64From32S-clause-value : goal.returns-in-I64From32S-clause-value
returns-in-I64From32S-clause-value c = grind (arith, wrapped_low 64 32 c.args.n (subst (IsRead c.args.n) c.in-I64From32S.is c.requires))

pub returns-in-I32-clause-value : goal.returns-in-I32-clause-value
unfolding extend_u
returns-in-I32-clause-value c = grind (arith)

pub returns-in-I64-clause-value : goal.returns-in-I64-clause-value
unfolding extend_u
returns-in-I64-clause-value c = grind (arith)
