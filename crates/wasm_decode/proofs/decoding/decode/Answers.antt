use Rattle.std.proofs.Common.{Result, Ok, Err, subst}
use Rattle.wasm_ast.specs.declared.module.Module.{Module}
use Rattle.wasm_decode.specs.declared.fault.DecodeFault.{DecodeFault}
use Rattle.wasm_decode.specs.declared.fault.DecodeFault.TheVariants.{Malformed, Float, Limit}
use Rattle.wasm_decode.specs.Decodes.{Decodes}
use Rattle.wasm_decode.proofs.DecodeRows.{module_row, agree, too_long}
use Rattle.wasm_decode.proofs.decoding.decode.Goals as goal

pub returns-clause-module : goal.returns-clause-module
returns-clause-module c = module_row c.args.bytes.now c.decoded.result c.decoded.ensures

pub returns-clause-length_only : goal.returns-clause-length_only
returns-clause-length_only c = λ e. subst (λ (x : Result Module DecodeFault). Decodes c.args.bytes.now x) e c.decoded.ensures

pub returns-clause-malformed_only : goal.returns-clause-malformed_only
returns-clause-malformed_only c = λ e. subst (λ (x : Result Module DecodeFault). Decodes c.args.bytes.now x) e c.decoded.ensures

pub returns-clause-float_only : goal.returns-clause-float_only
returns-clause-float_only c = λ e. subst (λ (x : Result Module DecodeFault). Decodes c.args.bytes.now x) e c.decoded.ensures

pub returns-clause-limit_only : goal.returns-clause-limit_only
returns-clause-limit_only c = λ bound e. subst (λ (x : Result Module DecodeFault). Decodes c.args.bytes.now x) e c.decoded.ensures

pub returns-clause-spelled : goal.returns-clause-spelled
returns-clause-spelled c = λ m s. agree c.args.bytes.now (c.bytes_spell_one_module.ensures c.args.bytes.now) c.decoded.result (Ok m) (λ e. cc) c.decoded.ensures s

pub returns-clause-length : goal.returns-clause-length
returns-clause-length c = λ h. too_long c.args.bytes.now c.decoded.result c.decoded.ensures h

pub returns-clause-malformed : goal.returns-clause-malformed
returns-clause-malformed c = λ s. agree c.args.bytes.now (c.bytes_spell_one_module.ensures c.args.bytes.now) c.decoded.result (Err Malformed) (λ e. cc) c.decoded.ensures s

pub returns-clause-float : goal.returns-clause-float
returns-clause-float c = λ s. agree c.args.bytes.now (c.bytes_spell_one_module.ensures c.args.bytes.now) c.decoded.result (Err Float) (λ e. cc) c.decoded.ensures s

pub returns-clause-limit : goal.returns-clause-limit
returns-clause-limit c = λ bound s. agree c.args.bytes.now (c.bytes_spell_one_module.ensures c.args.bytes.now) c.decoded.result (Err (Limit bound)) (λ e. cc) c.decoded.ensures s
