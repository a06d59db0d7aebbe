use Rattle.wasm_reading.proofs.ModuleLaws.{one_module}
use Rattle.wasm_reading.proofs.bytes_spell_one_module.Goals as goal

pub returns : goal.returns
returns c = one_module
