use Rattle.wasm_encode.proofs.ShortestModule.{module_written}
use Rattle.wasm_encode.proofs.canon_is_a_spelling.Goals as goal

pub returns : goal.returns
returns c = λ bytes m a h. (module_written bytes m a h).spells
