use Rattle.wasm_encode.proofs.ShortestModule.{module_written}
use Rattle.wasm_encode.proofs.canon_is_shortest.Goals as goal

pub returns : goal.returns
returns c = λ bytes m a h. (module_written bytes m a h).shorter
