use Rattle.std.proofs.Common.{ℕ, ◌<◌, ◌^◌, List, Ok, arith}
use Rattle.std.specs.List.{All}
use Rattle.wasm_ast.specs.Canon.{canon}
use Rattle.wasm_ast.specs.declared.module.Module.{Module}
use Rattle.wasm_decode.specs.Decodes.{SpellsModest}
use Rattle.wasm_decode.proofs.DecodeRows.{agree}
use Rattle.wasm_encode.proofs.ShortestModule.{module_written}
use Rattle.wasm_encode.proofs.decoded_is_read_back.Goals as goal

modest : (bytes : List ℕ) (m : Module) → All (λ b. b < 2 ^ 8) bytes → SpellsModest bytes m → SpellsModest (canon m) m
modest bytes m a (within, spells, floats, limits) =
    let written = module_written bytes m a spells in (omega (arith, written.shorter, within), written.spells, floats, limits)

pub returns-clause-spelled : goal.returns-clause-spelled
returns-clause-spelled c = modest

pub returns-clause-answer : goal.returns-clause-answer
returns-clause-answer c = λ bytes m result a h d. agree (canon m) (c.bytes_spell_one_module.ensures (canon m)) result (Ok m) (λ e. cc) d (modest bytes m a h)
