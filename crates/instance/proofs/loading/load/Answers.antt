use Rattle.instance.proofs.AgreeLemmas.{one_answer}
use Rattle.instance.proofs.loading.load.Goals as goal

pub returns-clause-comes : goal.returns-clause-comes
returns-clause-comes c = λ answer right other. one_answer c.args.bytes.now (c.bytes_spell_one_module.ensures c.args.bytes.now) c.loaded.result answer c.loaded.ensures right other
