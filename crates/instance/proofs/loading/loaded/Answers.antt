use Rattle.instance.proofs.LoadLemmas.{of_linked}
use Rattle.instance.proofs.loading.loaded.Goals as goal

pub returns-in-Ok : goal.returns-in-Ok
returns-in-Ok c = of_linked c.args.bytes.now c.in-Ok.module c.validated.result c.in-Ok.ensures.module c.validated.ensures
