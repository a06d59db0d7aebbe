use Rattle.wasix_run.specs.Judging.{one_boot}
use Rattle.wasix_run.proofs.Serving.{boots_as}
use Rattle.wasix_run.proofs.serial.run.Goals as goal

pub returns : goal.returns
returns c = (
  c.run_one-why.result.why,
  c.run_reason.ensures,
  λ bytes loads. (
    c.run_one-why.ensures.journal (one_boot bytes) (boots_as c.one_file_is_there.ensures bytes c.args.program.now loads),
    c.run_one-why.ensures.cause (one_boot bytes) (boots_as c.one_file_is_there.ensures bytes c.args.program.now loads),
  ),
)
