use Rattle.std.proofs.Common.{◌%◌, ◌*◌, ◌^◌, ap, ◌∙◌}
use Rattle.int_ops.proofs.Narrow.{combined_is}
use Rattle.int_ops.proofs.atomic.combine.Goals as goal

pub returns-clause-value : goal.returns-clause-value
returns-clause-value c =
    c.low_bytes.ensures ∙ ap (λ n. n % 2 ^ (8 * c.args.width)) c.apply.ensures
    ∙ combined_is c.args.op c.args.old c.args.arg c.args.width c.requires c.ranges.old.fits c.ranges.arg.fits
