use Rattle.std.proofs.Common.{◌*◌}
use Rattle.int_ops.proofs.Narrow.{access_bits, low_mask}
use Rattle.int_ops.proofs.atomic.low_bytes.Goals as goal

pub returns : goal.returns
returns c = low_mask c.args.n (8 * c.args.width) (access_bits c.args.width c.requires).0
