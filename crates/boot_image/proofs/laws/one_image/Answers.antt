use Rattle.boot_image.proofs.Items.{one_list}
use Rattle.boot_image.proofs.RoundTrip.{one_tree}
use Rattle.boot_image.proofs.laws.one_image.Goals as goal

pub returns : goal.returns
returns c = record { entries = one_list; tree = one_tree }
