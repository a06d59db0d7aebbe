use Rattle.boot_image.proofs.RoundTrip.{read_back}
use Rattle.boot_image.proofs.laws.written_is_read.Goals as goal

pub returns : goal.returns
returns c = read_back
