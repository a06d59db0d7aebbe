use Rattle.open_desc.proofs.KindLemmas.{file_read_refused}
use Rattle.open_desc.proofs.descriptions.Descs.read_file.Goals as goal

pub returns-in-Err : goal.returns-in-Err
returns-in-Err c = file_read_refused _ _ _ _ _ _ _ c.in-Err.ensures.count c.read_at.ensures.bytes
