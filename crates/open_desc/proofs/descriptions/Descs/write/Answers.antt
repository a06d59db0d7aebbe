use Rattle.open_desc.proofs.descriptions.Descs.write.Goals as goal

pub returns-in-Some : goal.returns-in-Some
returns-in-Some c = rw c.in-Some.is (c.write_held.ensures)
