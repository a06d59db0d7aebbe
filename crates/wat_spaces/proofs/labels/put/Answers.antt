use Rattle.wat_spaces.proofs.NameMaps.{name_updated}
use Rattle.wat_spaces.proofs.labels.put.Goals as goal

pub returns : goal.returns
returns c = rw c.in_ok-name.ensures.items at (name_updated c.in_ok-name.name.items c.args.places.now c.insert.new.self _ c.in_ok-insert.ensures.updates)
