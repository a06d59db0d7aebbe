use Rattle.wat_spaces.proofs.NameMaps.{name_updated}
use Rattle.wat_spaces.proofs.labels.remove.Goals as goal

pub returns : goal.returns
returns c = name_updated c.args.name.now c.args.places.now c.remove.new.self _ c.remove.ensures.updates
