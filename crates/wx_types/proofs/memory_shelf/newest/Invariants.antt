-- what is found is the newest of the files so far
use Rattle.std.proofs.Common.{◌≡◌, take}
use Rattle.std.specs.Option.{option_copied}
use Rattle.wx_types.specs.Files.{file_named}
use Rattle.wx_types.specs.ShelfLog.{files_at}
use Rattle.wx_types.proofs.memory_shelf.newest.Given as goal

abbrev pub invariant-loop-spot : goal.invariant-loop-spot
invariant-loop-spot l = option_copied l.found ≡ file_named (files_at l.log (take l.spot-index l.spots)) l.name
