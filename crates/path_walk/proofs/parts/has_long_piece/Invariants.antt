use Rattle.std.proofs.Common.{◌≡◌}
use Rattle.std.specs.Option.{option_copied}
use Rattle.path_walk.specs.Paths.{pieces, any_is_long}
use Rattle.path_walk.specs.Pieces.{pieces_left, left_len}
use Rattle.path_walk.proofs.parts.has_long_piece.Given as goal

abbrev pub invariant-loop-rest : goal.invariant-loop-rest
invariant-loop-rest l = any_is_long (pieces_left (option_copied l.rest)) ≡ any_is_long (pieces l.path)

abbrev pub decreases-loop-rest : goal.decreases-loop-rest
decreases-loop-rest l = left_len (option_copied l.rest)
