use Rattle.std.proofs.Common.{◌≡◌, ◌+◌, ◌*◌, ◌≤◌, ◌++◌, length, map, false}
use Rattle.std.specs.List.{filter}
use Rattle.std.specs.Option.{option_copied}
use Rattle.path_walk.specs.Paths.{pieces, is_name}
use Rattle.path_walk.specs.Pieces.{pieces_left, last_by, left_len, ends_test, dots_test, not_empty}
use Rattle.path_walk.proofs.parts.gather.Given as goal

-- what was taken, before what is left, says what the whole path says
abbrev pub invariant-loop-rest : goal.invariant-loop-rest
invariant-loop-rest l = record {
  names : map (λ name. name.now) l.names.items ++ filter is_name (pieces_left (option_copied l.rest)) ≡ filter is_name (pieces l.path);
  must_dir : last_by ends_test l.must_dir (pieces_left (option_copied l.rest)) ≡ last_by ends_test false (pieces l.path);
  last_dot : last_by dots_test l.last_dot (filter not_empty (pieces_left (option_copied l.rest))) ≡ last_by dots_test false (filter not_empty (pieces l.path));
  room : 2 * length l.names.items + left_len (option_copied l.rest) ≤ 1025;
}

abbrev pub decreases-loop-rest : goal.decreases-loop-rest
decreases-loop-rest l = left_len (option_copied l.rest)
