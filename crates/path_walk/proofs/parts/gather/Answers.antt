use Rattle.std.proofs.Common.{◌≡◌, ℕ, Bool, false, List, sym, refl, subst, ◌∙◌, ◌++◌, Option, None, Bor, map, append-nil}
use Rattle.std.specs.List.{filter}
use Rattle.std.specs.Option.{option_copied}
use Rattle.path_walk.specs.Paths.{PathParts, AreParts, pieces, is_name, ends_as_directory, is_dots, parts_of}
use Rattle.path_walk.specs.Pieces.{pieces_left, last_by, ends_test, dots_test, not_empty}
use Rattle.path_walk.proofs.PieceLemmas.{last_by_from}
use Rattle.path_walk.proofs.PartLemmas.{parts_are}
use Rattle.path_walk.proofs.parts.gather.Goals as goal

-- nothing is left of the path, and what was gathered are its parts
whole : (path : List ℕ) (gathered : PathParts) (rest : Option (Bor (List ℕ))) → rest ≡ None → gathered.absolute ≡ (parts_of path).absolute
    → gathered.names ++ filter is_name (pieces_left (option_copied rest)) ≡ filter is_name (pieces path)
    → last_by ends_test gathered.must_dir (pieces_left (option_copied rest)) ≡ last_by ends_test false (pieces path)
    → last_by dots_test gathered.last_dot (filter not_empty (pieces_left (option_copied rest))) ≡ last_by dots_test false (filter not_empty (pieces path))
    → gathered ≡ parts_of path
whole path gathered rest is absolute names-are must-are last-are =
    let names = sym (append-nil _) ∙ subst (λ (r : Option (Bor (List ℕ))). gathered.names ++ filter is_name (pieces_left (option_copied r)) ≡ filter is_name (pieces path)) is names-are in
    let must_dir = subst (λ (r : Option (Bor (List ℕ))). last_by ends_test gathered.must_dir (pieces_left (option_copied r)) ≡ last_by ends_test false (pieces path)) is must-are
    ∙ sym (last_by_from ends_test false None ends_as_directory refl (λ _. refl) (pieces path)) in
    let last_dot = subst (λ (r : Option (Bor (List ℕ))). last_by dots_test gathered.last_dot (filter not_empty (pieces_left (option_copied r))) ≡ last_by dots_test false (filter not_empty (pieces path))) is last-are
    ∙ sym (last_by_from dots_test false None is_dots refl (λ _. refl) (filter not_empty (pieces path))) in
    λ i. record { absolute = absolute i; must_dir = must_dir i; last_dot = last_dot i; names = names i }

pub invariant_of-result : goal.invariant_of-result
invariant_of-result c =
    subst AreParts (sym (whole c.args.path.now _ c.loop-rest.rest c.in_default.is c.begins_with_slash.ensures c.loop-rest.invariant.names c.loop-rest.invariant.must_dir c.loop-rest.invariant.last_dot))
    (parts_are c.args.path.now c.requires.short c.requires.text)

pub returns : goal.returns
returns c = whole c.args.path.now _ c.loop-rest.rest c.in_default.is c.begins_with_slash.ensures c.loop-rest.invariant.names c.loop-rest.invariant.must_dir c.loop-rest.invariant.last_dot
