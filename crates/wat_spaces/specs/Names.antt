-- Identifiers with a map from each name to its first index.
use Rattle.std.specs.Prelude.{◌≡◌, ℕ, if◌then◌else◌, List, Option, Some}
use Rattle.std.specs.BTreeMap.{BTreeMap}
use Rattle.std.specs.Cmp.Lexicographic.{slice_cmp}
use Rattle.std.specs.Global.{Vec}
use Rattle.std.specs.List.{position}
use Rattle.std.specs.Option.{option_or}
use Rattle.std.specs.Ordering.{nat_cmp}
use Rattle.std.specs.Str.{bytes_eq}
use Rattle.wat_spaces.specs.Spaces.{is_named}
use Rattle.std.specs.BTreeMap as tree

-- what a map has at a name
abbrev pub at_name : BTreeMap (Vec ℕ) ℕ → List ℕ → Option ℕ
at_name map name = tree.get_by (λ k. slice_cmp nat_cmp name k.items) map

-- a map has the first index of each name
abbrev pub HasFirst : List (Option (List ℕ)) → BTreeMap (Vec ℕ) ℕ → Type 0
HasFirst identifiers map = (name : List ℕ) → at_name map name ≡ position (is_named name) identifiers

-- a name that has no index gets one
abbrev pub GivesFirst : (name : List ℕ) (index : ℕ) (old new : BTreeMap (Vec ℕ) ℕ) → Type 0
GivesFirst name index old new = (other : List ℕ) → at_name new other ≡ (if bytes_eq name other then option_or (at_name old name) (Some index) else at_name old other)
