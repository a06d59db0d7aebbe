-- A directory's names.
use Rattle.std.specs.Prelude.{ℕ, List, [], ◌∷◌, ◌==◌, if◌then◌else◌}
use Rattle.std.specs.Coded.{Coded, coded_ℕ, coded_list}
use Rattle.finite_maps.proofs.Maps.{slice_cmp, nat_cmp}
use Rattle.std.specs.FinMap.{FinMap, code}

-- what each name leads to
abbrev pub NameMap : Type 0
NameMap = FinMap (slice_cmp nat_cmp) ℕ

abbrev pub coded_names : Coded NameMap
coded_names = code (coded_list coded_ℕ) coded_ℕ

-- the first name that leads to a node
abbrev pub name_among : List (List ℕ × ℕ) → ℕ → List ℕ
name_among [] number = []
name_among (entry ∷ rest) number = if entry.1 == number then entry.0 else name_among rest number
