-- The locals of a function as groups of a count and a type.
use Rattle.std.specs.Prelude.{◌≡◌, ℕ, ◌+◌, ◌<◌, ◌^◌, ◌==◌, if◌then◌else◌, false, List, [], ◌∷◌}
use Rattle.wasm_ast.specs.declared.types.ValType.{ValType}
use Rattle.wasm_ast.specs.Types.{same_type}
use Rattle.wasm_ast.specs.declared.locals.LocalGroup.{LocalGroup}

-- how many locals there are
abbrev pub total : List LocalGroup → ℕ
total [] = 0
total (g ∷ gs) = g.count + total gs

-- the next group, if any, is of another type
abbrev pub IsFollowedByOther : ValType → List LocalGroup → Type 0
IsFollowedByOther of [] = Unit {0}
IsFollowedByOther of (g ∷ gs) = same_type of g.of ≡ false

-- no group is empty, and neighbours differ in type
abbrev pub AreMerged : List LocalGroup → Type 0
AreMerged [] = Unit {0}
AreMerged (g ∷ gs) = (0 < g.count) × IsFollowedByOther g.of gs × AreMerged gs

pub record AreLocals (groups : List LocalGroup) : Type 0 where
  pub merged : AreMerged groups
  pub few : total groups < 2 ^ 32

-- behind groups stands a further one, which joins the last where that is of the same type
abbrev pub joined : List LocalGroup → LocalGroup → List LocalGroup
joined [] g = g ∷ []
joined (h ∷ []) g = if same_type h.of g.of then (record { count = h.count + g.count; of = h.of }) ∷ [] else h ∷ g ∷ []
joined (h ∷ k ∷ hs) g = h ∷ joined (k ∷ hs) g

-- behind groups stands a further one, which leaves no trace where it is empty
abbrev pub added : List LocalGroup → LocalGroup → List LocalGroup
added groups g = if g.count == 0 then groups else joined groups g
