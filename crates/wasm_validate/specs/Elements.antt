-- The functions at the first places of a table.
use Rattle.std.specs.Prelude.{◌≡◌, ℕ, ◌-◌, ◌<◌, nat_le, IsTrue, if◌then◌else◌, List, ◌++◌, length, slice_get, get_or, Option, None}
use Rattle.wasm_ast.specs.declared.module.Element.{Element}
use Rattle.wasm_ast.specs.declared.module.Module.{Module}
use Rattle.wasm_ast.specs.Table.{last_put, or_else}
use Rattle.wasm_ast.specs.TypingModule.{functions_of, is_typed}

-- at each of them, the function that these segments put there, if any
abbrev pub AreFirst : Module → List (Option ℕ) → List Element → Type 0
AreFirst m places elements = (i : ℕ) → i < length places → get_or places i None ≡ last_put m elements i

-- functions were put at the places from one on
abbrev pub from_place : ℕ → List ℕ → ℕ → Option ℕ
from_place first functions i = if nat_le first i then slice_get functions (i - first) else None

abbrev pub IsPutFrom : List (Option ℕ) → ℕ → List ℕ → List (Option ℕ) → Type 0
IsPutFrom old first functions new =
    (length new ≡ length old) × ((i : ℕ) → i < length old → get_or new i None ≡ or_else (from_place first functions i) (get_or old i None))

-- A typed module, the index of the type of each of its functions, imported ones first, and the functions at the first places
-- of its table.
pub record IsValid (m : Module) (functions : List ℕ) (places : List (Option ℕ)) : Type 0 where
  pub typed : IsTrue (is_typed m)
  pub types : functions ≡ functions_of m.imports ++ m.functions
  pub first : AreFirst m places m.elements
