-- Where groups of locals end.
use Rattle.std.specs.Prelude.{ℕ, ◌+◌, List, [], ◌∷◌}
use Rattle.wasm_ast.specs.declared.locals.LocalGroup.{LocalGroup}

-- how many locals there are up to each group and with it, behind some
abbrev pub ends_from : ℕ → List LocalGroup → List ℕ
ends_from start [] = []
ends_from start (g ∷ gs) = (start + g.count) ∷ ends_from (start + g.count) gs
