use Rattle.std.proofs.Common.{◌≡◌, suc, List, [], ◌∷◌, length, false, refl, ap, arith}
use Rattle.wasm_ast.specs.declared.types.ValType.{ValType}
use Rattle.wasm_ast.specs.Table.{same_types}
use Rattle.wasm_ast.proofs.types.same_types.Goals as goal

not_as_long : (ts us : List ValType) → (length ts ≡ length us → ⊥) → false ≡ same_types ts us
not_as_long [] [] h = absurd (h refl)
not_as_long [] (u ∷ us) h = refl
not_as_long (t ∷ ts) [] h = refl
not_as_long (t ∷ ts) (u ∷ us) h = rw (← not_as_long ts us (λ e. h (ap suc e))) (grind arith)

pub returns-then-types-others : goal.returns-then-types-others
returns-then-types-others c = not_as_long c.args.types.now c.args.others.now c.if-types-others.true
