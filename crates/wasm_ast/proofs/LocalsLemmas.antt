-- What a further group does to the locals.
use Rattle.std.proofs.Common.{◌≡◌, ℕ, zero, suc, ◌+◌, ◌<◌, ◌≤◌, Bool, true, false, List, [], ◌∷◌, ◌++◌, length, get_or, refl, ap, arith, cond, ◌^◌, subst, sym}
use Rattle.std.proofs.Math.ListN.{set}
use Rattle.wasm_ast.specs.declared.types.ValType.{ValType}
use Rattle.wasm_ast.specs.declared.locals.LocalGroup.{LocalGroup}
use Rattle.wasm_ast.specs.Types.{same_type}
use Rattle.wasm_ast.specs.Locals.{total, joined, AreMerged, IsFollowedByOther, AreLocals}

-- a further group joins the last, at i, or stands behind it
joined-last : (gs : List LocalGroup) (g d : LocalGroup) (i : ℕ) (same : Bool) → suc i ≡ length gs → same_type (get_or gs i d).of g.of ≡ same →
    joined gs g ≡ cond same (set gs i (record { count = (get_or gs i d).count + g.count; of = (get_or gs i d).of })) (gs ++ g ∷ [])
joined-last [] g d i same n h = absurd (omega arith)
joined-last (x ∷ []) g d zero same n h = rw h refl
joined-last (x ∷ []) g d (suc i) same n h = absurd (omega arith)
joined-last (x ∷ y ∷ gs) g d zero same n h = absurd (omega arith)
joined-last (x ∷ y ∷ gs) g d (suc i) true n h = ap (λ l. x ∷ l) (joined-last (y ∷ gs) g d i true (omega arith) h)
joined-last (x ∷ y ∷ gs) g d (suc i) false n h = ap (λ l. x ∷ l) (joined-last (y ∷ gs) g d i false (omega arith) h)

pub total-joined : (gs : List LocalGroup) (g : LocalGroup) → total (joined gs g) ≡ total gs + g.count
total-joined [] g = omega arith
total-joined (x ∷ []) g = grind arith
total-joined (x ∷ y ∷ gs) g = omega (arith, total-joined (y ∷ gs) g)

merged-pair : (x g : LocalGroup) (b : Bool) → same_type x.of g.of ≡ b → 0 < g.count → 0 < x.count →
    AreMerged (cond b ((record { count = x.count + g.count; of = x.of }) ∷ []) (x ∷ g ∷ []))
merged-pair x g true e p q = (omega arith, tt, tt)
merged-pair x g false e p q = (q, e, (p, tt, tt))

followed-joined : (of : ValType) (x : LocalGroup) (gs : List LocalGroup) (g : LocalGroup) →
    same_type of x.of ≡ false → IsFollowedByOther of (joined (x ∷ gs) g)
followed-joined of x [] g h =
    elim (same_type x.of g.of) as (λ b. IsFollowedByOther of (cond b ((record { count = x.count + g.count; of = x.of }) ∷ []) (x ∷ g ∷ []))) [ true ↦ h | false ↦ h ]
followed-joined of x (y ∷ gs) g h = h

pub merged-joined : (gs : List LocalGroup) (g : LocalGroup) → 0 < g.count → AreMerged gs → AreMerged (joined gs g)
merged-joined [] g p m = (p, tt, tt)
merged-joined (x ∷ []) g p m = merged-pair x g _ refl p m.0
merged-joined (x ∷ y ∷ gs) g p m = (m.0, followed-joined x.of y gs g m.1, merged-joined (y ∷ gs) g p m.2)

-- the locals with a further group are locals
pub locals-joined : (gs : List LocalGroup) (g : LocalGroup) → 0 < g.count → AreLocals gs → total gs + g.count < 2 ^ 32 → AreLocals (joined gs g)
locals-joined gs g p a few = record { merged = merged-joined gs g p a.merged; few = rw (total-joined gs g) few }

-- the last group r, at i
module _ (gs : List LocalGroup) (g r : LocalGroup) (i : ℕ) (n : suc i ≡ length gs) (e : r ≡ get_or gs i r) where
  pub joined_at : same_type r.of g.of ≡ true → set gs i (record { count = r.count + g.count; of = r.of }) ≡ joined gs g
  joined_at = subst (λ (x : LocalGroup). same_type x.of g.of ≡ true → set gs i (record { count = x.count + g.count; of = x.of }) ≡ joined gs g) (sym e) (λ h. sym (joined-last gs g r i true n h))

  pub joined_behind : same_type r.of g.of ≡ false → joined gs g ≡ gs ++ g ∷ []
  joined_behind = subst (λ (x : LocalGroup). same_type x.of g.of ≡ false → joined gs g ≡ gs ++ g ∷ []) (sym e) (joined-last gs g r i false n)

count_get : (gs : List LocalGroup) (i : ℕ) (r : LocalGroup) → i < length gs → (get_or gs i r).count ≤ total gs
count_get [] i r h = absurd (omega arith)
count_get (x ∷ gs) zero r h = omega arith
count_get (x ∷ gs) (suc i) r h = omega (arith, count_get gs i r (omega arith))

-- a group has no more locals than there are
pub count_at : (gs : List LocalGroup) (i : ℕ) (r : LocalGroup) → i < length gs → r ≡ get_or gs i r → r.count ≤ total gs
count_at gs i r h e = subst (λ (x : LocalGroup). x.count ≤ total gs) (sym e) (count_get gs i r h)

-- writing back what stands there changes nothing
pub set_back : (gs : List LocalGroup) (i : ℕ) (r : LocalGroup) → i < length gs → r ≡ get_or gs i r → set gs i r ≡ gs
set_back [] i r h e = refl
set_back (x ∷ gs) zero r h e = ap (λ y. y ∷ gs) e
set_back (x ∷ gs) (suc i) r h e = ap (λ l. x ∷ l) (set_back gs i r (omega arith) e)
