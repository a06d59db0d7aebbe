-- The locals of a function are written so that they are spelled, in the fewest bytes.
use Rattle.std.proofs.Common.{◌≡◌, ◌⊎◌, inl, inr, ℕ, ◌+◌, ◌<◌, ◌≤◌, ◌^◌, false, cond, List, [], ◌∷◌, ◌++◌, length, refl, sym, ◌∙◌, ap, subst, arith, length-append, append_assoc, ne_eqb}
use Rattle.std.specs.List.{flat_map}
use Rattle.wasm_ast.specs.declared.locals.LocalGroup.{LocalGroup}
use Rattle.wasm_ast.specs.declared.module.Code.{Code}
use Rattle.wasm_ast.specs.Types.{same_type}
use Rattle.wasm_ast.specs.Locals.{total, joined, added, AreMerged}
use Rattle.wasm_ast.proofs.LocalsLemmas.{total-joined, merged-joined}
use Rattle.wasm_ast.specs.Shortest.{shortest_unsigned, canon_vec}
use Rattle.wasm_ast.specs.Canon.{canon_group, canon_func, canon_code}
use Rattle.wasm_ast.specs.SpelledTypes.{valtype_byte}
use Rattle.wasm_ast.specs.Spelling.{SpellsEach, SpellsVec}
use Rattle.wasm_ast.specs.SpelledModule.{SpellsGroup, SpellsLocals, SpellsCode, gathered}
use Rattle.wasm_encode.proofs.ShortestNumbers.{AreBytes, bytes_split, NoLonger, u32_shortest, u32_spelled, u32_sum}
use Rattle.wasm_encode.proofs.ShortestVectors.{IsShortest, u32_is, pair_shortest, sized_shortest, each_shortest}
use Rattle.wasm_encode.proofs.ShortestTypes.{valtype_shortest}
use Rattle.wasm_encode.proofs.ShortestBodies.{expr_shortest}

group_shortest : IsShortest SpellsGroup canon_group
group_shortest = pair_shortest (λ (g : LocalGroup). g.count) (λ (g : LocalGroup). g.of) u32_is valtype_shortest

abbrev written : List LocalGroup → List ℕ
written gs = flat_map canon_group gs

-- ---- the locals stay as they are when they are gathered again

behind_joined : (gs : List LocalGroup) (h g : LocalGroup) → same_type h.of g.of ≡ false → joined (gs ++ h ∷ []) g ≡ gs ++ h ∷ g ∷ []
behind_joined [] h g e = ap (λ b. cond b ((record { count = h.count + g.count; of = h.of }) ∷ []) (h ∷ g ∷ [])) e
behind_joined (x ∷ []) h g e = ap (λ l. x ∷ l) (behind_joined [] h g e)
behind_joined (x ∷ y ∷ gs) h g e = ap (λ l. x ∷ l) (behind_joined (y ∷ gs) h g e)

added_some : (gs : List LocalGroup) (g : LocalGroup) → 0 < g.count → added gs g ≡ joined gs g
added_some gs g p = ap (λ b. cond b gs (joined gs g)) (ne_eqb g.count 0 (λ e. omega (arith, e)))

gathered_behind : (more gs : List LocalGroup) (h : LocalGroup) → AreMerged (h ∷ more) → gathered (gs ++ h ∷ []) more ≡ gs ++ h ∷ more
gathered_behind [] gs h m = refl
gathered_behind (g ∷ more) gs h m =
    ap (λ l. gathered l more) (added_some (gs ++ h ∷ []) g m.2.0 ∙ behind_joined gs h g m.1 ∙ sym (append_assoc gs (h ∷ []) (g ∷ [])))
    ∙ gathered_behind more (gs ++ h ∷ []) g m.2
    ∙ append_assoc gs (h ∷ []) (g ∷ more)

gathered_merged : (gs : List LocalGroup) → AreMerged gs → gathered [] gs ≡ gs
gathered_merged [] m = refl
gathered_merged (g ∷ gs) m = ap (λ l. gathered l gs) (added_some [] g m.0) ∙ gathered_behind gs [] g m

-- ---- what one more group does

empty_or : (g : LocalGroup) (gs : List LocalGroup) → ((g.count ≡ 0) × (added gs g ≡ gs)) ⊎ ((0 < g.count) × (added gs g ≡ joined gs g))
empty_or g gs = grind arith

merged_all : (more gs : List LocalGroup) → AreMerged gs → AreMerged (gathered gs more)
merged_all [] gs m = m
merged_all (g ∷ more) gs m =
    merged_all more (added gs g) (elim (empty_or g gs) [ inl w ↦ subst AreMerged (sym w.1) m | inr w ↦ subst AreMerged (sym w.1) (merged-joined gs g w.0 m) ])

length_joined : (gs : List LocalGroup) (g : LocalGroup) → length (joined gs g) ≤ length gs + 1
length_joined [] g = omega arith
length_joined (x ∷ []) g = grind arith
length_joined (x ∷ y ∷ gs) g = omega (arith, length_joined (y ∷ gs) g)

-- one group for two
group_sum : (x g : LocalGroup) → length (canon_group (record { count = x.count + g.count; of = x.of })) ≤ length (canon_group x) + length (canon_group g)
group_sum x g =
    omega (arith, u32_sum x.count g.count, length-append (shortest_unsigned (x.count + g.count)) (valtype_byte x.of ∷ []), length-append (shortest_unsigned x.count) (valtype_byte x.of ∷ []), length-append (shortest_unsigned g.count) (valtype_byte g.of ∷ []))

written_joined : (gs : List LocalGroup) (g : LocalGroup) → length (written (joined gs g)) ≤ length (written gs) + length (canon_group g)
written_joined [] g = omega (arith, length-append (canon_group g) [])
written_joined (x ∷ []) g =
    let both : LocalGroup = record { count = x.count + g.count; of = x.of } in
    grind (arith, group_sum x g, length-append (canon_group both) [], length-append (canon_group x) [], length-append (canon_group x) (canon_group g ++ []), length-append (canon_group g) [])
written_joined (x ∷ y ∷ gs) g =
    omega (arith, written_joined (y ∷ gs) g, length-append (canon_group x) (written (joined (y ∷ gs) g)), length-append (canon_group x) (written (y ∷ gs)))

-- gathering doesn't make larger what joining doesn't
no_larger : (f : List LocalGroup → ℕ) → ((g : LocalGroup) (more : List LocalGroup) → f more ≤ f (g ∷ more)) →
    ((gs : List LocalGroup) (g : LocalGroup) (more : List LocalGroup) → f (joined gs g) + f more ≤ f gs + f (g ∷ more)) → (more gs : List LocalGroup) → f (gathered gs more) ≤ f gs + f more
no_larger f none one [] gs = omega arith
no_larger f none one (g ∷ more) gs =
    let r = no_larger f none one more (added gs g) in
    elim (empty_or g gs) [ inl w ↦ omega (arith, r, none g more, ap f w.1) | inr w ↦ omega (arith, r, one gs g more, ap f w.1) ]

-- ---- the locals

each_spelled : (gs : List LocalGroup) → total gs < 2 ^ 32 → SpellsEach SpellsGroup (written gs) gs
each_spelled [] few = refl
each_spelled (g ∷ gs) few = record {
  front = canon_group g;
  back = written gs;
  parts = refl;
  first = record { front = shortest_unsigned g.count; back = valtype_byte g.of ∷ []; parts = refl; first = u32_spelled g.count (omega (arith, few)); second = refl };
  second = each_spelled gs (omega (arith, few));
}

-- the groups of the bytes
module _ (bytes : List ℕ) (groups : List LocalGroup) (a : AreBytes bytes) (j : SpellsVec SpellsGroup bytes groups) (few : total groups < 2 ^ 32) where
  gathered_shortest : NoLonger (λ a. SpellsLocals a (gathered [] groups)) bytes (canon_vec canon_group (gathered [] groups))
  gathered_shortest =
      let locals : List LocalGroup = gathered [] groups in
      let b = bytes_split j.front j.back (subst AreBytes j.parts a) in
      let few_groups = no_larger length (λ g more. omega arith) (λ gs g more. omega (arith, length_joined gs g)) groups [] in
      let few_locals = no_larger total (λ g more. omega arith) (λ gs g more. omega (arith, total-joined gs g)) groups [] in
      let few_bytes =
      no_larger (λ gs. length (written gs)) (λ g more. omega (arith, length-append (canon_group g) (written more)))
      (λ gs g more. omega (arith, written_joined gs g, length-append (canon_group g) (written more))) groups [] in
      let n = u32_shortest j.front (length groups) (length locals) b.0 j.first (omega (arith, few_groups)) in
      let gs = each_shortest group_shortest j.back groups b.1 j.second in
      let total_same : total locals < 2 ^ 32 = omega (arith, few, few_locals) in
      record {
        spells = (
          locals,
          record { front = shortest_unsigned (length locals); back = written locals; parts = refl; first = n.spells; second = each_spelled locals total_same },
          total_same,
          sym (gathered_merged locals (merged_all groups [] tt)),
        );
        shorter = omega (arith, n.shorter, gs.shorter, few_bytes, ap length j.parts, length-append j.front j.back, length-append (shortest_unsigned (length locals)) (written locals));
      }

locals_shortest : IsShortest SpellsLocals (canon_vec canon_group)
locals_shortest bytes locals a s =
    subst (λ z. NoLonger (λ a. SpellsLocals a z) bytes (canon_vec canon_group z)) (sym s.3) (gathered_shortest bytes s.0 a s.1 s.2)

pub code_shortest : IsShortest SpellsCode canon_code
code_shortest bytes c a s = sized_shortest bytes (canon_func c) a s (λ x b j. pair_shortest (λ (c : Code). c.locals) (λ (c : Code). c.body) locals_shortest expr_shortest x c b j)
