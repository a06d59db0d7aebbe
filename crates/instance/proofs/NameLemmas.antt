-- A map whose keys are names, by their bytes.
use Rattle.std.proofs.Common.{◌≡◌, ℕ, ◌+◌, ◌-◌, ◌<◌, ◌≤◌, Bool, true, false, cond, List, ◌∷◌, length, drop, get_or, Option, Some, option_map, find, refl, sym, ap, subst, ◌∙◌, ⊎_elim, arith}
use Rattle.std.specs.BTreeMap as tree
use Rattle.std.specs.BTreeMap.{BTreeMap}
use Rattle.std.specs.Cmp.{eq_by_cmp_equiv}
use Rattle.std.specs.Cmp.Lexicographic.{slice_cmp, bytes_decides, nat_list_cmp_total, nat_list_eq_equiv}
use Rattle.std.specs.Global.{Vec}
use Rattle.std.specs.Map.{KeepsOthers, IsKeyTest, AreApart, lookup}
use Rattle.std.specs.Ordering.{is_eq, nat_cmp}
use Rattle.std.specs.Str.{bytes_eq}
use Rattle.std.proofs.lemmas.Bool.{cases_Bool, cond-true, cond-false}
use Rattle.std.proofs.lemmas.List.{drop_more}
use Rattle.std.proofs.lemmas.Map.Text.{is_eq-slice_cmp}
use Rattle.wasm_ast.specs.declared.module.Export.{Export}
use Rattle.wasm_ast.specs.declared.module.ExportKind.{ExportKind}
use Rattle.instance.specs.Kept.{export_named}

apart : (bs cs ks : List ℕ) → bytes_eq bs cs ≡ false → is_eq (slice_cmp nat_cmp bs ks) ≡ true → is_eq (slice_cmp nat_cmp cs ks) ≡ false
apart bs cs ks n y = is_eq-slice_cmp cs ks ∙ nat_list_eq_equiv.symm cs ks ∙ sym (nat_list_eq_equiv.congr bs ks cs (sym (is_eq-slice_cmp bs ks) ∙ y)) ∙ n

module _ {K : Type 0} (eq : K → K → Bool) (test : K → Bool) where
  other_entries : {X : Type 0} (old new : List (K × X)) → KeepsOthers eq test old new → (other : K → Bool) → IsKeyTest eq other → AreApart test other → lookup other new ≡ lookup other old
  unfolding KeepsOthers
  other_entries old new h = h

-- what each name has behind a change at one
pub name_updated : (bs : List ℕ) {X : Type 0} (m n : BTreeMap (Vec ℕ) X) (w : Option X) → tree.UpdatesBy (λ x y. slice_cmp nat_cmp x.items y.items) (λ k. slice_cmp nat_cmp bs k.items) m n w
    → (cs : List ℕ) → tree.get_by (λ k. slice_cmp nat_cmp cs k.items) n ≡ cond (bytes_eq bs cs) w (tree.get_by (λ k. slice_cmp nat_cmp cs k.items) m)
name_updated bs {X} m n w h cs =
    let at : List ℕ → BTreeMap (Vec ℕ) X → Option X = λ ds map. tree.get_by (λ k. slice_cmp nat_cmp ds k.items) map in
    ⊎_elim
    (λ y. subst (λ (l : List ℕ). at l n ≡ w) ((bytes_decides bs cs).0 y) h.1 ∙ sym (cond-true (bytes_eq bs cs) w (at cs m) y))
    (λ o. other_entries _ _ _ _ h.3 _ (λ x y. (eq_by_cmp_equiv nat_list_cmp_total).congr cs x.items y.items) (λ k. apart bs cs k.items o) ∙ sym (cond-false (bytes_eq bs cs) w (at cs m) o))
    (cases_Bool (bytes_eq bs cs))

drop_down : (es : List Export) (n : ℕ) (e : Export) → 0 < n → n ≤ length es → e ≡ get_or es (n - 1) e → drop (n - 1) es ≡ e ∷ drop n es
drop_down es n e p h q =
    let next : n - 1 + 1 ≡ n = omega arith in
    drop_more es (n - 1) e (omega arith) ∙ ap (λ x. x ∷ drop (n - 1 + 1) es) (sym q) ∙ ap (λ k. e ∷ drop k es) next

kind_of : (b : Bool) (e : Export) (o : Option Export) → cond b (Some e.kind) (option_map (λ (d : Export). d.kind) o) ≡ option_map (λ (d : Export). d.kind) (cond b (Some e) o)
kind_of true e o = refl
kind_of false e o = refl

-- one export more, in front of those behind it
pub named_more : (es : List Export) (n : ℕ) (e : Export) (bs q : List ℕ) (before after : Option ExportKind) → 0 < n → n ≤ length es → e ≡ get_or es (n - 1) e → bs ≡ e.name
    → after ≡ cond (bytes_eq bs q) (Some e.kind) before → before ≡ export_named (drop n es) q → after ≡ export_named (drop (n - 1) es) q
named_more es n e bs q before after p h at name put seen =
    put ∙ ap (cond (bytes_eq bs q) (Some e.kind)) seen
    ∙ ap (λ (x : List ℕ). cond (bytes_eq x q) (Some e.kind) (export_named (drop n es) q)) name
    ∙ kind_of (bytes_eq e.name q) e (find (λ (d : Export). bytes_eq d.name q) (drop n es))
    ∙ ap (λ (ds : List Export). export_named ds q) (sym (drop_down es n e p h at))
