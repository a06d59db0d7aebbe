-- What a map with each value changed has at a key.
use Rattle.std.proofs.Common.{◌≡◌, List, [], ◌∷◌, Option, Some, cond, refl, sym, ap, ◌∙◌}
use Rattle.std.specs.Prelude.{map, option_map}
use Rattle.std.specs.declared.cmp.Ordering.{Ordering}
use Rattle.std.specs.declared.cmp.Ordering.TheVariants.{Less, Equal, Greater}
use Rattle.std.specs.Ordering.{is_eq, eq_by_cmp}
use Rattle.std.specs.Cmp.{IsTotalOrder}
use Rattle.std.specs.FinMap.{FinMap, get, entries, find, get-entries, get-from_entries, IsAntisymmetric}
use Rattle.finite_maps.specs.Maps.{mapped}

module _ {K X Y : Type 0} {R : K → K → Ordering} (total : IsTotalOrder R) (exact : IsAntisymmetric R) (change : K → X → Y) where
  at_key : (q k : K) (x : X) (rest : Option X) (r : Ordering) → R q k ≡ r → cond (is_eq r) (Some (change k x)) (option_map (change q) rest) ≡ option_map (change q) (cond (is_eq r) (Some x) rest)
  at_key q k x rest Less e = refl
  at_key q k x rest Equal e = ap (λ (y : K). Some (change y x)) (sym (exact q k e))
  at_key q k x rest Greater e = refl

  find_mapped : (q : K) (es : List (K × X)) → find R q (map (λ e. (e.0, change e.0 e.1)) es) ≡ option_map (change q) (find R q es)
  find_mapped q [] = refl
  find_mapped q (e ∷ es) =
      ap (cond (eq_by_cmp R q e.0) (Some (change e.0 e.1))) (find_mapped q es) ∙ at_key q e.0 e.1 (find R q es) (R q e.0) refl

  pub get-mapped : (m : FinMap R X) (q : K) → get (mapped change m) q ≡ option_map (change q) (get m q)
  get-mapped m q =
      get-from_entries total (map (λ e. (e.0, change e.0 e.1)) (entries m)) q ∙ find_mapped q (entries m) ∙ ap (option_map (change q)) (sym (get-entries m q))
