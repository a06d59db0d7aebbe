-- A door opens under the rule, and what its last state says once a seat has the turn.
use Rattle.std.proofs.Common.{◌≡◌, ℕ, zero, suc, ◌<◌, List, [], ◌∷◌, sym, refl, ap, ◌∙◌, subst, true≢false, arith}
use mathlib.Core.Option.{Option, some, some-injective, some-ne-none}
use lib.ListN.{get_elem?}
use Rattle.std.specs.Prelude.{Contains, unwrap_or}
use Rattle.std.proofs.lemmas.List.Elements.{All-cons}
use Rattle.atomic_table.specs.Table.{State, opening as opening_state, Final, Seen}
use Rattle.door.specs.declared.turn.Turn.{Turn}
use Rattle.door.specs.declared.kept.Kept.{Kept}
use Rattle.door.specs.declared.view.View.{View}
use Rattle.door.specs.declared.view.Stage.TheVariants.{Called}
use Rattle.door.specs.History.{Event, Account}
use Rattle.door.specs.Views.{has_turn, is_serving, first_view}
use Rattle.door.specs.Rule.{Knows, Rule}
use Rattle.door.proofs.Turning.{at_home}
use Rattle.door.proofs.Lists.{All-none, Contains-none}

module _ {O Q A : Type 0} (serves : O → Q → A → O → Type 0) (fits : List (Turn Q A) → Q → Type 0) (opening : O) where
  abbrev St : Type 0
  St = State (Kept O Q A) (View O Q A)

  abbrev Law : St → Type 0
  Law = Rule serves fits opening

  only : (j : ℕ) (u : View O Q A) → get_elem? (first_view opening ∷ []) j ≡ some u → (j ≡ 0) × (first_view opening ≡ u)
  only zero u e = (refl, some-injective (first_view opening) u e)
  only (suc j) u e = absurd (some-ne-none u (sym e))

  pub opens : (k : Kept O Q A) → k.object ≡ opening → Law (opening_state (0 ∷ 0 ∷ 1 ∷ []) (k ∷ []) (first_view opening))
  opens k is = record {
    ticket = 0;
    serving = 0;
    passes = 1;
    holder = λ _. 0;
    owner = λ _. 0;
    history = [];
    words = refl;
    behind = omega arith;
    bounded = omega arith;
    held = λ n low high. absurd (omega arith);
    served = refl;
    legal = tt;
    bears = All-none (λ (e : Event O Q A). e.turn.number < 1);
    home = λ _. (k, refl, is);
    seats = λ j u there. let o = only j u there in subst (λ (z : ℕ × View O Q A). Knows serves fits opening (some k ∷ []) 0 0 1 (λ _. 0) (λ _. 0) [] z.0 z.1) (λ i. (sym o.0 i, o.1 i))
        record {
          ticketed = λ has. absurd (true≢false (sym has));
          called = λ has. absurd (true≢false (sym has));
          unnumbered = λ _. refl;
          opened = λ x e. ap (λ z. unwrap_or z x) (sym e);
          in_stage = tt;
          numbered = let z : ℕ = 0 in All-cons (λ (n : ℕ). (n < 1) × (z ≡ z)) 0 [] (omega arith, refl) (All-none (λ (n : ℕ). (n < 1) × (z ≡ z)));
          listed = record {
            in_order = λ i j d lt below. absurd (omega arith);
            stand = All-none (λ (t : Turn Q A). Contains [] t);
            whole = λ t st c. absurd (Contains-none t st);
          };
        };
  }

  -- the seat that has the turn at the end: the object has served all turns
  pub closes : (id : ℕ) (v : View O Q A) (words : List ℕ) (slots : List (Kept O Q A)) (k : Kept O Q A) → v.stage ≡ Called → Final (Seen Law id v) words slots → get_elem? slots 0 ≡ some k → Account serves fits opening v.numbers v.turns k.object
  closes id v words slots k called final there =
      let s = final.0 in
      let r = final.1.0 in
      let at = final.1.1 in
      let home = at_home serves fits opening s r id v at (ap has_turn called) (ap is_serving called) in
      let same : home.0 ≡ k = some-injective home.0 k (sym (final.4 0 home.0 (ap (λ (l : List (Option (Kept O Q A))). get_elem? l 0) home.1)) ∙ there) in record {
        history = r.history;
        legal = r.legal;
        list = (r.seats id v at).listed;
        leaves = sym home.2 ∙ ap (λ (z : Kept O Q A). z.object) same;
      }
