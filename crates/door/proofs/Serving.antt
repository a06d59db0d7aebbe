-- Serving the next ticket keeps the rule.
use Rattle.std.proofs.Common.{◌≡◌, ◌≢◌, ℕ, ◌+◌, ◌%◌, ◌^◌, ◌<◌, ◌≤◌, true, false, List, [], ◌∷◌, ◌++◌, length, get_or, set, sym, refl, ap, ◌∙◌, subst, true≢false, mod-eq_of_lt, arith}
use mathlib.Core.Option.{Option, none}
use Rattle.std.specs.Prelude.{All, Contains}
use Rattle.std.proofs.lemmas.List.Elements.{All-head, All-cons, All-weaker, All-contains}
use Rattle.atomic_table.specs.Table.{State, step, keeps, Allows}
use Rattle.door.specs.declared.turn.Turn.{Turn}
use Rattle.door.specs.declared.kept.Kept.{Kept}
use Rattle.door.specs.declared.view.View.{View}
use Rattle.door.specs.declared.view.Stage.{Stage}
use Rattle.door.specs.declared.view.Stage.TheVariants.{Idle, Waits, Called, Out, Back, Joins}
use Rattle.door.specs.History.{Event, History, Stands, AreTurnsOf, Follows, HasServed}
use Rattle.door.specs.Views.{has_turn, at_rest}
use Rattle.door.specs.Rule.{Owns, InStage, Knows, Rule}
use Rattle.door.specs.Steps.{Seated, IsBack, Serves}
use Rattle.door.proofs.Seats.{each, turn_ticket, held_by}
use Rattle.door.proofs.Turning.{alone}
use Rattle.door.proofs.Lists.{Contains-here, Contains-one, stands_below, fewer, grows, adds}

-- a number of this seat is no other's
apart : (passes : ℕ) (owner : ℕ → ℕ) (id j n : ℕ) (ns : List ℕ) → j ≢ id → owner n ≡ id → Owns passes owner j ns → Contains ns n → ⊥
apart passes owner id j n ns ne mine theirs c = ne (sym (All-contains (λ (m : ℕ). (m < passes) × (owner m ≡ j)) ns n theirs c).1 ∙ mine)

module _ {O Q A : Type 0} (serves : O → Q → A → O → Type 0) (fits : List (Turn Q A) → Q → Type 0) (opening : O) where
  abbrev St : Type 0
  St = State (Kept O Q A) (View O Q A)

  abbrev Law : St → Type 0
  Law = Rule serves fits opening

  -- a seat without the turn stays in its stage as another's turn is added to the history
  beside : (homes : List (Option (Kept O Q A))) (passes : ℕ) (owner : ℕ → ℕ) (id j : ℕ) (mine : List ℕ) (es : History O Q A) (e : Event O Q A) (st : Stage O Q A) → j ≢ id → owner e.turn.number ≡ id → has_turn st ≡ false
      → InStage serves fits opening homes passes owner j mine es st → InStage serves fits opening homes passes owner j mine (e ∷ es) st
  beside homes passes owner id j mine es e Idle ne own calm k = k
  beside homes passes owner id j mine es e Waits ne own calm k = k
  beside homes passes owner id j mine es e Called ne own calm k = k
  beside homes passes owner id j mine es e (Out x) ne own calm k = absurd (true≢false calm)
  beside homes passes owner id j mine es e (Back x q a) ne own calm k = absurd (true≢false calm)
  beside homes passes owner id j mine es e (Joins ns ts) ne own calm k = (k.0, grows es e ns ts (apart passes owner id j e.turn.number ns ne own k.0) k.1, k.2)

  pub serves_next : (slots id : ℕ) (me : Seated O Q A) (x : O) (q : Q) (a : A) (n : ℕ) (ns : List ℕ) → me.0.stage ≡ Back x q a → me.0.numbers ≡ n ∷ ns → fits me.0.turns q
      → Allows Law slots id me 1 (λ y. (y + 1) % 2 ^ 64) (Serves serves fits (step slots 1 1 0 none) me)
  serves_next slots id me x q a n ns back number fit s r _ at _ =
      let v : View O Q A = me.0 in
      let k = r.seats id v at in
      let turn : has_turn v.stage ≡ true = ap has_turn back in
      let ticket = k.ticketed (turn_ticket v.stage turn) in
      let place = subst (InStage serves fits opening s.homes r.passes r.owner id v.numbers r.history) back k.in_stage in
      let t : ℕ = r.ticket in
      let sv : ℕ = r.serving in
      let m : ℕ = v.ticket in
      let y : ℕ = get_or s.words 1 0 in
      let now : y ≡ sv = ap (λ (l : List ℕ). get_or l 1 0) r.words in
      let called : m ≡ sv = k.called turn in
      let drawn : m < t = ticket.drawn in
      let bounded : t < 2 ^ 64 = r.bounded in
      let next : (y + 1) % 2 ^ 64 ≡ sv + 1 = mod-eq_of_lt (omega arith) ∙ ap (λ (z : ℕ). z + 1) now in
      let here : Turn Q A = record { place = m; number = n; ask = q; answer = a } in
      let e : Event O Q A = record { turn = here; before = v.turns; after = x } in
      let es : History O Q A = r.history in
      let long : length es ≡ sv = r.served in
      let ts : List (Turn Q A) = v.turns ++ here ∷ [] in
      let w : View O Q A = at_rest v.opening v.numbers ts in
      let owned = All-head (λ (z : ℕ). (z < r.passes) × (r.owner z ≡ id)) n ns (subst (Owns r.passes r.owner id) number k.numbered) in
      let later : All (λ (z : Turn Q A). z.place < m) v.turns = All-weaker (Stands es) (λ (z : Turn Q A). z.place < m)
      (λ z st. let low = stands_below serves fits opening es z r.legal st in omega arith) v.turns k.listed.stand in
      let listed : AreTurnsOf (e ∷ es) v.numbers ts = adds es e v.numbers v.turns later k.listed in
      let follows : Follows serves fits opening es e = record {
        place = called ∙ sym long;
        served = place.1;
        fitting = fit;
        list = fewer es v.numbers (n ∷ []) v.turns (λ z c. subst (λ (l : List ℕ). Contains l z) (sym number) (subst (Contains (n ∷ ns)) (Contains-one n z c) (Contains-here n ns))) k.listed;
      } in (
        w,
        keeps,
        tt,
        record {
          ticket = t;
          serving = sv + 1;
          passes = r.passes;
          holder = r.holder;
          owner = r.owner;
          history = e ∷ es;
          words = ap (λ (l : List ℕ). set l 1 ((y + 1) % 2 ^ 64)) r.words ∙ ap (λ (z : ℕ). t ∷ z ∷ r.passes ∷ []) next;
          behind = omega arith;
          bounded = r.bounded;
          held = λ i low high. held_by s.views id v w (r.holder i) i at (r.held i (omega arith) high) (λ same _. absurd (omega arith));
          served = omega arith;
          legal = (follows, r.legal);
          bears = All-cons (λ (z : Event O Q A). z.turn.number < r.passes) e es owned.0 r.bears;
          home = λ _. place.0;
          seats = each (Knows serves fits opening s.homes t (sv + 1) r.passes r.holder r.owner (e ∷ es)) s.views id w
              record {
                ticketed = λ has. absurd (true≢false (sym has));
                called = λ has. absurd (true≢false (sym has));
                unnumbered = λ _. refl;
                opened = k.opened;
                in_stage = tt;
                numbered = k.numbered;
                listed = listed;
              }
              (λ j u ne there. let o = r.seats j u there in
              let calm : has_turn u.stage ≡ false = alone serves fits opening s r id v at turn j u ne there in record {
                ticketed = λ has. let h = o.ticketed has in let i : ℕ = u.ticket in let waits : sv ≤ i = h.waits in
                    let other : i ≢ sv = λ same. ne (sym h.holds ∙ ap r.holder (same ∙ sym called) ∙ ticket.holds) in
                    record { waits = omega arith; drawn = h.drawn; holds = h.holds };
                called = λ has. absurd (true≢false (sym has ∙ calm));
                unnumbered = o.unnumbered;
                opened = o.opened;
                in_stage = beside s.homes r.passes r.owner id j u.numbers es e u.stage ne owned.1 calm o.in_stage;
                numbered = o.numbered;
                listed = grows es e u.numbers u.turns (apart r.passes r.owner id j n u.numbers ne owned.1 o.numbered) o.listed;
              });
        },
        (
          q,
          a,
          subst (λ (st : Stage O Q A). IsBack st q a) (sym back) (refl, refl),
          refl,
          refl,
          (λ o opened. let first : o ≡ opening = k.opened o opened in subst (λ (z : O). HasServed serves fits z v.numbers v.turns q a ts) (sym first)
              record { event = e; earlier = es; legal = (follows, r.legal); asked = refl; answered = refl; bears = (ns, number); before = refl; added = refl; list = listed }),
        ),
      )
