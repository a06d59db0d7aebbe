-- Splitting a pass, numbering it, and joining two keep the rule.
use Rattle.std.proofs.Common.{◌≡◌, ◌≢◌, ℕ, ◌+◌, ◌<◌, eqb, Bool, cond, List, [], ◌∷◌, ◌++◌, get_or, set, sym, refl, ap, ◌∙◌, subst, ⊎_elim, true≢false, eq-eqb, ne_eqb, arith}
use mathlib.Core.Option.{Option, none, some}
use lib.ListN.{get_elem?}
use prog.Atomic.{either}
use Rattle.std.specs.Prelude.{Contains, Some, is_none}
use Rattle.std.proofs.lemmas.List.Elements.{All-cons, All-append, All-weaker, All-contains}
use Rattle.atomic_table.specs.Table.{State, step, keeps, Allows, Splits, Joins as JoinsSeats}
use Rattle.atomic_table.proofs.Lists.{set_here, set_else, set_again, at_longer, at_snoc, exchanged}
use Rattle.door.specs.declared.turn.Turn.{Turn}
use Rattle.door.specs.declared.kept.Kept.{Kept}
use Rattle.door.specs.declared.view.View.{View}
use Rattle.door.specs.declared.view.Stage.{Stage}
use Rattle.door.specs.declared.view.Stage.TheVariants.{Idle, Waits, Called, Out, Back, Joins}
use Rattle.door.specs.History.{Event, History, AreTurnsOf, AreApart, HasBoth}
use Rattle.door.specs.Turns.{merged}
use Rattle.door.specs.Views.{has_ticket, has_turn, is_serving, at_rest, split_view, spent_view, joining}
use Rattle.door.specs.Rule.{Owns, InStage, Knows, Rule}
use Rattle.door.specs.Steps.{Seated, Numbers, Merges}
use Rattle.door.proofs.Seats.{put, put_here, put_else, within, each, quiet, held_by}
use Rattle.door.proofs.Turning.{Goes, stays}
use Rattle.door.proofs.Lists.{All-none, Contains-none, Contains-one, bears_below, fewer, no_turns}
use Rattle.door.proofs.Merging.{merged_both, merged_turns}

-- what a stage takes over
module _ {O Q A : Type 0} where
  abbrev joined_numbers : List ℕ → Stage O Q A → List ℕ
  joined_numbers d Idle = d
  joined_numbers d Waits = d
  joined_numbers d Called = d
  joined_numbers d (Out x) = d
  joined_numbers d (Back x q a) = d
  joined_numbers d (Joins ns ts) = ns

  abbrev joined_turns : List (Turn Q A) → Stage O Q A → List (Turn Q A)
  joined_turns d Idle = d
  joined_turns d Waits = d
  joined_turns d Called = d
  joined_turns d (Out x) = d
  joined_turns d (Back x q a) = d
  joined_turns d (Joins ns ts) = ts

module _ {O Q A : Type 0} (serves : O → Q → A → O → Type 0) (fits : List (Turn Q A) → Q → Type 0) (opening : O) where
  abbrev St : Type 0
  St = State (Kept O Q A) (View O Q A)

  abbrev Law : St → Type 0
  Law = Rule serves fits opening

  -- a new seat begins with the turns of another, and without a number
  enters : (s : St) (w : View O Q A) (r : Law s) → w.stage ≡ Idle → w.numbers ≡ [] → ((x : O) → w.opening ≡ Some x → x ≡ opening) → AreTurnsOf r.history [] w.turns
      → Law record { words = s.words; homes = s.homes; views = s.views ++ w ∷ [] }
  enters s w r idle unnumbered opened listed = record {
    ticket = r.ticket;
    serving = r.serving;
    passes = r.passes;
    holder = r.holder;
    owner = r.owner;
    history = r.history;
    words = r.words;
    behind = r.behind;
    bounded = r.bounded;
    held = λ n low high. let h = r.held n low high in (h.0, at_longer s.views (w ∷ []) (r.holder n) h.0 h.1, h.2, h.3);
    served = r.served;
    legal = r.legal;
    bears = r.bears;
    home = λ none'. r.home (λ j u there. none' j u (at_longer s.views (w ∷ []) j u there));
    seats = λ j u there. ⊎_elim (λ old. r.seats j u old)
        (λ new. subst (Knows serves fits opening s.homes r.ticket r.serving r.passes r.holder r.owner r.history j) new
        record {
          ticketed = λ has. absurd (true≢false (sym has ∙ ap has_ticket idle));
          called = λ has. absurd (true≢false (sym has ∙ ap has_turn idle));
          unnumbered = λ _. ap has_ticket idle;
          opened = opened;
          in_stage = subst (InStage serves fits opening s.homes r.passes r.owner j w.numbers r.history) (sym idle) tt;
          numbered = subst (Owns r.passes r.owner j) (sym unnumbered) (All-none (λ (n : ℕ). (n < r.passes) × (r.owner n ≡ j)));
          listed = subst (λ (ns : List ℕ). AreTurnsOf r.history ns w.turns) (sym unnumbered) listed;
        })
        (at_snoc s.views w u j there);
  }

  pub splits : (id : ℕ) (v : View O Q A) → Splits Law id v v (split_view v)
  splits id v s r at =
      let k = r.seats id v at in
      let same : set s.views id v ≡ s.views = set_again s.views id v at in
      subst (λ (views : List (View O Q A)). Law record { words = s.words; homes = s.homes; views = views ++ split_view v ∷ [] }) (sym same)
      (enters s (split_view v) r refl refl k.opened (fewer r.history v.numbers [] v.turns (λ n c. absurd (Contains-none n c)) k.listed))

  -- a stage stays where the owners of numbers change, as far as this seat's numbers stay its own
  owned_stage : (homes : List (Option (Kept O Q A))) (passes passes' : ℕ) (owner owner' : ℕ → ℕ) (id : ℕ) (mine : List ℕ) (es : History O Q A) (st : Stage O Q A)
      → ((n : ℕ) → (n < passes) × (owner n ≡ id) → (n < passes') × (owner' n ≡ id)) → InStage serves fits opening homes passes owner id mine es st → InStage serves fits opening homes passes' owner' id mine es st
  owned_stage homes passes passes' owner owner' id mine es Idle keep k = k
  owned_stage homes passes passes' owner owner' id mine es Waits keep k = k
  owned_stage homes passes passes' owner owner' id mine es Called keep k = k
  owned_stage homes passes passes' owner owner' id mine es (Out x) keep k = k
  owned_stage homes passes passes' owner owner' id mine es (Back x q a) keep k = k
  owned_stage homes passes passes' owner owner' id mine es (Joins ns ts) keep k =
      (All-weaker (λ (n : ℕ). (n < passes) × (owner n ≡ id)) (λ (n : ℕ). (n < passes') × (owner' n ≡ id)) keep ns k.0, k.1, k.2)

  -- the same of all that a seat knows
  owned : (homes : List (Option (Kept O Q A))) (ticket serving passes passes' : ℕ) (holder owner owner' : ℕ → ℕ) (es : History O Q A) (id : ℕ) (u : View O Q A)
      → ((n : ℕ) → (n < passes) × (owner n ≡ id) → (n < passes') × (owner' n ≡ id))
      → Knows serves fits opening homes ticket serving passes holder owner es id u → Knows serves fits opening homes ticket serving passes' holder owner' es id u
  owned homes ticket serving passes passes' holder owner owner' es id u keep k = record {
    ticketed = k.ticketed;
    called = k.called;
    unnumbered = k.unnumbered;
    opened = k.opened;
    in_stage = owned_stage homes passes passes' owner owner' id u.numbers es u.stage keep k.in_stage;
    numbered = All-weaker (λ (n : ℕ). (n < passes) × (owner n ≡ id)) (λ (n : ℕ). (n < passes') × (owner' n ≡ id)) keep u.numbers k.numbered;
    listed = k.listed;
  }

  pub numbers : (slots id : ℕ) (me : Seated O Q A) (old new : ℕ) → new ≡ old + 1 → me.0.stage ≡ Idle → me.0.numbers ≡ []
      → Allows Law slots id me 2 (λ n. either (eqb n old) new n) (Numbers (step slots 2 old new none) me)
  numbers slots id me old new is idle unnumbered s r _ at _ =
      let v : View O Q A = me.0 in
      let y : ℕ = get_or s.words 2 0 in
      let p : ℕ = r.passes in
      let count : y ≡ p = ap (λ (l : List ℕ). get_or l 2 0) r.words in
      let then = Numbers (step slots 2 old new none) me in
      exchanged y old new (Goes serves fits opening s 2 id me then)
      (λ hit. let w : View O Q A = at_rest v.opening (y ∷ []) v.turns in
      let k = r.seats id v at in
      let owner' = put r.owner y id in
      let more : new ≡ p + 1 = omega arith in
      let keep : (j n : ℕ) → (n < p) × (r.owner n ≡ j) → (n < new) × (owner' n ≡ j) = λ j n h. let low : n < p = h.0 in (omega arith, put_else r.owner y id n (λ e. absurd (omega arith)) ∙ h.1) in (
        w,
        keeps,
        tt,
        record {
          ticket = r.ticket;
          serving = r.serving;
          passes = new;
          holder = r.holder;
          owner = owner';
          history = r.history;
          words = ap (λ (l : List ℕ). set l 2 new) r.words;
          behind = r.behind;
          bounded = r.bounded;
          held = λ n low high. held_by s.views id v w (r.holder n) n at (r.held n low high) (λ _ has. absurd (true≢false (sym has ∙ ap has_ticket idle)));
          served = r.served;
          legal = r.legal;
          bears = All-weaker (λ (e : Event O Q A). e.turn.number < p) (λ (e : Event O Q A). e.turn.number < new) (λ e low. omega arith) r.history r.bears;
          home = λ none'. r.home (quiet s.views id v w at (ap is_serving idle) none');
          seats = each (Knows serves fits opening s.homes r.ticket r.serving new r.holder owner' r.history) s.views id w
              record {
                ticketed = λ has. absurd (true≢false (sym has));
                called = λ has. absurd (true≢false (sym has));
                unnumbered = λ _. refl;
                opened = k.opened;
                in_stage = tt;
                numbered = All-cons (λ (n : ℕ). (n < new) × (owner' n ≡ id)) y [] (omega arith, put_here r.owner y id y refl) (All-none (λ (n : ℕ). (n < new) × (owner' n ≡ id)));
                listed = record {
                  in_order = k.listed.in_order;
                  stand = k.listed.stand;
                  whole = λ t st c. let same : y ≡ t.number = Contains-one y t.number c in let low = bears_below p r.history t r.bears st in absurd (omega arith);
                };
              }
              (λ j u ne there. owned s.homes r.ticket r.serving p new r.holder r.owner owner' r.history j u (keep j) (r.seats j u there));
        },
        ((λ _. refl), (λ miss. absurd (miss hit))),
      ))
      (λ miss. stays serves fits opening s 2 id me then r (omega arith) at ((λ hit. absurd (miss hit)), (λ _. refl)))

  -- who owned numbers before `from` was joined to `into`
  abbrev handed : (ℕ → ℕ) → ℕ → ℕ → ℕ → ℕ
  handed owner from into n = cond (eqb (owner n) from) into (owner n)

  handed_over : (owner : ℕ → ℕ) (from into n : ℕ) → owner n ≡ from → handed owner from into n ≡ into
  handed_over owner from into n e = ap (λ (b : Bool). cond b into (owner n)) (eq-eqb (owner n) from e)

  handed_else : (owner : ℕ → ℕ) (from into n : ℕ) → owner n ≢ from → handed owner from into n ≡ owner n
  handed_else owner from into n ne = ap (λ (b : Bool). cond b into (owner n)) (ne_eqb (owner n) from ne)

  pub joins : (id other : ℕ) (v w : View O Q A) → v.stage ≡ Idle → w.stage ≡ Idle → JoinsSeats Law id v other w (joining v w) spent_view
  joins id other v w idle idle' s r at apart there =
      let both : View O Q A = joining v w in
      let first = set s.views id both in
      let k = r.seats id v at in
      let theirs : get_elem? s.views other ≡ some w = sym (set_else s.views id other both apart) ∙ there in
      let l = r.seats other w theirs in
      let p : ℕ = r.passes in
      let owner' = handed r.owner other id in
      let keep : (j : ℕ) → j ≢ other → (n : ℕ) → (n < p) × (r.owner n ≡ j) → (n < p) × (owner' n ≡ j) = λ j ne n h. (h.0, handed_else r.owner other id n (λ e. ne (sym h.1 ∙ e)) ∙ h.1) in
      let here : get_elem? first id ≡ some both = set_here s.views id both (within s.views id v at) in
      let P = Knows serves fits opening s.homes r.ticket r.serving p r.holder owner' r.history in
      record {
        ticket = r.ticket;
        serving = r.serving;
        passes = p;
        holder = r.holder;
        owner = owner';
        history = r.history;
        words = r.words;
        behind = r.behind;
        bounded = r.bounded;
        held = λ n low high. held_by first other w spent_view (r.holder n) n there
            (held_by s.views id v both (r.holder n) n at (r.held n low high) (λ _ has. absurd (true≢false (sym has ∙ ap has_ticket idle))))
            (λ _ has. absurd (true≢false (sym has ∙ ap has_ticket idle')));
        served = r.served;
        legal = r.legal;
        bears = r.bears;
        home = λ none'. r.home (quiet s.views id v both at (ap is_serving idle) (quiet first other w spent_view there (ap is_serving idle') none'));
        seats = each P first other spent_view
            record {
              ticketed = λ has. absurd (true≢false (sym has));
              called = λ has. absurd (true≢false (sym has));
              unnumbered = λ _. refl;
              opened = λ x e. absurd (true≢false (ap is_none e));
              in_stage = tt;
              numbered = All-none (λ (n : ℕ). (n < p) × (owner' n ≡ other));
              listed = no_turns r.history;
            }
            (λ i z i-ne i-at. each (λ j u. j ≢ other → P j u) s.views id both
            (λ ne. record {
              ticketed = λ has. absurd (true≢false (sym has));
              called = λ has. absurd (true≢false (sym has));
              unnumbered = λ _. refl;
              opened = k.opened;
              in_stage = (
                All-weaker (λ (n : ℕ). (n < p) × (r.owner n ≡ other)) (λ (n : ℕ). (n < p) × (owner' n ≡ id)) (λ n h. (h.0, handed_over r.owner other id n h.1)) w.numbers l.numbered,
                l.listed,
                All-weaker (λ (n : ℕ). (n < p) × (r.owner n ≡ other)) (λ (n : ℕ). Contains v.numbers n → ⊥)
                    (λ n h c. apart (sym h.1 ∙ (All-contains (λ (m : ℕ). (m < p) × (r.owner m ≡ id)) v.numbers n k.numbered c).1)) w.numbers l.numbered,
              );
              numbered = All-weaker (λ (n : ℕ). (n < p) × (r.owner n ≡ id)) (λ (n : ℕ). (n < p) × (owner' n ≡ id)) (keep id ne) v.numbers k.numbered;
              listed = k.listed;
            })
            (λ j u _ old ne. owned s.homes r.ticket r.serving p p r.holder r.owner owner' r.history j u (keep j ne) (r.seats j u old)) i z i-at i-ne);
      }

  pub merges : (slots id : ℕ) (me : Seated O Q A) (ns : List ℕ) (ts : List (Turn Q A)) → me.0.stage ≡ Joins ns ts → Allows Law slots id me 0 (λ n. n) (Merges (step slots 0 0 0 none) me)
  merges slots id me ns ts joined s r _ at _ =
      let v : View O Q A = me.0 in
      let k = r.seats id v at in
      let place = subst (InStage serves fits opening s.homes r.passes r.owner id v.numbers r.history) joined k.in_stage in
      let both = merged_both serves fits opening r.history v.turns ts r.legal k.listed.stand place.1.stand place.1.in_order in
      let w : View O Q A = at_rest v.opening (v.numbers ++ ns) (merged v.turns ts) in (
        w,
        keeps,
        tt,
        record {
          ticket = r.ticket;
          serving = r.serving;
          passes = r.passes;
          holder = r.holder;
          owner = r.owner;
          history = r.history;
          words = ap (λ (l : List ℕ). set l 0 (get_or l 0 0)) r.words;
          behind = r.behind;
          bounded = r.bounded;
          held = λ n low high. held_by s.views id v w (r.holder n) n at (r.held n low high) (λ _ has. absurd (true≢false (sym has ∙ ap has_ticket joined)));
          served = r.served;
          legal = r.legal;
          bears = r.bears;
          home = λ none'. r.home (quiet s.views id v w at (ap is_serving joined) none');
          seats = each (Knows serves fits opening s.homes r.ticket r.serving r.passes r.holder r.owner r.history) s.views id w
              record {
                ticketed = λ has. absurd (true≢false (sym has));
                called = λ has. absurd (true≢false (sym has));
                unnumbered = λ _. refl;
                opened = k.opened;
                in_stage = tt;
                numbered = All-append (λ (n : ℕ). (n < r.passes) × (r.owner n ≡ id)) v.numbers ns k.numbered place.0;
                listed = merged_turns serves fits opening r.history v.numbers ns v.turns ts r.legal k.listed place.1;
              }
              (λ j u _ there. r.seats j u there);
        },
        (λ ns' ts' joined'.
            let numbers_are : ns ≡ ns' = ap (joined_numbers ns) (sym joined ∙ joined') in
            let turns_are : ts ≡ ts' = ap (joined_turns ts) (sym joined ∙ joined') in (
              refl,
              ap (λ (l : List ℕ). at_rest v.opening (v.numbers ++ l) (merged v.turns ts)) numbers_are,
              subst (λ l. HasBoth v.turns l (merged v.turns ts)) turns_are both.1,
              subst (AreApart v.numbers) numbers_are place.2,
            )),
      )
