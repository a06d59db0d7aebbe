-- Drawing a ticket, looking, taking the object and putting it back keep the rule.
use Rattle.std.proofs.Common.{◌≡◌, ◌≢◌, ℕ, ◌+◌, ◌^◌, ◌<◌, ◌≤◌, eqb, true, false, List, [], ◌∷◌, length, get_or, set, sym, refl, ap, ◌∙◌, subst, true≢false, arith}
use mathlib.Core.Option.{Option, none, some, some-injective}
use mathlib.Core.Logic.{dite}
use native.Mathlib.Decide.{ℕ_discrete}
use lib.ListN.{get_elem?}
use prog.Atomic.{either}
use Rattle.std.specs.Prelude.{unwrap_or}
use Rattle.atomic_table.specs.Table.{State, step, Act, keeps, takes, gives, carried_after, put_back, rest, Valid, stepped, Allows}
use Rattle.atomic_table.proofs.Lists.{set_here, set_again, exchanged}
use Rattle.door.specs.declared.turn.Turn.{Turn}
use Rattle.door.specs.declared.kept.Kept.{Kept}
use Rattle.door.specs.declared.kept.Exchange.{Exchange}
use Rattle.door.specs.declared.view.View.{View}
use Rattle.door.specs.declared.view.Stage.{Stage}
use Rattle.door.specs.declared.view.Stage.TheVariants.{Idle, Waits, Called, Out, Back, Joins}
use Rattle.door.specs.History.{History, object_after}
use Rattle.door.specs.Views.{has_ticket, has_turn, is_serving, staged, waiting}
use Rattle.door.specs.Rule.{Home, InStage, Knows, Rule}
use Rattle.door.specs.Steps.{Seated, Draws, Looks, Takes, Carries, PutsBack}
use Rattle.door.proofs.Seats.{not_true, at_word, put, put_here, put_else, within, each, turn_ticket, serving_turn, quiet, HeldBy, held_by}

module _ {O Q A : Type 0} (serves : O → Q → A → O → Type 0) (fits : List (Turn Q A) → Q → Type 0) (opening : O) where
  abbrev St : Type 0
  St = State (Kept O Q A) (View O Q A)

  abbrev Law : St → Type 0
  Law = Rule serves fits opening

  -- what a step owes where the word becomes `new`
  abbrev pub Goes : St → ℕ → ℕ → Seated O Q A → (ℕ → Seated O Q A → Type 0) → ℕ → Type 0
  Goes s i id me then new = (w : View O Q A) × (a : Act (Kept O Q A)) × Valid s.homes me.1 a × Law (stepped s i new id me.1 w a) × then (get_or s.words i 0) (w, carried_after me.1 a)

  -- nothing changes
  pub stays : (s : St) (i id : ℕ) (me : Seated O Q A) (then : ℕ → Seated O Q A → Type 0) → Law s → i < 3 → get_elem? s.views id ≡ some me.0 → then (get_or s.words i 0) me → Goes s i id me then (get_or s.words i 0)
  stays s i id me then r low at told =
      let long : length s.words ≡ 3 = ap length r.words in
      let ws : set s.words i (get_or s.words i 0) ≡ s.words = set_again s.words i (get_or s.words i 0) (at_word s.words i (omega arith)) in
      let vs : set s.views id me.0 ≡ s.views = set_again s.views id me.0 at in
      (me.0, keeps, tt, subst Law (λ k. record { words = sym ws k; homes = s.homes; views = sym vs k }) r, told)

  pub draws : (slots id : ℕ) (me : Seated O Q A) (old new : ℕ) → new ≡ old + 1 → new < 2 ^ 64 → me.0.stage ≡ Idle → me.0.numbers ≢ []
      → Allows Law slots id me 0 (λ n. either (eqb n old) new n) (Draws (step slots 0 old new none) me)
  draws slots id me old new is low idle numbered s r _ at _ =
      let y : ℕ = get_or s.words 0 0 in
      let t : ℕ = r.ticket in
      let sv : ℕ = r.serving in
      let tick : y ≡ t = ap (λ (l : List ℕ). get_or l 0 0) r.words in
      let behind : sv ≤ t = r.behind in
      let then = Draws (step slots 0 old new none) me in
      exchanged y old new (Goes s 0 id me then)
      (λ hit. let w : View O Q A = waiting me.0 y in
      let k = r.seats id me.0 at in
      let more : new ≡ t + 1 = omega arith in (
        w,
        keeps,
        tt,
        record {
          ticket = new;
          serving = sv;
          passes = r.passes;
          holder = put r.holder y id;
          owner = r.owner;
          history = r.history;
          words = ap (λ (l : List ℕ). set l 0 new) r.words;
          behind = omega arith;
          bounded = low;
          held = λ n low high. dite (ℕ_discrete n y)
              (λ e. (w, ap (get_elem? (set s.views id w)) (put_here r.holder y id n e) ∙ set_here s.views id w (within s.views id me.0 at), sym e, refl))
              (λ ne. subst (λ (h : ℕ). HeldBy (set s.views id w) h n) (sym (put_else r.holder y id n ne))
              (held_by s.views id me.0 w (r.holder n) n at (r.held n low (omega arith)) (λ _ has. absurd (true≢false (sym has ∙ ap has_ticket idle)))));
          served = r.served;
          legal = r.legal;
          bears = r.bears;
          home = λ none'. r.home (quiet s.views id me.0 w at (ap is_serving idle) none');
          seats = each (Knows serves fits opening s.homes new sv r.passes (put r.holder y id) r.owner r.history) s.views id w
              record {
                ticketed = λ _. record { waits = omega arith; drawn = omega arith; holds = put_here r.holder y id y refl };
                called = λ e. absurd (true≢false (sym e));
                unnumbered = λ none'. absurd (numbered none');
                opened = k.opened;
                in_stage = tt;
                numbered = k.numbered;
                listed = k.listed;
              }
              (λ j u ne there. let o = r.seats j u there in record {
                ticketed = λ has. let h = o.ticketed has in let n : ℕ = u.ticket in let waits : sv ≤ n = h.waits in let drawn : n < t = h.drawn in
                    record { waits = waits; drawn = omega arith; holds = put_else r.holder y id n (λ e. omega arith) ∙ h.holds };
                called = o.called;
                unnumbered = o.unnumbered;
                opened = o.opened;
                in_stage = o.in_stage;
                numbered = o.numbered;
                listed = o.listed;
              });
        },
        ((λ _. refl), (λ miss. absurd (miss hit))),
      ))
      (λ miss. stays s 0 id me then r (omega arith) at ((λ hit. absurd (miss hit)), (λ _. refl)))

  -- while a seat has the turn, no other has it
  pub alone : (s : St) (r : Law s) (id : ℕ) (v : View O Q A) → get_elem? s.views id ≡ some v → has_turn v.stage ≡ true
      → (j : ℕ) (u : View O Q A) → j ≢ id → get_elem? s.views j ≡ some u → has_turn u.stage ≡ false
  alone s r id v at mine j u ne there = not_true (has_turn u.stage) (λ theirs.
      let k = r.seats id v at in let o = r.seats j u there in
      let same : u.ticket ≡ v.ticket = o.called theirs ∙ sym (k.called mine) in
      ne (sym (o.ticketed (turn_ticket u.stage theirs)).holds ∙ ap r.holder same ∙ (k.ticketed (turn_ticket v.stage mine)).holds))

  -- where it isn't serving either, the object is at home
  pub at_home : (s : St) (r : Law s) (id : ℕ) (v : View O Q A) → get_elem? s.views id ≡ some v → has_turn v.stage ≡ true → is_serving v.stage ≡ false → Home s.homes (object_after opening r.history)
  at_home s r id v at mine calm = r.home (λ j u there. dite (ℕ_discrete j id)
      (λ e. subst (λ (z : View O Q A). is_serving z.stage ≡ false) (some-injective v u (sym at ∙ ap (get_elem? s.views) (sym e) ∙ there)) calm)
      (λ ne. not_true (is_serving u.stage) (λ busy. true≢false (sym (serving_turn u.stage busy) ∙ alone s r id v at mine j u ne there))))

  -- what a seat without the turn knows, it knows wherever the object is
  elsewhere : (homes homes' : List (Option (Kept O Q A))) (passes : ℕ) (owner : ℕ → ℕ) (id : ℕ) (mine : List ℕ) (es : History O Q A) (st : Stage O Q A) → has_turn st ≡ false
      → InStage serves fits opening homes passes owner id mine es st → InStage serves fits opening homes' passes owner id mine es st
  elsewhere homes homes' passes owner id mine es Idle calm k = k
  elsewhere homes homes' passes owner id mine es Waits calm k = k
  elsewhere homes homes' passes owner id mine es Called calm k = k
  elsewhere homes homes' passes owner id mine es (Out x) calm k = absurd (true≢false calm)
  elsewhere homes homes' passes owner id mine es (Back x q a) calm k = absurd (true≢false calm)
  elsewhere homes homes' passes owner id mine es (Joins ns ts) calm k = k

  -- the seat that has the turn goes to another stage of it, in which it is serving, and the object moves
  serving_goes : (s : St) (r : Law s) (id : ℕ) (v : View O Q A) (st : Stage O Q A) (homes' : List (Option (Kept O Q A))) → get_elem? s.views id ≡ some v → has_turn v.stage ≡ true
      → is_serving st ≡ true → InStage serves fits opening homes' r.passes r.owner id v.numbers r.history st
      → Law record { words = set s.words 1 (get_or s.words 1 0); homes = homes'; views = set s.views id (staged v st) }
  serving_goes s r id v st homes' at mine busy stage =
      let w : View O Q A = staged v st in let k = r.seats id v at in
      let turn : has_turn st ≡ true = serving_turn st busy in record {
        ticket = r.ticket;
        serving = r.serving;
        passes = r.passes;
        holder = r.holder;
        owner = r.owner;
        history = r.history;
        words = ap (λ (l : List ℕ). set l 1 (get_or l 1 0)) r.words;
        behind = r.behind;
        bounded = r.bounded;
        held = λ n low high. held_by s.views id v w (r.holder n) n at (r.held n low high) (λ e _. (e, turn_ticket st turn));
        served = r.served;
        legal = r.legal;
        bears = r.bears;
        home = λ none'. absurd (true≢false (sym busy ∙ none' id w (set_here s.views id w (within s.views id v at))));
        seats = each (Knows serves fits opening homes' r.ticket r.serving r.passes r.holder r.owner r.history) s.views id w
            record {
              ticketed = λ _. k.ticketed (turn_ticket v.stage mine);
              called = λ _. k.called mine;
              unnumbered = λ none'. absurd (true≢false (sym (turn_ticket v.stage mine) ∙ k.unnumbered none'));
              opened = k.opened;
              in_stage = stage;
              numbered = k.numbered;
              listed = k.listed;
            }
            (λ j u ne there. let o = r.seats j u there in record {
              ticketed = o.ticketed;
              called = o.called;
              unnumbered = o.unnumbered;
              opened = o.opened;
              in_stage = elsewhere s.homes homes' r.passes r.owner j u.numbers r.history u.stage (alone s r id v at mine j u ne there) o.in_stage;
              numbered = o.numbered;
              listed = o.listed;
            });
      }

  pub looks : (slots id : ℕ) (me : Seated O Q A) → me.0.stage ≡ Waits → Allows Law slots id me 1 (λ n. n) (Looks (step slots 1 0 0 none) me)
  looks slots id me waits s r _ at _ =
      let y : ℕ = get_or s.words 1 0 in
      let now : y ≡ r.serving = ap (λ (l : List ℕ). get_or l 1 0) r.words in
      let then = Looks (step slots 1 0 0 none) me in
      dite (ℕ_discrete y me.0.ticket)
      (λ hit. let w : View O Q A = staged me.0 Called in
      let k = r.seats id me.0 at in
      let has : has_ticket me.0.stage ≡ true = ap has_ticket waits in (
        w,
        keeps,
        tt,
        record {
          ticket = r.ticket;
          serving = r.serving;
          passes = r.passes;
          holder = r.holder;
          owner = r.owner;
          history = r.history;
          words = ap (λ (l : List ℕ). set l 1 (get_or l 1 0)) r.words;
          behind = r.behind;
          bounded = r.bounded;
          held = λ n low high. held_by s.views id me.0 w (r.holder n) n at (r.held n low high) (λ e _. (e, refl));
          served = r.served;
          legal = r.legal;
          bears = r.bears;
          home = λ none'. r.home (quiet s.views id me.0 w at (ap is_serving waits) none');
          seats = each (Knows serves fits opening s.homes r.ticket r.serving r.passes r.holder r.owner r.history) s.views id w
              record {
                ticketed = λ _. k.ticketed has;
                called = λ _. sym hit ∙ now;
                unnumbered = λ none'. absurd (true≢false (sym has ∙ k.unnumbered none'));
                opened = k.opened;
                in_stage = tt;
                numbered = k.numbered;
                listed = k.listed;
              }
              (λ j u ne there. r.seats j u there);
        },
        ((λ _. refl), (λ miss. absurd (miss hit))),
      ))
      (λ miss. stays s 1 id me then r (omega arith) at ((λ hit. absurd (miss hit)), (λ _. refl)))

  pub takes_out : (slots id : ℕ) (me : Seated O Q A) → me.0.stage ≡ Called → Allows Law slots id me 1 (λ n. n) (Takes (step slots 1 0 0 none) me)
  takes_out slots id me called s r _ at _ =
      let home = at_home s r id me.0 at (ap has_turn called) (ap is_serving called) in
      let k : Kept O Q A = home.0 in (
        staged me.0 (Out k.object),
        takes 0 k,
        ap (λ (l : List (Option (Kept O Q A))). get_elem? l 0) home.1,
        serving_goes s r id me.0 (Out k.object) (set s.homes 0 none) at (ap has_turn called) refl (ap (λ (l : List (Option (Kept O Q A))). set l 0 none) home.1, home.2),
        (k, refl),
      )

  pub puts_back : (slots id : ℕ) (me : Seated O Q A) (x : O) (k : Kept O Q A) (e : Exchange Q A) → me.0.stage ≡ Out x → Carries me.1 k e → serves x e.ask.value e.answer.value k.object
      → Allows Law slots id me 1 (λ n. n) (PutsBack (step slots 1 0 0 none) me)
  puts_back slots id me x k e out carries serve s r _ at _ =
      let known = r.seats id me.0 at in
      let place = subst (InStage serves fits opening s.homes r.passes r.owner id me.0.numbers r.history) out known.in_stage in
      let back : put_back s.homes me.1 ≡ some k ∷ [] = ap (put_back s.homes) carries.0 ∙ ap (λ (l : List (Option (Kept O Q A))). set l 0 (some k)) place.0 in (
        staged me.0 (Back k.object e.ask.value e.answer.value),
        gives,
        tt,
        serving_goes s r id me.0 (Back k.object e.ask.value e.answer.value) (put_back s.homes me.1) at (ap has_turn out) refl
            ((k, back, refl), subst (λ (z : O). serves z e.ask.value e.answer.value k.object) place.1 serve),
        (λ k' e' carries'.
            let same : k ≡ k' = ap (λ (l : List (ℕ × Kept O Q A)). (get_or l 0 (0, k)).1) (sym carries.0 ∙ carries'.0) in
            let alike : e ≡ e' = ap (λ o. unwrap_or o e) (sym carries.1 ∙ ap (λ (z : Kept O Q A). z.last) same ∙ carries'.1) in
            λ i. (staged me.0 (Back (same i).object (alike i).ask.value (alike i).answer.value), ap rest carries.0 i)),
      )
