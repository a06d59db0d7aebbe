-- Threads that were ended and whose turn is still to come.
use Rattle.std.proofs.Common.{◌≡◌, ℕ, Bool, true, false, List, [], ◌∷◌, ◌++◌, refl, sym, ap, ◌∙◌, eq-eqb}
use Rattle.std.specs.Prelude.{◌==◌, ◌&&◌, ◌||◌, not, if◌then◌else◌, filter}
use Rattle.std.specs.List.{list_any}
use Rattle.std.specs.Ordering.{nat_cmp, is_eq, eq_by_cmp}
use Rattle.std.specs.declared.cmp.Ordering.{Ordering}
use Rattle.std.specs.declared.cmp.Ordering.TheVariants.{Less, Equal, Greater}
use Rattle.std.specs.FinMap.{contains_key, keys, contains_key-keys, nat_cmp-IsAntisymmetric}
use Rattle.std.proofs.lemmas.Bool.{eqb-true, or_right}
use Rattle.fork_exec.specs.Process.{Process}
use Rattle.process.specs.Lineage.{Told, makes}
use Rattle.world_step.specs.Stops.{is_among, is_ended, ended_by, left_after}

-- ---- members of lists

among_filtered : (test : ℕ → Bool) (t : ℕ) (xs : List ℕ) → is_among t xs ≡ true → test t ≡ true → is_among t (filter test xs) ≡ true
among_filtered test t [] is passes = is
among_filtered test t (x ∷ xs) is passes =
    elim (x == t) as (λ b. (x == t) ≡ b → (b || is_among t xs) ≡ true → is_among t (if test x then x ∷ filter test xs else filter test xs) ≡ true) [
      | true ↦ λ here later.
          let passed : test x ≡ true = ap test (eqb-true x t here) ∙ passes in
          ap (λ b. is_among t (if b then x ∷ filter test xs else filter test xs)) passed ∙ ap (λ b. b || is_among t (filter test xs)) here
      | false ↦ λ apart later.
          elim (test x) as (λ b. is_among t (if b then x ∷ filter test xs else filter test xs) ≡ true) [
            | true ↦ or_right (x == t) _ (among_filtered test t xs later passes)
            | false ↦ among_filtered test t xs later passes
          ]
    ] refl is

among_left : (t : ℕ) (xs ys : List ℕ) → is_among t xs ≡ true → is_among t (xs ++ ys) ≡ true
among_left t [] ys is = cc
among_left t (x ∷ xs) ys is =
    elim (x == t) as (λ b. (b || is_among t xs) ≡ true → (b || is_among t (xs ++ ys)) ≡ true) [
      | true ↦ λ here. refl
      | false ↦ λ later. among_left t xs ys later
    ] is

among_right : (t : ℕ) (xs ys : List ℕ) → is_among t ys ≡ true → is_among t (xs ++ ys) ≡ true
among_right t [] ys is = is
among_right t (x ∷ xs) ys is = or_right (x == t) _ (among_right t xs ys is)

tied_same : (t k : ℕ) (r : Ordering) → nat_cmp t k ≡ r → is_eq r ≡ true → (k == t) ≡ true
tied_same t k Less e is = cc
tied_same t k Equal e is = eq-eqb k t (sym (nat_cmp-IsAntisymmetric t k e))
tied_same t k Greater e is = cc

among_keys : (t : ℕ) (ks : List ℕ) → list_any (eq_by_cmp nat_cmp t) ks ≡ true → is_among t ks ≡ true
among_keys t [] is = is
among_keys t (k ∷ ks) is =
    elim (eq_by_cmp nat_cmp t k) as (λ b. eq_by_cmp nat_cmp t k ≡ b → (b || list_any (eq_by_cmp nat_cmp t) ks) ≡ true → ((k == t) || is_among t ks) ≡ true) [
      | true ↦ λ here later. ap (λ b. b || is_among t ks) (tied_same t k (nat_cmp t k) refl here)
      | false ↦ λ apart later. or_right (k == t) _ (among_keys t ks later)
    ] refl is

-- ---- a thread that was ended or is there is so after another one's turn

-- the turn is one of another thread, and makes no process of the line
module _ (left : List ℕ) (before after : Process) (turn : Told) (pid t : ℕ) (none : makes turn.entry.outcome pid ≡ false) (apart : (t == turn.entry.tid) ≡ false) where
  abbrev next_left : List ℕ
  next_left = filter (λ tid. not (tid == turn.entry.tid)) left ++ ended_by before after turn.entry.tid

  was_left : is_among t left ≡ true → is_among t next_left ≡ true
  was_left is = among_left t _ (ended_by before after turn.entry.tid) (among_filtered (λ tid. not (tid == turn.entry.tid)) t left is (ap not apart))

  was_there : contains_key before.threads t ≡ true → (is_among t next_left || contains_key after.threads t) ≡ true
  was_there is =
      elim (contains_key after.threads t) as (λ b. contains_key after.threads t ≡ b → (is_among t next_left || b) ≡ true) [
        | true ↦ λ stays. or_right (is_among t next_left) true refl
        | false ↦ λ gone.
            let ends : is_ended before after turn.entry.tid t ≡ true = (λ i. not (gone i) && not (apart i)) in
            ap (λ b. b || false) (among_right t (filter (λ tid. not (tid == turn.entry.tid)) left) _
            (among_filtered (is_ended before after turn.entry.tid) t (keys before.threads) (among_keys t (keys before.threads) (sym (contains_key-keys before.threads t) ∙ is)) ends))
      ] refl

  stays_told : (is_among t left || contains_key before.threads t) ≡ true → (is_among t next_left || contains_key after.threads t) ≡ true
  stays_told is =
      elim (is_among t left) as (λ b. is_among t left ≡ b → (b || contains_key before.threads t) ≡ true → (is_among t next_left || contains_key after.threads t) ≡ true) [
        | true ↦ λ here later. ap (λ b. b || contains_key after.threads t) (was_left here)
        | false ↦ λ absent later. was_there later
      ] refl is

  pub carried : (is_among t left || contains_key before.threads t) ≡ true → (is_among t (left_after left before after turn pid) || contains_key after.threads t) ≡ true
  carried is = ap (λ b. is_among t (if b then [] else next_left) || contains_key after.threads t) none ∙ stays_told is
