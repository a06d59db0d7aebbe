-- The first kernel agrees.
use Rattle.std.proofs.Common.{◌≡◌, ◌<◌, ℕ, Bool, true, false, Option, Some, None, is_some, cond, refl, sym, ap, subst, ◌∙◌, inl, inr, arith}
use Rattle.std.specs.Prelude.{◌==◌, List, option_and_then}
use Rattle.std.specs.declared.cmp.Ordering.{Ordering}
use Rattle.std.specs.Ordering.{nat_cmp, eq_by_cmp}
use Rattle.std.specs.Cmp.{IsTotalOrder, nat_cmp_total}
use Rattle.std.specs.FinMap.{FinMap, empty, get, insert, contains_key, get-empty, get-insert, gets, IsAntisymmetric, nat_cmp-IsAntisymmetric}
use Rattle.fd_table.specs.declared.table.Descriptor.{Descriptor}
use Rattle.fd_table.specs.Table.{Table, descriptor}
use Rattle.file_tree.specs.FileTree.{FileTree}
use Rattle.finite_maps.proofs.Lookups.{get-insert_same}
use Rattle.finite_maps.proofs.Options.{chained_from, some_from}
use Rattle.open_desc.specs.declared.description.Description.{Description}
use Rattle.kernel_core.specs.Agreement.{HasThread, BeginsAgreed}
use Rattle.kernel_core.specs.Beginning.{first_kernel, first_descriptions, first_table}
use Rattle.kernel_core.specs.Closing.{is_named}
use Rattle.kernel_core.specs.Kernel.{Kernel, Unjoined, Live, lives, lives_as}
use Rattle.kernel_core.specs.Threads.{ThreadId, ThreadState, Handed, Fresh}
use Rattle.kernel_core.specs.Transfers.{pipe_of}
use Rattle.kernel_core.proofs.AgreementClosing.{any_descriptor}
use Rattle.kernel_core.proofs.AgreementMaps.{none_some, inserted_from}
use Rattle.kernel_core.proofs.AgreementSteps.{IsAnswered}
use Rattle.kernel_core.proofs.ThreadOrder.{thread_cmp_total, thread_cmp_exact}

-- ---- what holds of each entry

abbrev EachAt : {K X : Type 0} {R : K → K → Ordering} → (K → X → Type 0) → FinMap R X → Type 0
EachAt {K} {X} P m = (k : K) (x : X) → get m k ≡ Some x → P k x

module _ {K X : Type 0} {R : K → K → Ordering} (total : IsTotalOrder R) (exact : IsAntisymmetric R) (P : K → X → Type 0) where
  each_insert : (m : FinMap R X) (k : K) (v : X) → EachAt P m → P k v → EachAt P (insert m k v)
  each_insert m k v all here q x at =
      elim (inserted_from total exact m k v q x at) [
        | inl own ↦ subst (λ (y : X). P q y) own.1 (subst (λ (z : K). P z v) (sym own.0) here)
        | inr old ↦ all q x old
      ]

  each_one : (k : K) (v : X) → P k v → EachAt {R = R} P (insert empty k v)
  each_one k v = each_insert empty k v (λ q x at. absurd (none_some (get-empty {X = X} R q) at))

module _ {X : Type 0} (P : ℕ → X → Type 0) where
  each_four : (a b c d : X) → P 0 a → P 1 b → P 2 c → P 3 d → EachAt {R = nat_cmp} P (insert (insert (insert (insert empty 0 a) 1 b) 2 c) 3 d)
  each_four a b c d p q r s =
      each_insert nat_cmp_total nat_cmp-IsAntisymmetric P _ 3 d
      (each_insert nat_cmp_total nat_cmp-IsAntisymmetric P _ 2 c
      (each_insert nat_cmp_total nat_cmp-IsAntisymmetric P _ 1 b
      (each_one nat_cmp_total nat_cmp-IsAntisymmetric P 0 a p) q) r) s

lives_there : (o : Option Unjoined) → lives_as o ≡ true → (u : Unjoined) × (o ≡ Some u)
lives_there None e = cc
lives_there (Some u) e = (u, refl)

-- ---- the first kernel

first_named : EachAt (λ (n : ℕ) (d : Description). is_named (insert empty 1 first_table) n ≡ true) first_descriptions
first_named = each_four (λ n d. is_named (insert empty 1 first_table) n ≡ true) _ _ _ _ (named 0 (simp gets) refl) (named 1 (simp gets) refl) (named 2 (simp gets) refl) (named 3 (simp gets) refl)
  where
    named : (n : ℕ) → get first_table n ≡ Some (descriptor n false) → (n == n) ≡ true → is_named (insert empty 1 first_table) n ≡ true
    named n at is = any_descriptor (λ (x : Descriptor). x.id == n) (insert empty 1 first_table) 1 n (descriptor n false) (ap (option_and_then (λ (t : Table). get t n)) (get-insert_same nat_cmp_total empty 1 first_table) ∙ at) is

first_open : EachAt (λ (fd : ℕ) (d : Descriptor). contains_key first_descriptions d.id ≡ true) first_table
first_open = each_four (λ fd d. contains_key first_descriptions d.id ≡ true) _ _ _ _ (simp gets) (simp gets) (simp gets) (simp gets)

first_kinds : EachAt (λ (n : ℕ) (d : Description). pipe_of d.kind ≡ None) first_descriptions
first_kinds = each_four (λ n d. pipe_of d.kind ≡ None) _ _ _ _ refl refl refl refl

first_below : EachAt (λ (n : ℕ) (d : Description). n < 4) first_descriptions
first_below = each_four (λ n d. n < 4) _ _ _ _ (omega arith) (omega arith) (omega arith) (omega arith)

module _ (tree : FileTree) (input : List ℕ) where
  abbrev first : Kernel
  first = first_kernel tree input

  first_part : {X : Type 0} (x : X) (pid : ℕ) → contains_key (insert {R = nat_cmp} empty 1 x) pid ≡ lives first pid
  first_part x pid =
      ap is_some (get-insert nat_cmp_total empty 1 x pid ∙ ap (cond (eq_by_cmp nat_cmp pid 1) (Some x)) (get-empty nat_cmp pid))
      ∙ elim (eq_by_cmp nat_cmp pid 1) as (λ b. is_some (cond b (Some x) None) ≡ lives_as (cond b (Some one) None)) [ true ↦ refl | false ↦ refl ]
      ∙ sym (ap lives_as (get-insert nat_cmp_total empty 1 one pid ∙ ap (cond (eq_by_cmp nat_cmp pid 1) (Some one)) (get-empty nat_cmp pid)))
    where
      one : Unjoined
      one = record { parent = 0; state = Live }

  -- what holds of thread 1 of process 1 holds of each
  each_thread : (P : ThreadId → ThreadState → Type 0) → P (1, 1) (Handed Fresh) → EachAt P first.threads
  each_thread P = each_one thread_cmp_total thread_cmp_exact P (1, 1) (Handed Fresh)

pub begins_agreed : BeginsAgreed
begins_agreed tree input = record {
  parts = λ pid. record { table = first_part tree input _ pid; directory = first_part tree input _ pid; dispositions = first_part tree input _ pid; next_thread = first_part tree input _ pid };
  pipes = record {
    opened = λ pid fd d at.
        let table = chained_from (λ (t : Table). get t fd) (get k.descriptors pid) d at in
        each_one nat_cmp_total nat_cmp-IsAntisymmetric (λ p (t : Table). EachAt (λ (fd : ℕ) (d : Descriptor). contains_key first_descriptions d.id ≡ true) t) 1 first_table first_open pid table.0 table.1 fd d table.2;
    named = λ n has. let found = some_from (get first_descriptions n) has in first_named n found.0 found.1;
    there = λ n pipe d at is. absurd (none_some (first_kinds n d at) is);
  };
  living = λ id s at live. each_thread tree input (λ id s. lives k id.0 ≡ true) (simp gets) id s at;
  alive = λ pid live.
      let found = lives_there (get k.unjoined pid) live in
      each_one nat_cmp_total nat_cmp-IsAntisymmetric (λ p (u : Unjoined). HasThread k p) 1 _ (1, Handed Fresh, get-insert_same thread_cmp_total empty (1, 1) (Handed Fresh), refl) pid found.0 found.1;
  waiting = λ id request since at. each_thread tree input (λ id s. IsAnswered s) (λ request since e. cc) id _ at request since refl;
  fresh = record {
    descriptions = λ n has. let found = some_from (get first_descriptions n) has in first_below n found.0 found.1;
    pipes = λ n has. absurd (let never : ◌≡◌ {A = Bool} false true = sym (ap is_some (get-empty nat_cmp n)) ∙ has in cc);
    processes = λ pid has. let found = some_from (get k.unjoined pid) has in each_one nat_cmp_total nat_cmp-IsAntisymmetric (λ p (u : Unjoined). p < 2) 1 _ (omega arith) pid found.0 found.1;
    threads = λ id has. let found = some_from (get k.threads id) has in each_thread tree input (λ id s. id.0 < 2) (omega arith) id found.0 found.1;
    own_threads = λ id next has at.
        let found = some_from (get k.threads id) has in
        each_thread tree input (λ id s. (n : ℕ) → get k.next_threads id.0 ≡ Some n → id.1 < n)
        (λ n is. let two : Some 2 ≡ Some n = sym (get-insert_same nat_cmp_total empty 1 2) ∙ is in let same : 2 ≡ n = cc in omega (arith, same))
        id found.0 found.1 next at;
  };
}
  where
    k : Kernel
    k = first_kernel tree input
