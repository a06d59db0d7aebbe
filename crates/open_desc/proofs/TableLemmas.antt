-- How many descriptors of a table name an id, after each call.
use Rattle.std.proofs.Common.{◌≡◌, ◌≢◌, ℕ, zero, suc, ◌+◌, Bool, true, false, cond, not, List, [], ◌∷◌, ◌++◌, map, Option, Some, None, is_some, refl, sym, ap, ◌∙◌, arith, add-one, append-nil}
use Rattle.std.specs.Bool.{if◌then◌else◌}
use Rattle.std.specs.Option.{option_map_or, option_and_then, option_to_list}
use Rattle.std.specs.List.{find, range_with_len, sum_by}
use Rattle.std.proofs.lemmas.List.Sums.{sum_by-cons, sum_by_push}
use Rattle.open_desc.specs.Prelude.{Descriptor, Table, descriptor, lowest_free, after_put, marked_id, marked_below, without_marked_below, names, names_in, ids_of}
use Rattle.fd_table.proofs.ExecLemmas.{marked_below-zero, marked_below-more, without_marked_below-zero, without_marked_below-marked, without_marked_below-unmarked, get_at}
use Rattle.finite_maps.proofs.Maps.{nat_cmp_total, nat_cmp-IsAntisymmetric, get-insert_other, total-insert, total-remove, get, insert, remove, values, total}
use Rattle.open_desc.proofs.ReferenceLemmas.{one, times}

-- what an entry adds to the count
abbrev pub part : ℕ → Option Descriptor → ℕ
part q o = option_map_or (names q) o 0

find_passes : (p : ℕ → Bool) (xs : List ℕ) (x : ℕ) → find p xs ≡ Some x → p x ≡ true
find_passes p [] x e = cc
find_passes p (y ∷ ys) x e = by_test (p y) refl e (find_passes p ys x)
  where
    by_test : (b : Bool) → p y ≡ b → cond b (Some y) (find p ys) ≡ Some x → (find p ys ≡ Some x → p x ≡ true) → p x ≡ true
    by_test true t found later = let same : y ≡ x = cc in ap p (sym same) ∙ t
    by_test false t found later = later found

-- the lowest free number is not open
free_is_absent : (table : Table) (fd : ℕ) → lowest_free table ≡ Some fd → get table fd ≡ None
unfolding lowest_free
free_is_absent table fd e = absent (get table fd) (find_passes (λ k. not (is_some (get table k))) (range_with_len 0 128) fd e)
  where
    absent : (o : Option Descriptor) → not (is_some o) ≡ true → o ≡ None
    absent None h = refl
    absent (Some d) h = cc

pub names-put : (table : Table) (id q fd : ℕ) → lowest_free table ≡ Some fd → names_in q (after_put table id) ≡ names_in q table + one id q
names-put table id q fd e =
    let after : after_put table id ≡ insert table fd (descriptor id false) = ap (λ o. option_map_or (λ k. insert table k (descriptor id false)) o table) e in
    let absent : part q (get table fd) ≡ 0 = ap (part q) (free_is_absent table fd e) in
    omega (arith, ap (names_in q) after, total-insert (names q) nat_cmp_total table fd (descriptor id false), absent)

pub put-full : (table : Table) (id : ℕ) → lowest_free table ≡ None → after_put table id ≡ table
put-full table id e = ap (λ o. option_map_or (λ k. insert table k (descriptor id false)) o table) e

pub names-moved : (table : Table) (from to q : ℕ) (d : Descriptor) → get table from ≡ Some d → from ≢ to → names_in q (remove (insert table to d) from) + part q (get table to) ≡ names_in q table
names-moved table from to q d e ne =
    let at_from : part q (get (insert table to d) from) ≡ names q d = ap (part q) (get-insert_other nat_cmp_total nat_cmp-IsAntisymmetric table to d from ne ∙ e) in
    omega (arith, at_from, total-remove (names q) nat_cmp_total nat_cmp-IsAntisymmetric (insert table to d) from, total-insert (names q) nat_cmp_total table to d)

pub times-ids : (q : ℕ) (table : Table) → times q (ids_of table) ≡ names_in q table
unfolding total
times-ids q table = of_values (values table)
  where
    of_values : (ds : List Descriptor) → times q (map (λ d. d.id) ds) ≡ sum_by (names q) ds
    of_values [] = refl
    of_values (d ∷ ds) = sum_by-cons (λ id. one id q) d.id (map (λ d. d.id) ds) ∙ ap (λ n. names q d + n) (of_values ds) ∙ sym (sum_by-cons (names q) d ds)

-- the part of a number with a mark
part-marked : (o : Option Descriptor) (id q : ℕ) → option_and_then (λ d. if d.cloexec then Some d.id else None) o ≡ Some id → part q o ≡ one id q
part-marked None id q e = cc
part-marked (Some d) id q e = by_mark d.cloexec e
  where
    by_mark : (b : Bool) → (if b then Some d.id else None) ≡ Some id → names q d ≡ one id q
    by_mark true m = let same : d.id ≡ id = cc in ap (λ i. one i q) same
    by_mark false m = cc

names-exec_next : (table : Table) (q n : ℕ) → times q (marked_below table n) + names_in q (without_marked_below table n) ≡ names_in q table → (o : Option ℕ) → marked_id table n ≡ o → times q (marked_below table (suc n)) + names_in q (without_marked_below table (suc n)) ≡ names_in q table
names-exec_next table q n before None e =
    let ids : marked_below table (suc n) ≡ marked_below table n = ap (marked_below table) (sym (add-one n)) ∙ marked_below-more table n ∙ ap (λ o. marked_below table n ++ option_to_list o) e ∙ append-nil _ in
    let left : without_marked_below table (suc n) ≡ without_marked_below table n = ap (without_marked_below table) (sym (add-one n)) ∙ without_marked_below-unmarked table n e in
    omega (arith, before, ap (times q) ids, ap (names_in q) left)
names-exec_next table q n before (Some id) e =
    let ids : marked_below table (suc n) ≡ marked_below table n ++ id ∷ [] = ap (marked_below table) (sym (add-one n)) ∙ marked_below-more table n ∙ ap (λ o. marked_below table n ++ option_to_list o) e in
    let left : without_marked_below table (suc n) ≡ remove (without_marked_below table n) n = ap (without_marked_below table) (sym (add-one n)) ∙ without_marked_below-marked table n id e in
    let at_n : part q (get (without_marked_below table n) n) ≡ one id q = ap (part q) (get_at table n) ∙ part-marked (get table n) id q e in
    omega (arith, before, ap (times q) ids, sum_by_push (λ i. one i q) (marked_below table n) id, ap (names_in q) left, total-remove (names q) nat_cmp_total nat_cmp-IsAntisymmetric (without_marked_below table n) n, at_n)

-- what is closed, and what is left
pub names-exec : (table : Table) (q n : ℕ) → times q (marked_below table n) + names_in q (without_marked_below table n) ≡ names_in q table
names-exec table q zero = omega (arith, ap (times q) (marked_below-zero table), ap (names_in q) (without_marked_below-zero table))
names-exec table q (suc n) = names-exec_next table q n (names-exec table q n) (marked_id table n) refl
