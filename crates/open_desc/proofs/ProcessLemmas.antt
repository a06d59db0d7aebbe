-- After each step the references of a description are the descriptors that name it.
use Rattle.std.proofs.Common.{◌≡◌, ◌≢◌, ℕ, ◌+◌, ◌<◌, ◌≤◌, ◌==◌, Bool, true, false, List, [], ◌∷◌, Option, Some, None, IsSome, unwrap_or, Ok, Err, refl, sym, ap, ◌∙◌, arith, nat_lt}
use Rattle.std.specs.Bool.{if◌then◌else◌}
use Rattle.std.specs.Option.{option_map, option_map_or, ok_or}
use Rattle.std.specs.List.{list_any}
use Rattle.std.proofs.lemmas.Bool.{false≢true}
use Rattle.std.proofs.lemmas.Bool.Decides.{nat_tests}
use Rattle.open_desc.specs.Prelude.{Badf, Mfile, Descriptor, Table, lowest_free, after_put, dropped_ids, after_exec, Descriptions, references_of, after_open, after_share, after_release, is_end, end_left, Processes, names, names_in, pairs_naming, table_of, ids_of, with_table, all_shared, all_released, put_or_released, shared_where, released_displaced, released_closed, Operation, New, Open, Dup, Renumber, Close, Fork, Exec, End, after_operation, MayCome, after_operations, AllMayCome, no_processes, names_end, some_names_end, CountsAgree, CountsStay, Description, Opened}
use Rattle.finite_maps.proofs.Maps.{nat_cmp_total, nat_cmp-IsAntisymmetric, total-empty, total-insert, total-remove, total-positive, part-le_total, found_where, any_value, remove_absent, nat_cmp, get, insert, remove, empty, values, get-empty}
use Rattle.std.proofs.lemmas.Option.{none-some}
use Rattle.std.specs.Cmp.{both_ways}
use Rattle.open_desc.proofs.ReferenceLemmas.{one_same, times, AreReferred, references-open, references-share, references-release, references-all_shared, references-all_released, AreReferred-open, AreReferred-share, AreReferred-release, AreReferred-all_shared, AreReferred-all_released}
use Rattle.open_desc.proofs.TableLemmas.{part, names-put, put-full, names-moved, times-ids, names-exec}

-- what holds before and after each step
pub record AreExact (p : Processes) : Type 0 where
  pub references : (id : ℕ) → references_of p.descs id ≡ pairs_naming p id
  pub referred : AreReferred p.descs

-- the table of a process that has one
is_there : (p : Processes) (pid : ℕ) → IsSome (get p.tables pid) → get p.tables pid ≡ Some (table_of p pid)
is_there p pid there = by_entry (get p.tables pid) there
  where
    by_entry : (o : Option Table) → IsSome o → o ≡ Some (unwrap_or o empty)
    by_entry None h = absurd (false≢true h)
    by_entry (Some table) h = refl

-- the pairs that name an id after the table of a process was changed, added or taken away
pairs-changed : (p : Processes) (pid : ℕ) (table : Table) (descs : Descriptions) → IsSome (get p.tables pid) → (q : ℕ) → pairs_naming (with_table p pid table descs) q + names_in q (table_of p pid) ≡ pairs_naming p q + names_in q table
pairs-changed p pid table descs there q =
    let had : option_map_or (names_in q) (get p.tables pid) 0 ≡ names_in q (table_of p pid) = ap (λ (o : Option Table). option_map_or (names_in q) o 0) (is_there p pid there) in
    omega (arith, had, total-insert (names_in q) nat_cmp_total p.tables pid table)

pairs-added : (p : Processes) (pid : ℕ) (table : Table) (descs : Descriptions) → get p.tables pid ≡ None → (q : ℕ) → pairs_naming (with_table p pid table descs) q ≡ pairs_naming p q + names_in q table
pairs-added p pid table descs none q =
    let had : option_map_or (names_in q) (get p.tables pid) 0 ≡ 0 = ap (λ (o : Option Table). option_map_or (names_in q) o 0) none in
    omega (arith, had, total-insert (names_in q) nat_cmp_total p.tables pid table)

-- the descriptors of one table are among the pairs
pairs-of_table : (p : Processes) (pid : ℕ) → IsSome (get p.tables pid) → (q : ℕ) → names_in q (table_of p pid) ≤ pairs_naming p q
pairs-of_table p pid there q =
    let had : option_map_or (names_in q) (get p.tables pid) 0 ≡ names_in q (table_of p pid) = ap (λ (o : Option Table). option_map_or (names_in q) o 0) (is_there p pid there) in
    omega (arith, had, part-le_total (names_in q) nat_cmp_total nat_cmp-IsAntisymmetric p.tables pid)

-- a descriptor's description is referred to
is_referred : (p : Processes) (pid fd : ℕ) (d : Descriptor) → AreExact p → IsSome (get p.tables pid) → get (table_of p pid) fd ≡ Some d → 0 < references_of p.descs d.id
is_referred p pid fd d exact there e =
    let here : part d.id (get (table_of p pid) fd) ≡ 1 = ap (part d.id) e ∙ one_same d.id d.id refl in
    omega (arith, here, part-le_total (names d.id) nat_cmp_total nat_cmp-IsAntisymmetric (table_of p pid) fd, pairs-of_table p pid there d.id, exact.references d.id)

-- different numbers
different : (from to : ℕ) → (from == to) ≡ false → from ≢ to
different from to e same = false≢true (sym e ∙ equal from to same)
  where
    equal : (from to : ℕ) → from ≡ to → (from == to) ≡ true
    equal from to same = grind (arith, nat_tests)

open_step : (p : Processes) (pid id : ℕ) (d : Description) → AreExact p → IsSome (get p.tables pid) → get p.descs.opens id ≡ None → (o : Option ℕ) → lowest_free (table_of p pid) ≡ o → AreExact (with_table p pid (after_put (table_of p pid) id) (put_or_released (after_open p.descs id d) id o))
open_step p pid id d exact there free (Some fd) e = record {
  references = λ q. omega (arith, exact.references q, references-open p.descs id q d free, names-put (table_of p pid) id q fd e, pairs-changed p pid (after_put (table_of p pid) id) (after_open p.descs id d) there q);
  referred = AreReferred-open p.descs id d exact.referred;
}
open_step p pid id d exact there free None e = record {
  references = λ q. omega (arith, exact.references q, references-open p.descs id q d free, references-release (after_open p.descs id d) id q, ap (names_in q) (put-full (table_of p pid) id e), pairs-changed p pid (after_put (table_of p pid) id) (after_release (after_open p.descs id d) id) there q);
  referred = AreReferred-release (after_open p.descs id d) id (AreReferred-open p.descs id d exact.referred);
}

-- a step that leaves the table and the descriptions as they were
unchanged_step : (p : Processes) (pid : ℕ) (table : Table) → AreExact p → IsSome (get p.tables pid) → table ≡ table_of p pid → AreExact (with_table p pid table p.descs)
unchanged_step p pid table exact there same = record {
  references = λ q. omega (arith, exact.references q, ap (names_in q) same, pairs-changed p pid table p.descs there q);
  referred = exact.referred;
}

dup_step : (p : Processes) (pid fd : ℕ) → AreExact p → IsSome (get p.tables pid) → (entry : Option Descriptor) → get (table_of p pid) fd ≡ entry → (o : Option ℕ) → lowest_free (table_of p pid) ≡ o → AreExact (with_table p pid (option_map_or (λ d. after_put (table_of p pid) d.id) entry (table_of p pid)) (shared_where p.descs entry (option_map_or (λ _. ok_or o Mfile) entry (Err Badf))))
dup_step p pid fd exact there None e o f = unchanged_step p pid (table_of p pid) exact there refl
dup_step p pid fd exact there (Some d) e None f = unchanged_step p pid (after_put (table_of p pid) d.id) exact there (put-full (table_of p pid) d.id f)
dup_step p pid fd exact there (Some d) e (Some free) f = record {
  references = λ q. omega (arith, exact.references q, references-share p.descs d.id q (is_referred p pid fd d exact there e), names-put (table_of p pid) d.id q free f, pairs-changed p pid (after_put (table_of p pid) d.id) (after_share p.descs d.id) there q);
  referred = AreReferred-share p.descs d.id exact.referred;
}

renumber_step : (p : Processes) (pid from to : ℕ) → AreExact p → IsSome (get p.tables pid) → (entry : Option Descriptor) → get (table_of p pid) from ≡ entry → (within same : Bool) → (from == to) ≡ same → (displaced : Option Descriptor) → get (table_of p pid) to ≡ displaced → AreExact (with_table p pid (option_map_or (λ d. if within then (if same then table_of p pid else remove (insert (table_of p pid) to d) from) else table_of p pid) entry (table_of p pid)) (released_displaced p.descs (option_map_or (λ _. if within then Ok (if same then None else option_map (λ d. d.id) displaced) else Err Badf) entry (Err Badf))))
renumber_step p pid from to exact there None e within same s displaced t = unchanged_step p pid (table_of p pid) exact there refl
renumber_step p pid from to exact there (Some d) e false same s displaced t = unchanged_step p pid (table_of p pid) exact there refl
renumber_step p pid from to exact there (Some d) e true true s displaced t = unchanged_step p pid (table_of p pid) exact there refl
renumber_step p pid from to exact there (Some d) e true false s None t = record {
  references = λ q. omega (arith, exact.references q, names-moved (table_of p pid) from to q d e (different from to s), ap (part q) t, pairs-changed p pid (remove (insert (table_of p pid) to d) from) p.descs there q);
  referred = exact.referred;
}
renumber_step p pid from to exact there (Some d) e true false s (Some x) t = record {
  references = λ q. omega (arith, exact.references q, references-release p.descs x.id q, names-moved (table_of p pid) from to q d e (different from to s), ap (part q) t, pairs-changed p pid (remove (insert (table_of p pid) to d) from) (after_release p.descs x.id) there q);
  referred = AreReferred-release p.descs x.id exact.referred;
}

close_step : (p : Processes) (pid fd : ℕ) → AreExact p → IsSome (get p.tables pid) → (entry : Option Descriptor) → get (table_of p pid) fd ≡ entry → AreExact (with_table p pid (remove (table_of p pid) fd) (released_closed p.descs (ok_or (option_map (λ d. d.id) entry) Badf)))
close_step p pid fd exact there None e = unchanged_step p pid (remove (table_of p pid) fd) exact there (remove_absent nat_cmp_total nat_cmp-IsAntisymmetric (table_of p pid) fd e)
close_step p pid fd exact there (Some d) e = record {
  references = λ q. omega (arith, exact.references q, references-release p.descs d.id q, total-remove (names q) nat_cmp_total nat_cmp-IsAntisymmetric (table_of p pid) fd, ap (part q) e, pairs-changed p pid (remove (table_of p pid) fd) (after_release p.descs d.id) there q);
  referred = AreReferred-release p.descs d.id exact.referred;
}

fork_step : (p : Processes) (parent child : ℕ) → AreExact p → IsSome (get p.tables parent) → get p.tables child ≡ None → AreExact (with_table p child (table_of p parent) (all_shared p.descs (ids_of (table_of p parent))))
fork_step p parent child exact there new =
    let all : (id : ℕ) → 0 < times id (ids_of (table_of p parent)) → 0 < references_of p.descs id
    = λ id h. omega (arith, h, times-ids id (table_of p parent), pairs-of_table p parent there id, exact.references id) in
    record {
      references = λ q. omega (arith, exact.references q, references-all_shared p.descs (ids_of (table_of p parent)) q all, times-ids q (table_of p parent), pairs-added p child (table_of p parent) (all_shared p.descs (ids_of (table_of p parent))) new q);
      referred = AreReferred-all_shared p.descs (ids_of (table_of p parent)) exact.referred;
    }

exec_step : (p : Processes) (pid : ℕ) → AreExact p → IsSome (get p.tables pid) → AreExact (with_table p pid (after_exec (table_of p pid)) (all_released p.descs (dropped_ids (table_of p pid))))
exec_step p pid exact there = record {
  references = λ q. omega (arith, exact.references q, references-all_released p.descs (dropped_ids (table_of p pid)) q, names-exec (table_of p pid) q 128, pairs-changed p pid (after_exec (table_of p pid)) (all_released p.descs (dropped_ids (table_of p pid))) there q);
  referred = AreReferred-all_released p.descs (dropped_ids (table_of p pid)) exact.referred;
}

end_step : (p : Processes) (pid : ℕ) → AreExact p → IsSome (get p.tables pid) → AreExact (record { tables = remove p.tables pid; descs = all_released p.descs (ids_of (table_of p pid)) })
end_step p pid exact there = record {
  references = λ q.
      let had : option_map_or (names_in q) (get p.tables pid) 0 ≡ names_in q (table_of p pid) = ap (λ (o : Option Table). option_map_or (names_in q) o 0) (is_there p pid there) in
      omega (arith, had, exact.references q, references-all_released p.descs (ids_of (table_of p pid)) q, times-ids q (table_of p pid), total-remove (names_in q) nat_cmp_total nat_cmp-IsAntisymmetric p.tables pid);
  referred = AreReferred-all_released p.descs (ids_of (table_of p pid)) exact.referred;
}

new_step : (p : Processes) (pid : ℕ) → AreExact p → get p.tables pid ≡ None → AreExact (with_table p pid empty p.descs)
new_step p pid exact new = record {
  references = λ q. omega (arith, exact.references q, total-empty (names q) nat_cmp, pairs-added p pid empty p.descs new q);
  referred = exact.referred;
}

-- every step keeps the counts
step_exact : (p : Processes) (step : Operation) → AreExact p → MayCome p step → AreExact (after_operation p step)
step_exact p (New pid) exact may = new_step p pid exact may
step_exact p (Open pid id d) exact may = open_step p pid id d exact may.0 may.1 (lowest_free (table_of p pid)) refl
step_exact p (Dup pid fd) exact may = dup_step p pid fd exact may (get (table_of p pid) fd) refl (lowest_free (table_of p pid)) refl
step_exact p (Renumber pid from to) exact may = renumber_step p pid from to exact may (get (table_of p pid) from) refl (nat_lt to 128) (from == to) refl (get (table_of p pid) to) refl
step_exact p (Close pid fd) exact may = close_step p pid fd exact may (get (table_of p pid) fd) refl
step_exact p (Fork parent child) exact may = fork_step p parent child exact may.0 may.1
step_exact p (Exec pid) exact may = exec_step p pid exact may
step_exact p (End pid) exact may = end_step p pid exact may

-- the scan over all tables finds an end exactly where one is open
ends_agree : (p : Processes) → AreExact p → (pipe : ℕ) (writing : Bool) → end_left p.descs pipe writing ≡ some_names_end p pipe writing
ends_agree p exact pipe writing = both_ways _ _ named open_end
  where
    -- a number that names an id is a descriptor of it
    is_named : (id : ℕ) (d : Descriptor) → 0 < names id d → d.id ≡ id
    is_named id d h = grind (arith, nat_tests)

    named : end_left p.descs pipe writing ≡ true → some_names_end p pipe writing ≡ true
    named h =
        let end : (id : ℕ) × (o : Opened) × (get p.descs.opens id ≡ Some o) × (is_end pipe writing o.description.kind ≡ true)
        = found_where nat_cmp_total (λ o. is_end pipe writing o.description.kind) p.descs.opens h in
        let counted : references_of p.descs end.0 ≡ end.1.references = ap (λ (o : Option Opened). option_map_or (λ x. x.references) o 0) end.2 in
        let process : (pid : ℕ) × (table : Table) × (get p.tables pid ≡ Some table) × (0 < names_in end.0 table)
        = total-positive (names_in end.0) nat_cmp_total p.tables (omega (arith, counted, exact.references end.0, exact.referred.each end.0 end.1 end.2)) in
        let descriptor : (fd : ℕ) × (d : Descriptor) × (get process.1 fd ≡ Some d) × (0 < names end.0 d) = total-positive (names end.0) nat_cmp_total process.1 process.3 in
        let names_it : names_end p.descs pipe writing descriptor.1 ≡ true
        = ap (λ id. option_map_or (λ o. is_end pipe writing o.description.kind) (get p.descs.opens id) false) (is_named end.0 descriptor.1 descriptor.3)
        ∙ ap (λ (o : Option Opened). option_map_or (λ x. is_end pipe writing x.description.kind) o false) end.2 ∙ end.3 in
        any_value (λ table. list_any (names_end p.descs pipe writing) (values table)) p.tables process.0 process.1 process.2
        (any_value (names_end p.descs pipe writing) process.1 descriptor.0 descriptor.1 descriptor.2 names_it)

    opened_end : (id : ℕ) (entry : Option Opened) → get p.descs.opens id ≡ entry → option_map_or (λ o. is_end pipe writing o.description.kind) entry false ≡ true → end_left p.descs pipe writing ≡ true
    opened_end id None e h = cc
    opened_end id (Some o) e h = any_value (λ o. is_end pipe writing o.description.kind) p.descs.opens id o e h

    open_end : some_names_end p pipe writing ≡ true → end_left p.descs pipe writing ≡ true
    open_end h =
        let process : (pid : ℕ) × (table : Table) × (get p.tables pid ≡ Some table) × (list_any (names_end p.descs pipe writing) (values table) ≡ true)
        = found_where nat_cmp_total (λ table. list_any (names_end p.descs pipe writing) (values table)) p.tables h in
        let descriptor : (fd : ℕ) × (d : Descriptor) × (get process.1 fd ≡ Some d) × (names_end p.descs pipe writing d ≡ true)
        = found_where nat_cmp_total (names_end p.descs pipe writing) process.1 process.3 in
        opened_end descriptor.1.id (get p.descs.opens descriptor.1.id) refl descriptor.3

steps_exact : (p : Processes) (steps : List Operation) → AreExact p → AllMayCome p steps → CountsAgree (after_operations p steps)
steps_exact p [] exact may = record { references = exact.references; ends = ends_agree p exact }
steps_exact p (step ∷ rest) exact may = steps_exact (after_operation p step) rest (step_exact p step exact may.0) may.1

-- from no process and no description on
pub counts_stay : (next : ℕ) → CountsStay (record { opens = empty; next = next })
counts_stay next steps may = steps_exact (no_processes (record { opens = empty; next = next })) steps start may
  where
    start : AreExact (no_processes (record { opens = empty; next = next }))
    start = record {
      references = λ id. ap (λ (o : Option Opened). option_map_or (λ x. x.references) o 0) (get-empty nat_cmp id) ∙ sym (total-empty (names_in id) nat_cmp);
      referred = record { each = λ id o e. absurd (none-some o (sym (get-empty nat_cmp id) ∙ e)) };
    }
