-- The counts of open ends after a description was opened, changed or closed.
use Rattle.std.proofs.Common.{◌≡◌, ℕ, ◌+◌, ◌-◌, ◌<◌, ◌≤◌, Bool, true, false, cond, [], Option, Some, None, is_some, IsSomeAnd, Result, Ok, Err, is_err, OnOk, ltb, refl, sym, ap, ◌∙◌, arith}
use Rattle.std.specs.Bool.{if◌then◌else◌}
use Rattle.std.specs.Option.{option_map_or}
use Rattle.std.specs.BTreeMap.{BTreeMap}
use Rattle.std.specs.List.{list_any}
use Rattle.std.proofs.lemmas.Grind.{common_steps}
use Rattle.finite_maps.proofs.Maps.{nat_cmp-IsAntisymmetric, total-empty, total-insert, total-remove, total-le_len, total-any, part-le_total, nat_cmp, nat_cmp_total, get, insert, remove, empty, values, len, len-empty, len-insert, len-remove, total}
use Rattle.open_desc.specs.Prelude.{Opens, is_end, count_of, end_weight, Counts, AreCounted, Kind, Opened}

-- 1 for an end of the pipe
abbrev weight : ℕ → Bool → Kind → ℕ
weight pipe writing kind = if is_end pipe writing kind then 1 else 0

-- what an entry adds to a sum
part : (opens : Opens) (id : ℕ) (f : Opened → ℕ) (o : Opened) → get opens id ≡ Some o → option_map_or f (get opens id) 0 ≡ f o
part opens id f o e = ap (λ entry. option_map_or f entry 0) e

nothing : (opens : Opens) (id : ℕ) (f : Opened → ℕ) → get opens id ≡ None → option_map_or f (get opens id) 0 ≡ 0
nothing opens id f e = ap (λ entry. option_map_or f entry 0) e

Counts-changed : (opens : Opens) (counts : BTreeMap ℕ ℕ) (writing : Bool) (id : ℕ) (o v : Opened) → Counts counts opens writing → get opens id ≡ Some o → o.description.kind ≡ v.description.kind → Counts counts (insert opens id v) writing
Counts-changed opens counts writing id o v counted e kind pipe =
    let same : end_weight pipe writing o ≡ end_weight pipe writing v = ap (weight pipe writing) kind in
    omega (arith, counted pipe, total-insert (end_weight pipe writing) nat_cmp_total opens id v, part opens id (end_weight pipe writing) o e, same)

pub AreCounted-changed : (opens : Opens) (readers writers : BTreeMap ℕ ℕ) (id : ℕ) (o v : Opened) → AreCounted opens readers writers → get opens id ≡ Some o → o.description.kind ≡ v.description.kind → AreCounted (insert opens id v) readers writers
AreCounted-changed opens readers writers id o v counted e kind = record {
  few = omega (arith, counted.few, len-insert nat_cmp_total opens id v ∙ ap (λ entry. cond (is_some entry) (len opens) (len opens + 1)) e);
  reading = Counts-changed opens readers false id o v counted.reading e kind;
  writing = Counts-changed opens writers true id o v counted.writing e kind;
}

Counts-opened : (opens : Opens) (old new : BTreeMap ℕ ℕ) (writing : Bool) (id : ℕ) (v : Opened) → Counts old opens writing → get opens id ≡ None → ((q : ℕ) → count_of new q ≡ count_of old q + weight q writing v.description.kind) → Counts new (insert opens id v) writing
Counts-opened opens old new writing id v counted e more pipe =
    omega (arith, counted pipe, more pipe, total-insert (end_weight pipe writing) nat_cmp_total opens id v, nothing opens id (end_weight pipe writing) e)

pub AreCounted-opened : (opens : Opens) (readers writers readers' writers' : BTreeMap ℕ ℕ) (id : ℕ) (v : Opened) → AreCounted opens readers writers → get opens id ≡ None → len opens < 1024 → ((q : ℕ) → count_of readers' q ≡ count_of readers q + weight q false v.description.kind) → ((q : ℕ) → count_of writers' q ≡ count_of writers q + weight q true v.description.kind) → AreCounted (insert opens id v) readers' writers'
AreCounted-opened opens readers writers readers' writers' id v counted e room more_readers more_writers = record {
  few = omega (arith, room, len-insert nat_cmp_total opens id v ∙ ap (λ entry. cond (is_some entry) (len opens) (len opens + 1)) e);
  reading = Counts-opened opens readers readers' false id v counted.reading e more_readers;
  writing = Counts-opened opens writers writers' true id v counted.writing e more_writers;
}

Counts-closed : (opens : Opens) (old new : BTreeMap ℕ ℕ) (writing : Bool) (id : ℕ) (o : Opened) → Counts old opens writing → get opens id ≡ Some o → ((q : ℕ) → count_of new q + weight q writing o.description.kind ≡ count_of old q) → Counts new (remove opens id) writing
Counts-closed opens old new writing id o counted e fewer pipe =
    omega (arith, counted pipe, fewer pipe, total-remove (end_weight pipe writing) nat_cmp_total nat_cmp-IsAntisymmetric opens id, part opens id (end_weight pipe writing) o e)

pub AreCounted-closed : (opens : Opens) (readers writers readers' writers' : BTreeMap ℕ ℕ) (id : ℕ) (o : Opened) → AreCounted opens readers writers → get opens id ≡ Some o → ((q : ℕ) → count_of readers' q + weight q false o.description.kind ≡ count_of readers q) → ((q : ℕ) → count_of writers' q + weight q true o.description.kind ≡ count_of writers q) → AreCounted (remove opens id) readers' writers'
AreCounted-closed opens readers writers readers' writers' id o counted e fewer_readers fewer_writers = record {
  few = omega (arith, counted.few, len-remove nat_cmp_total opens id ∙ ap (λ entry. cond (is_some entry) (len opens - 1) (len opens)) e);
  reading = Counts-closed opens readers readers' false id o counted.reading e fewer_readers;
  writing = Counts-closed opens writers writers' true id o counted.writing e fewer_writers;
}

-- an open end is counted
pub counted_end : (opens : Opens) (counts : BTreeMap ℕ ℕ) (writing : Bool) (id : ℕ) (o : Opened) → Counts counts opens writing → get opens id ≡ Some o → (q : ℕ) → weight q writing o.description.kind ≤ count_of counts q
counted_end opens counts writing id o counted e q =
    omega (arith, counted q, part-le_total (end_weight q writing) nat_cmp_total nat_cmp-IsAntisymmetric opens id, part opens id (end_weight q writing) o e)

at_most_one : (b : Bool) → ◌≤◌ (if b then 1 else 0) 1
at_most_one true = omega arith
at_most_one false = omega arith

-- a count has room for one more
pub count-small : (opens : Opens) (counts : BTreeMap ℕ ℕ) (writing : Bool) → Counts counts opens writing → len opens ≤ 1024 → (q : ℕ) → count_of counts q ≤ 1024
count-small opens counts writing counted few q =
    omega (arith, counted q, few, total-le_len (end_weight q writing) opens (λ o. at_most_one (is_end q writing o.description.kind)))

pub AreCounted-none : (opens : Opens) (readers writers : BTreeMap ℕ ℕ) → opens ≡ empty → readers.entries ≡ [] → writers.entries ≡ [] → AreCounted opens readers writers
AreCounted-none opens readers writers none no_readers no_writers = record {
  few = omega (arith, ap len none, len-empty nat_cmp Opened);
  reading = Counts-none readers false no_readers;
  writing = Counts-none writers true no_writers;
}
  where
    Counts-none : (counts : BTreeMap ℕ ℕ) (writing : Bool) → counts.entries ≡ [] → Counts counts opens writing
    Counts-none counts writing e pipe = zero_of counts pipe e ∙ sym (ap (total (end_weight pipe writing)) none ∙ total-empty (end_weight pipe writing) nat_cmp)
      where
        zero_of : (counts : BTreeMap ℕ ℕ) (pipe : ℕ) → counts.entries ≡ [] → count_of counts pipe ≡ 0
        zero_of counts pipe e = grind (arith, common_steps)

-- the counts tell whether an end is open
pub end_left-counted : (opens : Opens) (counts : BTreeMap ℕ ℕ) (writing : Bool) → Counts counts opens writing → (pipe : ℕ) → ltb 0 (count_of counts pipe) ≡ list_any (λ o. is_end pipe writing o.description.kind) (values opens)
end_left-counted opens counts writing counted pipe = ap (ltb 0) (counted pipe) ∙ total-any (λ o. is_end pipe writing o.description.kind) opens

-- an entry of a kind
pub entry_of : (o : Option Opened) (kind : Kind) → IsSomeAnd o (λ x. x.description.kind ≡ kind) → (x : Opened) × (o ≡ Some x) × (x.description.kind ≡ kind)
entry_of None kind p = absurd p
entry_of (Some x) kind p = (x, refl, p)

pub on_ok : {X E P : Type 0} (r : Result X E) → is_err r ≡ false → OnOk r P → P
on_ok (Ok x) e p = p
on_ok (Err x) e p = cc
