-- The tables of several processes over the open descriptions that they share, and what calls do to both
-- (POSIX.1-2017, 2.14; `open`, `dup`, `close`, `fork`, `exec` and `exit`).
use Rattle.std.specs.Prelude.{◌≡◌, ℕ, Bool, false, ◌==◌, if◌then◌else◌, List, [], ◌∷◌, map, Option, Some, None, IsSome, unwrap_or, Result, Ok, Err}
use Rattle.std.specs.Option.{option_map_or}
use Rattle.std.specs.List.{list_any}
use Rattle.std.specs.Ordering.{nat_cmp}
use Rattle.std.specs.FinMap.{FinMap, get, insert, remove, empty, values}
use Rattle.wx_types.specs.declared.errors.Errno.{Errno}
use Rattle.fd_table.specs.declared.table.Descriptor.{Descriptor}
use Rattle.fd_table.specs.Table.{Table, lowest_free, after_put, dup_answer, after_dup, renumber_answer, after_renumber, close_answer, after_close, dropped_ids, after_exec}
use Rattle.finite_maps.specs.Maps.{total}
use Rattle.open_desc.specs.Descriptions.{Descriptions, references_of, after_open, after_share, after_release, is_end, end_left}
use Rattle.open_desc.specs.declared.description.Description.{Description}

-- the tables by process, and the open descriptions
pub record Processes : Type 0 where
  pub tables : FinMap nat_cmp Table
  pub descs : Descriptions

-- how many descriptors of a table, and how many pairs of a process and a descriptor, name an id
abbrev pub names : ℕ → Descriptor → ℕ
names id d = if d.id == id then 1 else 0

abbrev pub names_in : ℕ → Table → ℕ
names_in id table = total (names id) table

abbrev pub pairs_naming : Processes → ℕ → ℕ
pairs_naming p id = total (names_in id) p.tables

-- some descriptor of some process names an end of the pipe
abbrev pub names_end : Descriptions → ℕ → Bool → Descriptor → Bool
names_end descs pipe writing d = option_map_or (λ o. is_end pipe writing o.description.kind) (get descs.opens d.id) false

abbrev pub some_names_end : Processes → ℕ → Bool → Bool
some_names_end p pipe writing = list_any (λ table. list_any (names_end p.descs pipe writing) (values table)) (values p.tables)

-- one call with what follows it at once
pub data Operation : Type 0 where
  -- a new process with an empty table
  New : ℕ → Operation
  -- a process opens a description, to which this id was given, and puts it into its table, or releases
  -- it where the table is full
  Open : ℕ → ℕ → Description → Operation
  -- `dup`, with one more reference to the description
  Dup : ℕ → ℕ → Operation
  -- a renumbering, with a release of what is handed back
  Renumber : ℕ → ℕ → ℕ → Operation
  -- `close`, with a release
  Close : ℕ → ℕ → Operation
  -- a fork, with one more reference for each descriptor of the child
  Fork : ℕ → ℕ → Operation
  -- an exec, with a release for each descriptor that it closes
  Exec : ℕ → Operation
  -- the end of a process, with a release for each of its descriptors
  End : ℕ → Operation

-- a process's table, an empty one where it has none
abbrev pub table_of : Processes → ℕ → Table
table_of p pid = unwrap_or (get p.tables pid) empty

abbrev pub ids_of : Table → List ℕ
ids_of table = map (λ d. d.id) (values table)

abbrev pub with_table : Processes → ℕ → Table → Descriptions → Processes
with_table p pid table descs = record { tables = insert p.tables pid table; descs = descs }

-- one more, or one fewer, reference for each of these ids
abbrev pub all_shared : Descriptions → List ℕ → Descriptions
all_shared descs [] = descs
all_shared descs (id ∷ ids) = all_shared (after_share descs id) ids

abbrev pub all_released : Descriptions → List ℕ → Descriptions
all_released descs [] = descs
all_released descs (id ∷ ids) = all_released (after_release descs id) ids

-- the descriptions after an `open` and a `put`, after a `dup`, after a renumbering, after a `close`
abbrev pub put_or_released : Descriptions → ℕ → Option ℕ → Descriptions
put_or_released descs id (Some fd) = descs
put_or_released descs id None = after_release descs id

abbrev pub shared_where : Descriptions → Option Descriptor → Result ℕ Errno → Descriptions
shared_where descs (Some d) (Ok fd) = after_share descs d.id
shared_where descs (Some d) (Err e) = descs
shared_where descs None answer = descs

abbrev pub released_displaced : Descriptions → Result (Option ℕ) Errno → Descriptions
released_displaced descs (Ok (Some id)) = after_release descs id
released_displaced descs (Ok None) = descs
released_displaced descs (Err e) = descs

abbrev pub released_closed : Descriptions → Result ℕ Errno → Descriptions
released_closed descs (Ok id) = after_release descs id
released_closed descs (Err e) = descs

abbrev pub after_operation : Processes → Operation → Processes
after_operation p (New pid) = with_table p pid empty p.descs
after_operation p (Open pid id description) =
    with_table p pid (after_put (table_of p pid) id) (put_or_released (after_open p.descs id description) id (lowest_free (table_of p pid)))
after_operation p (Dup pid fd) =
    with_table p pid (after_dup (table_of p pid) fd) (shared_where p.descs (get (table_of p pid) fd) (dup_answer (table_of p pid) fd))
after_operation p (Renumber pid from to) =
    with_table p pid (after_renumber (table_of p pid) from to) (released_displaced p.descs (renumber_answer (table_of p pid) from to))
after_operation p (Close pid fd) =
    with_table p pid (after_close (table_of p pid) fd) (released_closed p.descs (close_answer (table_of p pid) fd))
after_operation p (Fork parent child) = with_table p child (table_of p parent) (all_shared p.descs (ids_of (table_of p parent)))
after_operation p (Exec pid) = with_table p pid (after_exec (table_of p pid)) (all_released p.descs (dropped_ids (table_of p pid)))
after_operation p (End pid) = record { tables = remove p.tables pid; descs = all_released p.descs (ids_of (table_of p pid)) }

-- when an operation may come: its process has a table, a new process has none yet, and the id of a new
-- description was free
abbrev pub MayCome : Processes → Operation → Type 0
MayCome p (New pid) = get p.tables pid ≡ None
MayCome p (Open pid id description) = IsSome (get p.tables pid) × (get p.descs.opens id ≡ None)
MayCome p (Dup pid fd) = IsSome (get p.tables pid)
MayCome p (Renumber pid from to) = IsSome (get p.tables pid)
MayCome p (Close pid fd) = IsSome (get p.tables pid)
MayCome p (Fork parent child) = IsSome (get p.tables parent) × (get p.tables child ≡ None)
MayCome p (Exec pid) = IsSome (get p.tables pid)
MayCome p (End pid) = IsSome (get p.tables pid)

abbrev pub after_operations : Processes → List Operation → Processes
after_operations p [] = p
after_operations p (operation ∷ rest) = after_operations (after_operation p operation) rest

abbrev pub AllMayCome : Processes → List Operation → Type 0
AllMayCome p [] = Unit {0}
AllMayCome p (operation ∷ rest) = MayCome p operation × AllMayCome (after_operation p operation) rest

-- each description has as many references as pairs name it, and an end of a pipe is left exactly where
-- some descriptor names it
pub record CountsAgree (p : Processes) : Type 0 where
  pub references : (id : ℕ) → references_of p.descs id ≡ pairs_naming p id
  pub ends : (pipe : ℕ) (writing : Bool) → end_left p.descs pipe writing ≡ some_names_end p pipe writing

-- no process yet
abbrev pub no_processes : Descriptions → Processes
no_processes descs = record { tables = empty; descs = descs }

-- so it is after any operations
abbrev pub CountsStay : Descriptions → Type 0
CountsStay descs = (operations : List Operation) → AllMayCome (no_processes descs) operations → CountsAgree (after_operations (no_processes descs) operations)
