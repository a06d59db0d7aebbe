-- The descriptor table of a process: from numbers below 128 to an open description and a close-on-exec
-- mark (POSIX.1-2017, 2.14 and `dup`, `close`, `fork`, `exec`; WASI preview 1, `fd_renumber`).
use Rattle.std.specs.Prelude.{◌≡◌, ℕ, ◌<◌, Bool, false, ◌==◌, nat_lt, ◌&&◌, not, if◌then◌else◌, List, length, slice_index_or, Option, Some, None, is_some, Result, Ok, Err, ok_or, refl, ◌^◌}
use Rattle.std.specs.Option.{option_map, option_map_or, option_and_then}
use Rattle.std.specs.List.{find, filter_map, range_with_len}
use Rattle.std.specs.Int.{bit_at}
use Rattle.std.specs.Ordering.{nat_cmp}
use Rattle.std.specs.Coded.{Coded, code_by, coded×, coded_ℕ, coded_bool}
use Rattle.std.specs.FinMap.{FinMap, get, contains_key, insert, remove, retain_keys, code}
use Rattle.wx_types.specs.declared.errors.Errno.{Errno}
use Rattle.wx_types.specs.declared.errors.Errno.TheVariants.{Badf, Mfile}
use Rattle.fd_table.specs.declared.table.Descriptor.{Descriptor}

-- numbers to open descriptions and marks
abbrev pub Table : Type 0
Table = FinMap nat_cmp Descriptor

-- a table is stored as the pairs of its descriptors
abbrev pub table_code : Coded Table
table_code =
    code coded_ℕ (code_by (ℕ × Bool) (coded× coded_ℕ coded_bool) (λ d. (d.id, d.cloexec)) (λ p. record { id = p.0; cloexec = p.1 }) (λ _. refl))

-- a descriptor of this open description, with this mark
abbrev pub descriptor : ℕ → Bool → Descriptor
descriptor id cloexec = record { id = id; cloexec = cloexec }

-- the open description of a number
abbrev pub id_at : Table → ℕ → Option ℕ
id_at table fd = option_map (λ d. d.id) (get table fd)

-- the lowest number that is not open
unfoldable pub lowest_free : Table → Option ℕ
lowest_free table = find (λ fd. not (contains_key table fd)) (range_with_len 0 128)

-- an open description takes the lowest free number, without a mark
abbrev pub put_answer : Table → Result ℕ Errno
put_answer table = ok_or (lowest_free table) Mfile

abbrev pub after_put : Table → ℕ → Table
after_put table id = option_map_or (λ fd. insert table fd (descriptor id false)) (lowest_free table) table

-- a second number for the open description of a number
abbrev pub dup_answer : Table → ℕ → Result ℕ Errno
dup_answer table fd = option_map_or (λ _. put_answer table) (get table fd) (Err Badf)

abbrev pub after_dup : Table → ℕ → Table
after_dup table fd = option_map_or (λ d. after_put table d.id) (get table fd) table

-- the entry of one number moves to another with its mark, and what that had is handed back
abbrev pub renumber_answer : Table → ℕ → ℕ → Result (Option ℕ) Errno
renumber_answer table from to =
    option_map_or
    (λ _. if nat_lt to 128 then Ok (if from == to then None else id_at table to) else Err Badf)
    (get table from) (Err Badf)

abbrev pub after_renumber : Table → ℕ → ℕ → Table
after_renumber table from to =
    option_map_or
    (λ d. if nat_lt to 128 then (if from == to then table else remove (insert table to d) from) else table)
    (get table from) table

-- a number is closed, and its open description handed back
abbrev pub close_answer : Table → ℕ → Result ℕ Errno
close_answer table fd = ok_or (id_at table fd) Badf

abbrev pub after_close : Table → ℕ → Table
after_close table fd = remove table fd

-- the mark of a number is set or cleared
abbrev pub after_mark : Table → ℕ → Bool → Table
after_mark table fd on = option_map_or (λ d. insert table fd (descriptor d.id on)) (get table fd) table

-- the open description of a number that has a mark
abbrev pub marked_id : Table → ℕ → Option ℕ
marked_id table fd = option_and_then (λ d. if d.cloexec then Some d.id else None) (get table fd)

-- the open descriptions of the numbers below n that have a mark, by rising number
unfoldable pub marked_below : Table → ℕ → List ℕ
marked_below table n = filter_map (marked_id table) (range_with_len 0 n)

-- the table without those numbers
unfoldable pub without_marked_below : Table → ℕ → Table
without_marked_below table n = retain_keys table (λ fd. not (nat_lt fd n && is_some (marked_id table fd)))

-- an exec closes the numbers that have a mark, and their open descriptions are handed back
abbrev pub dropped_ids : Table → List ℕ
dropped_ids table = marked_below table 128

abbrev pub after_exec : Table → Table
after_exec table = without_marked_below table 128

-- 128 places, and a word with a bit for each that is not empty
pub record HasWord (places : List (Option Descriptor)) (word : ℕ) : Type 0 where
  pub all : length places ≡ 128
  pub fits : word < 2 ^ 128
  pub bits : (fd : ℕ) → fd < 128 → bit_at word fd ≡ (if is_some (slice_index_or places fd None) then 1 else 0)
