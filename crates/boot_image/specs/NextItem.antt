-- What stands at the front of an image's entries, and the bytes behind it.
use Rattle.std.specs.Prelude.{◌≡◌, ℕ, zero, suc, List, [], ◌∷◌, Result, Ok, Err}
use Rattle.std.specs.Int.{Width, w16, w32}
use Rattle.byte_cursor.specs.declared.leb.CursorFault.{CursorFault}
use Rattle.byte_cursor.specs.declared.leb.CursorFault.TheVariants.{End}
use Rattle.byte_cursor.specs.ReadNumbers.{and_then, fixed_at, span_at}
use Rattle.boot_image.specs.Entries.{Entry, Directory, File}
use Rattle.boot_image.specs.declared.item.Item.{Item}
use Rattle.boot_image.specs.declared.item.Item.TheVariants as items

-- the byte that ends the entries, an entry, or a byte that begins neither
pub data Next : Type 0 where
  Last : Next
  One : (entry : Entry) → Next
  Other : Next

-- an item without where it lies in memory
abbrev pub seen : Item → Next
seen items.Last = Last
seen (items.Directory path) = One (record { path = path.now; content = Directory })
seen (items.File path bytes) = One (record { path = path.now; content = File bytes.now })
seen items.Other = Other

-- a length of this width, and so many bytes
unfoldable pub sized_at : Width → List ℕ → Result (List ℕ × List ℕ) CursorFault
sized_at w bytes = and_then (fixed_at w bytes) (λ n. span_at n.0 n.1)

unfoldable pub directory_at : List ℕ → Result (Next × List ℕ) CursorFault
directory_at bytes = and_then (sized_at w16 bytes) (λ path. Ok (One (record { path = path.0; content = Directory }), path.1))

unfoldable pub file_at : List ℕ → Result (Next × List ℕ) CursorFault
file_at bytes =
    and_then (sized_at w16 bytes) (λ path. and_then (sized_at w32 path.1) (λ file. Ok (One (record { path = path.0; content = File file.0 }), file.1)))

unfoldable pub next_at : List ℕ → Result (Next × List ℕ) CursorFault
next_at [] = Err End
next_at (zero ∷ rest) = Ok (Last, rest)
next_at (suc zero ∷ rest) = directory_at rest
next_at (suc (suc zero) ∷ rest) = file_at rest
next_at (suc (suc (suc b)) ∷ rest) = Ok (Other, rest)

-- What a function answered, seen by view, and the bytes that it left are what reading gives. After a fault nothing is
-- said of the bytes.
abbrev pub Reads : {X Y : Type 0} → (X → Y) → Result X CursorFault → List ℕ → Result (Y × List ℕ) CursorFault → Type 0
Reads view (Ok x) new read = read ≡ Ok (view x, new)
Reads view (Err e) new read = read ≡ Err e
