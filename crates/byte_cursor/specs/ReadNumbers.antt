-- Reading from the front of a list: a value and the bytes behind it, or the fault.
use Rattle.std.specs.Prelude.{◌≡◌, ℕ, ℤ, ◌-◌, nat_lt, if◌then◌else◌, List, [], ◌∷◌, length, take, drop, Option, Some, None, Result, Ok, Err}
use Rattle.std.specs.Int.{Width, byte_len, from_le_bytes}
use Rattle.byte_cursor.specs.declared.leb.CursorFault.{CursorFault}
use Rattle.byte_cursor.specs.declared.leb.CursorFault.TheVariants.{End, TooLong}
use Rattle.byte_cursor.specs.Integers.{unsigned_last, unsigned_joined, signed_last, signed_joined}

-- what a function answered, seen by view, is what reading gives
abbrev pub ReadsAs : {X Y : Type 0} → (X → Y) → Result X CursorFault → Result Y CursorFault → Type 0
ReadsAs view (Ok x) read = read ≡ Ok (view x)
ReadsAs view (Err e) read = read ≡ Err e

-- what a cursor over old answered, seen by view, and the bytes that it has left are what reading
-- gives; after a fault it has the bytes that it had
abbrev pub Gives : {X Y : Type 0} → (X → Y) → Result X CursorFault → List ℕ → List ℕ → Result (Y × List ℕ) CursorFault → Type 0
Gives view (Ok x) old new read = read ≡ Ok (view x, new)
Gives view (Err e) old new read = (read ≡ Err e) × (new ≡ old)

-- what is read first, and then from the bytes behind it
abbrev pub and_then : {X Y : Type 0} → Result X CursorFault → (X → Result Y CursorFault) → Result Y CursorFault
and_then (Ok x) f = f x
and_then (Err e) f = Err e

abbrev pub byte_at : List ℕ → Result (ℕ × List ℕ) CursorFault
byte_at [] = Err End
byte_at (b ∷ rest) = Ok (b, rest)

abbrev pub span_at : ℕ → List ℕ → Result (List ℕ × List ℕ) CursorFault
span_at n bytes = if nat_lt (length bytes) n then Err End else Ok (take n bytes, drop n bytes)

-- a number of fixed width, the lowest byte first
abbrev pub fixed_at : Width → List ℕ → Result (ℕ × List ℕ) CursorFault
fixed_at w bytes = if nat_lt (length bytes) (byte_len w) then Err End else Ok (from_le_bytes w (take (byte_len w) bytes), drop (byte_len w) bytes)

-- a last byte, where it stands for a number
abbrev pub last_at : {N : Type 0} → Option N → List ℕ → Result (N × List ℕ) CursorFault
last_at (Some n) rest = Ok (n, rest)
last_at None rest = Err TooLong

-- a number of at most this many bits
abbrev pub number_at : {N : Type 0} → (ℕ → ℕ → Option N) → (ℕ → N → N) → ℕ → List ℕ → Result (N × List ℕ) CursorFault
number_at last joined bits [] = Err End
number_at last joined bits (b ∷ rest) =
    if nat_lt b 128
    then last_at (last bits b) rest
    else (if nat_lt 7 bits then and_then (number_at last joined (bits - 7) rest) (λ m. Ok (joined b m.0, m.1)) else Err TooLong)

unfoldable pub unsigned_at : ℕ → List ℕ → Result (ℕ × List ℕ) CursorFault
unsigned_at bits bytes = number_at unsigned_last unsigned_joined bits bytes

unfoldable pub signed_at : ℕ → List ℕ → Result (ℤ × List ℕ) CursorFault
signed_at bits bytes = number_at signed_last signed_joined bits bytes
