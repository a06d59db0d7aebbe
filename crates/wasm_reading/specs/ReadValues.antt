-- Reading from the front of a list of bytes: a value and the bytes behind it, or nothing.
use Rattle.std.specs.Prelude.{◌≡◌, ℕ, ℤ, zero, suc, ◌==◌, nat_lt, if◌then◌else◌, List, [], ◌∷◌, ◌++◌, length, take, drop, Option, Some, None}
use Rattle.std.specs.Option.{option_and_then}
use Rattle.std.specs.Result.{result_ok}
use Rattle.std.specs.Str.{is_utf8}
use Rattle.byte_cursor.specs.Integers.{BeginsWith}
use Rattle.byte_cursor.specs.ReadNumbers as cursor

-- reading, and then from the bytes behind what was read
abbrev pub and_then : {X Y : Type 0} → Option (X × List ℕ) → (X → List ℕ → Option Y) → Option Y
and_then None f = None
and_then (Some x) f = f x.0 x.1

-- what is read, as something else
abbrev pub mapped : {X Y : Type 0} → (X → Y) → (List ℕ → Option (X × List ℕ)) → List ℕ → Option (Y × List ℕ)
mapped f r bytes = and_then (r bytes) (λ x rest. Some (f x, rest))

-- two things, one after the other
abbrev pub pair_at : {X Y : Type 0} → (List ℕ → Option (X × List ℕ)) → (List ℕ → Option (Y × List ℕ)) → List ℕ → Option ((X × Y) × List ℕ)
pair_at r s bytes = and_then (r bytes) (λ x mid. and_then (s mid) (λ y rest. Some ((x, y), rest)))

-- a byte
abbrev pub next_at : List ℕ → Option (ℕ × List ℕ)
next_at [] = None
next_at (b ∷ bytes) = Some (b, bytes)

-- that byte, and what is read behind it
abbrev pub behind_at : {X : Type 0} → ℕ → (List ℕ → Option (X × List ℕ)) → List ℕ → Option (X × List ℕ)
behind_at b r bytes = and_then (next_at bytes) (λ c rest. if c == b then r rest else None)

unfoldable pub u32_at : List ℕ → Option (ℕ × List ℕ)
u32_at bytes = result_ok (cursor.unsigned_at 32 bytes)

unfoldable pub i32_at : List ℕ → Option (ℤ × List ℕ)
i32_at bytes = result_ok (cursor.signed_at 32 bytes)

unfoldable pub i64_at : List ℕ → Option (ℤ × List ℕ)
i64_at bytes = result_ok (cursor.signed_at 64 bytes)

-- so many things, each of which is added to what the earlier ones gave, if it can be
abbrev pub many_at : {S X : Type 0} → (S → X → Option S) → (List ℕ → Option (X × List ℕ)) → ℕ → S → List ℕ → Option (S × List ℕ)
many_at add r zero s bytes = Some (s, bytes)
many_at add r (suc n) s bytes = and_then (r bytes) (λ x rest. option_and_then (λ t. many_at add r n t rest) (add s x))

-- an item behind others
abbrev pub with_item : {X : Type 0} → List X → X → Option (List X)
with_item xs x = Some (xs ++ x ∷ [])

-- so many items
abbrev pub each_at : {X : Type 0} → (List ℕ → Option (X × List ℕ)) → ℕ → List ℕ → Option (List X × List ℕ)
each_at r n bytes = many_at with_item r n [] bytes

-- how many there are, and what they give
abbrev pub counted_at : {S X : Type 0} → (S → X → Option S) → (List ℕ → Option (X × List ℕ)) → S → List ℕ → Option (S × List ℕ)
counted_at add r s bytes = and_then (u32_at bytes) (λ n rest. many_at add r n s rest)

-- a vector
abbrev pub vec_at : {X : Type 0} → (List ℕ → Option (X × List ℕ)) → List ℕ → Option (List X × List ℕ)
vec_at r bytes = counted_at with_item r [] bytes

-- so many bytes
abbrev pub span_at : ℕ → List ℕ → Option (List ℕ × List ℕ)
span_at n bytes = if nat_lt (length bytes) n then None else Some (take n bytes, drop n bytes)

-- how many bytes, and so many
abbrev pub bytes_at : List ℕ → Option (List ℕ × List ℕ)
bytes_at bytes = and_then (u32_at bytes) (λ n rest. span_at n rest)

-- a name
abbrev pub name_at : List ℕ → Option (List ℕ × List ℕ)
name_at bytes = and_then (bytes_at bytes) (λ name rest. if is_utf8 name then Some (name, rest) else None)

abbrev pub if_ended : {X : Type 0} → List ℕ → Option X → Option X
if_ended [] o = o
if_ended (b ∷ bytes) o = None

-- what is read of all the bytes
abbrev pub all_of : {X : Type 0} → Option (X × List ℕ) → Option X
all_of None = None
all_of (Some x) = if_ended x.1 (Some x.0)

-- that, and bytes behind it
abbrev pub with_rest : {X : Type 0} → List ℕ → Option X → Option (X × List ℕ)
with_rest rest None = None
with_rest rest (Some x) = Some (x, rest)

-- the value of a byte
abbrev pub byte_as : {X : Type 0} → (ℕ → Option X) → List ℕ → Option (X × List ℕ)
byte_as of bytes = and_then (next_at bytes) (λ b rest. with_rest rest (of b))

-- a size, and what is read of so many bytes
abbrev pub sized_at : {X : Type 0} → (List ℕ → Option (X × List ℕ)) → List ℕ → Option (X × List ℕ)
sized_at r bytes = and_then (bytes_at bytes) (λ content rest. with_rest rest (all_of (r content)))

-- reading takes just what is spelled so
pub record IsExact {X : Type 0} (spells : List ℕ → X → Type 0) (r : List ℕ → Option (X × List ℕ)) : Type 0 where
  pub takes : (bytes : List ℕ) (x : X) (rest : List ℕ) → r bytes ≡ Some (x, rest) → BeginsWith spells bytes x rest
  pub again : (front rest : List ℕ) (x : X) → spells front x → r (front ++ rest) ≡ Some (x, rest)
