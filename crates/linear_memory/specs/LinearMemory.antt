-- Memory instances of WebAssembly Core 1.0 (4.2.8), and ranges of bytes in them.
use Rattle.std.specs.Prelude.{ℕ, Bool, ◌+◌, ◌*◌, ◌/◌, nat_le, List, ◌++◌, length, replicate, take, drop, min, if◌then◌else◌}

-- the bytes that a memory holds now, the greatest number of pages that it may grow to, and whether
-- its threads share it
pub record LinearMemory : Type 0 where
  pub bytes : List ℕ
  pub maximum : ℕ
  pub shared : Bool

-- so many pages of 65,536 bytes, all of them 0
unfoldable pub zero_pages : ℕ → List ℕ
zero_pages pages = replicate (65536 * pages) 0

-- how many pages there are
abbrev pub page_count : LinearMemory → ℕ
page_count memory = length memory.bytes / 65536

-- whether so many bytes at an address lie within the memory
abbrev pub is_within : List ℕ → ℕ → ℕ → Bool
is_within bytes at len = nat_le (at + len) (length bytes)

-- the bytes of the range of this length at an address
abbrev pub range_of : List ℕ → ℕ → ℕ → List ℕ
range_of bytes at len = take len (drop at bytes)

-- the bytes of a memory in which these ones stand from an address on
abbrev pub with_bytes : List ℕ → ℕ → List ℕ → List ℕ
with_bytes bytes at new = take at bytes ++ new ++ drop (at + length new) bytes

-- What `memory.grow` gives, and the memory behind it (4.4.4). So many pages of zeros stand behind the others, and the
-- old number of pages is given; or nothing changes and it is 2^32 - 1, where the pages would be more than the maximum
-- or than the 256 that this host has for a memory.
abbrev pub grown : LinearMemory → ℕ → ℕ × LinearMemory
grown memory pages =
    if nat_le (page_count memory + pages) (min memory.maximum 256)
    then (page_count memory, record memory { bytes = memory.bytes ++ zero_pages pages })
    else (4294967295, memory)
