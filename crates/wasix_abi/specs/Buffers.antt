-- Lists of buffers in a memory (WASI preview 1, `ciovec_array`): an entry has eight bytes, four for
-- the buffer's address and four for its length, each number with its lowest byte first.
use Rattle.std.specs.Prelude.{ℕ, zero, suc, Bool, ◌+◌, List, [], ◌∷◌, sum_by}
use Rattle.std.specs.List.{list_all, flat_map}
use Rattle.linear_memory.specs.LinearMemory.{is_within, range_of}
use Rattle.linear_memory.specs.Accesses.{number_at}

pub record Buffer : Type 0 where
  pub address : ℕ
  pub len : ℕ

-- the number in the four bytes at an address
abbrev pub word_at : List ℕ → ℕ → ℕ
word_at memory at = number_at memory at 4

-- the buffer that the entry at an address names
abbrev pub buffer_at : List ℕ → ℕ → Buffer
buffer_at memory at = record { address = word_at memory at; len = word_at memory (at + 4) }

-- the buffers that a list of n entries at an address names
abbrev pub buffers_at : List ℕ → ℕ → ℕ → List Buffer
buffers_at memory at zero = []
buffers_at memory at (suc n) = buffer_at memory at ∷ buffers_at memory (at + 8) n

-- whether each of the buffers lies within the memory
abbrev pub all_within : List ℕ → List Buffer → Bool
all_within memory buffers = list_all (λ b. is_within memory b.address b.len) buffers

-- how many bytes the buffers have in sum
abbrev pub total_len : List Buffer → ℕ
total_len buffers = sum_by (λ b. b.len) buffers

-- the bytes of the buffers, one buffer after the other
abbrev pub gathered : List ℕ → List Buffer → List ℕ
gathered memory buffers = flat_map (λ b. range_of memory b.address b.len) buffers
