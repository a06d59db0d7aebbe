-- What an access gives and the memory that it leaves, or why it traps: loads and stores (WebAssembly Core 1.0, 4.4.4) and
-- the atomic accesses of the threads proposal. An address has its offset added, and doesn't wrap. A width is in bytes.
use Rattle.std.specs.Prelude.{ℕ, ◌%◌, ◌==◌, if◌then◌else◌, List, length, Result, Ok, Err}
use Rattle.int_ops.specs.declared.trap.Cause.{Cause}
use Rattle.int_ops.specs.declared.trap.Cause.TheVariants.{Misaligned, OutOfBounds}
use Rattle.int_ops.specs.declared.atomic.AtomicOp.{AtomicOp}
use Rattle.int_ops.specs.Atomic.{combined}
use Rattle.linear_memory.specs.LinearMemory.{LinearMemory, is_within, range_of, with_bytes}
use Rattle.linear_memory.specs.Storage.{number_of, bytes_of}

-- the number of a width at an address
abbrev pub number_at : List ℕ → ℕ → ℕ → ℕ
number_at bytes at width = number_of (range_of bytes at width)

-- the memory with the low bytes of a number at an address
abbrev pub with_number : LinearMemory → ℕ → ℕ → ℕ → LinearMemory
with_number memory at width number = record memory { bytes = with_bytes memory.bytes at (bytes_of width number) }

-- an access traps where it passes the memory
abbrev pub accessed : {X : Type 0} → LinearMemory → ℕ → ℕ → X → Result X Cause
accessed memory at width outcome = if is_within memory.bytes at width then Ok outcome else Err OutOfBounds

-- an atomic access traps first where its address isn't a multiple of its width
abbrev pub accessed_atomically : {X : Type 0} → LinearMemory → ℕ → ℕ → X → Result X Cause
accessed_atomically memory at width outcome = if at % width == 0 then accessed memory at width outcome else Err Misaligned

abbrev pub loaded : LinearMemory → ℕ → ℕ → Result ℕ Cause
loaded memory at width = accessed memory at width (number_at memory.bytes at width)

abbrev pub stored : LinearMemory → ℕ → ℕ → ℕ → Result LinearMemory Cause
stored memory at width value = accessed memory at width (with_number memory at width value)

-- an atomic read-modify-write gives the old number
abbrev pub modified : LinearMemory → ℕ → ℕ → AtomicOp → ℕ → Result (ℕ × LinearMemory) Cause
modified memory at width op argument =
    let old = number_at memory.bytes at width in
    accessed_atomically memory at width (old, with_number memory at width (combined op old argument width))

-- A compare and exchange gives the old number. It compares it with the whole expected operand, which isn't wrapped to the
-- width, and stores the low bytes of the new one where both are equal.
abbrev pub exchanged : LinearMemory → ℕ → ℕ → ℕ → ℕ → Result (ℕ × LinearMemory) Cause
exchanged memory at width expected new =
    let old = number_at memory.bytes at width in
    accessed_atomically memory at width (old, if old == expected then with_number memory at width new else memory)

-- bytes that are written as one range
abbrev pub written : LinearMemory → ℕ → List ℕ → Result LinearMemory Cause
written memory at bytes = accessed memory at (length bytes) (record memory { bytes = with_bytes memory.bytes at bytes })
