-- What an atomic read-modify-write of a width in bytes stores (threads proposal, "atomicrmw"): the narrow forms wrap their operands to the width.
use Rattle.std.specs.Prelude.{ℕ, ◌*◌, Bool, ◌||◌, ◌==◌, IsTrue}
use Rattle.int_ops.specs.declared.atomic.AtomicOp.{AtomicOp}
use Rattle.int_ops.specs.declared.atomic.AtomicOp.TheVariants.{Add, Sub, And, Or, Xor, Exchange}
use Rattle.int_ops.specs.Arithmetic.{iadd, isub}
use Rattle.int_ops.specs.Bitwise.{iand, ior, ixor}
use Rattle.int_ops.specs.Conversion.{wrap}

-- the widths of accesses in bytes, as a test that computes at a width that is written out
abbrev pub is_access_width : ℕ → Bool
is_access_width width = width == 1 || (width == 2 || (width == 4 || width == 8))

abbrev pub IsAccessWidth : ℕ → Type 0
IsAccessWidth width = IsTrue (is_access_width width)

-- the operator on two integers of N bits
abbrev pub applied : AtomicOp → ℕ → ℕ → ℕ → ℕ
applied Add N i j = iadd N i j
applied Sub N i j = isub N i j
applied And N i j = iand N i j
applied Or N i j = ior N i j
applied Xor N i j = ixor N i j
applied Exchange N i j = j

-- the operator on the low bytes of old and arg: what stands above them in either has no part in it
unfoldable pub combined : AtomicOp → ℕ → ℕ → ℕ → ℕ
combined op old arg width = let N = 8 * width in applied op N (wrap 64 N old) (wrap 64 N arg)
