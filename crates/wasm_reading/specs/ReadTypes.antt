-- Reading types.
use Rattle.std.specs.Prelude.{ℕ, Bool, true, false, ◌==◌, if◌then◌else◌, List, Option, Some, None}
use Rattle.std.specs.Option.{option_map}
use Rattle.wasm_ast.specs.declared.types.{ValType.ValType, FuncType.FuncType, Limits.Limits}
use Rattle.wasm_ast.specs.declared.types.ValType.TheVariants.{I32, I64, F32, F64}
use Rattle.wasm_reading.specs.ReadValues.{and_then, mapped, pair_at, next_at, behind_at, u32_at, vec_at, byte_as}

-- the value type of a byte
abbrev pub valtype_of : ℕ → Option ValType
valtype_of b = if b == 0x7F then Some I32 else (if b == 0x7E then Some I64 else (if b == 0x7D then Some F32 else (if b == 0x7C then Some F64 else None)))

abbrev pub valtype_at : List ℕ → Option (ValType × List ℕ)
valtype_at bytes = byte_as valtype_of bytes

abbrev pub blocktype_of : ℕ → Option (Option ValType)
blocktype_of b = if b == 0x40 then Some None else option_map (λ of. Some of) (valtype_of b)

abbrev pub blocktype_at : List ℕ → Option (Option ValType × List ℕ)
blocktype_at bytes = byte_as blocktype_of bytes

abbrev pub functype_at : List ℕ → Option (FuncType × List ℕ)
functype_at bytes = mapped (λ f. record { params = f.0; results = f.1 }) (behind_at 0x60 (pair_at (vec_at valtype_at) (vec_at valtype_at))) bytes

abbrev pub one_limit : ℕ → Limits
one_limit min = record { min = min; max = None; shared = false }

abbrev pub two_limits : Bool → ℕ × ℕ → Limits
two_limits shared l = record { min = l.0; max = Some l.1; shared = shared }

abbrev pub bounded_at : Bool → List ℕ → Option (Limits × List ℕ)
bounded_at shared bytes = mapped (two_limits shared) (pair_at u32_at u32_at) bytes

-- limits that aren't shared, behind their flag
abbrev pub unshared_at : ℕ → List ℕ → Option (Limits × List ℕ)
unshared_at b bytes = if b == 0x00 then mapped one_limit u32_at bytes else (if b == 0x01 then bounded_at false bytes else None)

abbrev pub memory_at : List ℕ → Option (Limits × List ℕ)
memory_at bytes = and_then (next_at bytes) (λ b rest. if b == 0x03 then bounded_at true rest else unshared_at b rest)

abbrev pub table_at : List ℕ → Option (Limits × List ℕ)
table_at bytes = behind_at 0x70 (λ rest. and_then (next_at rest) unshared_at) bytes

abbrev pub flag_of : ℕ → Option Bool
flag_of b = if b == 0x00 then Some false else (if b == 0x01 then Some true else None)

abbrev pub flag_at : List ℕ → Option (Bool × List ℕ)
flag_at bytes = byte_as flag_of bytes

abbrev pub globaltype_at : List ℕ → Option ((ValType × Bool) × List ℕ)
globaltype_at bytes = pair_at valtype_at flag_at bytes
