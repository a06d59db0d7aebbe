-- Reading types takes just what is spelled so.
use Rattle.std.proofs.Common.{◌≡◌, ℕ, Bool, true, false, cond, List, [], ◌∷◌, ◌++◌, Option, Some, None, refl, sym, ◌∙◌, ap, arith}
use Rattle.wasm_ast.specs.declared.types.{ValType.ValType, Limits.Limits}
use Rattle.wasm_ast.specs.declared.types.ValType.TheVariants.{I32, I64, F32, F64}
use Rattle.wasm_ast.specs.Spelling.{Joined, Behind, SpellsU32}
use Rattle.wasm_ast.specs.CanonInstr.{block_type_byte}
use Rattle.wasm_ast.specs.SpelledTypes.{valtype_byte, SpellsValType, SpellsBlockType, SpellsFuncType, LimitsForm, SpellsMemory, SpellsTable, SpellsGlobalType}
use Rattle.wasm_reading.specs.ReadValues.{and_then, pair_at, next_at, u32_at, IsExact}
use Rattle.wasm_reading.specs.ReadTypes.{valtype_of, valtype_at, blocktype_of, blocktype_at, functype_at, one_limit, two_limits, memory_at, unshared_at, table_at, flag_of, globaltype_at}
use Rattle.wasm_reading.proofs.ValueLaws.{mapped_exact, pair_exact, behind_exact, u32_exact, vec_exact, byte_exact, exact_as, no_tag, tag_takes, tagged_takes, tag_again}

valtype_of_is : (b : ℕ) (x : ValType) → valtype_of b ≡ Some x → b ≡ valtype_byte x
valtype_of_is b x h = grind arith

of_valtype : (x : ValType) → valtype_of (valtype_byte x) ≡ Some x
of_valtype I32 = refl
of_valtype I64 = refl
of_valtype F32 = refl
of_valtype F64 = refl

pub valtype_exact : IsExact SpellsValType valtype_at
valtype_exact = byte_exact valtype_of valtype_byte valtype_of_is of_valtype

blocktype_of_is : (b : ℕ) (x : Option ValType) → blocktype_of b ≡ Some x → b ≡ block_type_byte x
blocktype_of_is b x h = grind arith

of_blocktype : (x : Option ValType) → blocktype_of (block_type_byte x) ≡ Some x
of_blocktype None = refl
of_blocktype (Some I32) = refl
of_blocktype (Some I64) = refl
of_blocktype (Some F32) = refl
of_blocktype (Some F64) = refl

to_blocktype : (bytes : List ℕ) (x : Option ValType) → bytes ≡ block_type_byte x ∷ [] → SpellsBlockType bytes x
to_blocktype bytes None h = h
to_blocktype bytes (Some of) h = h

from_blocktype : (bytes : List ℕ) (x : Option ValType) → SpellsBlockType bytes x → bytes ≡ block_type_byte x ∷ []
from_blocktype bytes None h = h
from_blocktype bytes (Some of) h = h

pub blocktype_exact : IsExact SpellsBlockType blocktype_at
blocktype_exact = exact_as SpellsBlockType to_blocktype from_blocktype (byte_exact blocktype_of block_type_byte blocktype_of_is of_blocktype)

pub functype_exact : IsExact SpellsFuncType functype_at
functype_exact = mapped_exact SpellsFuncType (λ f. record { params = f.0; results = f.1 }) (behind_exact 0x60 (pair_exact (vec_exact valtype_exact) (vec_exact valtype_exact)))
    (λ bytes x s. s) (λ bytes f s. ((f.params, f.results), s, refl))

-- limits behind their byte
abbrev Two : List ℕ → ℕ × ℕ → Type 0
Two bytes l = Joined (λ a. SpellsU32 a l.0) (λ b. SpellsU32 b l.1) bytes

two_exact : IsExact Two (pair_at u32_at u32_at)
two_exact = pair_exact u32_exact u32_exact

limits_again : (min : ℕ) (max : Option ℕ) (shared : Bool) (front rest : List ℕ) → LimitsForm min max shared front → memory_at (front ++ rest) ≡ Some (record { min = min; max = max; shared = shared }, rest)
limits_again min None false front rest h = tag_again memory_at 0x00 one_limit u32_exact (λ bytes. refl) front rest min h
limits_again min (Some max) false front rest h = tag_again memory_at 0x01 (two_limits false) two_exact (λ bytes. refl) front rest (min, max) h
limits_again min (Some max) true front rest h = tag_again memory_at 0x03 (two_limits true) two_exact (λ bytes. refl) front rest (min, max) h
limits_again min None true front rest h = absurd h

pub memory_exact : IsExact SpellsMemory memory_at
memory_exact = record {
  takes = tagged_takes
      (tag_takes 0x03 (two_limits true) two_exact (λ front x s. (refl, s))
      (tag_takes 0x00 one_limit u32_exact (λ front x s. (refl, s)) (tag_takes 0x01 (two_limits false) two_exact (λ front x s. (refl, s)) (no_tag SpellsMemory))));
  again = λ front rest l h. limits_again l.min l.max l.shared front rest h;
}

-- limits that aren't shared
abbrev Unshared : List ℕ → Limits → Type 0
Unshared bytes l = (l.shared ≡ false) × LimitsForm l.min l.max false bytes

abbrev unshared_limits_at : List ℕ → Option (Limits × List ℕ)
unshared_limits_at bytes = and_then (next_at bytes) unshared_at

unshared_again : (min : ℕ) (max : Option ℕ) (front rest : List ℕ) → LimitsForm min max false front → unshared_limits_at (front ++ rest) ≡ Some (record { min = min; max = max; shared = false }, rest)
unshared_again min None front rest h = tag_again unshared_limits_at 0x00 one_limit u32_exact (λ bytes. refl) front rest min h
unshared_again min (Some max) front rest h = tag_again unshared_limits_at 0x01 (two_limits false) two_exact (λ bytes. refl) front rest (min, max) h

unshared_exact : IsExact Unshared unshared_limits_at
unshared_exact = record {
  takes = tagged_takes (tag_takes 0x00 one_limit u32_exact (λ front x s. (refl, (refl, s))) (tag_takes 0x01 (two_limits false) two_exact (λ front x s. (refl, (refl, s))) (no_tag Unshared)));
  again = λ front rest l h. unshared_again l.min l.max front rest h.1 ∙ ap (λ s. Some (record { min = l.min; max = l.max; shared = s }, rest)) (sym h.0);
}

to_table : (bytes : List ℕ) (l : Limits) → Behind 0x70 (λ a. Unshared a l) bytes → SpellsTable bytes l
to_table [] l h = absurd h
to_table (b ∷ bytes) l h = (h.1.0, (h.0, h.1.1))

from_table : (bytes : List ℕ) (l : Limits) → SpellsTable bytes l → Behind 0x70 (λ a. Unshared a l) bytes
from_table [] l h = absurd h.1
from_table (b ∷ bytes) l h = (h.1.0, (h.0, h.1.1))

pub table_exact : IsExact SpellsTable table_at
table_exact = exact_as SpellsTable to_table from_table (behind_exact 0x70 unshared_exact)

flag_of_is : (b : ℕ) (x : Bool) → flag_of b ≡ Some x → b ≡ cond x 0x01 0x00
flag_of_is b x h = grind arith

of_flag : (x : Bool) → flag_of (cond x 0x01 0x00) ≡ Some x
of_flag true = refl
of_flag false = refl

abbrev pub GlobalType : List ℕ → ValType × Bool → Type 0
GlobalType bytes g = SpellsGlobalType bytes g.0 g.1

pub globaltype_exact : IsExact GlobalType globaltype_at
globaltype_exact = exact_as GlobalType
    (λ bytes g j. j.parts ∙ ap (λ a. a ++ j.back) j.first ∙ ap (λ b. valtype_byte g.0 ∷ b) j.second)
    (λ bytes g h. record { front = valtype_byte g.0 ∷ []; back = cond g.1 0x01 0x00 ∷ []; parts = h; first = refl; second = refl })
    (pair_exact valtype_exact (byte_exact flag_of (λ x. cond x 0x01 0x00) flag_of_is of_flag))
