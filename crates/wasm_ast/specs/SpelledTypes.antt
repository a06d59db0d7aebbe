-- Types in the binary format: WebAssembly Core 1.0, section 5.3, and the threads proposal.
use Rattle.std.specs.Prelude.{◌≡◌, ℕ, Bool, true, false, if◌then◌else◌, List, [], ◌∷◌, Option, Some, None}
use Rattle.wasm_ast.specs.declared.types.{ValType.ValType, FuncType.FuncType, Limits.Limits}
use Rattle.wasm_ast.specs.declared.types.ValType.TheVariants.{I32, I64, F32, F64}
use Rattle.wasm_ast.specs.Spelling.{Joined, Behind, SpellsU32, SpellsVec}

-- valtype (5.3.1)
abbrev pub valtype_byte : ValType → ℕ
valtype_byte I32 = 0x7F
valtype_byte I64 = 0x7E
valtype_byte F32 = 0x7D
valtype_byte F64 = 0x7C

abbrev pub SpellsValType : List ℕ → ValType → Type 0
SpellsValType bytes of = bytes ≡ valtype_byte of ∷ []

-- blocktype (5.3.2)
abbrev pub SpellsBlockType : List ℕ → Option ValType → Type 0
SpellsBlockType bytes None = bytes ≡ 0x40 ∷ []
SpellsBlockType bytes (Some of) = SpellsValType bytes of

-- functype (5.3.3)
abbrev pub SpellsFuncType : List ℕ → FuncType → Type 0
SpellsFuncType bytes f = Behind 0x60 (Joined (λ a. SpellsVec SpellsValType a f.params) (λ b. SpellsVec SpellsValType b f.results)) bytes

-- limits (5.3.4): a maximum or none; where it is shared, a maximum
abbrev pub LimitsForm : ℕ → Option ℕ → Bool → List ℕ → Type 0
LimitsForm min None false bytes = Behind 0x00 (λ a. SpellsU32 a min) bytes
LimitsForm min (Some max) false bytes = Behind 0x01 (Joined (λ a. SpellsU32 a min) (λ b. SpellsU32 b max)) bytes
LimitsForm min (Some max) true bytes = Behind 0x03 (Joined (λ a. SpellsU32 a min) (λ b. SpellsU32 b max)) bytes
LimitsForm min None true bytes = ⊥

-- memtype (5.3.5)
abbrev pub SpellsMemory : List ℕ → Limits → Type 0
SpellsMemory bytes l = LimitsForm l.min l.max l.shared bytes

-- tabletype (5.3.6): the limits aren't shared
abbrev pub SpellsTable : List ℕ → Limits → Type 0
SpellsTable bytes l = (l.shared ≡ false) × Behind 0x70 (λ a. LimitsForm l.min l.max false a) bytes

-- globaltype (5.3.7)
abbrev pub SpellsGlobalType : List ℕ → ValType → Bool → Type 0
SpellsGlobalType bytes of mutable = bytes ≡ valtype_byte of ∷ (if mutable then 0x01 else 0x00) ∷ []
