-- The forms of plain instructions: WebAssembly Core 1.0, section 6.5, and the threads proposal.
use Rattle.std.specs.Prelude.{ℕ, zero, suc, ℤ, ◌+◌, ◌*◌, ◌==◌, Bool, true, false, ◌&&◌, nat_eq, if◌then◌else◌, List, [], ◌∷◌, codes, drop, length, Option, Some, None}
use Rattle.std.specs.List.{starts_with}
use Rattle.std.specs.Option.{option_map, option_and_then}
use Rattle.wasm_ast.specs.declared.instr.Access.{Access}
use Rattle.wasm_ast.specs.declared.instr.Instr.{Instr}
use Rattle.wasm_ast.specs.Operators.{access_exponent}
use Rattle.wat_words.specs.Numbers.{u32_of, i32_of, i64_of}
use Rattle.wat_names.specs.declared.named.Named.{Named}
use Rattle.wat_syntax.specs.Parsed.{Identifier, Reference, Variable, TypeUse, Plain, Alone, Br, BrIf, BrTable, Call, CallIndirect, OnVariable}
use Rattle.wat_fields.specs.Items.{Items, Empty, Word}
use Rattle.wat_syntax.specs.Immediates.{reference_of, one_word, one_reference, whole, use_front}
use Rattle.wasm_ast.specs.declared.instr.Instr.TheVariants as instr
use Rattle.wat_names.specs.declared.named.Named.TheVariants as named

-- no immediates
abbrev pub none : Instr → Items → Option Plain
none i Empty = Some (Alone i)
none i items = None

-- one index
abbrev pub one : (Reference → Plain) → Items → Option Plain
one made items = option_map made (one_reference items)

-- one number
abbrev pub number : (ℤ → Instr) → (List ℕ → Option ℤ) → Items → Option Plain
number made value items = option_map (λ n. Alone (made n)) (option_and_then value (one_word items))

-- indices and identifiers alone
abbrev pub references_of : Items → Option (List Reference)
references_of Empty = Some []
references_of (Word word rest) = option_and_then (λ x. option_map (λ xs. x ∷ xs) (references_of rest)) (reference_of word)
references_of items = None

-- at least one label, the last of which is the default (6.5.2)
abbrev pub with_label : Reference → Plain → Plain
with_label label (BrTable labels default) = BrTable (label ∷ labels) default
with_label label i = i

abbrev pub table : Items → Option Plain
table (Word word Empty) = option_map (λ default. BrTable [] default) (reference_of word)
table (Word word rest) = option_and_then (λ label. option_map (with_label label) (table rest)) (reference_of word)
table items = None

-- a number behind a text such as `offset=`
abbrev pub behind : List ℕ → List ℕ → Option ℕ
behind text word = if starts_with nat_eq word text then u32_of (drop (length text) word) else None

-- the exponent of a power of 2, looked for among the first so many from this one on
abbrev pub exponent_from : (count : ℕ) → (k power : ℕ) → ℕ → Option ℕ
exponent_from zero k power n = None
exponent_from (suc count) k power n = if n == power then Some k else exponent_from count (k + 1) (2 * power) n

abbrev pub exponent_of : ℕ → Option ℕ
exponent_of n = exponent_from 32 0 1 n

abbrev pub offset_of : List ℕ → Option ℕ
offset_of word = behind (codes "offset=") word

abbrev pub align_of : List ℕ → Option ℕ
align_of word = option_and_then exponent_of (behind (codes "align=") word)

abbrev pub access : Access → (align offset : ℕ) → Plain
access op align offset = Alone (instr.Access op (record { align = align; offset = offset }))

-- `offset=n`? `align=n`?: without them 0, and the natural alignment (6.5.5)
abbrev pub one_argument : Access → List ℕ → Option Plain
one_argument op word =
    if starts_with nat_eq word (codes "offset=") then option_map (λ offset. access op (access_exponent op) offset) (offset_of word)
    else option_map (λ align. access op align 0) (align_of word)

abbrev pub argument : Access → Items → Option Plain
argument op Empty = Some (access op (access_exponent op) 0)
argument op (Word word Empty) = one_argument op word
argument op (Word first (Word second Empty)) =
    option_and_then (λ offset. option_map (λ align. access op align offset) (align_of second)) (offset_of first)
argument op items = None

abbrev pub is_nameless : Identifier → Bool
is_nameless None = true
is_nameless (Some name) = false

-- parameters without identifiers
abbrev pub are_nameless : List Variable → Bool
are_nameless [] = true
are_nameless (v ∷ vs) = is_nameless v.name && are_nameless vs

-- the use of a type, which binds no names (6.5.2)
abbrev pub indirect : Option TypeUse → Option Plain
indirect None = None
indirect (Some of) = if are_nameless of.params then Some (CallIndirect of) else None

-- The instruction of a name with its immediates. Those that stand round instructions are none.
abbrev pub plain_of : Named → Items → Option Plain
plain_of named.Unreachable items = none instr.Unreachable items
plain_of named.Nop items = none instr.Nop items
plain_of named.Block items = None
plain_of named.Loop items = None
plain_of named.If items = None
plain_of named.Else items = None
plain_of named.End items = None
plain_of named.Br items = one Br items
plain_of named.BrIf items = one BrIf items
plain_of named.BrTable items = table items
plain_of named.Return items = none instr.Return items
plain_of named.Call items = one Call items
plain_of named.CallIndirect items = indirect (option_and_then whole (use_front items))
plain_of named.Drop items = none instr.Drop items
plain_of named.Select items = none instr.Select items
plain_of (named.Variable op) items = one (OnVariable op) items
plain_of (named.Access op) items = argument op items
plain_of named.MemorySize items = none instr.MemorySize items
plain_of named.MemoryGrow items = none instr.MemoryGrow items
plain_of named.Fence items = none instr.Fence items
plain_of named.I32Const items = number instr.I32Const i32_of items
plain_of named.I64Const items = number instr.I64Const i64_of items
plain_of (named.Numeric op) items = none (instr.Numeric op) items
