-- The words of which the names of instructions are made: WebAssembly Core 1.0, section A.7, and the
-- threads proposal. An instruction on whole numbers is named by its type, a point, and a word; one that
-- moves fewer bits than the type has says how many.
use Rattle.std.specs.Prelude.{◌≡◌, ℕ, List, [], ◌++◌, codes}
use Rattle.wasm_ast.specs.declared.types.IntType.{IntType}
use Rattle.wasm_ast.specs.declared.types.IntType.TheVariants as int
use Rattle.wasm_ast.specs.declared.instr.CompareOp.{CompareOp}
use Rattle.wasm_ast.specs.declared.instr.CompareOp.TheVariants.{Eq, Ne, LtS, LtU, GtS, GtU, LeS, LeU, GeS, GeU}
use Rattle.wasm_ast.specs.declared.instr.UnaryOp.{UnaryOp}
use Rattle.wasm_ast.specs.declared.instr.UnaryOp.TheVariants.{Clz, Ctz, Popcnt}
use Rattle.wasm_ast.specs.declared.instr.BinaryOp.{BinaryOp}
use Rattle.wasm_ast.specs.declared.instr.BinaryOp.TheVariants as binary
use Rattle.wasm_ast.specs.declared.instr.ConvertOp.{ConvertOp}
use Rattle.wasm_ast.specs.declared.instr.ConvertOp.TheVariants.{Wrap, ExtendS, ExtendU}
use Rattle.wasm_ast.specs.declared.instr.NumericOp.{NumericOp}
use Rattle.wasm_ast.specs.declared.instr.NumericOp.TheVariants.{Eqz, Compare, Unary, Binary, Convert}
use Rattle.wasm_ast.specs.declared.instr.VariableOp.{VariableOp}
use Rattle.wasm_ast.specs.declared.instr.VariableOp.TheVariants.{LocalGet, LocalSet, LocalTee, GlobalGet, GlobalSet}
use Rattle.wasm_ast.specs.declared.instr.Form.{Form}
use Rattle.wasm_ast.specs.declared.instr.Form.TheVariants as form
use Rattle.wasm_ast.specs.declared.instr.LoadOp.{LoadOp}
use Rattle.wasm_ast.specs.declared.instr.LoadOp.TheVariants as load
use Rattle.wasm_ast.specs.declared.instr.RmwOp.{RmwOp}
use Rattle.wasm_ast.specs.declared.instr.RmwOp.TheVariants as rmw
use Rattle.wasm_ast.specs.declared.instr.Access.{Access}
use Rattle.wasm_ast.specs.declared.instr.Access.TheVariants.{Load, Store, Notify, Wait, AtomicLoad, AtomicStore, AtomicRmw, AtomicCompareExchange}
use Rattle.wasm_ast.specs.Operators.{form_type, load_type}

-- a word behind a type and a point
abbrev pub typed : IntType → List ℕ → List ℕ
typed int.I32 word = codes "i32." ++ word
typed int.I64 word = codes "i64." ++ word

abbrev pub compare_word : CompareOp → List ℕ
compare_word Eq = codes "eq"
compare_word Ne = codes "ne"
compare_word LtS = codes "lt_s"
compare_word LtU = codes "lt_u"
compare_word GtS = codes "gt_s"
compare_word GtU = codes "gt_u"
compare_word LeS = codes "le_s"
compare_word LeU = codes "le_u"
compare_word GeS = codes "ge_s"
compare_word GeU = codes "ge_u"

abbrev pub unary_word : UnaryOp → List ℕ
unary_word Clz = codes "clz"
unary_word Ctz = codes "ctz"
unary_word Popcnt = codes "popcnt"

abbrev pub binary_word : BinaryOp → List ℕ
binary_word binary.Add = codes "add"
binary_word binary.Sub = codes "sub"
binary_word binary.Mul = codes "mul"
binary_word binary.DivS = codes "div_s"
binary_word binary.DivU = codes "div_u"
binary_word binary.RemS = codes "rem_s"
binary_word binary.RemU = codes "rem_u"
binary_word binary.And = codes "and"
binary_word binary.Or = codes "or"
binary_word binary.Xor = codes "xor"
binary_word binary.Shl = codes "shl"
binary_word binary.ShrS = codes "shr_s"
binary_word binary.ShrU = codes "shr_u"
binary_word binary.Rotl = codes "rotl"
binary_word binary.Rotr = codes "rotr"

-- a conversion is named by the type that it gives
abbrev pub convert_type : ConvertOp → IntType
convert_type Wrap = int.I32
convert_type ExtendS = int.I64
convert_type ExtendU = int.I64

abbrev pub convert_word : ConvertOp → List ℕ
convert_word Wrap = codes "wrap_i64"
convert_word ExtendS = codes "extend_i32_s"
convert_word ExtendU = codes "extend_i32_u"

abbrev pub numeric_type : NumericOp → IntType
numeric_type (Eqz of) = of
numeric_type (Compare of op) = of
numeric_type (Unary of op) = of
numeric_type (Binary of op) = of
numeric_type (Convert op) = convert_type op

abbrev pub numeric_word : NumericOp → List ℕ
numeric_word (Eqz of) = codes "eqz"
numeric_word (Compare of op) = compare_word op
numeric_word (Unary of op) = unary_word op
numeric_word (Binary of op) = binary_word op
numeric_word (Convert op) = convert_word op

abbrev pub numeric_name : NumericOp → List ℕ
numeric_name op = typed (numeric_type op) (numeric_word op)

abbrev pub variable_name : VariableOp → List ℕ
variable_name LocalGet = codes "local.get"
variable_name LocalSet = codes "local.set"
variable_name LocalTee = codes "local.tee"
variable_name GlobalGet = codes "global.get"
variable_name GlobalSet = codes "global.set"

abbrev pub load_word : LoadOp → List ℕ
load_word load.I32 = codes "load"
load_word load.I64 = codes "load"
load_word load.I32From8S = codes "load8_s"
load_word load.I32From8U = codes "load8_u"
load_word load.I32From16S = codes "load16_s"
load_word load.I32From16U = codes "load16_u"
load_word load.I64From8S = codes "load8_s"
load_word load.I64From8U = codes "load8_u"
load_word load.I64From16S = codes "load16_s"
load_word load.I64From16U = codes "load16_u"
load_word load.I64From32S = codes "load32_s"
load_word load.I64From32U = codes "load32_u"

-- how many bits are moved, where they are fewer than the type has
abbrev pub bits : Form → List ℕ
bits form.I32 = []
bits form.I64 = []
bits form.I32Low8 = codes "8"
bits form.I32Low16 = codes "16"
bits form.I64Low8 = codes "8"
bits form.I64Low16 = codes "16"
bits form.I64Low32 = codes "32"

-- that they are extended by zeros
abbrev pub extension : Form → List ℕ
extension form.I32 = []
extension form.I64 = []
extension of = codes "_u"

abbrev pub rmw_word : RmwOp → List ℕ
rmw_word rmw.Add = codes "add"
rmw_word rmw.Sub = codes "sub"
rmw_word rmw.And = codes "and"
rmw_word rmw.Or = codes "or"
rmw_word rmw.Xor = codes "xor"
rmw_word rmw.Exchange = codes "xchg"

-- the word of an atomic access behind its type and `atomic.`
abbrev pub rmw_form_word : Form → List ℕ → List ℕ
rmw_form_word of word = codes "rmw" ++ (bits of ++ (codes "." ++ (word ++ extension of)))

abbrev pub store_word : Form → List ℕ
store_word of = codes "store" ++ bits of

abbrev pub atomic_load_word : Form → List ℕ
atomic_load_word of = codes "load" ++ (bits of ++ extension of)

-- a word behind a type and `atomic.`
abbrev pub atomic : IntType → List ℕ → List ℕ
atomic of word = typed of (codes "atomic." ++ word)

abbrev pub access_name : Access → List ℕ
access_name (Load op) = typed (load_type op) (load_word op)
access_name (Store of) = typed (form_type of) (store_word of)
access_name Notify = codes "memory.atomic.notify"
access_name (Wait int.I32) = codes "memory.atomic.wait32"
access_name (Wait int.I64) = codes "memory.atomic.wait64"
access_name (AtomicLoad of) = atomic (form_type of) (atomic_load_word of)
access_name (AtomicStore of) = atomic (form_type of) (store_word of)
access_name (AtomicRmw op of) = atomic (form_type of) (rmw_form_word of (rmw_word op))
access_name (AtomicCompareExchange of) = atomic (form_type of) (rmw_form_word of (codes "cmpxchg"))

-- an atomic read, modify and write of this form, with its word: the compare and exchange among them
abbrev pub IsModify : Form → Access → List ℕ → Type 0
IsModify of (AtomicRmw op other) word = (other ≡ of) × (rmw_word op ≡ word)
IsModify of (AtomicCompareExchange other) word = (other ≡ of) × (codes "cmpxchg" ≡ word)
IsModify of a word = ⊥

-- the same with the extension of its form behind the word
abbrev pub IsExtended : Form → Access → List ℕ → Type 0
IsExtended of (AtomicRmw op other) word = (other ≡ of) × (rmw_word op ++ extension of ≡ word)
IsExtended of (AtomicCompareExchange other) word = (other ≡ of) × (codes "cmpxchg" ++ extension of ≡ word)
IsExtended of a word = ⊥

-- the same behind a type and `atomic.`
abbrev pub IsRmwNamed : IntType → Access → List ℕ → Type 0
IsRmwNamed of (AtomicRmw op other) word = (form_type other ≡ of) × (rmw_form_word other (rmw_word op) ≡ word)
IsRmwNamed of (AtomicCompareExchange other) word = (form_type other ≡ of) × (rmw_form_word other (codes "cmpxchg") ≡ word)
IsRmwNamed of a word = ⊥

-- an access that isn't atomic, of this type and word
abbrev pub IsPlainNamed : IntType → Access → List ℕ → Type 0
IsPlainNamed of (Load op) word = (load_type op ≡ of) × (load_word op ≡ word)
IsPlainNamed of (Store form) word = (form_type form ≡ of) × (store_word form ≡ word)
IsPlainNamed of a word = ⊥

-- an atomic access of this type and word
abbrev pub IsAtomicNamed : IntType → Access → List ℕ → Type 0
IsAtomicNamed of (AtomicLoad form) word = (form_type form ≡ of) × (atomic_load_word form ≡ word)
IsAtomicNamed of (AtomicStore form) word = (form_type form ≡ of) × (store_word form ≡ word)
IsAtomicNamed of a word = IsRmwNamed of a word
