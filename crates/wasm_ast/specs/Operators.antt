-- What the operators of instructions take, give and move: WebAssembly Core 1.0, sections 2.4 and 3.3,
-- and the threads proposal.
use Rattle.std.specs.Prelude.{ℕ, Bool, true, false, List, [], ◌∷◌}
use Rattle.wasm_ast.specs.declared.types.{IntType.IntType, ValType.ValType}
use Rattle.wasm_ast.specs.declared.types.IntType.TheVariants as int
use Rattle.wasm_ast.specs.declared.types.ValType.TheVariants.{I32, I64}
use Rattle.wasm_ast.specs.declared.instr.ConvertOp.TheVariants.{Wrap, ExtendS, ExtendU}
use Rattle.wasm_ast.specs.declared.instr.{NumericOp.NumericOp, Form.Form, LoadOp.LoadOp, Access.Access}
use Rattle.wasm_ast.specs.declared.instr.NumericOp.TheVariants.{Eqz, Compare, Unary, Binary, Convert}
use Rattle.wasm_ast.specs.declared.instr.Form.TheVariants as form
use Rattle.wasm_ast.specs.declared.instr.LoadOp.TheVariants as load
use Rattle.wasm_ast.specs.declared.instr.Access.TheVariants.{Load, Store, Notify, Wait, AtomicLoad, AtomicStore, AtomicRmw, AtomicCompareExchange}

-- the value type of whole numbers
abbrev pub value_type : IntType → ValType
value_type int.I32 = I32
value_type int.I64 = I64

-- what a numeric instruction takes, the first below the others (3.3.1)
abbrev pub numeric_operands : NumericOp → List ValType
numeric_operands (Eqz of) = value_type of ∷ []
numeric_operands (Compare of op) = value_type of ∷ value_type of ∷ []
numeric_operands (Unary of op) = value_type of ∷ []
numeric_operands (Binary of op) = value_type of ∷ value_type of ∷ []
numeric_operands (Convert Wrap) = I64 ∷ []
numeric_operands (Convert ExtendS) = I32 ∷ []
numeric_operands (Convert ExtendU) = I32 ∷ []

-- what a numeric instruction gives (3.3.1)
abbrev pub numeric_result : NumericOp → ValType
numeric_result (Eqz of) = I32
numeric_result (Compare of op) = I32
numeric_result (Unary of op) = value_type of
numeric_result (Binary of op) = value_type of
numeric_result (Convert Wrap) = I32
numeric_result (Convert ExtendS) = I64
numeric_result (Convert ExtendU) = I64

-- the type of the number on the stack
abbrev pub form_type : Form → IntType
form_type form.I32 = int.I32
form_type form.I64 = int.I64
form_type form.I32Low8 = int.I32
form_type form.I32Low16 = int.I32
form_type form.I64Low8 = int.I64
form_type form.I64Low16 = int.I64
form_type form.I64Low32 = int.I64

-- the exponent of the number of bytes in memory, a power of 2
abbrev pub form_exponent : Form → ℕ
form_exponent form.I32 = 2
form_exponent form.I64 = 3
form_exponent form.I32Low8 = 0
form_exponent form.I32Low16 = 1
form_exponent form.I64Low8 = 0
form_exponent form.I64Low16 = 1
form_exponent form.I64Low32 = 2

-- the type of the number that a load gives
abbrev pub load_type : LoadOp → IntType
load_type load.I32 = int.I32
load_type load.I32From8S = int.I32
load_type load.I32From8U = int.I32
load_type load.I32From16S = int.I32
load_type load.I32From16U = int.I32
load_type _ = int.I64

-- the exponent of the number of bytes that a load reads, a power of 2
abbrev pub load_exponent : LoadOp → ℕ
load_exponent load.I32 = 2
load_exponent load.I64 = 3
load_exponent load.I32From8S = 0
load_exponent load.I32From8U = 0
load_exponent load.I32From16S = 1
load_exponent load.I32From16U = 1
load_exponent load.I64From8S = 0
load_exponent load.I64From8U = 0
load_exponent load.I64From16S = 1
load_exponent load.I64From16U = 1
load_exponent load.I64From32S = 2
load_exponent load.I64From32U = 2

-- whether what a load reads is extended by its sign, and not by zeros
abbrev pub load_is_signed : LoadOp → Bool
load_is_signed load.I32From8S = true
load_is_signed load.I32From16S = true
load_is_signed load.I64From8S = true
load_is_signed load.I64From16S = true
load_is_signed load.I64From32S = true
load_is_signed _ = false

-- the exponent of the number of bytes that an access reads or writes, a power of 2; it is the
-- exponent of its natural alignment too
abbrev pub access_exponent : Access → ℕ
access_exponent (Load op) = load_exponent op
access_exponent (Store of) = form_exponent of
access_exponent Notify = 2
access_exponent (Wait int.I32) = 2
access_exponent (Wait int.I64) = 3
access_exponent (AtomicLoad of) = form_exponent of
access_exponent (AtomicStore of) = form_exponent of
access_exponent (AtomicRmw op of) = form_exponent of
access_exponent (AtomicCompareExchange of) = form_exponent of

-- whether an access is atomic, so that it wants its alignment exact
abbrev pub access_is_atomic : Access → Bool
access_is_atomic (Load op) = false
access_is_atomic (Store of) = false
access_is_atomic _ = true

-- what an access takes, the address below the others (3.3.4)
abbrev pub access_operands : Access → List ValType
access_operands (Load op) = I32 ∷ []
access_operands (Store of) = I32 ∷ value_type (form_type of) ∷ []
access_operands Notify = I32 ∷ I32 ∷ []
access_operands (Wait of) = I32 ∷ value_type of ∷ I64 ∷ []
access_operands (AtomicLoad of) = I32 ∷ []
access_operands (AtomicStore of) = I32 ∷ value_type (form_type of) ∷ []
access_operands (AtomicRmw op of) = I32 ∷ value_type (form_type of) ∷ []
access_operands (AtomicCompareExchange of) = I32 ∷ value_type (form_type of) ∷ value_type (form_type of) ∷ []

-- what an access gives (3.3.4)
abbrev pub access_results : Access → List ValType
access_results (Load op) = value_type (load_type op) ∷ []
access_results (Store of) = []
access_results Notify = I32 ∷ []
access_results (Wait of) = I32 ∷ []
access_results (AtomicLoad of) = value_type (form_type of) ∷ []
access_results (AtomicStore of) = []
access_results (AtomicRmw op of) = value_type (form_type of) ∷ []
access_results (AtomicCompareExchange of) = value_type (form_type of) ∷ []
