-- The instruction of a name: WebAssembly Core 1.0, sections 6.5 and A.7, and the threads proposal.
use Rattle.std.specs.Prelude.{ℕ, List, [], ◌∷◌, ◌++◌, map, Option}
use Rattle.std.specs.List.{find, flat_map}
use Rattle.std.specs.Str.{bytes_eq}
use Rattle.wasm_ast.specs.declared.types.IntType.{IntType}
use Rattle.wasm_ast.specs.declared.types.IntType.TheVariants as int
use Rattle.wasm_ast.specs.declared.instr.CompareOp.{CompareOp}
use Rattle.wasm_ast.specs.declared.instr.CompareOp.TheVariants.{Eq, Ne, LtS, LtU, GtS, GtU, LeS, LeU, GeS, GeU}
use Rattle.wasm_ast.specs.declared.instr.UnaryOp.{UnaryOp}
use Rattle.wasm_ast.specs.declared.instr.UnaryOp.TheVariants.{Clz, Ctz, Popcnt}
use Rattle.wasm_ast.specs.declared.instr.BinaryOp.{BinaryOp}
use Rattle.wasm_ast.specs.declared.instr.BinaryOp.TheVariants as binary
use Rattle.wasm_ast.specs.declared.instr.ConvertOp.TheVariants.{Wrap, ExtendS, ExtendU}
use Rattle.wasm_ast.specs.declared.instr.NumericOp.{NumericOp}
use Rattle.wasm_ast.specs.declared.instr.NumericOp.TheVariants.{Eqz, Compare, Unary, Binary, Convert}
use Rattle.wasm_ast.specs.declared.instr.VariableOp.{VariableOp}
use Rattle.wasm_ast.specs.declared.instr.VariableOp.TheVariants.{LocalGet, LocalSet, LocalTee, GlobalGet, GlobalSet}
use Rattle.wasm_ast.specs.declared.instr.Form.{Form}
use Rattle.wasm_ast.specs.declared.instr.Form.TheVariants as form
use Rattle.wasm_ast.specs.declared.instr.LoadOp.{LoadOp}
use Rattle.wasm_ast.specs.declared.instr.LoadOp.TheVariants as load
use Rattle.wasm_ast.specs.declared.instr.RmwOp.{RmwOp}
use Rattle.wasm_ast.specs.declared.instr.RmwOp.TheVariants as rmw
use Rattle.wasm_ast.specs.declared.instr.Access.{Access}
use Rattle.wasm_ast.specs.declared.instr.Access.TheVariants.{Load, Store, Notify, Wait, AtomicLoad, AtomicStore, AtomicRmw, AtomicCompareExchange}
use Rattle.wat_names.specs.declared.named.Named.{Named}
use Rattle.wat_names.specs.declared.named.Named.TheVariants as named
use Rattle.wat_names.specs.Rows.{name_of}

abbrev pub int_types : List IntType
int_types = int.I32 ∷ int.I64 ∷ []

abbrev pub compare_ops : List CompareOp
compare_ops = Eq ∷ Ne ∷ LtS ∷ LtU ∷ GtS ∷ GtU ∷ LeS ∷ LeU ∷ GeS ∷ GeU ∷ []

abbrev pub unary_ops : List UnaryOp
unary_ops = Clz ∷ Ctz ∷ Popcnt ∷ []

abbrev pub binary_ops : List BinaryOp
binary_ops = binary.Add ∷ binary.Sub ∷ binary.Mul ∷ binary.DivS ∷ binary.DivU ∷ binary.RemS ∷ binary.RemU ∷ binary.And ∷ binary.Or ∷ binary.Xor ∷ binary.Shl ∷ binary.ShrS ∷ binary.ShrU ∷ binary.Rotl ∷ binary.Rotr ∷ []

abbrev pub numeric_ops_of : IntType → List NumericOp
numeric_ops_of of = Eqz of ∷ (map (Compare of) compare_ops ++ (map (Unary of) unary_ops ++ map (Binary of) binary_ops))

abbrev pub numeric_ops : List NumericOp
numeric_ops = flat_map numeric_ops_of int_types ++ (Convert Wrap ∷ Convert ExtendS ∷ Convert ExtendU ∷ [])

abbrev pub variable_ops : List VariableOp
variable_ops = LocalGet ∷ LocalSet ∷ LocalTee ∷ GlobalGet ∷ GlobalSet ∷ []

abbrev pub load_ops : List LoadOp
load_ops = load.I32 ∷ load.I64 ∷ load.I32From8S ∷ load.I32From8U ∷ load.I32From16S ∷ load.I32From16U ∷ load.I64From8S ∷ load.I64From8U ∷ load.I64From16S ∷ load.I64From16U ∷ load.I64From32S ∷ load.I64From32U ∷ []

abbrev pub forms : List Form
forms = form.I32 ∷ form.I64 ∷ form.I32Low8 ∷ form.I32Low16 ∷ form.I64Low8 ∷ form.I64Low16 ∷ form.I64Low32 ∷ []

abbrev pub rmw_ops : List RmwOp
rmw_ops = rmw.Add ∷ rmw.Sub ∷ rmw.And ∷ rmw.Or ∷ rmw.Xor ∷ rmw.Exchange ∷ []

abbrev pub accesses : List Access
accesses =
    map Load load_ops ++ (map Store forms ++ (Notify ∷ Wait int.I32 ∷ Wait int.I64 ∷ map AtomicLoad forms ++ (map AtomicStore forms
    ++ (flat_map (λ op. map (AtomicRmw op) forms) rmw_ops ++ map AtomicCompareExchange forms))))

-- all instructions that have a name
abbrev pub instructions : List Named
instructions =
    named.Unreachable ∷ named.Nop ∷ named.Block ∷ named.Loop ∷ named.If ∷ named.Else ∷ named.End ∷ named.Br ∷ named.BrIf ∷ named.BrTable
    ∷ named.Return ∷ named.Call ∷ named.CallIndirect ∷ named.Drop ∷ named.Select ∷ named.MemorySize ∷ named.MemoryGrow ∷ named.Fence
    ∷ named.I32Const ∷ named.I64Const ∷ map named.Variable variable_ops ++ (map named.Access accesses ++ map named.Numeric numeric_ops)

-- the instruction that bears a name
unfoldable pub named_by : List ℕ → Option Named
named_by name = find (λ n. bytes_eq (name_of n) name) instructions
