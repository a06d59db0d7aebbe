-- What the fields of a text say, with the identifiers as they stand there: WebAssembly Core 1.0, sections 6.4 to 6.6.
use Rattle.std.specs.Prelude.{ℕ, Bool, List, Option, map}
use Rattle.std.specs.Option.{option_to_list}
use Rattle.wasm_ast.specs.declared.types.ValType.{ValType}
use Rattle.wasm_ast.specs.declared.types.FuncType.{FuncType}
use Rattle.wasm_ast.specs.declared.types.Limits.{Limits}
use Rattle.wasm_ast.specs.declared.instr.Instr.{Instr}
use Rattle.wasm_ast.specs.declared.instr.VariableOp.{VariableOp}
use Rattle.wasm_ast.specs.declared.instr.BlockKind.{BlockKind}

-- an identifier, where there is one
abbrev pub Identifier : Type 0
Identifier = Option (List ℕ)

-- an index: a number, or an identifier that is bound to it (6.3.5)
pub data Reference : Type 0 where
  Number : (index : ℕ) → Reference
  Named : (identifier : List ℕ) → Reference

-- a parameter or a local (6.4.3, 6.6.5)
pub record Variable : Type 0 where
  pub name : Identifier
  pub of : ValType

-- the use of a type: `(type x)`, inline parameters and a result, or both (6.6.3)
pub record TypeUse : Type 0 where
  pub named : Option Reference
  pub params : List Variable
  pub result : Option ValType

-- An instruction that has no inner instructions, with its immediates (6.5). `Alone` are those that name nothing.
pub data Plain : Type 0 where
  Alone : (i : Instr) → Plain
  Br : (label : Reference) → Plain
  BrIf : (label : Reference) → Plain
  BrTable : (labels : List Reference) (default : Reference) → Plain
  Call : (function : Reference) → Plain
  CallIndirect : (of : TypeUse) → Plain
  OnVariable : (op : VariableOp) (index : Reference) → Plain

-- Instructions with their blocks inside them (6.5). A block has its label and its type; `repeated` are the labels at its `else`
-- and its `end`.
pub data Instructions : Type 0 where
  Done : Instructions
  Then : (i : Plain) (rest : Instructions) → Instructions
  Block : (kind : BlockKind) (label : Identifier) (repeated : List Identifier) (of : Option ValType) (body rest : Instructions) → Instructions
  If : (label : Identifier) (repeated : List Identifier) (of : Option ValType) (first second rest : Instructions) → Instructions

-- what an export names (6.6.8)
pub data Exported : Type 0 where
  Function : (index : Reference) → Exported
  Table : (index : Reference) → Exported
  Memory : (index : Reference) → Exported
  Global : (index : Reference) → Exported

-- a function of the module's own (6.6.5)
pub record FunctionParts : Type 0 where
  pub name : Identifier
  pub exports : List (List ℕ)
  pub of : TypeUse
  pub locals : List Variable
  pub body : Instructions

-- what a field says (6.6)
pub data Field : Type 0 where
  TypeField : (name : Identifier) (of : FuncType) → Field
  ImportFunction : (from field : List ℕ) (name : Identifier) (of : TypeUse) → Field
  ImportMemory : (from field : List ℕ) (name : Identifier) (of : Limits) → Field
  FunctionField : (f : FunctionParts) → Field
  TableField : (name : Identifier) (of : Limits) → Field
  MemoryField : (name : Identifier) (exports : List (List ℕ)) (of : Limits) → Field
  GlobalField : (name : Identifier) (of : ValType) (mutable : Bool) (value : Instr) → Field
  ExportField : (name : List ℕ) (of : Exported) → Field
  StartField : (function : Reference) → Field
  ElementField : (offset : Instr) (functions : List Reference) → Field
  DataField : (offset : Instr) (bytes : List ℕ) → Field

abbrev pub function_type : TypeUse → FuncType
function_type of = record { params = map (λ v. v.of) of.params; results = option_to_list of.result }

-- something in a line of the text
pub record InLine (A : Type 0) : Type 0 where
  pub line : ℕ
  pub value : A
