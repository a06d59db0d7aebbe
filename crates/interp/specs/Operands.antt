-- The operands that an instruction finds.
use Rattle.std.specs.Prelude.{ℕ, ◌+◌, ◌<◌, ◌≤◌, ◌==◌, if◌then◌else◌, List, [], ◌∷◌, length, take, reverse}
use Rattle.wasm_ast.specs.declared.types.ValType.{ValType}
use Rattle.wasm_ast.specs.declared.types.ValType.TheVariants.{I32}
use Rattle.wasm_ast.specs.declared.instr.Instr.{Instr}
use Rattle.wasm_ast.specs.declared.instr.Instr.TheVariants as instr
use Rattle.wasm_ast.specs.declared.instr.VariableOp.{VariableOp}
use Rattle.wasm_ast.specs.declared.instr.VariableOp.TheVariants.{LocalGet, LocalSet, LocalTee, GlobalGet, GlobalSet}
use Rattle.wasm_ast.specs.Operators.{numeric_operands, access_operands}
use Rattle.guest_state.specs.Fits.{HaveTypes}
use Rattle.guest_state.specs.Snapshot.{Snapshot, branch_arity, locals_of, open_count, operands_of, result_arity}

-- the last operands, in the order in which they were pushed, are of these types
abbrev pub HaveLast : List ValType → List ℕ → Type 0
HaveLast types operands = HaveTypes types (reverse (take (length types) operands))

-- what an instruction takes whose row computes with its operands (3.3.1, 3.3.4); others only move theirs or compare them
abbrev pub computed_operands : Instr → List ValType
computed_operands (instr.Numeric op) = numeric_operands op
computed_operands (instr.Access op arg) = access_operands op
computed_operands instr.MemoryGrow = I32 ∷ []
computed_operands i = []

-- the local or the global of that index is there, and the operand for it
abbrev pub HasVariable : VariableOp → ℕ → Snapshot → Type 0
HasVariable LocalGet x s = x < length (locals_of s)
HasVariable LocalSet x s = (x < length (locals_of s)) × (1 ≤ length (operands_of s))
HasVariable LocalTee x s = (x < length (locals_of s)) × (1 ≤ length (operands_of s))
HasVariable GlobalGet x s = x < length s.globals
HasVariable GlobalSet x s = (x < length s.globals) × (1 ≤ length (operands_of s))

-- it has no inner list, and is no branch, call or return
abbrev pub IsPlain : Instr → Type 0
IsPlain (instr.Block of body) = ⊥
IsPlain (instr.Loop of body) = ⊥
IsPlain (instr.If of first second) = ⊥
IsPlain (instr.Br n) = ⊥
IsPlain (instr.BrIf n) = ⊥
IsPlain (instr.BrTable targets) = ⊥
IsPlain instr.Return = ⊥
IsPlain (instr.Call x) = ⊥
IsPlain (instr.CallIndirect of) = ⊥
IsPlain i = Unit {0}

-- what such an instruction finds of a thread; of any other nothing is asked
abbrev pub IsReady : Instr → Snapshot → Type 0
IsReady instr.Drop s = 1 ≤ length (operands_of s)
IsReady instr.Select s = 3 ≤ length (operands_of s)
IsReady (instr.Variable op x) s = HasVariable op x s
IsReady (instr.Access op arg) s = HaveLast (access_operands op) (operands_of s)
IsReady instr.MemoryGrow s = HaveLast (I32 ∷ []) (operands_of s)
IsReady (instr.Numeric op) s = HaveLast (numeric_operands op) (operands_of s)
IsReady instr.Float s = ⊥
IsReady i s = Unit {0}

-- how many operands a branch takes along: that to a label, or that out of all blocks
abbrev pub taken_along : ℕ → Snapshot → ℕ
taken_along n s = if n == open_count s then result_arity s else branch_arity n s

-- the label is there, and below so many operands those that a branch to it takes along
pub record CanBranch (n over : ℕ) (s : Snapshot) : Type 0 where
  pub within : n ≤ open_count s
  pub enough : over + taken_along n s ≤ length (operands_of s)
