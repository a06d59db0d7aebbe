-- The typing of instructions: WebAssembly Core 1.0, section 3.3, and the threads proposal, in the
-- manner of the algorithm in the appendix, section 7.3.
use Rattle.std.specs.Prelude.{ℕ, zero, suc, ◌-◌, nat_lt, nat_le, ◌==◌, Bool, true, false, ◌&&◌, if◌then◌else◌, List, [], ◌∷◌, slice_get, Option, Some, None, option_and_then, option_to_list}
use Rattle.std.specs.List.{list_all}
use Rattle.wasm_ast.specs.declared.types.{ValType.ValType, FuncType.FuncType}
use Rattle.wasm_ast.specs.declared.types.ValType.TheVariants.{I32, I64}
use Rattle.wasm_ast.specs.declared.locals.LocalGroup.{LocalGroup}
use Rattle.wasm_ast.specs.declared.instr.{Access.Access, VariableOp.VariableOp, Instr.Instr, BlockKind.BlockKind}
use Rattle.wasm_ast.specs.declared.instr.VariableOp.TheVariants.{LocalGet, LocalSet, LocalTee, GlobalGet, GlobalSet}
use Rattle.wasm_ast.specs.declared.instr.Instr.TheVariants as instr
use Rattle.wasm_ast.specs.declared.instr.BlockKind.TheVariants as kind
use Rattle.wasm_ast.specs.Types.{same_type}
use Rattle.wasm_ast.specs.Operators.{numeric_operands, numeric_result, access_exponent, access_is_atomic, access_operands, access_results}
use Rattle.wasm_ast.specs.Sequence.{Sequence, Empty, Plain, Block, If}

-- What instructions may name (3.1.1): the types of the module; of each function the index of its
-- type; how many tables and memories there are; of each global its type and whether it can be set;
-- the parameters, further locals and result of the function. Labels stand apart.
pub record Context : Type 0 where
  pub types : List FuncType
  pub functions : List ℕ
  pub tables : ℕ
  pub memories : ℕ
  pub globals : List (ValType × Bool)
  pub params : List ValType
  pub locals : List LocalGroup
  pub result : Option ValType

-- The operands of the innermost block, the last one first (7.3). The type of one is known or, in
-- code that isn't reached, may be any. Where they are unreachable, anything may stand below them.
pub record Operands : Type 0 where
  pub unreachable : Bool
  pub types : List (Option ValType)

-- the operands at the start of a block
abbrev pub no_operands : Operands
no_operands = record { unreachable = false; types = [] }

-- the operands behind an unconditional branch (3.3.5, instructions that are stack-polymorphic)
abbrev pub unreachable_operands : Operands
unreachable_operands = record { unreachable = true; types = [] }

-- an operand more
abbrev pub push_operand : Option ValType → Operands → Operands
push_operand x s = record { unreachable = s.unreachable; types = x ∷ s.types }

-- the last operand and those below it; of unreachable ones any, once there are none
abbrev pub last_of : Bool → List (Option ValType) → Option (Option ValType × Operands)
last_of false [] = None
last_of true [] = Some (None, unreachable_operands)
last_of unreachable (x ∷ xs) = Some (x, record { unreachable = unreachable; types = xs })

abbrev pub pop_operand : Operands → Option (Option ValType × Operands)
pop_operand s = last_of s.unreachable s.types

-- an operand that may be of any type is of each
abbrev pub fits : Option ValType → ValType → Bool
fits None of = true
fits (Some t) of = same_type t of

-- the operands below a last one of that type
abbrev pub pop_expected : ValType → Operands → Option Operands
pop_expected of s = option_and_then (λ p. if fits p.0 of then Some p.1 else None) (pop_operand s)

-- the operands below last ones of those types
abbrev pub pop_operands : List ValType → Operands → Option Operands
pop_operands [] s = Some s
pop_operands (t ∷ ts) s = option_and_then (pop_expected t) (pop_operands ts s)

-- operands of those types more
abbrev pub push_operands : List ValType → Operands → Operands
push_operands [] s = s
push_operands (t ∷ ts) s = push_operands ts (push_operand (Some t) s)

-- an instruction that takes and gives values of those types
abbrev pub applied : List ValType → List ValType → Operands → Option Operands
applied params results s = option_and_then (λ a. Some (push_operands results a)) (pop_operands params s)

-- the type that two operands of one type have
abbrev pub joined : Option ValType → Option ValType → Option (Option ValType)
joined None y = Some y
joined (Some t) None = Some (Some t)
joined (Some t) (Some u) = if same_type t u then Some (Some t) else None

-- select (3.3.2)
abbrev pub selected : Operands → Option Operands
selected s =
    option_and_then (λ a. option_and_then (λ p. option_and_then (λ q. option_and_then (λ t. Some (push_operand t q.1)) (joined p.0 q.0)) (pop_operand p.1)) (pop_operand a)) (pop_expected I32 s)

-- The value that a branch to a label takes, if any. Labels are counted from the innermost.
abbrev pub Labels : Type 0
Labels = List (Option ValType)

-- two labels take the same
abbrev pub same_label : Option ValType → Option ValType → Bool
same_label None None = true
same_label None (Some u) = false
same_label (Some t) None = false
same_label (Some t) (Some u) = same_type t u

-- the label of that number is there, and takes that
abbrev pub takes : Option (Option ValType) → Option ValType → Bool
takes None of = false
takes (Some x) of = same_label of x

-- what the default label of a branch table takes, where all its labels take the same
abbrev pub table_label : Labels → List ℕ → ℕ → Option (Option ValType)
table_label labels ls default =
    option_and_then (λ of. if list_all (λ l. takes (slice_get labels l) of) ls then Some of else None) (slice_get labels default)

-- behind the values that an unconditional branch takes
abbrev pub branched : Option ValType → Operands → Option Operands
branched of s = option_and_then (λ a. Some unreachable_operands) (pop_operands (option_to_list of) s)

-- the type of the local of that number, parameters first (3.3.3)
abbrev pub group_type : List LocalGroup → ℕ → Option ValType
group_type [] n = None
group_type (g ∷ gs) n = if nat_lt n g.count then Some g.of else group_type gs (n - g.count)

abbrev pub local_type : List ValType → List LocalGroup → ℕ → Option ValType
local_type [] groups n = group_type groups n
local_type (t ∷ ts) groups zero = Some t
local_type (t ∷ ts) groups (suc n) = local_type ts groups n

-- the type of the function of that index
abbrev pub function_type : Context → ℕ → Option FuncType
function_type c x = option_and_then (slice_get c.types) (slice_get c.functions x)

-- variable instructions (3.3.3)
abbrev pub after_variable : Context → VariableOp → ℕ → Operands → Option Operands
after_variable c LocalGet x s = option_and_then (λ t. Some (push_operand (Some t) s)) (local_type c.params c.locals x)
after_variable c LocalSet x s = option_and_then (λ t. pop_expected t s) (local_type c.params c.locals x)
after_variable c LocalTee x s = option_and_then (λ t. applied (t ∷ []) (t ∷ []) s) (local_type c.params c.locals x)
after_variable c GlobalGet x s = option_and_then (λ g. Some (push_operand (Some g.0) s)) (slice_get c.globals x)
after_variable c GlobalSet x s = option_and_then (λ g. if g.1 then pop_expected g.0 s else None) (slice_get c.globals x)

-- The exponent of an alignment is at most that of the access's bytes and, where that is atomic,
-- the same (3.3.4, and the threads proposal).
abbrev pub is_aligned : Access → ℕ → Bool
is_aligned op align = if access_is_atomic op then align == access_exponent op else nat_le align (access_exponent op)

-- The operands behind an instruction that has no inner list. A block, a loop and an if have inner
-- lists and don't come here; of an instruction on floats nothing is known.
abbrev pub after : Context → Labels → Instr → Operands → Option Operands
-- 3.3.5
after c labels instr.Unreachable s = Some unreachable_operands
after c labels instr.Nop s = Some s
after c labels (instr.Block of body) s = None
after c labels (instr.Loop of body) s = None
after c labels (instr.If of first second) s = None
after c labels (instr.Br l) s = option_and_then (λ of. branched of s) (slice_get labels l)
after c labels (instr.BrIf l) s =
    option_and_then (λ of. option_and_then (λ a. applied (option_to_list of) (option_to_list of) a) (pop_expected I32 s)) (slice_get labels l)
after c labels (instr.BrTable t) s =
    option_and_then (λ of. option_and_then (λ a. branched of a) (pop_expected I32 s)) (table_label labels t.0 t.1)
after c labels instr.Return s = branched c.result s
after c labels (instr.Call x) s = option_and_then (λ f. applied f.params f.results s) (function_type c x)
after c labels (instr.CallIndirect t) s =
    if nat_lt 0 c.tables then option_and_then (λ f. option_and_then (λ a. applied f.params f.results a) (pop_expected I32 s)) (slice_get c.types t) else None
-- 3.3.2
after c labels instr.Drop s = option_and_then (λ p. Some p.1) (pop_operand s)
after c labels instr.Select s = selected s
-- 3.3.3
after c labels (instr.Variable op x) s = after_variable c op x s
-- 3.3.4
after c labels (instr.Access op arg) s =
    if nat_lt 0 c.memories && is_aligned op arg.align then applied (access_operands op) (access_results op) s else None
after c labels instr.MemorySize s = if nat_lt 0 c.memories then Some (push_operand (Some I32) s) else None
after c labels instr.MemoryGrow s = if nat_lt 0 c.memories then applied (I32 ∷ []) (I32 ∷ []) s else None
after c labels instr.Fence s = Some s
-- 3.3.1
after c labels (instr.I32Const value) s = Some (push_operand (Some I32) s)
after c labels (instr.I64Const value) s = Some (push_operand (Some I64) s)
after c labels (instr.Numeric op) s = applied (numeric_operands op) (numeric_result op ∷ []) s
after c labels instr.Float s = None

-- no operands
abbrev pub is_empty : List (Option ValType) → Bool
is_empty [] = true
is_empty (x ∷ xs) = false

-- there are operands, and they are none
abbrev pub option_is_empty : Option Operands → Bool
option_is_empty None = false
option_is_empty (Some s) = is_empty s.types

-- operands that are exactly the value of a block's type, if any; none where an instruction before
-- them doesn't fit
abbrev pub leaves : Option ValType → Option Operands → Bool
leaves of None = false
leaves of (Some s) = option_is_empty (pop_operands (option_to_list of) s)

-- what a branch to a block or a loop takes (3.3.5)
abbrev pub label_of : BlockKind → Option ValType → Option ValType
label_of kind.Block of = of
label_of kind.Loop of = None

-- The operands behind a sequence of instructions (3.3.6), or none where one doesn't fit. The inner
-- sequence of a block begins without operands and leaves exactly the block's type (3.3.5).
abbrev pub typed : Context → Labels → Sequence → Operands → Option Operands
typed c labels Empty s = Some s
typed c labels (Plain i rest) s = option_and_then (typed c labels rest) (after c labels i s)
typed c labels (Block k of body rest) s =
    if leaves of (typed c (label_of k of ∷ labels) body no_operands) then typed c labels rest (push_operands (option_to_list of) s) else None
typed c labels (If of first second rest) s =
    option_and_then
    (λ a. if leaves of (typed c (of ∷ labels) first no_operands) && leaves of (typed c (of ∷ labels) second no_operands) then typed c labels rest (push_operands (option_to_list of) a) else None)
    (pop_expected I32 s)

-- the instructions of a function or an expression, which leave exactly its result (3.3.7, 3.4.1)
abbrev pub is_body : Context → Sequence → Bool
is_body c s = leaves c.result (typed c (c.result ∷ []) s no_operands)
