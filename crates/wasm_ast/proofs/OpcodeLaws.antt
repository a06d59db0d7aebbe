-- The tables of opcodes hold what the encoding of instructions says.
use Rattle.std.proofs.Common.{◌≡◌, inl, inr, ℕ, zero, suc, ◌+◌, ◌≤◌, List, [], ◌∷◌, ◌++◌, length, get_or, Some, pos, refl, sym, ◌∙◌, ap, subst, arith}
use Rattle.std.specs.Option.{unwrap_or}
use Rattle.std.proofs.lemmas.Bool.Decides.{nat_tests}
use Rattle.wasm_ast.specs.declared.types.IntType.TheVariants as int
use Rattle.wasm_ast.specs.declared.instr.CompareOp.TheVariants.{Eq}
use Rattle.wasm_ast.specs.declared.instr.UnaryOp.TheVariants.{Clz}
use Rattle.wasm_ast.specs.declared.instr.BinaryOp.TheVariants as binary
use Rattle.wasm_ast.specs.declared.instr.ConvertOp.TheVariants.{Wrap}
use Rattle.wasm_ast.specs.declared.instr.NumericOp.{NumericOp}
use Rattle.wasm_ast.specs.declared.instr.NumericOp.TheVariants.{Eqz, Compare, Unary, Binary, Convert}
use Rattle.wasm_ast.specs.declared.instr.VariableOp.{VariableOp}
use Rattle.wasm_ast.specs.declared.instr.VariableOp.TheVariants.{LocalGet}
use Rattle.wasm_ast.specs.declared.instr.Form.TheVariants as form
use Rattle.wasm_ast.specs.declared.instr.LoadOp.TheVariants as load
use Rattle.wasm_ast.specs.declared.instr.RmwOp.TheVariants as rmw
use Rattle.wasm_ast.specs.declared.instr.Access.{Access}
use Rattle.wasm_ast.specs.declared.instr.Access.TheVariants.{Load, Store, Wait, AtomicLoad, AtomicStore, AtomicRmw, AtomicCompareExchange}
use Rattle.wasm_ast.specs.declared.instr.MemArg.{MemArg}
use Rattle.wasm_ast.specs.declared.instr.Instr.{Instr}
use Rattle.wasm_ast.specs.declared.instr.Instr.TheVariants as instr
use Rattle.wasm_ast.specs.declared.opcode.Opcode.{Opcode}
use Rattle.wasm_ast.specs.declared.opcode.Opcode.TheVariants as op
use Rattle.wasm_ast.specs.declared.opcode.AtomicOpcode.{AtomicOpcode}
use Rattle.wasm_ast.specs.declared.opcode.AtomicOpcode.TheVariants as atomic
use Rattle.wasm_ast.specs.declared.opcode.TheConstants.{OPCODES, ATOMIC_OPCODES}
use Rattle.wasm_ast.specs.Immediates.{Immediates, Nothing, Index, Labels, IndexAndZero, Argument, Signed32, Signed64, Raw, Never, Value, Spells}
use Rattle.wasm_ast.specs.Opcodes.{numeric_opcode, variable_opcode, access_opcode, encoding, float_immediates}
use Rattle.wasm_ast.specs.OpcodeTables.{opcode_at, atomic_at, control, plan_of, atomic_plan_of, SpellsPlan, SpellsBehind}
use Rattle.wasm_ast.specs.SpelledInstr.{SpellsPlain}

-- ---- what a table holds is what its opcodes are

abbrev numbered : {X Y : Type 0} → (ℕ → X → Y) → ℕ → List X → List Y
numbered f k [] = []
numbered f k (x ∷ xs) = f k x ∷ numbered f (suc k) xs

head_is : {Y : Type 0} (x y : Y) (xs ys : List Y) → x ∷ xs ≡ y ∷ ys → (x ≡ y) × (xs ≡ ys)
head_is x y xs ys h = (cc, cc)

each_is : {X Y : Type 0} (f : ℕ → X → Y) (g : ℕ → Y) (k : ℕ) (xs : List X) (d : X) → numbered f k xs ≡ numbered (λ j x. g j) k xs →
    ((j : ℕ) → k + length xs ≤ j → f j d ≡ g j) → (i j : ℕ) → j ≡ k + i → f j (get_or xs i d) ≡ g j
each_is f g k [] d h past i j e = past j (omega arith)
each_is f g k (x ∷ xs) d h past zero j e = subst (λ m. f m x ≡ g m) (omega arith) (head_is _ _ _ _ h).0
each_is f g k (x ∷ xs) d h past (suc i) j e = each_is f g (suc k) xs d (head_is _ _ _ _ h).1 (λ m l. past m (omega arith)) i j (omega arith)

some_value : (of : Immediates) → Value of
some_value Index = 0
some_value Labels = ([], 0)
some_value IndexAndZero = 0
some_value Argument = record { align = 0; offset = 0 }
some_value Signed32 = pos 0
some_value Signed64 = pos 0
some_value (Raw n) = []
some_value _ = tt

-- the byte of an opcode, b where the encoding has none
byte_of : ℕ → Opcode → List ℕ
byte_of b op.Illegal = b ∷ []
byte_of b op.Block = 0x02 ∷ []
byte_of b op.Loop = 0x03 ∷ []
byte_of b op.If = 0x04 ∷ []
byte_of b op.Else = 0x05 ∷ []
byte_of b op.End = 0x0B ∷ []
byte_of b op.Atomic = 0xFE ∷ []
byte_of b op.F32Const = b ∷ []
byte_of b op.F64Const = b ∷ []
byte_of b op.FloatAccess = b ∷ []
byte_of b op.Float = b ∷ []
byte_of b o = (encoding ((plan_of o).made (some_value (plan_of o).immediates))).opcode

float_of : Opcode → Immediates
float_of op.F32Const = Raw 4
float_of op.F64Const = Raw 8
float_of op.FloatAccess = Argument
float_of op.Float = Nothing
float_of o = Never

past_floats : (b : ℕ) → 256 ≤ b → Never ≡ float_immediates b
past_floats b h = grind (arith, nat_tests)

byte_is : (b : ℕ) → byte_of b (opcode_at b) ≡ b ∷ []
unfolding byte_of some_value
byte_is b = each_is byte_of (λ k. k ∷ []) 0 OPCODES op.Illegal refl (λ j h. refl) b b (omega arith)

float_is : (b : ℕ) → float_of (opcode_at b) ≡ float_immediates b
unfolding float_of
float_is b = each_is (λ k o. float_of o) float_immediates 0 OPCODES op.Illegal refl past_floats b b (omega arith)

-- the byte behind FE of an opcode
atomic_byte_of : ℕ → AtomicOpcode → List ℕ
atomic_byte_of b atomic.Illegal = 0xFE ∷ b ∷ []
atomic_byte_of b o = (encoding ((atomic_plan_of o).made (some_value (atomic_plan_of o).immediates))).opcode

atomic_opcode_is : (b : ℕ) → atomic_byte_of b (atomic_at b) ≡ 0xFE ∷ b ∷ []
unfolding atomic_byte_of some_value
atomic_opcode_is b = each_is atomic_byte_of (λ k. 0xFE ∷ k ∷ []) 0 ATOMIC_OPCODES atomic.Illegal refl (λ j h. refl) b b (omega arith)

-- ---- what stands behind an opcode of the tables is spelled

plainly : (i : Instr) (opcode bytes : List ℕ) → (encoding i).opcode ≡ opcode → Spells (encoding i).immediates bytes (encoding i).value → SpellsPlain (opcode ++ bytes) i
plainly i opcode bytes e s = inl (record { front = opcode; back = bytes; parts = refl; first = sym e; second = s })

atomic_told : (c : ℕ) (o : AtomicOpcode) → atomic_byte_of c o ≡ 0xFE ∷ c ∷ [] → (bytes : List ℕ) (i : Instr) → SpellsPlan (atomic_plan_of o) bytes i → SpellsPlain (0xFE ∷ c ∷ bytes) i
unfolding atomic_byte_of some_value
atomic_told c atomic.Illegal e bytes i h = absurd h.1
atomic_told c o e bytes i h = subst (λ z. SpellsPlain (0xFE ∷ c ∷ bytes) z) (sym h.2) (plainly ((atomic_plan_of o).made h.0) (0xFE ∷ c ∷ []) bytes e h.1)

told : (b : ℕ) (o : Opcode) → byte_of b o ≡ b ∷ [] → float_of o ≡ float_immediates b → (bytes : List ℕ) (i : Instr) → SpellsBehind o bytes i → SpellsPlain (b ∷ bytes) i
unfolding byte_of float_of some_value
told b op.Illegal e f bytes i h = absurd h.1
told b op.Block e f bytes i h = absurd h.1
told b op.Loop e f bytes i h = absurd h.1
told b op.If e f bytes i h = absurd h.1
told b op.Else e f bytes i h = absurd h.1
told b op.End e f bytes i h = absurd h.1
told b op.Atomic e f [] i h = absurd h
told b op.Atomic e f (c ∷ bytes) i h = subst (λ x. SpellsPlain (x ∷ c ∷ bytes) i) (head_is _ _ _ _ e).0 (atomic_told c (atomic_at c) (atomic_opcode_is c) bytes i h)
told b op.F32Const e f bytes i h = inr (h.2, subst (λ k. (v : Value k) × Spells k bytes v) f (h.0, h.1))
told b op.F64Const e f bytes i h = inr (h.2, subst (λ k. (v : Value k) × Spells k bytes v) f (h.0, h.1))
told b op.FloatAccess e f bytes i h = inr (h.2, subst (λ k. (v : Value k) × Spells k bytes v) f (h.0, h.1))
told b op.Float e f bytes i h = inr (h.2, subst (λ k. (v : Value k) × Spells k bytes v) f (h.0, h.1))
told b o e f bytes i h = subst (λ z. SpellsPlain (b ∷ bytes) z) (sym h.2) (plainly ((plan_of o).made h.0) (b ∷ []) bytes e h.1)

pub behind_is_spelled : (b : ℕ) (bytes : List ℕ) (i : Instr) → SpellsBehind (opcode_at b) bytes i → SpellsPlain (b ∷ bytes) i
behind_is_spelled b = told b (opcode_at b) (byte_is b) (float_is b)

-- ---- what is spelled stands behind an opcode of the tables

numeric_is : (o : NumericOp) → opcode_at (numeric_opcode o) ≡ op.Numeric o
numeric_is (Eqz int.I32) = refl
numeric_is (Compare int.I32 Eq) = refl
numeric_is (Compare int.I64 Eq) = refl
numeric_is (Unary int.I32 Clz) = refl
numeric_is (Unary int.I64 Clz) = refl
numeric_is (Binary int.I32 binary.Add) = refl
numeric_is (Binary int.I64 binary.Add) = refl
numeric_is (Convert Wrap) = refl
numeric_is _ = refl

variable_is : (o : VariableOp) → opcode_at (variable_opcode o) ≡ op.Variable o
variable_is LocalGet = refl
variable_is o = refl

-- the bytes of an instruction by the tables
Tabled : List ℕ → Instr → Type 0
Tabled [] i = ⊥
Tabled (b ∷ bytes) i = SpellsBehind (opcode_at b) bytes i

access_tabled : (o : Access) (bytes : List ℕ) (arg : MemArg) → Spells Argument bytes arg → Tabled (access_opcode o ++ bytes) (instr.Access o arg)
unfolding Tabled
access_tabled (Load load.I32) bytes arg s = (arg, s, refl)
access_tabled (Store form.I32) bytes arg s = (arg, s, refl)
access_tabled (Wait int.I32) bytes arg s = (arg, s, refl)
access_tabled (AtomicLoad form.I32) bytes arg s = (arg, s, refl)
access_tabled (AtomicStore form.I32) bytes arg s = (arg, s, refl)
access_tabled (AtomicRmw rmw.Add form.I32) bytes arg s = (arg, s, refl)
access_tabled (AtomicRmw rmw.Sub form.I32) bytes arg s = (arg, s, refl)
access_tabled (AtomicRmw rmw.And form.I32) bytes arg s = (arg, s, refl)
access_tabled (AtomicRmw rmw.Or form.I32) bytes arg s = (arg, s, refl)
access_tabled (AtomicRmw rmw.Xor form.I32) bytes arg s = (arg, s, refl)
access_tabled (AtomicRmw rmw.Exchange form.I32) bytes arg s = (arg, s, refl)
access_tabled (AtomicCompareExchange form.I32) bytes arg s = (arg, s, refl)
access_tabled o bytes arg s = (arg, s, refl)

tabled : (i : Instr) (bytes : List ℕ) → Spells (encoding i).immediates bytes (encoding i).value → Tabled ((encoding i).opcode ++ bytes) i
unfolding Tabled
tabled (instr.Block of body) bytes s = absurd s
tabled (instr.Loop of body) bytes s = absurd s
tabled (instr.If of first second) bytes s = absurd s
tabled instr.Float bytes s = absurd s
tabled (instr.Variable o index) bytes s = subst (λ z. SpellsBehind z bytes (instr.Variable o index)) (sym (variable_is o)) (index, s, refl)
tabled (instr.Access o arg) bytes s = access_tabled o bytes arg s
tabled (instr.Numeric o) bytes s = subst (λ z. SpellsBehind z bytes (instr.Numeric o)) (sym (numeric_is o)) (tt, s, refl)
tabled i bytes s = ((encoding i).value, s, refl)

floats_tabled : (o : Opcode) (bytes : List ℕ) (v : Value (float_of o)) → Spells (float_of o) bytes v → SpellsBehind o bytes instr.Float
unfolding float_of
floats_tabled op.F32Const bytes v s = (v, s, refl)
floats_tabled op.F64Const bytes v s = (v, s, refl)
floats_tabled op.FloatAccess bytes v s = (v, s, refl)
floats_tabled op.Float bytes v s = (v, s, refl)
floats_tabled o bytes v s = absurd s

pub spelled_is_behind : (b : ℕ) (bytes : List ℕ) (i : Instr) → SpellsPlain (b ∷ bytes) i → SpellsBehind (opcode_at b) bytes i
unfolding Tabled
spelled_is_behind b bytes i (inl j) = subst (λ x. Tabled x i) (sym (j.parts ∙ ap (λ a. a ++ j.back) j.first)) (tabled i j.back j.second)
spelled_is_behind b bytes i (inr h) =
    let f : (v : Value (float_of (opcode_at b))) × Spells (float_of (opcode_at b)) bytes v = subst (λ k. (v : Value k) × Spells k bytes v) (sym (float_is b)) h.1 in
    subst (λ z. SpellsBehind (opcode_at b) bytes z) (sym h.0) (floats_tabled (opcode_at b) bytes f.0 f.1)

-- an instruction has an opcode
pub plain_begins : (i : Instr) → SpellsPlain [] i → ⊥
unfolding Tabled
plain_begins i (inl j) = subst (λ x. Tabled x i) (sym (j.parts ∙ ap (λ a. a ++ j.back) j.first)) (tabled i j.back j.second)
plain_begins i (inr h) = h.1

-- ---- control

place : (b : ℕ) → unwrap_or (control (opcode_at b)) b ≡ b
place b = each_is (λ k o. unwrap_or (control o) k) (λ k. k) 0 OPCODES op.Illegal refl (λ j h. refl) b b (omega arith)

control_at : (o : Opcode) (c : ℕ) → control o ≡ Some c → opcode_at c ≡ o
control_at op.Block c h = let e : 0x02 ≡ c = cc in subst (λ x. opcode_at x ≡ op.Block) e refl
control_at op.Loop c h = let e : 0x03 ≡ c = cc in subst (λ x. opcode_at x ≡ op.Loop) e refl
control_at op.If c h = let e : 0x04 ≡ c = cc in subst (λ x. opcode_at x ≡ op.If) e refl
control_at op.Else c h = let e : 0x05 ≡ c = cc in subst (λ x. opcode_at x ≡ op.Else) e refl
control_at op.End c h = let e : 0x0B ≡ c = cc in subst (λ x. opcode_at x ≡ op.End) e refl
control_at o c h = cc

pub is_control : (b : ℕ) (o : Opcode) (c : ℕ) → control o ≡ Some c → opcode_at b ≡ o → b ≡ c
is_control b o c h e = sym (place b) ∙ ap (λ x. unwrap_or (control x) b) e ∙ ap (λ x. unwrap_or x b) h

pub control_is : (b : ℕ) (o : Opcode) (c : ℕ) → control o ≡ Some c → b ≡ c → opcode_at b ≡ o
control_is b o c h e = ap opcode_at e ∙ control_at o c h
