-- Numeric and memory instructions are kept: they take the operands of their operator's types, and give numbers of its result's.
use Rattle.std.proofs.Common.{ℕ, ◌+◌, Bool, true, false, cond, eqb, List, [], ◌∷◌, Result, Ok, Err, refl}
use Rattle.linear_memory.specs.LinearMemory.{LinearMemory, grown}
use Rattle.linear_memory.specs.Accesses.{number_at, with_number}
use Rattle.int_ops.specs.declared.trap.Cause.{Cause}
use Rattle.int_ops.specs.declared.trap.Cause.TheVariants.{NotShared}
use Rattle.int_ops.specs.Atomic.{combined}
use Rattle.wasm_ast.specs.declared.types.ValType.{ValType}
use Rattle.wasm_ast.specs.declared.types.ValType.TheVariants.{I32, I64}
use Rattle.wasm_ast.specs.declared.types.IntType.{IntType}
use Rattle.wasm_ast.specs.declared.instr.ConvertOp.TheVariants.{Wrap, ExtendS, ExtendU}
use Rattle.wasm_ast.specs.declared.instr.NumericOp.{NumericOp}
use Rattle.wasm_ast.specs.declared.instr.NumericOp.TheVariants.{Eqz, Compare, Unary, Binary, Convert}
use Rattle.wasm_ast.specs.declared.instr.Form.{Form}
use Rattle.wasm_ast.specs.declared.instr.Access.{Access}
use Rattle.wasm_ast.specs.declared.instr.Access.TheVariants.{Load, Store, Notify, Wait, AtomicLoad, AtomicStore, AtomicRmw, AtomicCompareExchange}
use Rattle.wasm_ast.specs.declared.module.Module.{Module}
use Rattle.wasm_ast.specs.Operators.{access_operands, access_results, form_type, load_type, numeric_operands, numeric_result, value_type}
use Rattle.wasm_ast.specs.Sequence.{Sequence}
use Rattle.wasm_numeric.specs.Numeric.{binary_value, bits, compare_value, convert_value, test_value, unary_value}
use Rattle.guest_state.specs.Fits.{HasType}
use Rattle.wasm_steps.specs.Atomic.{gives_old, operator_of, stands, wait_width}
use Rattle.wasm_steps.specs.Kept.{AtAccess, IsMemory, Keeps}
use Rattle.wasm_steps.specs.Memory.{form_width, gives_loaded, leaves_memory, load_width, step_grow}
use Rattle.wasm_steps.specs.Numeric.{step_numeric, step_one, step_two}
use Rattle.wasm_steps.specs.Step.{step_access}
use Rattle.wasm_steps.specs.Stepped.{AtNotify, AtWait, Trapped, gives}
use Rattle.wasm_steps.proofs.Memories.{access_either, atomic_either, grown_is, number_at_below, with_number_is}
use Rattle.wasm_steps.proofs.Running.{GivesType, Running, Takes, gives_kept, kept_either, leaves_kept, as_thread}
use Rattle.wasm_steps.proofs.Values.{GivesBelow, binary_below, compare_below, convert_below, form_below, has_int, int_has, load_below, test_below, unary_below}

has_result : (of : IntType) (result : Result ℕ Cause) → GivesBelow (bits of) result → GivesType (value_type of) result
has_result of (Ok value) h = has_int of value h
has_result of (Err cause) h = tt

module _ (m : Module) (r : Running m) (memory : LinearMemory) (is : IsMemory memory) where
  one_kept : (type result : ValType) (op : ℕ → ℕ) (rest : Sequence) (operands : List ℕ) → ((a : ℕ) → HasType type a → HasType result (op a)) → Takes m r rest (type ∷ []) (result ∷ []) operands
      → Keeps m (as_thread m r) (step_one memory (as_thread m r) rest op operands)
  one_kept type result op rest [] has t = absurd t.values
  one_kept type result op rest (a ∷ left) has t =
      leaves_kept m r memory is rest (type ∷ []) (result ∷ []) (a ∷ left) (op a ∷ left) t (has a t.values.0, t.values.1)

  two_kept : (type result : ValType) (op : ℕ → ℕ → Result ℕ Cause) (rest : Sequence) (operands : List ℕ) → ((a b : ℕ) → HasType type a → HasType type b → GivesType result (op a b))
      → Takes m r rest (type ∷ type ∷ []) (result ∷ []) operands → Keeps m (as_thread m r) (step_two memory (as_thread m r) rest op operands)
  two_kept type result op rest [] has t = absurd t.values
  two_kept type result op rest (b ∷ []) has t = absurd t.values.1
  two_kept type result op rest (b ∷ a ∷ left) has t =
      gives_kept m r memory is rest (type ∷ type ∷ []) result (b ∷ a ∷ left) left (op a b) t (has a b t.values.1.0 t.values.0) t.values.1.1

  pub numeric_kept : (op : NumericOp) (rest : Sequence) (operands : List ℕ) → Takes m r rest (numeric_operands op) (numeric_result op ∷ []) operands → Keeps m (as_thread m r) (step_numeric memory (as_thread m r) op rest operands)
  numeric_kept (Eqz of) rest operands t = one_kept (value_type of) I32 (test_value of) rest operands (λ a h. test_below of a) t
  numeric_kept (Compare of op) rest operands t = two_kept (value_type of) I32 (λ a b. Ok (compare_value of op a b)) rest operands (λ a b p q. compare_below of op a b) t
  numeric_kept (Unary of op) rest operands t = one_kept (value_type of) (value_type of) (unary_value of op) rest operands (λ a h. has_int of (unary_value of op a) (unary_below of op a)) t
  numeric_kept (Binary of op) rest operands t =
      two_kept (value_type of) (value_type of) (binary_value of op) rest operands (λ a b p q. has_result of (binary_value of op a b) (binary_below of op a b (int_has of a p) (int_has of b q))) t
  numeric_kept (Convert Wrap) rest operands t = one_kept I64 I32 (convert_value Wrap) rest operands (λ a h. convert_below Wrap a h) t
  numeric_kept (Convert ExtendS) rest operands t = one_kept I32 I64 (convert_value ExtendS) rest operands (λ a h. convert_below ExtendS a h) t
  numeric_kept (Convert ExtendU) rest operands t = one_kept I32 I64 (convert_value ExtendU) rest operands (λ a h. convert_below ExtendU a h) t

  -- the number at an address is one of its form's type
  old_has : (of : Form) (at : ℕ) → HasType (value_type (form_type of)) (number_at memory.bytes at (form_width of))
  old_has of at = has_int (form_type of) _ (form_below of _ (number_at_below memory at (form_width of) is))

  pub access_kept : (op : Access) (offset : ℕ) (rest : Sequence) (operands : List ℕ) → Takes m r rest (access_operands op) (access_results op) operands → AtAccess m (as_thread m r) op → Keeps m (as_thread m r) (step_access memory (as_thread m r) op offset rest operands)
  access_kept (Load op) offset rest [] t stops = absurd t.values
  access_kept (Load op) offset rest (base ∷ left) t stops =
      let of = value_type (load_type op) in
      access_either (λ x. Keeps m (as_thread m r) (gives_loaded memory (as_thread m r) rest op left x)) memory (base + offset) (load_width op) (number_at memory.bytes (base + offset) (load_width op))
      (λ within. leaves_kept m r memory is rest (I32 ∷ []) (of ∷ []) (base ∷ left) (_ ∷ left) t (has_int (load_type op) _ (load_below op _ (number_at_below memory (base + offset) (load_width op) is)), t.values.1))
      (λ cause. tt)
  access_kept (Store of) offset rest [] t stops = absurd t.values
  access_kept (Store of) offset rest (value ∷ []) t stops = absurd t.values.1
  access_kept (Store of) offset rest (value ∷ base ∷ left) t stops =
      let new = with_number memory (base + offset) (form_width of) value in
      access_either (λ x. Keeps m (as_thread m r) (leaves_memory (as_thread m r) rest left x)) memory (base + offset) (form_width of) new
      (λ within. leaves_kept m r new (with_number_is memory (base + offset) (form_width of) value is within) rest _ [] (value ∷ base ∷ left) left t t.values.1.1)
      (λ cause. tt)
  access_kept Notify offset rest [] t stops = absurd t.values
  access_kept Notify offset rest (count ∷ []) t stops = absurd t.values.1
  access_kept Notify offset rest (count ∷ base ∷ left) t stops = atomic_either (λ x. Keeps m (as_thread m r) (stands x)) memory (base + offset) 4 (AtNotify (base + offset)) (λ within. stops) (λ cause. tt)
  access_kept (Wait of) offset rest [] t stops = absurd t.values
  access_kept (Wait of) offset rest (timeout ∷ []) t stops = absurd t.values.1
  access_kept (Wait of) offset rest (timeout ∷ expected ∷ []) t stops = absurd t.values.1.1
  access_kept (Wait of) offset rest (timeout ∷ expected ∷ base ∷ left) t stops =
      kept_either m (as_thread m r) memory.shared _ (Trapped NotShared)
      (λ shared. atomic_either (λ x. Keeps m (as_thread m r) (stands x)) memory (base + offset) (wait_width of) (AtWait (wait_width of) (base + offset)) (λ within. (of, refl, stops)) (λ cause. tt))
      (λ own. tt)
  access_kept (AtomicLoad of) offset rest [] t stops = absurd t.values
  access_kept (AtomicLoad of) offset rest (base ∷ left) t stops =
      atomic_either (λ x. Keeps m (as_thread m r) (gives memory (as_thread m r) rest left x)) memory (base + offset) (form_width of) (number_at memory.bytes (base + offset) (form_width of))
      (λ within. leaves_kept m r memory is rest (I32 ∷ []) (value_type (form_type of) ∷ []) (base ∷ left) (_ ∷ left) t (old_has of (base + offset), t.values.1))
      (λ cause. tt)
  access_kept (AtomicStore of) offset rest [] t stops = absurd t.values
  access_kept (AtomicStore of) offset rest (value ∷ []) t stops = absurd t.values.1
  access_kept (AtomicStore of) offset rest (value ∷ base ∷ left) t stops =
      let new = with_number memory (base + offset) (form_width of) value in
      atomic_either (λ x. Keeps m (as_thread m r) (leaves_memory (as_thread m r) rest left x)) memory (base + offset) (form_width of) new
      (λ within. leaves_kept m r new (with_number_is memory (base + offset) (form_width of) value is within) rest _ [] (value ∷ base ∷ left) left t t.values.1.1)
      (λ cause. tt)
  access_kept (AtomicRmw op of) offset rest [] t stops = absurd t.values
  access_kept (AtomicRmw op of) offset rest (argument ∷ []) t stops = absurd t.values.1
  access_kept (AtomicRmw op of) offset rest (argument ∷ base ∷ left) t stops =
      let at = base + offset in
      let old = number_at memory.bytes at (form_width of) in
      let number = combined (operator_of op) old argument (form_width of) in
      atomic_either (λ x. Keeps m (as_thread m r) (gives_old (as_thread m r) rest left x)) memory at (form_width of) (old, with_number memory at (form_width of) number)
      (λ within. leaves_kept m r (with_number memory at (form_width of) number) (with_number_is memory at (form_width of) number is within) rest _ (value_type (form_type of) ∷ []) (argument ∷ base ∷ left) (old ∷ left) t (old_has of at, t.values.1.1))
      (λ cause. tt)
  access_kept (AtomicCompareExchange of) offset rest [] t stops = absurd t.values
  access_kept (AtomicCompareExchange of) offset rest (new ∷ []) t stops = absurd t.values.1
  access_kept (AtomicCompareExchange of) offset rest (new ∷ expected ∷ []) t stops = absurd t.values.1.1
  access_kept (AtomicCompareExchange of) offset rest (new ∷ expected ∷ base ∷ left) t stops =
      let at = base + offset in
      let old = number_at memory.bytes at (form_width of) in
      let behind = cond (eqb old expected) (with_number memory at (form_width of) new) memory in
      atomic_either (λ x. Keeps m (as_thread m r) (gives_old (as_thread m r) rest left x)) memory at (form_width of) (old, behind)
      (λ within. leaves_kept m r behind (either_is (eqb old expected) (with_number memory at (form_width of) new) (with_number_is memory at (form_width of) new is within)) rest _ (value_type (form_type of) ∷ []) (new ∷ expected ∷ base ∷ left) (old ∷ left) t (old_has of at, t.values.1.1.1))
      (λ cause. tt)
    where
      either_is : (b : Bool) (x : LinearMemory) → IsMemory x → IsMemory (cond b x memory)
      either_is b x h = elim b as (λ y. IsMemory (cond y x memory)) [ true ↦ h | false ↦ is ]

  pub grow_kept : (rest : Sequence) (operands : List ℕ) → Takes m r rest (I32 ∷ []) (I32 ∷ []) operands → Keeps m (as_thread m r) (step_grow memory (as_thread m r) rest operands)
  grow_kept rest [] t = absurd t.values
  grow_kept rest (pages ∷ left) t =
      let answer = grown memory pages in
      let new = grown_is memory pages is in
      leaves_kept m r answer.1 new.1 rest (I32 ∷ []) (I32 ∷ []) (pages ∷ left) (answer.0 ∷ left) t (new.0, t.values.1)
