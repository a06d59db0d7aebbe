-- The rows of calls.
use Rattle.std.proofs.Common.{◌≡◌, ℕ, ◌+◌, ◌-◌, ◌<◌, ◌≤◌, List, [], ◌∷◌, length, drop, refl, sym, ap, ◌∙◌, arith, subst, Bool, true, false, ◌&&◌, Result, Ok, Err, Option, Some, None}
use Rattle.std.specs.Prelude.{slice_get, is_err, nat_lt, option_and_then, if◌then◌else◌}
use Rattle.std.proofs.lemmas.Bool.Decides.{nat_tests}
use Rattle.int_ops.specs.declared.trap.Cause.{Cause}
use Rattle.int_ops.specs.declared.trap.Cause.TheVariants.{StackFull, TypeMismatch, UndefinedElement, UninitializedElement}
use Rattle.linear_memory.specs.LinearMemory.{LinearMemory}
use Rattle.wasm_ast.specs.declared.instr.Instr.TheVariants as instr
use Rattle.wasm_ast.specs.declared.module.Module.{Module}
use Rattle.wasm_ast.specs.declared.position.Position.{Position}
use Rattle.wasm_ast.specs.declared.types.FuncType.{FuncType}
use Rattle.wasm_ast.specs.declared.types.ValType.{ValType}
use Rattle.wasm_ast.specs.Sequence.{Sequence}
use Rattle.wasm_ast.specs.Table.{function_type, last_put, same_function_type, table_size}
use Rattle.wasm_ast.specs.TypingModule.{functions_of}
use Rattle.guest_state.specs.GuestThread.{Frame, GuestThread, first_changed, in_frame}
use Rattle.guest_state.specs.Module.{further_locals, param_count, type_of}
use Rattle.guest_state.specs.Snapshot.{Snapshot, operands_of, thread_at}
use Rattle.guest_state.specs.Steps.{called, has_room, with_operands}
use Rattle.guest_state.proofs.ThreadLemmas.{operands_is}
use Rattle.wasm_steps.specs.Control.{resumed, step_call, step_call_indirect}
use Rattle.wasm_steps.specs.Stepped.{Next, Stuck, Trapped}
use Rattle.wasm_steps.proofs.Calls.{got_behind}
use Rattle.interp.specs.Reached.{first_place}
use Rattle.interp.specs.Stops.{stop_of}
use Rattle.interp.specs.Rows.{Moves, call_row, left_at, of_first, row_of}
use Rattle.interp.proofs.MemoryLemmas.{last_one}
use Rattle.interp.proofs.ControlLemmas.{has_first}
use Rattle.interp.proofs.RowLemmas.{behind_at}

-- ---- the function that an indirect call finds

pub past_table : (m : Module) (memory : LinearMemory) (t : GuestThread) (f : Frame) (of : ℕ) (rest : Sequence) (i : ℕ) (operands : List ℕ) → table_size m ≤ i
    → step_call_indirect m memory t f of rest (i ∷ operands) ≡ Trapped UndefinedElement
past_table m memory t f of rest i operands past =
    let no : nat_lt i (table_size m) ≡ false = grind (arith, nat_tests) in
    rw no refl

pub empty_place : (m : Module) (memory : LinearMemory) (t : GuestThread) (f : Frame) (of : ℕ) (rest : Sequence) (i : ℕ) (operands : List ℕ) → i < table_size m → last_put m m.elements i ≡ None
    → step_call_indirect m memory t f of rest (i ∷ operands) ≡ Trapped UninitializedElement
empty_place m memory t f of rest i operands within none =
    let yes : nat_lt i (table_size m) ≡ true = grind (arith, nat_tests) in
    rw (yes, none) refl

pub finds : (m : Module) (memory : LinearMemory) (t : GuestThread) (f : Frame) (of : ℕ) (rest : Sequence) (i x : ℕ) (operands : List ℕ) (wanted type : FuncType) → i < table_size m → last_put m m.elements i ≡ Some x
    → slice_get m.types of ≡ Some wanted → function_type m x ≡ Some type
    → step_call_indirect m memory t f of rest (i ∷ operands) ≡ (if same_function_type wanted type then step_call m memory t f x rest operands else Trapped TypeMismatch)
finds m memory t f of rest i x operands wanted type within put its_wanted its_type =
    let yes : nat_lt i (table_size m) ≡ true = grind (arith, nat_tests) in
    rw (yes, put, its_wanted, its_type) (rw its_type refl)

pub no_type_wanted : (m : Module) (memory : LinearMemory) (t : GuestThread) (f : Frame) (of : ℕ) (rest : Sequence) (i x : ℕ) (operands : List ℕ) → i < table_size m → last_put m m.elements i ≡ Some x
    → slice_get m.types of ≡ None → step_call_indirect m memory t f of rest (i ∷ operands) ≡ Stuck
no_type_wanted m memory t f of rest i x operands within put none =
    let yes : nat_lt i (table_size m) ≡ true = grind (arith, nat_tests) in
    rw (yes, put, none) refl

pub no_type_found : (m : Module) (memory : LinearMemory) (t : GuestThread) (f : Frame) (of : ℕ) (rest : Sequence) (i x : ℕ) (operands : List ℕ) (wanted : FuncType) → i < table_size m → last_put m m.elements i ≡ Some x
    → slice_get m.types of ≡ Some wanted → function_type m x ≡ None → step_call_indirect m memory t f of rest (i ∷ operands) ≡ Stuck
no_type_found m memory t f of rest i x operands wanted within put its_wanted none =
    let yes : nat_lt i (table_size m) ≡ true = grind (arith, nat_tests) in
    rw (yes, put, its_wanted, none) refl

-- ---- calls

-- whether there is room, by the frames and values alone
pub room_behind : (t : GuestThread) (over more : ℕ) (f : Frame) (fs : List Frame) (code : Sequence) → t.frames ≡ f ∷ fs
    → has_room (in_frame (λ g. record g { operands = drop over f.operands; code = code }) t) more ≡ has_room (in_frame (with_operands over []) t) more
room_behind t over more f fs code e = rw e refl

-- what a call leaves
abbrev main_or : Bool → Result GuestThread Cause → Bool
main_or d (Ok t) = t.main
main_or d (Err cause) = d

abbrev full_or : Bool → Result GuestThread Cause → Bool
full_or d (Ok t) = t.full
full_or d (Err cause) = d

pub called_marks : (m : Module) (n : ℕ) (t u : GuestThread) → called m n t ≡ Ok u → (u.main ≡ t.main) × (u.full ≡ t.full)
called_marks m n t u e = (sym (ap (main_or t.main) e) ∙ main_kept (has_room t (further_locals m n)) refl, sym (ap (full_or t.full) e) ∙ full_kept (has_room t (further_locals m n)) refl) where
  main_kept : (b : Bool) → has_room t (further_locals m n) ≡ b → main_or t.main (called m n t) ≡ t.main
  main_kept true room = rw room refl
  main_kept false room = rw room refl

  full_kept : (b : Bool) → has_room t (further_locals m n) ≡ b → full_or t.full (called m n t) ≡ t.full
  full_kept true room = rw room refl
  full_kept false room = rw room refl

pub called_room : (m : Module) (n : ℕ) (t : GuestThread) (cause : Cause) → has_room t (further_locals m n) ≡ true → called m n t ≡ Err cause → ⊥
called_room m n t cause room e =
    let fine : is_err (called m n t) ≡ false = rw room refl in
    let wrong : true ≡ false = sym (ap is_err e) ∙ fine in
    absurd (cc)

pub called_steps : (m : Module) (n : ℕ) (memory : LinearMemory) (t : GuestThread) → has_room t (further_locals m n) ≡ true → stop_of (resumed memory (called m n t)) ≡ None
called_steps m n memory t room = rw room refl

pub called_full : (m : Module) (n : ℕ) (t : GuestThread) → has_room t (further_locals m n) ≡ false → called m n t ≡ Err StackFull
called_full m n t full = rw full refl

module _ (m : Module) (place : Position) (s : Snapshot) (f : Frame) (fs : List Frame) (e : (thread_at m place s).frames ≡ f ∷ fs) where
  head_row : (memory : LinearMemory) (next : Position) (x over : ℕ) → call_row m memory place next x over s ≡ step_call m memory (thread_at m place s) f x (left_at m next s) (drop over f.operands)
  head_row memory next x over = ap (of_first (λ g. step_call m memory (thread_at m place s) g x (left_at m next s) (drop over g.operands))) e

  -- a call that isn't stuck finds the function and its arguments
  pub moves_known : (memory : LinearMemory) (next : Position) (x over : ℕ) → (call_row m memory place next x over s ≡ Stuck → ⊥)
      → (of : FuncType) × (function_type m x ≡ Some of) × (length of.params ≤ length (drop over (operands_of s)))
  moves_known memory next x over moves = by_type (function_type m x) refl where
    by_type : (o : Option FuncType) → function_type m x ≡ o → (of : FuncType) × (function_type m x ≡ Some of) × (length of.params ≤ length (drop over (operands_of s)))
    by_type None none = absurd (moves (head_row memory next x over ∙ rw none refl))
    by_type (Some of) some = by_count (nat_lt (length (drop over f.operands)) (length of.params)) refl where
      by_count : (b : Bool) → nat_lt (length (drop over f.operands)) (length of.params) ≡ b → (of : FuncType) × (function_type m x ≡ Some of) × (length of.params ≤ length (drop over (operands_of s)))
      by_count true lacks = absurd (moves (head_row memory next x over ∙ rw (some, lacks) refl))
      by_count false enough = (of, some, rw (operands_is m place s f fs e) (grind (arith, nat_tests)))

  -- the thread behind the call, without the operands over the arguments
  pub behind_call : (next : Position) (over : ℕ) (mid : Snapshot) → thread_at m next mid ≡ in_frame (with_operands over []) (thread_at m next s)
      → in_frame (λ g. record g { operands = drop over f.operands; code = left_at m next s }) (thread_at m place s) ≡ thread_at m next mid
  behind_call next over mid removed =
      ap (λ os. in_frame (λ g. record g { operands = drop over os; code = left_at m next s }) (thread_at m place s)) (sym (operands_is m place s f fs e)) ∙ behind_at m place next over [] s ∙ sym removed

  -- a call of the module's own function
  pub own_row : (memory : LinearMemory) (next : Position) (x over n : ℕ) (of : FuncType) → function_type m x ≡ Some of → length of.params ≤ length (drop over (operands_of s))
      → length (functions_of m.imports) ≤ x → n ≡ x - length (functions_of m.imports)
      → call_row m memory place next x over s ≡ resumed memory (called m n (in_frame (λ g. record g { operands = drop over f.operands; code = left_at m next s }) (thread_at m place s)))
  own_row memory next x over n of its_type few own number =
      let enough : nat_lt (length (drop over f.operands)) (length of.params) ≡ false = grind (arith, nat_tests, ap (λ os. length (drop over os)) (operands_is m place s f fs e)) in
      let no : nat_lt x (length (functions_of m.imports)) ≡ false = grind (arith, nat_tests) in
      head_row memory next x over ∙ rw (its_type, enough, no) (ap (λ (k : ℕ). resumed memory (called m k (in_frame (λ g. record g { operands = drop over f.operands; code = left_at m next s }) (thread_at m place s)))) (sym number))

  -- it goes on where there is room
  pub own_goes : (memory : LinearMemory) (next : Position) (x over n : ℕ) (of : FuncType) (mid new : Snapshot) → function_type m x ≡ Some of → length of.params ≤ length (drop over (operands_of s))
      → length (functions_of m.imports) ≤ x → n ≡ x - length (functions_of m.imports)
      → thread_at m next mid ≡ in_frame (with_operands over []) (thread_at m next s) → called m n (thread_at m next mid) ≡ Ok (thread_at m first_place new)
      → call_row m memory place next x over s ≡ Next memory (thread_at m first_place new)
  own_goes memory next x over n of mid new its_type few own number removed goes =
      own_row memory next x over n of its_type few own number ∙ ap (λ (t : GuestThread). resumed memory (called m n t)) (behind_call next over mid removed) ∙ ap (resumed memory) goes

  pub own_full : (memory : LinearMemory) (next : Position) (x over n : ℕ) (of : FuncType) → function_type m x ≡ Some of → length of.params ≤ length (drop over (operands_of s))
      → length (functions_of m.imports) ≤ x → n ≡ x - length (functions_of m.imports)
      → has_room (in_frame (with_operands over []) (thread_at m place s)) (further_locals m n) ≡ false
      → call_row m memory place next x over s ≡ Trapped StackFull
  own_full memory next x over n of its_type few own number full =
      let t = in_frame (λ g. record g { operands = drop over f.operands; code = left_at m next s }) (thread_at m place s) in
      let room : has_room t (further_locals m n) ≡ false = room_behind (thread_at m place s) over (further_locals m n) f fs (left_at m next s) e ∙ full in
      own_row memory next x over n of its_type few own number ∙ ap (resumed memory) (called_full m n t room)

  -- and where there is room, none stops the thread
  pub own_fits : (memory : LinearMemory) (next : Position) (x over n : ℕ) (of : FuncType) → function_type m x ≡ Some of → length of.params ≤ length (drop over (operands_of s))
      → length (functions_of m.imports) ≤ x → n ≡ x - length (functions_of m.imports)
      → has_room (in_frame (with_operands over []) (thread_at m place s)) (further_locals m n) ≡ true
      → stop_of (call_row m memory place next x over s) ≡ None
  own_fits memory next x over n of its_type few own number fits =
      let t = in_frame (λ g. record g { operands = drop over f.operands; code = left_at m next s }) (thread_at m place s) in
      let room : has_room t (further_locals m n) ≡ true = room_behind (thread_at m place s) over (further_locals m n) f fs (left_at m next s) e ∙ fits in
      ap stop_of (own_row memory next x over n of its_type few own number) ∙ called_steps m n memory t room

  -- an indirect call, by the number in the table
  pub indirect_row : (memory : LinearMemory) (next : Position) (of i : ℕ) → slice_get (operands_of s) 0 ≡ Some i
      → row_of m memory place next (instr.CallIndirect of) s ≡ step_call_indirect m memory (thread_at m place s) f of (left_at m next s) (i ∷ drop 1 f.operands)
  indirect_row memory next of i got =
      let row = step_call_indirect m memory (thread_at m place s) f of (left_at m next s) in
      let here : slice_get f.operands 0 ≡ Some i = subst (λ os. slice_get os 0 ≡ Some i) (operands_is m place s f fs e) got in
      ap (of_first (λ g. step_call_indirect m memory (thread_at m place s) g of (left_at m next s) g.operands)) e ∙ ap row (last_one f.operands i here)

  pub indirect_call : (memory : LinearMemory) (next : Position) (of i x : ℕ) → slice_get (operands_of s) 0 ≡ Some i
      → step_call_indirect m memory (thread_at m place s) f of (left_at m next s) (i ∷ drop 1 f.operands) ≡ step_call m memory (thread_at m place s) f x (left_at m next s) (drop 1 f.operands)
      → row_of m memory place next (instr.CallIndirect of) s ≡ call_row m memory place next x 1 s
  indirect_call memory next of i x got finds_it = indirect_row memory next of i got ∙ finds_it ∙ sym (head_row memory next x 1)

-- its arguments are there
pub arguments_there : (m : Module) (x n : ℕ) (of : FuncType) → function_type m x ≡ Some of → length (functions_of m.imports) ≤ x → n ≡ x - length (functions_of m.imports) → param_count (type_of m n) ≡ length of.params
arguments_there m x n of its_type own number =
    let there : type_of m n ≡ Some of = rw number (ap (option_and_then (slice_get m.types)) (sym (got_behind (functions_of m.imports) m.functions x own)) ∙ its_type) in
    ap param_count there

-- the operands that are left
pub removed_operands : (m : Module) (place : Position) (over : ℕ) (s mid : Snapshot) → 0 < length s.frames → thread_at m place mid ≡ in_frame (with_operands over []) (thread_at m place s) → operands_of mid ≡ drop over (operands_of s)
removed_operands m place over s mid some removed =
    let head = has_first m place s some in
    let first : (thread_at m place mid).frames ≡ with_operands over [] head.0 ∷ head.1 = ap (λ (t : GuestThread). t.frames) removed ∙ ap (first_changed (with_operands over [])) head.2 in
    operands_is m place mid (with_operands over [] head.0) head.1 first ∙ ap (drop over) (sym (operands_is m place s head.0 head.1 head.2))

-- what is known of a call that isn't stuck somewhere
pub call_known : (m : Module) (x over : ℕ) (s : Snapshot) → 0 < length s.frames → Moves (λ memory place next. call_row m memory place next x over s)
    → (of : FuncType) × (function_type m x ≡ Some of) × (length of.params ≤ length (drop over (operands_of s)))
call_known m x over s some moves =
    let head = has_first m moves.1 s some in moves_known m moves.1 s head.0 head.1 head.2 moves.0 moves.2 x over moves.3
