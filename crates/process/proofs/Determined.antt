-- A slice ends in one way.
use Rattle.std.proofs.Common.{◌≡◌, ◌<◌, ◌≤◌, ◌-◌, inl, inr, ℕ, suc, ◌+◌, Option, Some, None, sym, ap, subst, ◌∙◌, arith}
use Rattle.std.proofs.lemmas.Bool.{cases_order}
use Rattle.std.specs.FinMap.{get}
use Rattle.guest_state.specs.GuestThread.{GuestThread}
use Rattle.wx_types.specs.declared.requests.Request.{Request}
use Rattle.wasm_steps.specs.Step.{step, after}
use Rattle.fork_exec.specs.Process.{Process, fuel_left}
use Rattle.linear_memory.specs.LinearMemory.{LinearMemory}
use Rattle.wasm_ast.specs.declared.module.Module.{Module}
use Rattle.process.specs.Asked.{AskedBy, EndsSlice, Sliced, Absent, most_steps, with_steps}
use Rattle.process.specs.Stops.{request_at}
use Rattle.process.specs.Laws.{SlicesEndOnce}
use Rattle.wasm_steps.proofs.After.{after_split, onward_next}

-- a memory and a thread
abbrev State : Type 0
State = LinearMemory × GuestThread

-- a slice that ends after n steps has no more of them, but where that is as many as it has
no_more : (n k most : ℕ) (p : Module) (m : LinearMemory) (t : GuestThread) (m' : LinearMemory) (t' : GuestThread) (x : State) → after n p m t ≡ Some (m', t') → EndsSlice n most (step p m' t') → after (n + suc k) p m t ≡ Some x → n ≡ most
no_more n k most p m t m' t' x here ends longer =
    subst (EndsSlice n most) (onward_next (after k p) x (step p m' t') (sym (after_split n (suc k) p m t m' t' here) ∙ longer)).2 ends

-- a slice that ends after n steps doesn't end after more
not_later : (process : Process) (tid slice : ℕ) (thread : GuestThread) (n n' : ℕ) (request request' : Request) (stopped stopped' : Process) → Sliced process tid slice thread n request stopped → Sliced process tid slice thread n' request' stopped' → n < n' → ⊥
not_later process tid slice thread n n' request request' stopped stopped' a b lt =
    let sum : n' ≡ n + suc (n' - n - 1) = omega arith in
    let longer : after (n + suc (n' - n - 1)) process.program.module process.memory thread ≡ Some (b.memory, b.next) =
    ap (λ j. after j process.program.module process.memory thread) (sym sum) ∙ b.steps in
    let spent : n ≡ most_steps process slice = no_more n (n' - n - 1) (most_steps process slice) process.program.module process.memory thread a.memory a.next (b.memory, b.next) a.steps a.ends longer in
    let within : n' ≤ most_steps process slice = b.within in
    omega arith

ran_same : (process : Process) (tid slice : ℕ) (thread : GuestThread) (n n' : ℕ) (request request' : Request) (stopped stopped' : Process) → Sliced process tid slice thread n request stopped → Sliced process tid slice thread n' request' stopped' → n ≡ n'
ran_same process tid slice thread n n' request request' stopped stopped' a b =
    elim (cases_order n n') [
      | inl e ↦ e
      | inr (inl lt) ↦ absurd (not_later process tid slice thread n n' request request' stopped stopped' a b lt)
      | inr (inr lt) ↦ absurd (not_later process tid slice thread n' n request' request stopped' stopped b a lt)
    ]

rest_same : (process : Process) (tid slice : ℕ) (thread : GuestThread) (n n' : ℕ) (request request' : Request) (stopped stopped' : Process) (a : Sliced process tid slice thread n request stopped) (b : Sliced process tid slice thread n' request' stopped') → n ≡ n' → (n ≡ n') × (request ≡ request') × (stopped ≡ stopped')
rest_same process tid slice thread n n' request request' stopped stopped' a b e =
    let states : ◌≡◌ {A = Option State} (Some (a.memory, a.next)) (Some (b.memory, b.next)) = sym a.steps ∙ ap (λ j. after j process.program.module process.memory thread) e ∙ b.steps in
    let state : ◌≡◌ {A = State} (a.memory, a.next) (b.memory, b.next) = cc in
    let requests : Some request ≡ Some request' =
    sym a.asks ∙ (λ i. request_at process.program (state i).0 (state i).1 (fuel_left process - e i) (step process.program.module (state i).0 (state i).1)) ∙ b.asks in
    (e, cc, a.leaves ∙ (λ i. with_steps process tid (e i) (state i).0 (state i).1) ∙ sym b.leaves)

absent_same : (process : Process) (n n' : ℕ) (request request' : Request) (stopped stopped' : Process) → Absent process n request stopped → Absent process n' request' stopped' → (n ≡ n') × (request ≡ request') × (stopped ≡ stopped')
absent_same process n n' request request' stopped stopped' a b = (a.none_ran ∙ sym b.none_ran, a.asks ∙ sym b.asks, a.leaves ∙ sym b.leaves)

by_thread : (found : Option GuestThread) (process : Process) (tid slice n n' : ℕ) (request request' : Request) (stopped stopped' : Process) → AskedBy found process tid slice n request stopped → AskedBy found process tid slice n' request' stopped' → (n ≡ n') × (request ≡ request') × (stopped ≡ stopped')
by_thread None process tid slice n n' request request' stopped stopped' a b = absent_same process n n' request request' stopped stopped' a b
by_thread (Some thread) process tid slice n n' request request' stopped stopped' a b =
    rest_same process tid slice thread n n' request request' stopped stopped' a b (ran_same process tid slice thread n n' request request' stopped stopped' a b)

pub slices_same : SlicesEndOnce
slices_same process tid slice n n' request request' stopped stopped' a b =
    by_thread (get process.threads tid) process tid slice n n' request request' stopped stopped' a b
