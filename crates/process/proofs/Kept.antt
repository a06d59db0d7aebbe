-- Which threads a reply and a signal leave in a process, and that no thread asks for nothing.
use Rattle.std.proofs.Common.{◌≡◌, ◌≢◌, ℕ, zero, suc, Bool, true, false, List, [], ◌∷◌, Option, Some, None, inl, inr, refl, sym, ap, subst, ◌∙◌, arith}
use Rattle.std.specs.Prelude.{◌⊎◌, ◌==◌, ◌||◌, not, if◌then◌else◌, is_some, option_map, slice_index}
use Rattle.std.specs.List.{list_all, slice_get}
use Rattle.std.specs.Ordering.{nat_cmp}
use Rattle.std.proofs.lemmas.Bool.{eqb-true, eqb-false, and_parts}
use Rattle.std.proofs.lemmas.Cmp.{nat_cmp_total}
use Rattle.std.specs.FinMap.{FinMap, get, insert, contains_key, nat_cmp-IsAntisymmetric}
use Rattle.finite_maps.proofs.Lookups.{get-insert_same, get-insert_other}
use Rattle.fork_exec.specs.Process.{Process}
use Rattle.guest_state.specs.GuestThread.{GuestThread}
use Rattle.guest_state.specs.Steps.{arguments_of}
use Rattle.instance.specs.Calls.{no_call, spent, out_of_fuel, trapped, last_return, wait32, wait64, notify}
use Rattle.instance.specs.Links.{is_answered, is_built, any_waits}
use Rattle.instance.specs.Program.{Program, call_of, thread_function}
use Rattle.linear_memory.specs.LinearMemory.{LinearMemory}
use Rattle.linear_memory.specs.Storage.{number_of}
use Rattle.process.specs.Replied.{replied, resumed, resumption, after_success, with_new_thread, thread_spawn, callback_signal, signalled, signalled_thread}
use Rattle.process.specs.Stops.{request_at, call_request, wait_request, at_address, import_arguments, flag}
use Rattle.wasix_abi.specs.Replies.{apply_reply}
use Rattle.wasix_abi.specs.Requests.{plain_request}
use Rattle.wasm_steps.specs.Stepped.{Stepped, Next, Trapped, AtCall, AtWait, AtNotify, Finished, Stuck}
use Rattle.wx_types.specs.declared.requests.Request.{Request}

-- a key that is there is there still, and no other comes
pub there_insert : {X : Type 0} (m : FinMap nat_cmp X) (k q : ℕ) (v : X) → contains_key m k ≡ true → contains_key (insert m k v) q ≡ contains_key m q
there_insert m k q v there =
    elim (q == k) as (λ b. (q == k) ≡ b → contains_key (insert m k v) q ≡ contains_key m q) [
      | true ↦ λ is.
          let same : q ≡ k = eqb-true q k is in
          ap (contains_key (insert m k v)) same ∙ ap is_some (get-insert_same nat_cmp_total m k v) ∙ sym there ∙ ap (contains_key m) (sym same)
      | false ↦ λ is. ap is_some (get-insert_other nat_cmp_total nat_cmp-IsAntisymmetric m k v q (eqb-false q k is))
    ] refl

-- ---- the process has the threads that it had, and runs the program that it ran

pub record KeepsTasks (before after : Process) : Type 0 where
  pub there : (q : ℕ) → contains_key after.threads q ≡ contains_key before.threads q
  pub program : after.program ≡ before.program

-- a reply to any call but `thread_spawn`
module _ (process : Process) (tid : ℕ) (thread : GuestThread) (request : Request) (errno : ℕ) (bytes : List ℕ) (here : contains_key process.threads tid ≡ true) where
  abbrev told : Process
  told = record process {
    memory = record process.memory { bytes = apply_reply process.memory.bytes request errno bytes };
    threads = insert process.threads tid (resumed process.program process.memory thread (resumption request.call errno bytes));
  }

  told_keeps : KeepsTasks process told
  told_keeps = record { there = λ q. there_insert process.threads tid q _ here; program = refl }

  handler_keeps : KeepsTasks process (if request.call == callback_signal then record told { handler = Some (slice_index request.words 8) } else told)
  handler_keeps =
      elim (request.call == callback_signal) as (λ b. KeepsTasks process (if b then record told { handler = Some (slice_index request.words 8) } else told)) [
        | true ↦ record { there = told_keeps.there; program = refl }
        | false ↦ told_keeps
      ]

  success_keeps : (b : Bool) → b ≡ false → KeepsTasks process (if b then with_new_thread told (number_of bytes) (slice_index request.words 0) (thread_function process.program.module) else if request.call == callback_signal then record told { handler = Some (slice_index request.words 8) } else told)
  success_keeps true e = absurd (let h : true ≡ false = e in cc)
  success_keeps false e = handler_keeps

  pub replied_keeps : (request.call == thread_spawn) ≡ false → KeepsTasks process (replied process tid thread request errno bytes)
  replied_keeps no_thread =
      elim (errno == 0) as (λ b. KeepsTasks process (if b then after_success told request bytes else told)) [
        | true ↦ success_keeps (request.call == thread_spawn) no_thread
        | false ↦ told_keeps
      ]

by_found : (process : Process) (tid signal : ℕ) (found : Option GuestThread) → get process.threads tid ≡ found → KeepsTasks process (signalled_thread process tid signal found)
by_found process tid signal None at = record { there = λ q. refl; program = refl }
by_found process tid signal (Some thread) at = record { there = λ q. there_insert process.threads tid q _ (ap is_some at); program = refl }

pub signalled_keeps : (process : Process) (tid signal : ℕ) → KeepsTasks process (signalled process tid signal)
signalled_keeps process tid signal =
    elim (signal == 0) as (λ b. KeepsTasks process (if b then process else signalled_thread process tid signal (get process.threads tid))) [
      | true ↦ record { there = λ q. refl; program = refl }
      | false ↦ by_found process tid signal (get process.threads tid) refl
    ]

-- ---- a thread that is there asks for something

all_at : (p : ℕ → Bool) (xs : List ℕ) (i x : ℕ) → list_all p xs ≡ true → slice_get xs i ≡ Some x → p x ≡ true
all_at p [] i x all at = cc
all_at p (y ∷ ys) zero x all at = (let h : y ≡ x = cc in ap p (sym h) ∙ (and_parts (p y) (list_all p ys) all).0)
all_at p (y ∷ ys) (suc i) x all at = all_at p ys i x (and_parts (p y) (list_all p ys) all).1 at

built : (n : ℕ) → is_built n ≡ true → (n ≡ 17) ⊎ (n ≡ 37)
built n is = elim (n == 17) as (λ b. (n == 17) ≡ b → (b || n == 37) ≡ true → (n ≡ 17) ⊎ (n ≡ 37)) [
  | true ↦ λ here all. inl (eqb-true n 17 here)
  | false ↦ λ apart all. inr (eqb-true n 37 all)
] refl is

-- the request has the call that was made
call_kept : (memory : LinearMemory) (arguments : List ℕ) (n : ℕ) → is_built n ≡ true → (call_request memory arguments n).call ≢ no_call
call_kept memory arguments n is none = elim (built n is) [
  | inl write ↦ absurd (let h : 17 ≡ 0 = subst (λ k. (call_request memory arguments k).call ≡ no_call) write none in omega arith)
  | inr exit ↦ absurd (let h : 37 ≡ 0 = subst (λ k. (call_request memory arguments k).call ≡ no_call) exit none in omega arith)
]

module _ (program : Program) (answered : is_answered program ≡ true) (memory : LinearMemory) (next : GuestThread) (left : ℕ) (request : Request) where
  asks_call : (import : ℕ) (o : Option ℕ) → call_of program import ≡ o → option_map (call_request memory (arguments_of next (import_arguments program import))) o ≡ Some request → request.call ≢ no_call
  asks_call import None at e = cc
  asks_call import (Some n) at e =
      let is : is_built n ≡ true = all_at is_built program.calls import n (and_parts (list_all is_built program.calls) (not (any_waits program.module)) answered).0 at in
      let h : call_request memory (arguments_of next (import_arguments program import)) n ≡ request = cc in
      subst (λ (r : Request). r.call ≢ no_call) h (call_kept memory (arguments_of next (import_arguments program import)) n is)

  asks_next : (b : Bool) → Some (plain_request (if b then out_of_fuel else spent) []) ≡ Some request → request.call ≢ no_call
  asks_next true e none = absurd (let h : 2 ≡ 0 = (let same : plain_request out_of_fuel [] ≡ request = cc in ap (λ (r : Request). r.call) same ∙ none) in omega arith)
  asks_next false e none = absurd (let h : 1 ≡ 0 = (let same : plain_request spent [] ≡ request = cc in ap (λ (r : Request). r.call) same ∙ none) in omega arith)

  -- a request whose call is that number
  asks_number : (n : ℕ) (r : Request) → r.call ≡ suc n → Some r ≡ Some request → request.call ≢ no_call
  asks_number n r is e none = absurd (let h : suc n ≡ 0 = sym is ∙ (let same : r ≡ request = cc in ap (λ (x : Request). x.call) same ∙ none) in omega arith)

  pub asks_something : (s : Stepped) → request_at program memory next left s ≡ Some request → request.call ≢ no_call
  asks_something (Next m t) e = asks_next (left == 0) e
  asks_something (Trapped cause) e = asks_number 2 (plain_request trapped []) refl e
  asks_something (AtCall import) e = asks_call import (call_of program import) refl e
  asks_something (AtWait width at) e =
      elim (width == 4) as (λ b. (if b then wait32 else wait64) ≡ (wait_request memory width at (arguments_of next 3)).call → request.call ≢ no_call) [
        | true ↦ λ is. asks_number 4 (wait_request memory width at (arguments_of next 3)) (sym is) e
        | false ↦ λ is. asks_number 5 (wait_request memory width at (arguments_of next 3)) (sym is) e
      ] refl
  asks_something (AtNotify at) e = asks_number 6 (plain_request notify (at_address at (arguments_of next 2))) refl e
  asks_something Finished e = asks_number 3 (plain_request last_return (flag next.main ∷ [])) refl e
  asks_something Stuck e = cc
