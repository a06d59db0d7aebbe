use Rattle.std.proofs.Common.{◌≡◌, ◌-◌, ◌<◌, ◌≤◌, length, false, Some}
use Rattle.wasm_ast.specs.Position.{IsList}
use Rattle.guest_state.specs.Fits.{Fits}
use Rattle.guest_state.specs.Snapshot.{innermost_body, thread_at, thread_of}
use Rattle.wasm_steps.specs.Kept.{IsMemory}
use Rattle.wasm_steps.specs.Step.{after}
use Rattle.interp.proofs.run.advance.Given as goal

-- the steps so far, where they led to, and the list there
abbrev pub invariant-loop-ran : goal.invariant-loop-ran
invariant-loop-ran l = record {
  steps : after l.ran l.valid l.fn.memory (thread_of l.valid l.fn.thread) ≡ Some (l.memory, thread_at l.valid l.place l.own);
  most : l.ran ≤ l.max;
  fits : Fits l.valid (thread_at l.valid l.place l.own);
  bytes : IsMemory l.memory;
  frames : 0 < length l.own.frames;
  free : l.own.full ≡ false;
  main : l.own.main ≡ l.fn.thread.main;
  code : l.code ≡ innermost_body l.valid l.own;
  list : IsList l.code l.place.list l.list;
}

abbrev pub decreases-loop-ran : goal.decreases-loop-ran
decreases-loop-ran l = l.max - l.ran
