-- A thread of a module in which nothing waits or notifies stands at no wait and at no notify.
use Rattle.std.proofs.Common.{◌≡◌, ℕ, false, List, [], ◌∷◌, sym, ap, ◌∙◌}
use Rattle.std.proofs.lemmas.Bool.{or_parts}
use Rattle.wasm_ast.specs.declared.instr.Access.{Access}
use Rattle.wasm_ast.specs.declared.instr.Instr.TheVariants as instr
use Rattle.wasm_ast.specs.declared.module.Module.{Module}
use Rattle.wasm_ast.specs.Sequence.{Plain}
use Rattle.guest_state.specs.Snapshot.{Snapshot, frames_of, thread_of}
use Rattle.guest_state.specs.declared.entries.OpenFrame.{OpenFrame}
use Rattle.guest_state.specs.declared.entries.OpenLabel.{OpenLabel}
use Rattle.instance.specs.Links.{any_waits, is_wait_or_notify, waits}
use Rattle.instance.proofs.WaitLemmas.{left_quiet}
use Rattle.wasm_steps.specs.Kept.{AtAccess, code_left}

pub never_waits : (m : Module) (s : Snapshot) (op : Access) → any_waits m ≡ false → AtAccess m (thread_of m s) op → is_wait_or_notify op ≡ false
never_waits m s op quiet at = by s.frames s.values s.labels at.before where
  by : (fs : List OpenFrame) (values : List ℕ) (labels : List OpenLabel) → code_left (frames_of m fs values labels) ≡ Plain (instr.Access op at.arg) at.rest → is_wait_or_notify op ≡ false
  by [] values labels e = absurd (cc)
  by (f ∷ fs) values labels e = (or_parts (is_wait_or_notify op) (waits at.rest) (sym (ap waits e) ∙ left_quiet m f.function f.place quiet)).0
