-- A process that has had no signal has none to be delivered.
use Rattle.std.proofs.Common.{◌≡◌, ℕ, List, [], ◌∷◌, Some, None, cond, refl, ap, ◌∙◌}
use Rattle.std.specs.Prelude.{◌&&◌, not, is_some, find}
use Rattle.std.specs.Ordering.{nat_cmp}
use Rattle.std.specs.FinMap.{get-empty}
use Rattle.kernel_core.specs.Signals.{deliverable, is_deliverable, is_masked, catches, action_of, first_dispositions, all_signals}

none_among : (signals : List ℕ) → find (is_deliverable first_dispositions) signals ≡ None
none_among [] = refl
none_among (signal ∷ signals) =
    ap (λ found. cond (is_some found && (not (is_masked first_dispositions signal) && catches (action_of first_dispositions signal))) (Some signal) (find (is_deliverable first_dispositions) signals)) (get-empty nat_cmp signal)
    ∙ none_among signals

pub none_deliverable : deliverable first_dispositions ≡ None
none_deliverable = none_among all_signals
