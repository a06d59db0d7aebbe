-- Lineages, turn by turn.
use Rattle.std.proofs.Common.{◌≡◌, ℕ, true, false, List, [], ◌∷◌, Some, refl, sym, ap, ◌∙◌}
use Rattle.std.specs.Prelude.{if◌then◌else◌, ◌||◌, ◌==◌, option_and_then}
use Rattle.fork_exec.specs.Process.{Process}
use Rattle.process.specs.Lineage.{Told, ancestor, lineage, is_on_line, makes, after_told, state_of}

-- the process before an entry, where this one stands after it
abbrev pub before_turn : Told → ℕ → ℕ
before_turn turn pid = if makes turn.entry.outcome pid then turn.entry.pid else pid

off_makes_none : (turn : Told) (pid : ℕ) → is_on_line turn pid ≡ false → makes turn.entry.outcome pid ≡ false
off_makes_none turn pid off =
    elim (turn.entry.pid == pid) as (λ b. (b || makes turn.entry.outcome pid) ≡ false → makes turn.entry.outcome pid ≡ false) [
      | true ↦ λ is. cc
      | false ↦ λ is. is
    ] off

-- a lineage leads from the same process as all turns
pub same_ancestor : (turns : List Told) (pid : ℕ) → ancestor (lineage turns pid) pid ≡ ancestor turns pid
same_ancestor [] pid = refl
same_ancestor (turn ∷ turns) pid =
    elim (is_on_line turn (ancestor turns pid)) as (λ b. is_on_line turn (ancestor turns pid) ≡ b → ancestor (if b then turn ∷ lineage turns pid else lineage turns pid) pid ≡ before_turn turn (ancestor turns pid)) [
      | true ↦ λ on. ap (before_turn turn) (same_ancestor turns pid)
      | false ↦ λ off. same_ancestor turns pid ∙ ap (λ b. if b then turn.entry.pid else ancestor turns pid) (sym (off_makes_none turn (ancestor turns pid) off))
    ] refl

-- a turn on the line leads on from its process
pub on_line : (start next last : Process) (turn : Told) (turns : List Told) (pid : ℕ) → is_on_line turn (ancestor turns pid) ≡ true → after_told start turn (ancestor turns pid) ≡ Some next → state_of next (lineage turns pid) pid ≡ Some last → state_of start (lineage (turn ∷ turns) pid) pid ≡ Some last
on_line start next last turn turns pid on step rest =
    ap (λ b. state_of start (if b then turn ∷ lineage turns pid else lineage turns pid) pid) on
    ∙ ap (λ q. option_and_then (λ x. state_of x (lineage turns pid) pid) (after_told start turn q)) (same_ancestor turns pid)
    ∙ ap (option_and_then (λ x. state_of x (lineage turns pid) pid)) step
    ∙ rest

-- and one off the line is passed by
pub off_line : (start : Process) (turn : Told) (turns : List Told) (pid : ℕ) → is_on_line turn (ancestor turns pid) ≡ false → state_of start (lineage (turn ∷ turns) pid) pid ≡ state_of start (lineage turns pid) pid
off_line start turn turns pid off = ap (λ b. state_of start (if b then turn ∷ lineage turns pid else lineage turns pid) pid) off

pub off_ancestor : (turn : Told) (turns : List Told) (pid : ℕ) → is_on_line turn (ancestor turns pid) ≡ false → ancestor (turn ∷ turns) pid ≡ ancestor turns pid
off_ancestor turn turns pid off = ap (λ b. if b then turn.entry.pid else ancestor turns pid) (off_makes_none turn (ancestor turns pid) off)
