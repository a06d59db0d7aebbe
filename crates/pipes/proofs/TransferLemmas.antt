use Rattle.std.proofs.Common.{◌≡◌, ℕ, List, [], ◌∷◌, ◌++◌, take, drop, sym, ap, ◌∙◌, append_assoc, arith}
use Rattle.std.proofs.lemmas.List.{take-append-drop}
use Rattle.std.proofs.lemmas.Grind.{common_steps}
use Rattle.pipes.specs.PipeRows.{accepted, after_push, after_pull, given, pull_of}
use Rattle.pipes.specs.Transfers.{Write, Read, Conserves}

-- a list before and behind a part that is cut off its front
moved : (n : ℕ) (held new kept later : List ℕ) → new ++ kept ≡ drop n held ++ later → (take n held ++ new) ++ kept ≡ held ++ later
moved n held new kept later e =
    append_assoc (take n held) new kept ∙ ap (λ rest. take n held ++ rest) e ∙ sym (append_assoc (take n held) (drop n held) later)
    ∙ ap (λ whole. whole ++ later) (take-append-drop n held)

pub conserves : (held : List ℕ) → Conserves held
conserves held [] = grind (arith, common_steps)
conserves held (Write bytes reader_left ∷ rest) =
    conserves (after_push held bytes reader_left) rest ∙ append_assoc held (accepted held bytes reader_left) _
conserves held (Read asked writer_left ∷ rest) =
    moved (given (pull_of held asked writer_left)) held _ _ _ (conserves (after_pull held asked writer_left) rest)
