-- A sequence is written event by event.
use Rattle.std.proofs.Common.{◌≡◌, ℕ, List, ◌∷◌, ◌++◌, refl, sym, ap, ◌∙◌, append_assoc}
use Rattle.std.specs.List.{flat_map}
use Rattle.std.proofs.lemmas.Grind.{flat_map-append}
use Rattle.std.proofs.lemmas.List.Concat.{flat_map-cons}
use Rattle.wasm_ast.specs.Sequence.{Sequence, Empty, Plain, Block, If}
use Rattle.wasm_ast.specs.Events.{Event, Instruction, Else, End, is_empty, events}
use Rattle.wasm_ast.specs.CanonInstr.{block_type_byte, canon_plain, canon_else, canon_sequence}
use Rattle.wasm_encode.specs.CanonEvents.{canon_event}

abbrev written : List Event → List ℕ
written es = flat_map canon_event es

-- an arm with its else, in front of the end
arm_written : (s : Sequence) (w back : List ℕ) → w ≡ canon_sequence s → canon_event (Else (is_empty s)) ++ (w ++ back) ≡ canon_else s (canon_sequence s) ++ back
arm_written Empty w back p = ap (λ x. x ++ back) p
arm_written (Plain i rest) w back p = ap (λ x. 0x05 ∷ (x ++ back)) p
arm_written (Block k of body rest) w back p = ap (λ x. 0x05 ∷ (x ++ back)) p
arm_written (If of then otherwise rest) w back p = ap (λ x. 0x05 ∷ (x ++ back)) p

pub canon_events : (s : Sequence) → written (events s) ≡ canon_sequence s
canon_events Empty = refl
canon_events (Plain i rest) = flat_map-cons canon_event (Instruction i) (events rest) ∙ ap (λ w. canon_plain i ++ w) (canon_events rest)
canon_events (Block k of body rest) = rw (flat_map-append canon_event (events body) (End ∷ events rest), canon_events body, canon_events rest) refl
canon_events (If of then otherwise rest) =
    let arm = arm_written otherwise (written (events otherwise)) (0x0B ∷ written (events rest)) (canon_events otherwise) in
    rw (
      flat_map-append canon_event (events then) (Else (is_empty otherwise) ∷ events otherwise ++ (End ∷ events rest)),
      flat_map-cons canon_event (Else (is_empty otherwise)) (events otherwise ++ (End ∷ events rest)),
      flat_map-append canon_event (events otherwise) (End ∷ events rest),
      arm,
      canon_events then,
      canon_events rest,
    ) (sym (ap (λ x. 0x04 ∷ block_type_byte of ∷ x) (append_assoc (canon_sequence then) (canon_else otherwise (canon_sequence otherwise)) (0x0B ∷ canon_sequence rest))))
