-- What a walk finds is what the sequence has, and what is left of code that has no wait and no notify has none.
use Rattle.std.proofs.Common.{◌≡◌, ℕ, zero, suc, false, ◌||◌, List, [], ◌∷◌, ◌++◌, Option, Some, None, refl, sym, ap, subst, ◌∙◌}
use Rattle.std.specs.Prelude.{slice_get, slice_index_or}
use Rattle.std.specs.List.{list_any}
use Rattle.std.proofs.Math.Bool.{or_assoc}
use Rattle.std.proofs.lemmas.Bool.{or_from, or_parts}
use Rattle.std.proofs.lemmas.List.Folds.{list_any-append}
use Rattle.wasm_ast.specs.declared.module.Code.{Code}
use Rattle.wasm_ast.specs.declared.module.Module.{Module}
use Rattle.wasm_ast.specs.declared.position.Position.{Position}
use Rattle.wasm_ast.specs.Position.{behind, inner_sequences, remaining, sequence_at}
use Rattle.wasm_ast.specs.Sequence.{Sequence, Empty, Plain, Block, If}
use Rattle.wasm_ast.specs.Events.{Instruction, Else, End, is_empty, events}
use Rattle.guest_state.specs.Module.{body_of}
use Rattle.instance.specs.Links.{any_waits, instruction_waits, waits}
use Rattle.instance.specs.Waiting.{event_waits}

-- a wait or a notify among the events is one of the sequence
pub waiting_events : (s : Sequence) → list_any event_waits (events s) ≡ waits s
waiting_events Empty = refl
waiting_events (Plain i rest) = ap (λ b. event_waits (Instruction i) || b) (waiting_events rest)
waiting_events (Block k of body rest) = list_any-append event_waits (events body) (End ∷ events rest) ∙ ap (λ b. b || list_any event_waits (events rest)) (waiting_events body) ∙ ap (λ b. waits body || b) (waiting_events rest)
waiting_events (If of first second rest) =
    list_any-append event_waits (events first) (Else (is_empty second) ∷ events second ++ (End ∷ events rest))
    ∙ ap (λ b. b || list_any event_waits (events second ++ (End ∷ events rest))) (waiting_events first)
    ∙ ap (λ b. waits first || b) (list_any-append event_waits (events second) (End ∷ events rest) ∙ ap (λ b. b || list_any event_waits (events rest)) (waiting_events second) ∙ ap (λ b. waits second || b) (waiting_events rest))
    ∙ sym (or_assoc (waits first) (waits second) (waits rest))

-- ---- what is left at a place

inner_quiet : (s : Sequence) → waits s ≡ false → list_any waits (inner_sequences s) ≡ false
inner_quiet Empty h = refl
inner_quiet (Plain i rest) h = inner_quiet rest (or_parts (instruction_waits i) (waits rest) h).1
inner_quiet (Block k of body rest) h =
    let parts = or_parts (waits body) (waits rest) h in
    or_from (waits body) _ parts.0 (list_any-append waits (inner_sequences body) (inner_sequences rest) ∙ or_from _ _ (inner_quiet body parts.0) (inner_quiet rest parts.1))
inner_quiet (If of first second rest) h =
    let parts = or_parts (waits first || waits second) (waits rest) h in
    let arms = or_parts (waits first) (waits second) parts.0 in
    let later = or_from (waits second) _ arms.1 (list_any-append waits (inner_sequences second) (inner_sequences rest) ∙ or_from _ _ (inner_quiet second arms.1) (inner_quiet rest parts.1)) in
    or_from (waits first) _ arms.0 (list_any-append waits (inner_sequences first) (second ∷ inner_sequences second ++ inner_sequences rest) ∙ or_from _ _ (inner_quiet first arms.0) later)

at_quiet : (xs : List Sequence) (n : ℕ) → list_any waits xs ≡ false → waits (slice_index_or xs n Empty) ≡ false
at_quiet [] n h = refl
at_quiet (x ∷ xs) zero h = (or_parts (waits x) (list_any waits xs) h).0
at_quiet (x ∷ xs) (suc n) h = at_quiet xs n (or_parts (waits x) (list_any waits xs) h).1

behind_quiet : (n : ℕ) (s : Sequence) → waits s ≡ false → waits (behind n s) ≡ false
behind_quiet zero s h = h
behind_quiet (suc n) Empty h = refl
behind_quiet (suc n) (Plain i rest) h = behind_quiet n rest (or_parts (instruction_waits i) (waits rest) h).1
behind_quiet (suc n) (Block k of body rest) h = behind_quiet n rest (or_parts (waits body) (waits rest) h).1
behind_quiet (suc n) (If of first second rest) h = behind_quiet n rest (or_parts (waits first || waits second) (waits rest) h).1

body_quiet : (m : Module) (n : ℕ) → any_waits m ≡ false → waits (body_of m n) ≡ false
body_quiet m n quiet = by (slice_get m.codes n) refl where
  code_quiet : (codes : List Code) (k : ℕ) (code : Code) → list_any (λ (c : Code). waits c.body) codes ≡ false → slice_get codes k ≡ Some code → waits code.body ≡ false
  code_quiet [] k code h e = absurd (cc)
  code_quiet (c ∷ codes) zero code h e =
      let same : c ≡ code = cc in
      subst (λ (x : Code). waits x.body ≡ false) same (or_parts (waits c.body) (list_any (λ (x : Code). waits x.body) codes) h).0
  code_quiet (c ∷ codes) (suc k) code h e = code_quiet codes k code (or_parts (waits c.body) (list_any (λ (x : Code). waits x.body) codes) h).1 e

  by : (o : Option Code) → slice_get m.codes n ≡ o → waits (body_of m n) ≡ false
  by None e = rw e refl
  by (Some code) e = rw e (code_quiet m.codes n code quiet e)

-- Where no function of a module waits or notifies, nothing does that is left at a place of one.
pub left_quiet : (m : Module) (n : ℕ) (p : Position) → any_waits m ≡ false → waits (remaining (body_of m n) p) ≡ false
left_quiet m n p quiet =
    let body = body_quiet m n quiet in
    behind_quiet p.index (sequence_at (body_of m n) p.list) (at_quiet (body_of m n ∷ inner_sequences (body_of m n)) p.list (or_from (waits (body_of m n)) _ body (inner_quiet (body_of m n) body)))
