-- What a walk finds is what the sequence has.
use Rattle.std.proofs.Common.{◌≡◌, ℕ, ◌+◌, ◌-◌, ◌<◌, ◌≤◌, Bool, true, false, ◌||◌, nat_lt, List, [], ◌∷◌, ◌++◌, refl, sym, ap, ◌∙◌, arith, append_assoc, ⊎_elim}
use Rattle.std.specs.Prelude.{min, max}
use Rattle.std.specs.List.{list_any}
use Rattle.std.proofs.lemmas.Bool.{cases_lt}
use Rattle.std.proofs.Math.Bool.{or_assoc, or-false}
use Rattle.std.proofs.lemmas.List.{append-nil}
use Rattle.std.proofs.lemmas.List.Folds.{list_any-append}
use Rattle.wasm_ast.specs.Sequence.{Sequence, Empty, Plain, Block, If}
use Rattle.wasm_ast.specs.Events.{Event, Instruction, Else, End, is_empty, events}
use Rattle.wasm_decode.specs.Floats.{block_is_float, has_float}
use Rattle.wasm_decode.specs.Nesting.{depth}
use Rattle.wasm_decode.specs.Bounds.{is_deep}
use Rattle.wasm_decode.specs.Search.{event_is_float, is_deep_from}

-- a float among the events is one of the sequence
pub float_events : (s : Sequence) → list_any event_is_float (events s) ≡ has_float s
float_events Empty = refl
float_events (Plain i rest) = ap (λ b. event_is_float (Instruction i) || b) (float_events rest)
float_events (Block k of body rest) =
    rw (list_any-append event_is_float (events body) (End ∷ events rest), float_events body, float_events rest) (sym (or_assoc (block_is_float of) (has_float body) (has_float rest)))
float_events (If of first second rest) =
    let a = list_any-append event_is_float (events first) (Else (is_empty second) ∷ events second ++ (End ∷ events rest)) in
    let b = list_any-append event_is_float (events second) (End ∷ events rest) in
    rw (a, b, float_events first, float_events second, float_events rest, or_assoc (block_is_float of) (has_float first || has_float second) (has_float rest), or_assoc (has_float first) (has_float second) (has_float rest)) refl

past_max : (n d e : ℕ) → nat_lt 256 (n + max d e) ≡ (nat_lt 256 (n + d) || nat_lt 256 (n + e))
past_max n d e = grind arith

-- a construct begins where so many are open
construct_deep : (n d : ℕ) (inside : ℕ → Bool) (x : Bool) → n ≤ 256 → (n < 256 → inside (n + 1) ≡ (nat_lt 256 ((n + 1) + d) || x)) → (nat_lt 255 n || inside (min 256 (n + 1))) ≡ (nat_lt 256 (n + (1 + d)) || x)
construct_deep n d inside x h k =
    ⊎_elim
    (λ (l : n < 256).
    let low : nat_lt 255 n ≡ false = grind arith in
    let same : min 256 (n + 1) ≡ n + 1 = omega arith in
    ap (λ b. b || inside (min 256 (n + 1))) low ∙ ap inside same ∙ k l ∙ ap (λ m. nat_lt 256 m || x) {y = n + (1 + d)} (omega arith))
    (λ (l : 256 ≤ n).
    let high : nat_lt 255 n ≡ true = grind arith in
    let past : nat_lt 256 (n + (1 + d)) ≡ true = grind arith in
    ap (λ b. b || inside (min 256 (n + 1))) high ∙ ap (λ b. b || x) (sym past))
    (cases_lt n 256)

-- at most 256 are open, and then a sequence comes
deep_behind : (s : Sequence) (n : ℕ) (es : List Event) → n ≤ 256 → is_deep_from n (events s ++ es) ≡ (nat_lt 256 (n + depth s) || is_deep_from n es)
deep_behind Empty n es h = grind arith
deep_behind (Plain i rest) n es h = deep_behind rest n es h
deep_behind (Block k of body rest) n es h =
    let d = depth body in
    let x = is_deep_from n es in
    let back : (n + 1) - 1 ≡ n = omega arith in
    rw (append_assoc (events body) (End ∷ events rest) es, past_max n (1 + d) (depth rest), or_assoc (nat_lt 256 (n + (1 + d))) (nat_lt 256 (n + depth rest)) x)
    (construct_deep n d (λ m. is_deep_from m (events body ++ (End ∷ (events rest ++ es)))) (nat_lt 256 (n + depth rest) || x) h
    (λ l. rw (deep_behind body (n + 1) (End ∷ (events rest ++ es)) (omega arith), back, deep_behind rest n es h) refl))
deep_behind (If of first second rest) n es h =
    let d = depth first in
    let e = depth second in
    let x = is_deep_from n es in
    let y = nat_lt 256 (n + depth rest) || x in
    let back : (n + 1) - 1 ≡ n = omega arith in
    let behind = Else (is_empty second) ∷ (events second ++ (End ∷ (events rest ++ es))) in
    rw (
      append_assoc (events first) (Else (is_empty second) ∷ events second ++ (End ∷ events rest)) es,
      append_assoc (events second) (End ∷ events rest) es,
      past_max n (1 + max d e) (depth rest),
      or_assoc (nat_lt 256 (n + (1 + max d e))) (nat_lt 256 (n + depth rest)) x,
    )
    (construct_deep n (max d e) (λ m. is_deep_from m (events first ++ behind)) y h
    (λ l.
    rw (deep_behind first (n + 1) behind (omega arith), deep_behind second (n + 1) (End ∷ (events rest ++ es)) (omega arith), back, deep_behind rest n es h, past_max (n + 1) d e, or_assoc (nat_lt 256 ((n + 1) + d)) (nat_lt 256 ((n + 1) + e)) y) refl))

pub deep_events : (s : Sequence) → is_deep_from 0 (events s) ≡ is_deep s
deep_events s =
    ap (is_deep_from 0) (sym (append-nil (events s))) ∙ deep_behind s 0 [] (omega arith) ∙ or-false (nat_lt 256 (0 + depth s)) ∙ ap (nat_lt 256) {y = depth s} (omega arith)

-- what was found before, and in these
pub found_behind : {X : Type 0} (f : X → Bool) (xs ys : List X) (a b c : Bool) → a ≡ (b || list_any f xs) → b ≡ c → xs ≡ ys → a ≡ (c || list_any f ys)
found_behind f xs ys a b c p q r = p ∙ ap (λ x. x || list_any f xs) q ∙ ap (λ zs. c || list_any f zs) r
