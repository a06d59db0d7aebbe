-- What is printed of a history, entry by entry.
use Rattle.std.proofs.Common.{◌≡◌, ◌≤◌, ◌<◌, ◌+◌, ℕ, List, [], ◌∷◌, ◌++◌, length, take, drop, get_or, slice_get, cond, OnOk, OnErr, inl, inr, Option, Some, None, Result, Ok, Err, refl, sym, ap, ◌∙◌, arith, append_assoc, length-append}
use Rattle.std.specs.Result.{is_ok}
use Rattle.std.proofs.lemmas.List.{take_more, append-nil, take-append-le, take-append-drop}
use Rattle.std.proofs.lemmas.List.Concat.{flat_map-append}
use Rattle.std.proofs.lemmas.Option.{slice_get-get_or}
use Rattle.std.proofs.Math.Seq.{take-append-add, take-length}
use Rattle.wx_types.specs.declared.entries.Entry.{Entry}
use Rattle.wx_types.specs.Outside.{Rose, followed_by, GrewByFront}
use Rattle.wx_types.proofs.Told.{followed_by-twice}
use Rattle.wx_types.specs.declared.errors.Failed.{Failed}
use Rattle.wasix_run.specs.declared.reason.Reason.{Reason}
use Rattle.wasix_run.specs.declared.print.Stream.{Stream}
use Rattle.wasix_run.specs.Texts.{text_of}
use Rattle.wasix_run.specs.Outside.{Took, IsText}
use Rattle.wasix_run.specs.Printed.{piece, printed}

-- the entry at an index
there : (entries : List Entry) (i : ℕ) (found : Option Entry) (entry : Entry) → i < length entries → found ≡ slice_get entries i → found ≡ Some entry → get_or entries i entry ≡ entry
there entries i found entry lt looked is =
    let both : Some (get_or entries i entry) ≡ Some entry = sym (slice_get-get_or entries i entry lt) ∙ sym looked ∙ is in
    cc

pub printed_more : (stream : Stream) (entries : List Entry) (i : ℕ) (found : Option Entry) (entry : Entry) → i < length entries → found ≡ slice_get entries i → found ≡ Some entry → printed stream (take (i + 1) entries) ≡ printed stream (take i entries) ++ piece stream entry.outcome
printed_more stream entries i found entry lt looked is =
    ap (printed stream) (take_more entries i entry lt ∙ ap (λ (e : Entry). take i entries ++ e ∷ []) (there entries i found entry lt looked is))
    ∙ flat_map-append (λ (e : Entry). piece stream e.outcome) (take i entries) (entry ∷ [])
    ∙ ap (λ (bs : List ℕ). printed stream (take i entries) ++ bs) (append-nil (piece stream entry.outcome))

-- an index within the list has an entry
pub none_within : (entries : List Entry) (i : ℕ) → i < length entries → None ≡ slice_get entries i → ⊥
none_within [] i lt none = omega arith
none_within (e ∷ es) i lt none =
    let both : Some (get_or (e ∷ es) i e) ≡ None = sym (slice_get-get_or (e ∷ es) i e lt) ∙ sym none in
    cc

pub told_more : (start before after : Option (List ℕ)) (so_far more all : List ℕ) → before ≡ followed_by start so_far → after ≡ followed_by before more → all ≡ so_far ++ more → after ≡ followed_by start all
told_more start before after so_far more all was now is =
    now ∙ ap (λ t. followed_by t more) was ∙ followed_by-twice start so_far more ∙ ap (followed_by start) (sym is)

-- all that is printed is what is so far, and the rest
printed_rest : (stream : Stream) (entries : List Entry) (i : ℕ) → printed stream entries ≡ printed stream (take i entries) ++ printed stream (drop i entries)
printed_rest stream entries i =
    ap (printed stream) (sym (take-append-drop i entries)) ∙ flat_map-append (λ (e : Entry). piece stream e.outcome) (take i entries) (drop i entries)

-- a front of the next piece makes a front of all
pub front_more : (stream : Stream) (entries : List Entry) (i : ℕ) (found : Option Entry) (entry : Entry) (start before after : Option (List ℕ)) → i < length entries → found ≡ slice_get entries i → found ≡ Some entry → before ≡ followed_by start (printed stream (take i entries)) → GrewByFront before after (piece stream entry.outcome) → GrewByFront start after (printed stream entries)
front_more stream entries i found entry start before after lt looked is was grew =
    let so_far : List ℕ = printed stream (take i entries) in
    let next : List ℕ = piece stream entry.outcome in
    let rest : List ℕ = printed stream (drop (i + 1) entries) in
    let n : ℕ = grew.0 in
    let all : printed stream entries ≡ so_far ++ (next ++ rest) =
    printed_rest stream entries (i + 1) ∙ ap (λ (bs : List ℕ). bs ++ rest) (printed_more stream entries i found entry lt looked is) ∙ append_assoc so_far next rest in
    let few : n ≤ length next = grew.1 in
    let long : length (printed stream entries) ≡ length so_far + (length next + length rest) = ap length all ∙ length-append so_far (next ++ rest) ∙ ap (λ k. length so_far + k) (length-append next rest) in
    let within : length so_far + n ≤ length (printed stream entries) = omega arith in
    let front : take (length so_far + n) (printed stream entries) ≡ so_far ++ take n next =
    ap (take (length so_far + n)) all ∙ take-append-add so_far (next ++ rest) n ∙ ap (λ (bs : List ℕ). so_far ++ bs) (take-append-le n next rest few) in
    (length so_far + n, within, told_more start before after so_far (take n next) (take (length so_far + n) (printed stream entries)) was grew.2 front)

-- ---- fronts

-- all of it is a front of it
pub grew_all : (start after : Option (List ℕ)) (all : List ℕ) → after ≡ followed_by start all → GrewByFront start after all
grew_all start after all is = (length all, omega arith, is ∙ ap (followed_by start) (sym (take-length all)))

-- a front is one of a longer list
pub grew_wider : (start after : Option (List ℕ)) (a b : List ℕ) → GrewByFront start after a → GrewByFront start after (a ++ b)
grew_wider start after a b grew =
    let few : grew.0 ≤ length a = grew.1 in
    (grew.0, omega (arith, length-append a b), grew.2 ∙ ap (followed_by start) (sym (take-append-le grew.0 a b few)))

-- all of a list, and then a front of another
pub grew_then : (start mid after : Option (List ℕ)) (a b : List ℕ) → mid ≡ followed_by start a → GrewByFront mid after b → GrewByFront start after (a ++ b)
grew_then start mid after a b was grew =
    let few : grew.0 ≤ length b = grew.1 in
    (length a + grew.0, omega (arith, length-append a b), told_more start mid after a (take grew.0 b) (take (length a + grew.0) (a ++ b)) was grew.2 (take-append-add a b grew.0))

-- ---- the text

-- a sink took all of it, or failed with a front of it
pub took_by : (before after : Option (List ℕ)) (count now : ℕ) (bytes : List ℕ) (result : Result (Unit {0}) Failed) → OnOk result (after ≡ followed_by before bytes) → OnErr result (Rose count now) → OnErr result (GrewByFront before after bytes) → Took before after count now bytes
took_by before after count now bytes (Ok x) whole fault front = record { whole = λ sound. whole; front = grew_all before after bytes whole }
took_by before after count now bytes (Err failed) whole fault front = record { whole = λ sound. absurd (sound fault); front = front }

-- the text that stands behind the errors, by what became of the output and the errors
pub is_text : (first reason : Reason) (text : List ℕ) (out err : Result (Unit {0}) Failed) (out_failed err_failed : Type 0) → text ≡ cond (is_ok out) (text_of first) [] → OnErr out out_failed → OnErr err err_failed → (out ≡ Ok tt → err ≡ Ok tt → reason ≡ first) → IsText first reason text out_failed err_failed
is_text first reason text (Ok x) (Ok y) out_failed err_failed is o e sound = inl (is, inl (sound refl refl))
is_text first reason text (Ok x) (Err failed) out_failed err_failed is o e sound = inl (is, inr e)
is_text first reason text (Err failed) err out_failed err_failed is o e sound = inr (is, o)
