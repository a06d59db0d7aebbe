-- Strings, element by element.
use Rattle.std.proofs.Common.{◌≡◌, ℕ, zero, suc, ◌+◌, ◌-◌, ◌≤◌, ◌<◌, Bool, false, cond, eqb, List, [], ◌∷◌, ◌++◌, length, drop, get_or, Option, Some, None, refl, sym, ap, ◌∙◌, arith}
use Rattle.std.proofs.Math.Seq.{drop-cons}
use Rattle.std.proofs.lemmas.List.{drop-drop, append_assoc}
use Rattle.std.specs.Option.{option_map, option_and_then}
use Rattle.wat_tokens.specs.Strings.{Spelled, element, elements, in_front}

-- so many bytes more
abbrev pub further : ℕ → Spelled → Spelled
further n s = record { length = s.length + n; bytes = s.bytes }

-- what an element and what is behind it stand for
abbrev pub behind : Spelled → Spelled → Spelled
behind e s = record { length = s.length + e.length; bytes = e.bytes ++ s.bytes }

same_length : (m n : ℕ) (bytes : List ℕ) → m ≡ n → ◌≡◌ {A = Option Spelled} (Some (record { length = m; bytes = bytes })) (Some (record { length = n; bytes = bytes }))
same_length m n bytes e = let of_length : ℕ → Option Spelled = λ k. Some (record { length = k; bytes = bytes }) in ap of_length e

no_further : (o : Option Spelled) → o ≡ option_map (further 0) o
no_further None = refl
no_further (Some s) = same_length s.length (s.length + 0) s.bytes (omega arith)

one_further : (n : ℕ) (o : Option Spelled) → option_map (in_front []) (option_map (further n) o) ≡ option_map (further (suc n)) o
one_further n None = refl
one_further n (Some s) = same_length (s.length + n + 1) (s.length + suc n) s.bytes (omega arith)

-- bytes of an element that has been read
pub skipped : (n : ℕ) (text : List ℕ) → elements n text ≡ option_map (further n) (elements 0 (drop n text))
skipped zero text = no_further (elements 0 text)
skipped (suc n) [] = refl
skipped (suc n) (byte ∷ rest) = ap (option_map (in_front [])) (skipped n rest) ∙ one_further n (elements 0 (drop n rest))

joined : (e : Spelled) (n : ℕ) (o : Option Spelled) → e.length ≡ suc n → option_map (in_front e.bytes) (option_map (further n) o) ≡ option_map (behind e) o
joined e n None h = refl
joined e n (Some s) h = same_length (s.length + n + 1) (s.length + e.length) (e.bytes ++ s.bytes) (omega arith)

-- an element at the front
pub front_element : (byte : ℕ) (rest : List ℕ) (e : Spelled) (n : ℕ) → eqb byte 34 ≡ false → element byte rest ≡ Some e → e.length ≡ suc n → elements 0 (byte ∷ rest) ≡ option_map (behind e) (elements 0 (drop n rest))
front_element byte rest e n other is h =
    let less : e.length - 1 ≡ n = omega arith in
    let more : Spelled → Option Spelled = λ e. option_map (in_front e.bytes) (elements (e.length - 1) rest) in
    let closing : Option Spelled = Some (record { length = 1; bytes = [] }) in
    ap (λ (t : Bool). cond t closing (option_and_then more (element byte rest))) other
    ∙ ap (option_and_then more) is
    ∙ ap (λ (k : ℕ). option_map (in_front e.bytes) (elements k rest)) less
    ∙ ap (option_map (in_front e.bytes)) (skipped n rest)
    ∙ joined e n (elements 0 (drop n rest)) h

-- an element at a place
pub element_at : (text : List ℕ) (at : ℕ) (e : Spelled) → at < length text → eqb (get_or text at 0) 34 ≡ false → element (get_or text at 0) (drop (at + 1) text) ≡ Some e → 1 ≤ e.length → elements 0 (drop at text) ≡ option_map (behind e) (elements 0 (drop (at + e.length) text))
element_at text at e h other is low =
    let n : e.length ≡ suc (e.length - 1) = omega arith in
    let one : at + 1 ≡ suc at = omega arith in
    let place : suc at + (e.length - 1) ≡ at + e.length = omega arith in
    ap (elements 0) (drop-cons text at 0 h)
    ∙ front_element (get_or text at 0) (drop (suc at) text) e (e.length - 1) other (ap (λ (k : ℕ). element (get_or text at 0) (drop k text)) (sym one) ∙ is) n
    ∙ ap (λ (rest : List ℕ). option_map (behind e) (elements 0 rest)) (drop-drop (e.length - 1) (suc at) text ∙ ap (λ (k : ℕ). drop k text) place)

lengths : (at : ℕ) (e : Spelled) (o : Option Spelled) → option_map (λ s. at + e.length + s.length) o ≡ option_map (λ s. at + s.length) (option_map (behind e) o)
lengths at e None = refl
lengths at e (Some s) = let some : ℕ → Option ℕ = λ n. Some n in ap some (let sum : at + e.length + s.length ≡ at + (s.length + e.length) = omega arith in sum)

pub length_step : (text : List ℕ) (at : ℕ) (e : Spelled) → at < length text → eqb (get_or text at 0) 34 ≡ false → element (get_or text at 0) (drop (at + 1) text) ≡ Some e → 1 ≤ e.length → option_map (λ s. at + e.length + s.length) (elements 0 (drop (at + e.length) text)) ≡ option_map (λ s. at + s.length) (elements 0 (drop at text))
length_step text at e h other is low =
    lengths at e (elements 0 (drop (at + e.length) text)) ∙ ap (option_map (λ s. at + s.length)) (sym (element_at text at e h other is low))

both : (old : List ℕ) (e : Spelled) (o : Option Spelled) → option_map (λ s. (old ++ e.bytes) ++ s.bytes) o ≡ option_map (λ s. old ++ s.bytes) (option_map (behind e) o)
both old e None = refl
both old e (Some s) = let some : List ℕ → Option (List ℕ) = λ xs. Some xs in ap some (append_assoc old e.bytes s.bytes)

pub bytes_step : (text : List ℕ) (at : ℕ) (e : Spelled) (old new : List ℕ) → new ≡ old ++ e.bytes → at < length text → eqb (get_or text at 0) 34 ≡ false → element (get_or text at 0) (drop (at + 1) text) ≡ Some e → 1 ≤ e.length → option_map (λ s. new ++ s.bytes) (elements 0 (drop (at + e.length) text)) ≡ option_map (λ s. old ++ s.bytes) (elements 0 (drop at text))
bytes_step text at e old new is_new h other is low =
    ap (λ (xs : List ℕ). option_map (λ s. xs ++ s.bytes) (elements 0 (drop (at + e.length) text))) is_new
    ∙ both old e (elements 0 (drop (at + e.length) text)) ∙ ap (option_map (λ s. old ++ s.bytes)) (sym (element_at text at e h other is low))

-- an element at the front, by its own length
pub whole_element : (byte : ℕ) (rest : List ℕ) (e : Spelled) → eqb byte 34 ≡ false → element byte rest ≡ Some e → 1 ≤ e.length → elements 0 (byte ∷ rest) ≡ option_map (behind e) (elements 0 (drop e.length (byte ∷ rest)))
whole_element byte rest e other is low =
    let n : e.length ≡ suc (e.length - 1) = omega arith in
    front_element byte rest e (e.length - 1) other is n ∙ ap (λ (k : ℕ). option_map (behind e) (elements 0 (drop k (byte ∷ rest)))) (sym n)

pub no_element : (byte : ℕ) (rest : List ℕ) → eqb byte 34 ≡ false → element byte rest ≡ None → elements 0 (byte ∷ rest) ≡ None
no_element byte rest other is =
    let more : Spelled → Option Spelled = λ e. option_map (in_front e.bytes) (elements (e.length - 1) rest) in
    let closing : Option Spelled = Some (record { length = 1; bytes = [] }) in
    ap (λ (t : Bool). cond t closing (option_and_then more (element byte rest))) other ∙ ap (option_and_then more) is
