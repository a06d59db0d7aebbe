-- The tokens of a text, piece by piece.
use Rattle.std.proofs.Common.{◌≡◌, ℕ, zero, suc, ◌+◌, ◌-◌, ◌≤◌, ◌<◌, Bool, true, false, cond, eqb, List, [], ◌∷◌, ◌++◌, length, take, drop, get_or, Option, Some, None, Result, Ok, Err, refl, sym, ap, ◌∙◌, arith}
use Rattle.std.proofs.Math.Seq.{drop-cons}
use Rattle.std.proofs.lemmas.List.{drop-drop, append_assoc, append-nil}
use Rattle.std.proofs.lemmas.List.Sums.{sum_by-cons}
use Rattle.std.specs.List.{count_by}
use Rattle.std.specs.Option.{option_to_list}
use Rattle.wat_tokens.specs.Tokens.{Token, Piece, first, line_behind, with_token, behind_piece, and_then, tokens_from}

-- tokens in front of those of the rest
abbrev pub behind_tokens : List Token → Result (List Token) ℕ → Result (List Token) ℕ
behind_tokens front (Ok tokens) = Ok (front ++ tokens)
behind_tokens front (Err line) = Err line

abbrev pub lines : List ℕ → ℕ
lines text = count_by (λ byte. eqb byte 10) text

one_line : (line : ℕ) (byte : ℕ) (rest : List ℕ) → line_behind line byte + lines rest ≡ line + lines (byte ∷ rest)
one_line line byte rest =
    let more : lines (byte ∷ rest) ≡ cond (eqb byte 10) 1 0 + lines rest = sum_by-cons (λ (x : ℕ). cond (eqb x 10) 1 0) byte rest in
    let ends : line_behind line byte ≡ line + cond (eqb byte 10) 1 0 = elim (eqb byte 10) as (λ (t : Bool). cond t (line + 1) line ≡ line + cond t 1 0) [ true ↦ refl | false ↦ omega arith ] in
    omega arith

-- bytes of a piece that has been read
pub skipped : (n line : ℕ) (text : List ℕ) → tokens_from n line text ≡ tokens_from 0 (line + lines (take n text)) (drop n text)
skipped zero line text = ap (λ (k : ℕ). tokens_from 0 k text) (let none : line ≡ line + 0 = omega arith in none)
skipped (suc n) line [] = refl
skipped (suc n) line (byte ∷ rest) =
    skipped n (line_behind line byte) rest ∙ ap (λ (k : ℕ). tokens_from 0 k (drop n rest)) (one_line line byte (take n rest))

-- a piece at the front
pub front_piece : (line byte : ℕ) (rest : List ℕ) (p : Piece) (n : ℕ) → first line (byte ∷ rest) ≡ Some p → p.length ≡ suc n → tokens_from 0 line (byte ∷ rest) ≡ behind_piece p.token (tokens_from 0 (line + lines (take (suc n) (byte ∷ rest))) (drop n rest))
front_piece line byte rest p n is h =
    let less : p.length - 1 ≡ n = omega arith in
    let more : ℕ → Result (List Token) ℕ = λ k. tokens_from k (line_behind line byte) rest in
    ap (λ (o : Option Piece). and_then line o more) is
    ∙ ap (λ (k : ℕ). behind_piece p.token (more k)) less
    ∙ ap (behind_piece p.token) (skipped n (line_behind line byte) rest ∙ ap (λ (k : ℕ). tokens_from 0 k (drop n rest)) (one_line line byte (take n rest)))

-- a piece at a place
pub piece_step : (text : List ℕ) (start line : ℕ) (p : Piece) → start < length text → first line (drop start text) ≡ Some p → 1 ≤ p.length → tokens_from 0 line (drop start text) ≡ behind_piece p.token (tokens_from 0 (line + lines (take p.length (drop start text))) (drop (start + p.length) text))
piece_step text start line p h is low =
    let n : p.length ≡ suc (p.length - 1) = omega arith in
    let place : suc start + (p.length - 1) ≡ start + p.length = omega arith in
    let parts : drop start text ≡ get_or text start 0 ∷ drop (suc start) text = drop-cons text start 0 h in
    ap (tokens_from 0 line) parts
    ∙ front_piece line (get_or text start 0) (drop (suc start) text) p (p.length - 1) (ap (first line) (sym parts) ∙ is) n
    ∙ ap (λ (rest : List ℕ). behind_piece p.token (tokens_from 0 (line + lines (take (suc (p.length - 1)) rest)) (drop (p.length - 1) (drop (suc start) text)))) (sym parts)
    ∙ ap (λ (k : ℕ). behind_piece p.token (tokens_from 0 (line + lines (take k (drop start text))) (drop (p.length - 1) (drop (suc start) text)))) (sym n)
    ∙ ap (λ (rest : List ℕ). behind_piece p.token (tokens_from 0 (line + lines (take p.length (drop start text))) rest)) (drop-drop (p.length - 1) (suc start) text ∙ ap (λ (k : ℕ). drop k text) place)

-- where there is no piece
pub fault_at : (text : List ℕ) (start line : ℕ) → start < length text → first line (drop start text) ≡ None → tokens_from 0 line (drop start text) ≡ Err line
fault_at text start line h is =
    let parts : drop start text ≡ get_or text start 0 ∷ drop (suc start) text = drop-cons text start 0 h in
    let more : ℕ → Result (List Token) ℕ = λ k. tokens_from k (line_behind line (get_or text start 0)) (drop (suc start) text) in
    ap (tokens_from 0 line) parts ∙ ap (λ (o : Option Piece). and_then line o more) (ap (first line) (sym parts) ∙ is)

joined : (front : List Token) (token : Option Token) (tokens : List Token) → front ++ with_token token tokens ≡ (front ++ option_to_list token) ++ tokens
joined front None tokens = ap (λ (ts : List Token). ts ++ tokens) (sym (append-nil front))
joined front (Some token) tokens = sym (append_assoc front (token ∷ []) tokens)

pub behind_both : (front : List Token) (token : Option Token) (rest : Result (List Token) ℕ) → behind_tokens front (behind_piece token rest) ≡ behind_tokens (front ++ option_to_list token) rest
behind_both front token (Ok tokens) = let ok : List Token → Result (List Token) ℕ = λ ts. Ok ts in ap ok (joined front token tokens)
behind_both front token (Err line) = refl

pub behind_end : (front : List Token) (line : ℕ) (rest : List ℕ) → rest ≡ [] → behind_tokens front (tokens_from 0 line rest) ≡ Ok front
behind_end front line rest none =
    let ok : List Token → Result (List Token) ℕ = λ ts. Ok ts in
    ap (λ (text : List ℕ). behind_tokens front (tokens_from 0 line text)) none ∙ ap ok (append-nil front)

-- a piece read, with its token behind the others
pub read_step : (text : List ℕ) (start line n : ℕ) (p : Piece) (old new : List Token) → start < length text → first line (drop start text) ≡ Some p → 1 ≤ p.length → new ≡ old ++ option_to_list p.token → n ≡ lines (take p.length (drop start text)) → behind_tokens new (tokens_from 0 (line + n) (drop (start + p.length) text)) ≡ behind_tokens old (tokens_from 0 line (drop start text))
read_step text start line n p old new h is low is_new is_n =
    ap (λ (front : List Token). behind_tokens front (tokens_from 0 (line + n) (drop (start + p.length) text))) is_new
    ∙ ap (λ (k : ℕ). behind_tokens (old ++ option_to_list p.token) (tokens_from 0 (line + k) (drop (start + p.length) text))) is_n
    ∙ sym (behind_both old p.token (tokens_from 0 (line + lines (take p.length (drop start text))) (drop (start + p.length) text)))
    ∙ ap (behind_tokens old) (sym (piece_step text start line p h is low))

-- a piece at the front, by its own length
pub whole_piece : (line : ℕ) (text : List ℕ) (p : Piece) → first line text ≡ Some p → 1 ≤ p.length → tokens_from 0 line text ≡ behind_piece p.token (tokens_from 0 (line + lines (take p.length text)) (drop p.length text))
whole_piece line [] p is low = cc
whole_piece line (byte ∷ rest) p is low =
    let n : p.length ≡ suc (p.length - 1) = omega arith in
    front_piece line byte rest p (p.length - 1) is n
    ∙ ap (λ (k : ℕ). behind_piece p.token (tokens_from 0 (line + lines (take k (byte ∷ rest))) (drop k (byte ∷ rest)))) (sym n)

pub no_piece : (line byte : ℕ) (rest : List ℕ) → first line (byte ∷ rest) ≡ None → tokens_from 0 line (byte ∷ rest) ≡ Err line
no_piece line byte rest is =
    let more : ℕ → Result (List Token) ℕ = λ k. tokens_from k (line_behind line byte) rest in
    ap (λ (o : Option Piece). and_then line o more) is
