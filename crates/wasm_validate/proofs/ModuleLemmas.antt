-- Lists of a module's parts.
use Rattle.std.proofs.Common.{◌≡◌, ℕ, zero, suc, ◌+◌, ◌-◌, ◌<◌, ◌≤◌, Bool, true, false, not, ◌&&◌, ◌||◌, List, [], ◌∷◌, length, drop, get_or, Option, Some, is_some, cond, refl, sym, ap, ◌∙◌, arith}
use Rattle.std.specs.List.{list_all, list_any}
use Rattle.std.specs.Str.{bytes_eq}
use Rattle.std.proofs.lemmas.List.{drop_more}
use Rattle.wasm_validate.specs.Prelude.{ValType, Instr, GlobalGet, Export, Code, Sequence, in_front, sequence, Context, is_constant_instruction, are_constant, are_different, are_functions}
use Rattle.wasm_ast.specs.declared.instr.Instr.TheVariants as instr

constant_front : (globals : List (ValType × Bool)) (F : ℕ → Sequence) (i : Instr) (rest : Sequence) → are_constant globals (in_front F i rest) ≡ (is_constant_instruction globals i && are_constant globals rest)
constant_front globals F (instr.Variable GlobalGet x) rest = refl
constant_front globals F _ rest = refl

pub are_constant-sequence : (globals : List (ValType × Bool)) (F : ℕ → Sequence) (is : List Instr) → are_constant globals (sequence F is) ≡ list_all (is_constant_instruction globals) is
are_constant-sequence globals F [] = refl
are_constant-sequence globals F (i ∷ is) = constant_front globals F i (sequence F is) ∙ ap (λ x. is_constant_instruction globals i && x) (are_constant-sequence globals F is)

-- a name that stands twice behind some exports stands twice among all
pub different_drop : (es : List Export) (n : ℕ) → are_different (drop n es) ≡ false → are_different es ≡ false
different_drop es zero h = h
different_drop [] (suc n) h = h
different_drop (e ∷ es) (suc n) h = let r = different_drop es n h in grind arith

-- functions and codes are as many
pub not_paired : (c : Context) (ofs : List ℕ) (codes : List Code) → (length ofs ≡ length codes → ⊥) → are_functions c ofs codes ≡ false
not_paired c [] [] h = absurd (h refl)
not_paired c [] (code ∷ codes) h = refl
not_paired c (of ∷ ofs) [] h = refl
not_paired c (of ∷ ofs) (code ∷ codes) h =
    let r = not_paired c ofs codes (λ e. h (ap (λ n. suc n) e)) in grind arith

drop_down : (es : List Export) (n : ℕ) (e : Export) → 0 < n → n ≤ length es → e ≡ get_or es (n - 1) e → drop (n - 1) es ≡ e ∷ drop n es
drop_down es n e p h q =
    let next : n - 1 + 1 ≡ n = omega arith in
    drop_more es (n - 1) e (omega arith) ∙ ap (λ x. x ∷ drop (n - 1 + 1) es) (sym q) ∙ ap (λ k. e ∷ drop k es) next

abbrev IsAmongNames : List ℕ → List Export → Bool
IsAmongNames q es = list_any (λ (d : Export). bytes_eq d.name q) es

-- what the names are one export further on depends on whether its name stands among those behind
pub different_down : (es : List Export) (n : ℕ) (e : Export) (q : List ℕ) (among : Bool) → 0 < n → n ≤ length es → e ≡ get_or es (n - 1) e → q ≡ e.name → among ≡ list_any (λ (d : Export). bytes_eq d.name q) (drop n es) →
    are_different (drop (n - 1) es) ≡ (not among && are_different (drop n es))
different_down es n e q among p h at name found =
    ap are_different (drop_down es n e p h at)
    ∙ ap (λ x. not (IsAmongNames x (drop n es)) && are_different (drop n es)) (sym name)
    ∙ ap (λ x. not x && are_different (drop n es)) (sym found)

pub seen_more : (es : List Export) (n : ℕ) (e : Export) (k q : List ℕ) (before after : Option (Unit {0})) → 0 < n → n ≤ length es → e ≡ get_or es (n - 1) e → k ≡ e.name →
    after ≡ cond (bytes_eq k q) (Some tt) before → is_some before ≡ list_any (λ (d : Export). bytes_eq d.name q) (drop n es) → is_some after ≡ list_any (λ (d : Export). bytes_eq d.name q) (drop (n - 1) es)
seen_more es n e k q before after p h at name put seen =
    ap is_some put
    ∙ (elim (bytes_eq k q) as (λ b. is_some (cond b (Some tt) before) ≡ (b || is_some before)) [ true ↦ refl | false ↦ refl ])
    ∙ ap (λ b. bytes_eq k q || b) seen
    ∙ ap (λ x. bytes_eq x q || IsAmongNames q (drop n es)) name
    ∙ ap (IsAmongNames q) (sym (drop_down es n e p h at))
