-- The type that a use means stands at its index.
use Rattle.std.proofs.Common.{◌≡◌, ℕ, Bool, true, false, cond, ◌||◌, List, Option, Some, None, refl, sym, ◌∙◌, ap, subst, slice_get}
use Rattle.std.specs.List.{position}
use Rattle.std.specs.Option.{option_map, option_and_then}
use Rattle.wasm_ast.specs.declared.types.FuncType.{FuncType}
use Rattle.wat_syntax.specs.Parsed.{Identifier, Reference, TypeUse, function_type}
use Rattle.wat_spaces.specs.Spaces.{index_in}
use Rattle.wat_spaces.specs.Types.{Found, found_at, if_agrees, has_no_parts, same_function_type, meant_by, meaning_of}

at_index : (types : List FuncType) (n : ℕ) (f : Found) (o : Option FuncType) → slice_get types n ≡ o → option_map (λ of. record { index = n; of = of }) o ≡ Some f → slice_get types f.index ≡ Some f.of
at_index types n f None e h = absurd (let h' = h in cc)
at_index types n f (Some t) e h = let same : record { index = n; of = t } ≡ f = let h' = h in cc in subst (λ (g : Found). slice_get types g.index ≡ Some g.of) same e

by_index : (types : List FuncType) (f : Found) (o : Option ℕ) → option_and_then (found_at types) o ≡ Some f → slice_get types f.index ≡ Some f.of
by_index types f None h = absurd (let h' = h in cc)
by_index types f (Some n) h = at_index types n f (slice_get types n) refl h

agreed : (types : List FuncType) (of : FuncType) (f g : Found) (b : Bool) → cond b (Some g) None ≡ Some f → slice_get types g.index ≡ Some g.of → slice_get types f.index ≡ Some f.of
agreed types of f g true h k = let same : g ≡ f = let h' = h in cc in subst (λ (x : Found). slice_get types x.index ≡ Some x.of) same k
agreed types of f g false h k = absurd (let h' = h in cc)

agreeing : (types : List FuncType) (of : FuncType) (f : Found) (o : Option Found) → ((g : Found) → o ≡ Some g → slice_get types g.index ≡ Some g.of) → option_and_then (if_agrees of) o ≡ Some f → slice_get types f.index ≡ Some f.of
agreeing types of f None k h = absurd (let h' = h in cc)
agreeing types of f (Some g) k h = agreed types of f g (has_no_parts of || same_function_type of g.of) h (k g refl)

stands : (names : List Identifier) (types : List FuncType) (named : Option Reference) (of : FuncType) (f : Found) → meant_by names types named of ≡ Some f → slice_get types f.index ≡ Some f.of
stands names types None of f h = by_index types f (position (same_function_type of) types) h
stands names types (Some x) of f h = agreeing types of f (option_and_then (found_at types) (index_in names x)) (λ g e. by_index types g (index_in names x) e) h

abbrev with_index : ℕ → FuncType → Found
with_index n of = record { index = n; of = of }

found_case : (types : List FuncType) (n : ℕ) (o : Option Found) (t : Option FuncType) → ((f : Found) → o ≡ Some f → slice_get types f.index ≡ Some f.of) → option_map (λ (f : Found). f.index) o ≡ Some n → t ≡ slice_get types n →
    o ≡ option_map (with_index n) t
found_case types n None t k h e = absurd (let h' = h in cc)
found_case types n (Some f) t k h e =
    let i : f.index ≡ n = let h' = h in cc in
    sym (ap (option_map (with_index n)) (e ∙ ap (slice_get types) (sym i) ∙ k f refl) ∙ ap (λ j. Some (with_index j f.of)) (sym i))

-- what is meant, by its index and what stands there
pub type_there : (names : List Identifier) (types : List FuncType) (u : TypeUse) (n : ℕ) (t : Option FuncType) → option_map (λ (f : Found). f.index) (meaning_of names types u) ≡ Some n → t ≡ slice_get types n →
    meaning_of names types u ≡ option_map (λ of. record { index = n; of = of }) t
type_there names types u n t h e = found_case types n (meaning_of names types u) t (stands names types u.named (function_type u)) h e
