-- Laws of what an object of the outside tells: growing in pieces is growing at once.
use Rattle.std.proofs.Common.{◌≡◌, ℕ, ◌+◌, ◌-◌, ◌≤◌, arith, length, length-drop, length-take, List, [], ◌++◌, Option, Some, None, take, drop, refl, ap, sym, ◌∙◌, append_assoc}
use Rattle.std.proofs.lemmas.List.{append-nil, take_rest}
use Rattle.std.proofs.Math.Seq.{take-add}
use Rattle.wx_types.specs.Outside.{followed_by, preceded_by}

-- nothing more behind it
pub followed_by-nil : (told : Option (List ℕ)) → followed_by told [] ≡ told
followed_by-nil None = refl
followed_by-nil (Some known) = ap Some (append-nil known)

-- one piece and then another behind it
pub followed_by-twice : (told : Option (List ℕ)) (a b : List ℕ) → followed_by (followed_by told a) b ≡ followed_by told (a ++ b)
followed_by-twice None a b = refl
followed_by-twice (Some known) a b = ap Some (append_assoc known a b)

-- a front of a list, and then a front of its rest
pub followed_by-take : (told : Option (List ℕ)) (n m : ℕ) (bytes : List ℕ) → followed_by (followed_by told (take n bytes)) (take m (drop n bytes)) ≡ followed_by told (take (n + m) bytes)
followed_by-take told n m bytes = followed_by-twice told (take n bytes) (take m (drop n bytes)) ∙ ap (followed_by told) (sym (take-add n m bytes))

-- the same by the facts of a call: from bytes were taken, and then n of the rest
pub followed_by-next : (start before after : Option (List ℕ)) (bytes : List ℕ) (from n : ℕ)
    → before ≡ followed_by start (take from bytes) → after ≡ followed_by before (take n (take (length bytes - from) (drop from bytes)))
    → after ≡ followed_by start (take (from + n) bytes)
followed_by-next start before after bytes from n was now =
    now ∙ ap (λ t. followed_by t (take n (take (length bytes - from) (drop from bytes)))) was
    ∙ ap (λ rest. followed_by (followed_by start (take from bytes)) (take n rest)) (take_rest bytes from)
    ∙ followed_by-take start from n bytes

-- a front of the rest ends within the list
pub front-within : (bytes : List ℕ) (from n : ℕ) → from ≤ length bytes → n ≤ length (take (length bytes - from) (drop from bytes)) → from + n ≤ length bytes
front-within bytes from n within least = omega (arith, length-take (length bytes - from) (drop from bytes), length-drop from bytes)

-- nothing more before it
pub preceded_by-nil : (told : Option (List ℕ)) → preceded_by told [] ≡ told
preceded_by-nil None = refl
preceded_by-nil (Some known) = refl

-- one piece before it and another before that
pub preceded_by-twice : (told : Option (List ℕ)) (a b : List ℕ) → preceded_by (preceded_by told b) a ≡ preceded_by told (a ++ b)
preceded_by-twice None a b = refl
preceded_by-twice (Some known) a b = ap Some (sym (append_assoc a b known))
