-- What an option that a map, a chain or a default makes comes from.
use Rattle.std.proofs.Common.{◌≡◌, true, false, Option, Some, None, is_some, is_none, Ok, Err, refl, sym, ◌∙◌}
use Rattle.std.proofs.lemmas.Option.{same_Some}
use Rattle.std.specs.Option.{option_map, option_and_then, ok_or}

pub none_never : {A : Type 0} (o : Option A) (x : A) → o ≡ None → o ≡ Some x → ⊥
none_never o x none some = cc

-- an option has one value
pub same_found : {A : Type 0} (o : Option A) (x y : A) → o ≡ Some x → o ≡ Some y → x ≡ y
same_found o x y a b = same_Some x y (sym a ∙ b)

pub mapped_from : {A B : Type 0} (f : A → B) (o : Option A) (y : B) → option_map f o ≡ Some y → (x : A) × (o ≡ Some x) × (f x ≡ y)
mapped_from f None y e = cc
mapped_from f (Some x) y e = (x, refl, cc)

pub mapped_none : {A B : Type 0} (f : A → B) (o : Option A) → option_map f o ≡ None → o ≡ None
mapped_none f None e = refl
mapped_none f (Some x) e = cc

pub chained_from : {A B : Type 0} (f : A → Option B) (o : Option A) (y : B) → option_and_then f o ≡ Some y → (x : A) × (o ≡ Some x) × (f x ≡ Some y)
chained_from f None y e = cc
chained_from f (Some x) y e = (x, refl, e)

pub ok_from : {A E : Type 0} (o : Option A) (fault : E) (x : A) → ok_or o fault ≡ Ok x → o ≡ Some x
ok_from None fault x e = cc
ok_from (Some y) fault x e = cc

pub err_from : {A E : Type 0} (o : Option A) (fault other : E) → ok_or o fault ≡ Err other → (o ≡ None) × (fault ≡ other)
err_from None fault other e = (refl, cc)
err_from (Some y) fault other e = cc

pub some_from : {A : Type 0} (o : Option A) → is_some o ≡ true → (x : A) × (o ≡ Some x)
some_from None e = cc
some_from (Some x) e = (x, refl)

pub none_from : {A : Type 0} (o : Option A) → is_none o ≡ true → o ≡ None
none_from None e = refl
none_from (Some x) e = cc

pub not_some : {A : Type 0} (o : Option A) → is_some o ≡ false → o ≡ None
not_some None e = refl
not_some (Some x) e = cc
