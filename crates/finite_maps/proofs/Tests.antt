-- What holds where both of two tests pass, and which order passes a test of it.
use Rattle.std.proofs.Common.{◌≡◌, true, false, Bool, T, ◌&&◌, refl}
use Rattle.std.specs.declared.cmp.Ordering.{Ordering}
use Rattle.std.specs.declared.cmp.Ordering.TheVariants.{Less, Equal, Greater}
use Rattle.std.specs.Ordering.{is_eq, is_lt}

pub left : (a b : Bool) → T (a && b) → T a
left true b p = tt
left false b p = p

pub right : (a b : Bool) → T (a && b) → T b
right true b p = p
right false b p = absurd p

pub is_less : (r : Ordering) → T (is_lt r) → r ≡ Less
is_less Less p = refl
is_less Equal p = absurd p
is_less Greater p = absurd p

pub is_equal : (r : Ordering) → is_eq r ≡ true → r ≡ Equal
is_equal Less p = cc
is_equal Equal p = refl
is_equal Greater p = cc
