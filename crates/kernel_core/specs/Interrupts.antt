use Rattle.std.specs.Prelude.{ℕ, Bool, ◌==◌, [], ◌∷◌}
use Rattle.std.specs.List.{list_any}

abbrev pub is_interruptible : ℕ → Bool
is_interruptible call = list_any (λ number. call == number) (16 ∷ 17 ∷ 36 ∷ 60 ∷ 64 ∷ 66 ∷ 67 ∷ [])
