-- Open descriptions as data, by which a proof tells their values apart.
use Rattle.std.specs.Prelude.{◌≡◌, ℕ, zero, suc, Bool, ◌⊎◌, refl}
use Rattle.std.proofs.Common.{inl, inr}
use Rattle.std.specs.Ordering.{nat_cmp}
use Rattle.std.specs.FinMap.{FinMap, code as code_of_map}
use Rattle.std.specs.Coded.{Coded, code_by, coded×, coded⊎, coded_ℕ, coded_bool}
use Rattle.open_desc.specs.declared.description.Kind.{Kind}
use Rattle.open_desc.specs.declared.description.Kind.TheVariants.{Input, Output, Error, File, Dir, PipeRead, PipeWrite}
use Rattle.open_desc.specs.declared.description.Description.{Description}
use Rattle.open_desc.specs.declared.description.Opened.{Opened}

abbrev pub kind_sum : Kind → ℕ ⊎ (ℕ ⊎ (ℕ ⊎ (ℕ ⊎ ℕ)))
kind_sum Input = inl 0
kind_sum Output = inl 1
kind_sum Error = inl 2
kind_sum (File node) = inr (inl node)
kind_sum (Dir node) = inr (inr (inl node))
kind_sum (PipeRead pipe) = inr (inr (inr (inl pipe)))
kind_sum (PipeWrite pipe) = inr (inr (inr (inr pipe)))

abbrev pub console_kind : ℕ → Kind
console_kind zero = Input
console_kind (suc zero) = Output
console_kind (suc (suc n)) = Error

abbrev pub sum_kind : ℕ ⊎ (ℕ ⊎ (ℕ ⊎ (ℕ ⊎ ℕ))) → Kind
sum_kind (inl n) = console_kind n
sum_kind (inr (inl node)) = File node
sum_kind (inr (inr (inl node))) = Dir node
sum_kind (inr (inr (inr (inl pipe)))) = PipeRead pipe
sum_kind (inr (inr (inr (inr pipe)))) = PipeWrite pipe

pub sum_kind_sum : (kind : Kind) → sum_kind (kind_sum kind) ≡ kind
sum_kind_sum Input = refl
sum_kind_sum Output = refl
sum_kind_sum Error = refl
sum_kind_sum (File node) = refl
sum_kind_sum (Dir node) = refl
sum_kind_sum (PipeRead pipe) = refl
sum_kind_sum (PipeWrite pipe) = refl

abbrev pub kind_code : Coded Kind
kind_code = code_by (ℕ ⊎ (ℕ ⊎ (ℕ ⊎ (ℕ ⊎ ℕ)))) (coded⊎ coded_ℕ (coded⊎ coded_ℕ (coded⊎ coded_ℕ (coded⊎ coded_ℕ coded_ℕ)))) kind_sum sum_kind sum_kind_sum

abbrev pub description_code : Coded Description
description_code =
    code_by (Kind × (ℕ × (ℕ × (ℕ × Bool)))) (coded× kind_code (coded× coded_ℕ (coded× coded_ℕ (coded× coded_ℕ coded_bool))))
    (λ d. (d.kind, (d.offset, (d.flags, (d.rights, d.root)))))
    (λ p. record { kind = p.0; offset = p.1.0; flags = p.1.1.0; rights = p.1.1.1.0; root = p.1.1.1.1 }) (λ _. refl)

abbrev pub opened_code : Coded Opened
opened_code =
    code_by (ℕ × (Description × ℕ)) (coded× coded_ℕ (coded× description_code coded_ℕ))
    (λ o. (o.number, (o.description, o.references))) (λ p. record { number = p.0; description = p.1.0; references = p.1.1 }) (λ _. refl)

-- open descriptions by their ids
abbrev pub Opens : Type 0
Opens = FinMap nat_cmp Opened

abbrev pub opens_code : Coded Opens
opens_code = code_of_map coded_ℕ opened_code
