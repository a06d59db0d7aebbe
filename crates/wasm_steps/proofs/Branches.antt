-- Blocks that are entered, left and branched to: the code of a function goes on to fit its labels and operands.
use Rattle.std.proofs.Common.{◌≡◌, ℕ, zero, suc, ◌⊎◌, inl, inr, true, List, [], ◌∷◌, ◌++◌, length, drop, reverse, Option, Some, None, option_to_list, refl, ap, subst, ◌∙◌}
use Rattle.std.specs.Prelude.{slice_get}
use Rattle.wasm_ast.specs.declared.types.ValType.{ValType}
use Rattle.wasm_ast.specs.declared.types.ValType.TheVariants.{I32, I64, F32, F64}
use Rattle.wasm_ast.specs.Sequence.{Sequence, Empty}
use Rattle.wasm_ast.specs.Typing.{Context, Labels, Operands, leaves, no_operands, option_is_empty, pop_operands, push_operands, typed}
use Rattle.guest_state.specs.Fits.{FitLabels, FitsCode, FitsLabel, HaveTypes, operands_of}
use Rattle.guest_state.specs.GuestThread.{Label}
use Rattle.guest_state.proofs.AnswerLemmas.{taken_known}
use Rattle.guest_state.proofs.FitsLemmas.{have_append}
use Rattle.wasm_steps.proofs.Operands.{Stands}

-- ---- what is waited for

pub one_turned : (of : Option ValType) → reverse (option_to_list of) ≡ option_to_list of
one_turned None = refl
one_turned (Some t) = refl

-- code that waits for a value goes on over it
pub resumed : (c : Context) (labels : Labels) (leaves_type awaited : Option ValType) (new operands : List ℕ) (code : Sequence) → FitsCode c labels leaves_type awaited operands code → HaveTypes (option_to_list awaited) new
    → FitsCode c labels leaves_type None (new ++ operands) code
resumed c labels leaves_type awaited new operands code fits values = record {
  types = option_to_list awaited ++ fits.types;
  values = have_append (option_to_list awaited) fits.types new operands values fits.values;
  code_typed = over awaited fits.code_typed;
} where
  over : (of : Option ValType) → leaves leaves_type (typed c labels code (push_operands (option_to_list of) (operands_of fits.types))) ≡ true
      → leaves leaves_type (typed c labels code (operands_of (option_to_list of ++ fits.types))) ≡ true
  over None e = e
  over (Some t) e = e

-- ---- the end of a block

-- operands that are left at an end are the value of its type
pub left_exactly : (of : Option ValType) (types : List ValType) → leaves of (Some (operands_of types)) ≡ true → types ≡ option_to_list of
left_exactly None [] e = refl
left_exactly None (t ∷ ts) e = absurd (cc)
left_exactly (Some t) types e = by (pop_operands (t ∷ []) (operands_of types)) refl where
  no_types : (ts : List ValType) → option_is_empty (Some (operands_of ts)) ≡ true → ts ≡ []
  no_types [] e' = refl
  no_types (u ∷ us) e' = absurd (cc)

  by : (o : Option Operands) → pop_operands (t ∷ []) (operands_of types) ≡ o → types ≡ t ∷ []
  by None was = absurd (cc)
  by (Some u) was =
      let known = taken_known (t ∷ []) types u was in
      let none : option_is_empty (Some (operands_of known.0)) ≡ true = cc in
      known.1 ∙ ap (λ ts. t ∷ ts) (no_types known.0 none)

pub closed_stands : (c : Context) (l : Label) (ls : List Label) (operands : List ℕ) → Stands c (l ∷ ls) operands Empty → Stands c ls (operands ++ l.outer_operands) l.outer_code
closed_stands c l ls operands stands = by stands.takes stands.labels_fit stands.here where
  by : (takes : Labels) → FitLabels c takes stands.leaves_type (l ∷ ls) → FitsCode c takes stands.leaves_type None operands Empty → Stands c ls (operands ++ l.outer_operands) l.outer_code
  by [] fit here = absurd fit
  by (t ∷ ts) fit here =
      let exact = left_exactly stands.leaves_type here.types here.code_typed in
      let values : HaveTypes (option_to_list stands.leaves_type) operands = subst (λ us. HaveTypes us operands) exact here.values in
      record {
        takes = ts;
        leaves_type = fit.0;
        labels_fit = fit.2;
        here = resumed c ts fit.0 stands.leaves_type operands l.outer_operands l.outer_code fit.1.ends values;
      }

-- at the end of a function, its operands are its result
pub result_stands : (c : Context) (operands : List ℕ) → Stands c [] operands Empty → HaveTypes (option_to_list c.result) operands
result_stands c operands stands =
    let exact = left_exactly stands.leaves_type stands.here.types stands.here.code_typed in
    subst (λ of. HaveTypes (option_to_list of) operands) stands.labels_fit.1 (subst (λ us. HaveTypes us operands) exact stands.here.values)

-- ---- the start of a block

-- The inner code of a block leaves the block's type, and what stands behind it waits for that.
pub opened_stands : (c : Context) (takes : Labels) (leaves_type of takes_type : Option ValType) (ls : List Label) (types : List ValType) (operands : List ℕ) (continuation outer inner : Sequence) → FitLabels c takes leaves_type ls
    → HaveTypes types operands → leaves of (typed c (takes_type ∷ takes) inner no_operands) ≡ true → leaves leaves_type (typed c takes outer (push_operands (option_to_list of) (operands_of types))) ≡ true
    → leaves leaves_type (typed c takes continuation (push_operands (option_to_list takes_type) (operands_of types))) ≡ true
    → Stands c ((record { arity = length (option_to_list takes_type); continuation = continuation; outer_operands = operands; outer_code = outer }) ∷ ls) [] inner
opened_stands c takes leaves_type of takes_type ls types operands continuation outer inner labels values inside behind branch = record {
  takes = takes_type ∷ takes;
  leaves_type = of;
  labels_fit = (
    leaves_type,
    record {
      arity = refl;
      ends = record { types = types; values = values; code_typed = behind };
      branches = record { types = types; values = values; code_typed = branch };
    },
    labels,
  );
  here = record { types = []; values = tt; code_typed = inside };
}

-- ---- branches

-- a label by its depth, and what stands around it: or the function's own
pub record LabelAt (c : Context) (ls : List Label) (n : ℕ) (of : Option ValType) : Type 0 where
  pub label : Label
  pub here : slice_get ls n ≡ Some label
  pub takes : Labels
  pub leaves_type : Option ValType
  pub outer_leaves : Option ValType
  pub fits : FitsLabel c takes of leaves_type outer_leaves label
  pub outer : FitLabels c takes outer_leaves (drop (suc n) ls)

pub label_at : (c : Context) (takes : Labels) (leaves_type : Option ValType) (ls : List Label) (n : ℕ) (of : Option ValType) → FitLabels c takes leaves_type ls → slice_get takes n ≡ Some of
    → LabelAt c ls n of ⊎ ((n ≡ length ls) × (of ≡ c.result))
label_at c takes leaves_type [] n of fit e = own n (subst (λ ts. slice_get ts n ≡ Some of) fit.0 e) where
  own : (k : ℕ) → slice_get (c.result ∷ []) k ≡ Some of → LabelAt c [] k of ⊎ ((k ≡ 0) × (of ≡ c.result))
  own zero e' = inr (refl, (cc))
  own (suc k) e' = absurd (cc)
label_at c [] leaves_type (l ∷ ls) n of fit e = absurd fit
label_at c (t ∷ ts) leaves_type (l ∷ ls) zero of fit e =
    let same : t ≡ of = cc in
    inl (record { label = l; here = refl; takes = ts; leaves_type = leaves_type; outer_leaves = fit.0; fits = subst (λ x. FitsLabel c ts x leaves_type fit.0 l) same fit.1; outer = fit.2 })
label_at c (t ∷ ts) leaves_type (l ∷ ls) (suc n) of fit e = deeper (label_at c ts fit.0 ls n of fit.2 e) where
  deeper : LabelAt c ls n of ⊎ ((n ≡ length ls) × (of ≡ c.result)) → LabelAt c (l ∷ ls) (suc n) of ⊎ ((suc n ≡ suc (length ls)) × (of ≡ c.result))
  deeper (inl a) = inl (record { label = a.label; here = a.here; takes = a.takes; leaves_type = a.leaves_type; outer_leaves = a.outer_leaves; fits = a.fits; outer = a.outer })
  deeper (inr own) = inr (ap suc own.0, own.1)

-- behind a branch to a label, with what it takes above what stood around
pub branched_stands : (c : Context) (ls : List Label) (n : ℕ) (of : Option ValType) (operands : List ℕ) (at : LabelAt c ls n of) → HaveTypes (option_to_list of) operands
    → Stands c (drop (suc n) ls) (operands ++ at.label.outer_operands) at.label.continuation
branched_stands c ls n of operands at values = record {
  takes = at.takes;
  leaves_type = at.outer_leaves;
  labels_fit = at.outer;
  here = resumed c at.takes at.outer_leaves of operands at.label.outer_operands at.label.continuation at.fits.branches values;
}

-- out of all blocks, with the function's result
pub left_stands : (c : Context) (operands : List ℕ) → HaveTypes (option_to_list c.result) operands → Stands c [] operands Empty
left_stands c operands values = record {
  takes = c.result ∷ [];
  leaves_type = c.result;
  labels_fit = (refl, refl);
  here = record { types = option_to_list c.result; values = values; code_typed = exact c.result };
} where
  exact : (of : Option ValType) → leaves of (Some (operands_of (option_to_list of))) ≡ true
  exact None = refl
  exact (Some I32) = refl
  exact (Some I64) = refl
  exact (Some F32) = refl
  exact (Some F64) = refl
