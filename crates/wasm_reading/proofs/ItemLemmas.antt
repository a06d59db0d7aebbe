-- A loop that reads so many things.
use Rattle.std.proofs.Common.{◌≡◌, ℕ, suc, ◌+◌, ◌<◌, List, Option, Some, None, ◌∙◌, ap, arith, ◌-◌}
use Rattle.std.specs.Option.{option_and_then}
use Rattle.wasm_reading.specs.declared.fault.ReadFault.{ReadFault}
use Rattle.wasm_reading.specs.declared.fault.ReadFault.TheVariants.{Malformed, Memory}
use Rattle.wasm_reading.specs.ReadAnswers.{Fails}
use Rattle.wasm_reading.specs.ReadValues.{and_then, many_at}

module _ {S X : Type 0} (add : S → X → Option S) (r : List ℕ → Option (X × List ℕ)) (n : ℕ) (first : S) (start : List ℕ) where
  -- k of n things were read, and gave that
  pub record Begun (k : ℕ) (s : S) (now : List ℕ) : Type 0 where
    pub goes : (m : ℕ) → k + m ≡ n → many_at add r n first start ≡ many_at add r m s now

  -- what is read of so many more, behind those
  abbrev behind : ℕ → S → X → List ℕ → Option (S × List ℕ)
  behind m s x rest = option_and_then (λ t. many_at add r m t rest) (add s x)

  pub begun_more : (k : ℕ) (s t : S) (now rest : List ℕ) (x : X) → Begun k s now → r now ≡ Some (x, rest) → add s x ≡ Some t → Begun (k + 1) t rest
  begun_more k s t now rest x b h e = record {
    goes = λ m l.
        b.goes (suc m) (omega arith) ∙ ap (λ o. and_then o (behind m s)) h
        ∙ ap (option_and_then (λ t. many_at add r m t rest)) e;
  }

  pub begun_cut : (k : ℕ) (s : S) (now : List ℕ) → Begun k s now → k < n → r now ≡ None → many_at add r n first start ≡ None
  begun_cut k s now b l h =
      b.goes (suc (n - k - 1)) (omega arith) ∙ ap (λ o. and_then o (behind (n - k - 1) s)) h

  pub begun_past : (k : ℕ) (s : S) (now rest : List ℕ) (x : X) → Begun k s now → k < n → r now ≡ Some (x, rest) → add s x ≡ None → many_at add r n first start ≡ None
  begun_past k s now rest x b l h e =
      b.goes (suc (n - k - 1)) (omega arith) ∙ ap (λ o. and_then o (behind (n - k - 1) s)) h
      ∙ ap (option_and_then (λ t. many_at add r (n - k - 1) t rest)) e

  pub begun_all : (k : ℕ) (s : S) (now : List ℕ) → Begun k s now → k ≡ n → many_at add r n first start ≡ Some (s, now)
  begun_all k s now b e = b.goes 0 (omega arith)

-- a fault that is handed on
pub handed_on : {Y W : Type 0} (d : ReadFault) (o : Option Y) (p : Option W) → Fails d o → (o ≡ None → p ≡ None) → Fails d p
handed_on Malformed o p h k = k h
handed_on Memory o p h k = tt
