use Rattle.std.proofs.Common.{◌≡◌, Option, None, List, [], get_or, ap, sym, subst}
use Rattle.std.specs.FinMap.{empty}
use Rattle.open_desc.specs.Prelude.{by_place, Opens, Opened, Descriptions, CountsStay}
use Rattle.fd_table.proofs.PlaceLemmas.{by_place-none}
use Rattle.open_desc.proofs.CountLemmas.{AreCounted-none}
use Rattle.open_desc.proofs.ProcessLemmas.{counts_stay}
use Rattle.open_desc.proofs.descriptions.Descs.new.Goals as goal

abbrev no_descriptions : Descriptions
no_descriptions = record { opens = empty; next = 0 }

pub invariant_of-result : goal.invariant_of-result
invariant_of-result c =
    AreCounted-none _ _ _ (by_place-none _ (λ q. ap (λ (slots : List (Option Opened)). get_or slots q None) c.new.ensures.empty)) c.new-2.ensures.empty c.new-3.ensures.empty

-- nothing is open
nothing : (slots : List (Option Opened)) → slots ≡ [] → record { opens = by_place slots; next = 0 } ≡ no_descriptions
nothing slots e =
    ap (λ (opens : Opens). record { opens = opens; next = 0 }) (by_place-none slots (λ q. ap (λ (places : List (Option Opened)). get_or places q None) e))

pub returns-clause-empty : goal.returns-clause-empty
returns-clause-empty c = nothing _ c.new.ensures.empty

pub returns-clause-counts : goal.returns-clause-counts
returns-clause-counts c = subst CountsStay (sym (nothing _ c.new.ensures.empty)) (counts_stay 0)
