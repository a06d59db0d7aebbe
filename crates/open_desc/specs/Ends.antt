-- Counts of open ends by pipe, kept beside the descriptions.
use Rattle.std.specs.Prelude.{◌≡◌, ℕ, Bool, ◌≤◌, if◌then◌else◌, true, false, unwrap_or}
use Rattle.std.specs.Ordering.{nat_cmp}
use Rattle.std.specs.BTreeMap.{BTreeMap, get}
use Rattle.std.specs.FinMap.{len}
use Rattle.finite_maps.specs.Maps.{total}
use Rattle.open_desc.specs.Codes.{Opens}
use Rattle.open_desc.specs.Descriptions.{is_end}
use Rattle.open_desc.specs.declared.description.Opened.{Opened}

-- how many ends of a pipe a map of counts has
abbrev pub count_of : BTreeMap ℕ ℕ → ℕ → ℕ
count_of counts pipe = unwrap_or (get nat_cmp counts pipe) 0

-- 1 for an end of the pipe
abbrev pub end_weight : ℕ → Bool → Opened → ℕ
end_weight pipe writing o = if is_end pipe writing o.description.kind then 1 else 0

-- the counts are those of one side of each pipe
abbrev pub Counts : BTreeMap ℕ ℕ → Opens → Bool → Type 0
Counts counts opens writing = (pipe : ℕ) → count_of counts pipe ≡ total (end_weight pipe writing) opens

-- at most 1,024 open descriptions, with counts of both sides
pub record AreCounted (opens : Opens) (readers writers : BTreeMap ℕ ℕ) : Type 0 where
  pub few : len opens ≤ 1024
  pub reading : Counts readers opens false
  pub writing : Counts writers opens true
