-- Open descriptions with their counts of references (POSIX.1-2017, 3.258 and 2.14).
use Rattle.std.specs.Prelude.{ℕ, Bool, false, ◌+◌, ◌-◌, ◌==◌, nat_le, if◌then◌else◌, Option, Some, None, refl}
use Rattle.std.specs.Option.{option_map, option_map_or, option_and_then}
use Rattle.std.specs.List.{list_any}
use Rattle.std.specs.FinMap.{get, insert, remove, values}
use Rattle.std.specs.Coded.{Coded, code_by, coded×, coded_ℕ}
use Rattle.open_desc.specs.Codes.{Opens, opens_code}
use Rattle.open_desc.specs.declared.description.Kind.{Kind}
use Rattle.open_desc.specs.declared.description.Kind.TheVariants.{Input, Output, Error, File, Dir, PipeRead, PipeWrite}
use Rattle.open_desc.specs.declared.description.Description.{Description}
use Rattle.open_desc.specs.declared.description.Opened.{Opened}

-- the open descriptions by their ids, which are used again, and the number that the next one is given,
-- which rises
pub record Descriptions : Type 0 where
  pub opens : Opens
  pub next : ℕ

abbrev pub descriptions_code : Coded Descriptions
descriptions_code = code_by (Opens × ℕ) (coded× opens_code coded_ℕ) (λ d. (d.opens, d.next)) (λ p. record { opens = p.0; next = p.1 }) (λ _. refl)

-- the description of an id
abbrev pub description_of : Descriptions → ℕ → Option Description
description_of descs id = option_map (λ o. o.description) (get descs.opens id)

-- how many references it has, 0 where it is not open
abbrev pub references_of : Descriptions → ℕ → ℕ
references_of descs id = option_map_or (λ o. o.references) (get descs.opens id) 0

-- with another entry for an id
abbrev pub with_opened : Descriptions → ℕ → Opened → Descriptions
with_opened descs id o = record { opens = insert descs.opens id o; next = descs.next }

-- a description takes an id that is free and the next number, with one reference
abbrev pub after_open : Descriptions → ℕ → Description → Descriptions
after_open descs id description = record {
  opens = insert descs.opens id (record { number = descs.next; description = description; references = 1 });
  next = descs.next + 1;
}

-- one more reference
abbrev pub referred : Opened → ℕ → Opened
referred o references = record { number = o.number; description = o.description; references = references }

abbrev pub shared : Descriptions → ℕ → Opened → Descriptions
shared descs id o = with_opened descs id (referred o (o.references + 1))

abbrev pub after_share : Descriptions → ℕ → Descriptions
after_share descs id = option_map_or (shared descs id) (get descs.opens id) descs

-- one fewer: at the last the description is closed, and its kind handed back
abbrev pub is_last : Opened → Bool
is_last o = nat_le o.references 1

abbrev pub released_kind : Descriptions → ℕ → Option Kind
released_kind descs id = option_and_then (λ o. if is_last o then Some o.description.kind else None) (get descs.opens id)

abbrev pub released : Descriptions → ℕ → Opened → Descriptions
released descs id o =
    if is_last o then record { opens = remove descs.opens id; next = descs.next }
    else with_opened descs id (referred o (o.references - 1))

abbrev pub after_release : Descriptions → ℕ → Descriptions
after_release descs id = option_map_or (released descs id) (get descs.opens id) descs

-- the description changed, where it is there
abbrev pub changed : Descriptions → ℕ → (Description → Description) → Descriptions
changed descs id change =
    option_map_or (λ o. with_opened descs id (record { number = o.number; description = change o.description; references = o.references })) (get descs.opens id) descs

abbrev pub with_flags : ℕ → Description → Description
with_flags flags d = record { kind = d.kind; offset = d.offset; flags = flags; rights = d.rights; root = d.root }

abbrev pub with_offset : ℕ → Description → Description
with_offset offset d = record { kind = d.kind; offset = offset; flags = d.flags; rights = d.rights; root = d.root }

-- an end of a pipe, the writing one or the reading one
abbrev pub is_end : ℕ → Bool → Kind → Bool
is_end pipe writing Input = false
is_end pipe writing Output = false
is_end pipe writing Error = false
is_end pipe writing (File node) = false
is_end pipe writing (Dir node) = false
is_end pipe writing (PipeRead number) = if writing then false else number == pipe
is_end pipe writing (PipeWrite number) = if writing then number == pipe else false

-- some open description is that end
abbrev pub end_left : Descriptions → ℕ → Bool → Bool
end_left descs pipe writing = list_any (λ o. is_end pipe writing o.description.kind) (values descs.opens)
