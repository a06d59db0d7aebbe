-- What a read or a write of a descriptor comes to once no refusal came before.
use Rattle.std.proofs.Common.{◌≡◌, ℕ, Bool, true, false, Some, Result, Ok, Err, refl, sym, ap, ◌∙◌}
use Rattle.std.specs.Prelude.{◌==◌, if◌then◌else◌, slice_index, ok_or}
use Rattle.std.specs.FinMap.{get}
use Rattle.std.proofs.lemmas.Bool.{eqb-true}
use Rattle.fd_table.specs.declared.table.Descriptor.{Descriptor}
use Rattle.file_tree.specs.Walk.{and_then}
use Rattle.finite_maps.proofs.Options.{mapped_from, chained_from, ok_from}
use Rattle.open_desc.specs.Reading.{usable}
use Rattle.open_desc.specs.declared.description.Description.{Description}
use Rattle.wx_types.specs.declared.errors.Errno.{Errno}
use Rattle.wx_types.specs.declared.errors.Errno.TheVariants.{Badf}
use Rattle.wx_types.specs.declared.requests.Request.{Request}
use Rattle.kernel_core.specs.Descriptors.{Opened, opened, opened_as, description_of, with_right, no_room_needed}
use Rattle.kernel_core.specs.Kernel.{Kernel, descriptor_at}
use Rattle.kernel_core.specs.Rows.{in_order, numbered}

pub and_then_from : {X Y : Type 0} (r : Result X Errno) (next : X → Result Y Errno) (y : Y) → and_then r next ≡ Ok y → (x : X) × (r ≡ Ok x) × (next x ≡ Ok y)
and_then_from (Ok x) next y e = (x, refl, e)
and_then_from (Err error) next y e = cc

numbered_from : {X : Type 0} (r : Result X Errno) (x : X) → numbered r ≡ Ok x → r ≡ Ok x
numbered_from (Ok y) x e = (let h : y ≡ x = cc in ap Ok h)
numbered_from (Err error) x e = cc

-- no refusal came: the description is the one behind the descriptor, and has the right
pub record Judged (kernel : Kernel) (pid : ℕ) (request : Request) (right : ℕ) (o : Opened) : Type 0 where
  pub good : request.refused ≡ 0
  pub there : description_of kernel pid (slice_index request.words 0) ≡ Some o
  pub usable_so : with_right right o ≡ Ok o

right_same : (right : ℕ) (x o : Opened) → with_right right x ≡ Ok o → x ≡ o
right_same right x o e =
    let from = and_then_from (usable right (Some x.description)) (λ d. Ok x) o e in (let h : Ok x ≡ Ok o = from.2 in cc)

by_test : (kernel : Kernel) (pid : ℕ) (request : Request) (right : ℕ) (o : Opened) (b : Bool) → (request.refused == 0) ≡ b
    → (if b then numbered (and_then (and_then (opened kernel pid (slice_index request.words 0)) (with_right right)) no_room_needed) else Err request.refused) ≡ Ok o → Judged kernel pid request right o
by_test kernel pid request right o true is e =
    let all = and_then_from (and_then (opened kernel pid (slice_index request.words 0)) (with_right right)) no_room_needed o (numbered_from _ o e) in
    let both = and_then_from (opened kernel pid (slice_index request.words 0)) (with_right right) all.0 all.1 in
    let last : all.0 ≡ o = (let h : Ok all.0 ≡ Ok o = all.2 in cc) in
    let first : both.0 ≡ o = right_same right both.0 all.0 both.2 ∙ last in
    record {
      good = eqb-true request.refused 0 is;
      there = ok_from (description_of kernel pid (slice_index request.words 0)) Badf both.0 both.1 ∙ ap Some first;
      usable_so = ap (with_right right) (sym first) ∙ both.2 ∙ ap Ok last;
    }
by_test kernel pid request right o false is e = cc

pub judged : (kernel : Kernel) (pid : ℕ) (request : Request) (right : ℕ) (o : Opened) → in_order request (opened kernel pid (slice_index request.words 0)) (with_right right) no_room_needed ≡ Ok o → Judged kernel pid request right o
judged kernel pid request right o e = by_test kernel pid request right o (request.refused == 0) refl e

-- and the other way round
pub judges : (kernel : Kernel) (pid : ℕ) (request : Request) (right : ℕ) (o : Opened) → Judged kernel pid request right o → in_order request (opened kernel pid (slice_index request.words 0)) (with_right right) no_room_needed ≡ Ok o
judges kernel pid request right o j =
    ap (λ n. if n == 0 then numbered (and_then (and_then (opened kernel pid (slice_index request.words 0)) (with_right right)) no_room_needed) else Err n) j.good
    ∙ ap (λ found. numbered (and_then (and_then (ok_or found Badf) (with_right right)) no_room_needed)) j.there
    ∙ ap (λ r. numbered (and_then r no_room_needed)) j.usable_so

-- the description is one that is open
pub is_open_there : (kernel : Kernel) (pid fd : ℕ) (o : Opened) → description_of kernel pid fd ≡ Some o → get kernel.descriptions o.number ≡ Some o.description
is_open_there kernel pid fd o e =
    let at = chained_from (λ (d : Descriptor). opened_as kernel d.id) (descriptor_at kernel pid fd) o e in
    let from = mapped_from (λ (d : Description). record { number = at.0.id; description = d }) (get kernel.descriptions at.0.id) o at.2 in
    ap (λ (x : Opened). get kernel.descriptions x.number) (sym from.2) ∙ from.1 ∙ ap (λ (x : Opened). Some x.description) from.2
