use Rattle.std.proofs.Common.{rules, ◌≡◌, ◌<◌, ◌^◌, ◌-◌, ℕ, [], reverse, length, sym, ap, subst, arith}
use Rattle.wat_fields.specs.Closings.{IsPartedFrom}
use Rattle.wat_fields.proofs.PartLemmas.{at_end, at_start, parted, parted_items, unparted, reverse_none, reverse_some, refused}
use Rattle.wat_fields.proofs.parting.closings_of.Goals as goal

pub loop-place-init : goal.loop-place-init
loop-place-init c =
    let counted : length c.in-Ok.closings.items ≡ length c.args.tokens.now = search rules in
    let all : IsPartedFrom c.args.tokens.now (length c.args.tokens.now) c.in-Ok.closings.items (reverse c.new-outer.result.items) =
    subst (IsPartedFrom c.args.tokens.now (length c.args.tokens.now) c.in-Ok.closings.items) (sym (ap reverse c.new-outer.ensures.items)) (at_end c.args.tokens.now c.in-Ok.closings.items counted) in
    record {
      parted = subst (λ (n : ℕ). IsPartedFrom c.args.tokens.now n c.in-Ok.closings.items (reverse c.new-outer.result.items)) (sym c.len-count.ensures.value) all;
      within = omega arith;
    }

pub returns-in-Err-part_token : goal.returns-in-Err-part_token
returns-in-Err-part_token c =
    refused c.args.tokens.now (c.loop-place.place - 1) c.part_token.new.closings.items (reverse c.part_token.new.outer.items) c.in-Err-part_token.fault c.in-Err-part_token.ensures

pub returns-then-is_empty : goal.returns-then-is_empty
returns-then-is_empty c =
    let none : length c.loop-place.outer.items ≡ 0 = search rules in
    let short : length c.args.tokens.now < 2 ^ 31 = omega arith in
    let all : IsPartedFrom c.args.tokens.now 0 c.loop-place.closings.items [] =
    subst (IsPartedFrom c.args.tokens.now 0 c.loop-place.closings.items) (reverse_none c.loop-place.outer.items none)
    (at_start c.args.tokens.now c.loop-place.place c.loop-place.closings.items (reverse c.loop-place.outer.items) c.loop-place-test.false c.loop-place.invariant.parted) in
    (parted c.args.tokens.now c.loop-place.closings.items short all, parted_items c.args.tokens.now c.loop-place.closings.items all)

pub returns-else-is_empty : goal.returns-else-is_empty
returns-else-is_empty c =
    let some : 0 < length c.loop-place.outer.items = search rules in
    unparted c.args.tokens.now c.loop-place.closings.items (reverse c.loop-place.outer.items) (reverse_some c.loop-place.outer.items some)
    (at_start c.args.tokens.now c.loop-place.place c.loop-place.closings.items (reverse c.loop-place.outer.items) c.loop-place-test.false c.loop-place.invariant.parted)
