use Rattle.std.proofs.Common.{◌∷◌, [], ◌++◌}
use Rattle.wat_syntax.specs.Seen.{at_place}
use Rattle.wat_forms.proofs.FieldLemmas.{wrong_fields, one_more, no_more, met_group}
use Rattle.wat_forms.proofs.field_list.fields_of.Goals as goal

pub returns-in-Err : goal.returns-in-Err
returns-in-Err c groups g =
    wrong_fields (at_place c.args.fields.now c.args.at) (at_place c.args.fields.now c.loop-met.at) (at_place c.args.fields.now c.in-Group.inside)
    (at_place c.args.fields.now c.in-Some.met.behind) c.in-Group.line c.loop-met.before c.loop-met.read.items c.loop-met.invariant.0 groups c.in-Err.fault g
    (c.loop-met.invariant.1, c.loop-met.invariant.2, c.loop-met.invariant.3)
    (met_group c.args.fields.now _ _ c.in-Some.met.item c.in-Group.line c.in-Group.inside c.in-Some.ensures.meets c.in-Group.is) c.in-Err.ensures

pub loop-met-preserved : goal.loop-met-preserved
loop-met-preserved c =
    let f = c.in-Ok.ensures.0 in
    let r = one_more (at_place c.args.fields.now c.args.at) (at_place c.args.fields.now c.loop-met.at) (at_place c.args.fields.now c.in-Group.inside)
    (at_place c.args.fields.now c.in-Some.met.behind) c.in-Group.line c.loop-met.before c.and-before.result c.loop-met.read.items c.push.new.self.items
    c.in-Ok.one c.loop-met.invariant.0 f (c.loop-met.invariant.1, c.loop-met.invariant.2, c.loop-met.invariant.3)
    (met_group c.args.fields.now _ _ c.in-Some.met.item c.in-Group.line c.in-Group.inside c.in-Some.ensures.meets c.in-Group.is)
    c.in-Ok.ensures.1 c.in-Ok.ensures.2 c.in-Ok.ensures.3 (c.and-before.ensures f c.in-Ok.ensures.3) c.in-Ok-push.ensures.items in
    (c.loop-met.invariant.0 ++ record { line = c.in-Group.line; value = f } ∷ [], r.0, r.1, r.2)

pub returns : goal.returns
returns c groups g = (
  c.loop-met.invariant.0,
  no_more (at_place c.args.fields.now c.args.at) (at_place c.args.fields.now c.loop-met.at) c.loop-met.before c.loop-met.read.items c.loop-met.invariant.0
      groups g (c.loop-met.invariant.1, c.loop-met.invariant.2, c.loop-met.invariant.3) c.in_default.ensures.meets,
  c.loop-met.invariant.1,
)
