use Rattle.std.proofs.Common.{Some, None, map, refl}
use Rattle.instance.specs.Rows.{call_of_row}
use Rattle.instance.proofs.CallLemmas.{number_found}
use Rattle.instance.proofs.calls.call_number.Goals as goal

pub returns-in-Some : goal.returns-in-Some
returns-in-Some c =
    number_found c.args.from.now c.args.name.now c.args.of.now (map call_of_row c.rows.result.now) (Some (call_of_row c.in-Some.row.now)) c.number_with_type.result c.if-is_nosys.ensures c.rows.ensures c.in-Some.ensures
    c.number_with_type.ensures

pub returns-in-None : goal.returns-in-None
returns-in-None c = number_found c.args.from.now c.args.name.now c.args.of.now (map call_of_row c.rows.result.now) None None c.if-is_nosys.ensures c.rows.ensures c.in-None.ensures refl
