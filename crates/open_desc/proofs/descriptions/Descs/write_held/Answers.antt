use Rattle.std.proofs.Common.{Some, subst}
use Rattle.open_desc.specs.Writing.{write_usable, unwritten, Writes}
use Rattle.open_desc.proofs.KindLemmas.{written_held_apart}
use Rattle.open_desc.proofs.descriptions.Descs.write_held.Goals as goal

pub returns : goal.returns
returns c =
    subst (λ usable. Writes (write_usable usable c.args.self.now c.args.id c.args.tree.now (Some c.args.pipe.now) c.args.bytes.now) (unwritten c.args.self.now c.args.tree.now (Some c.args.pipe.now)) c.write_apart.result c.write_apart.new.self c.write_apart.new.tree (Some c.args.pipe.now)) c.in-Ok.ensures
    (written_held_apart c.in-Ok.description c.in_default.not-PipeWrite _ _ _ _ _ _ _ _ c.write_apart.ensures)
