use Rattle.std.proofs.Common.{Some, length, subst}
use Rattle.open_desc.specs.Reading.{read_usable, Reads}
use Rattle.open_desc.proofs.KindLemmas.{read_held_apart}
use Rattle.open_desc.proofs.descriptions.Descs.read_held.Goals as goal

pub returns : goal.returns
returns c =
    subst (λ usable. Reads (read_usable usable c.args.self.now c.args.id c.args.tree.now c.args.console.now (Some c.args.pipe.now) (length c.args.out.now)) c.read_apart.result c.args.out.now c.read_apart.new.out c.read_apart.new.self c.read_apart.new.console (Some c.args.pipe.now)) c.in-Ok.ensures
    (read_held_apart _ c.in_default.not-PipeRead _ _ _ _ _ _ _ _ _ _ _ _ c.read_apart.ensures)
