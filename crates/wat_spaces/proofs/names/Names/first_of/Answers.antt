use Rattle.std.proofs.Common.{◌∙◌, ap}
use Rattle.std.specs.List.{position}
use Rattle.wat_spaces.specs.Spaces.{is_named}
use Rattle.wat_spaces.proofs.names.Names.first_of.Goals as goal

pub returns : goal.returns
returns c = c.copied.ensures ∙ c.get.ensures.value ∙ c.self.invariant c.args.name.now ∙ ap (position (is_named c.args.name.now)) c.self.view_is
