use Rattle.std.proofs.Common.{◌+◌, ◌∙◌, refl, sym, ap, None}
use Rattle.std.specs.List.{position}
use Rattle.std.specs.Option.{option_map}
use Rattle.wat_spaces.specs.Spaces.{is_named, index_in}
use Rattle.wat_syntax.specs.Seen.{seen_reference}
use Rattle.wat_spaces.proofs.PositionLemmas.{position_behind}
use Rattle.wat_spaces.proofs.local_names.LocalNames.index_of.Goals as goal

pub returns-in-None : goal.returns-in-None
returns-in-None c =
    ap (λ r. index_in c.args.self.now (seen_reference r)) c.in-Named.is ∙ ap (position (is_named c.in-Named.name.now)) (sym c.self.view_is)
    ∙ position_behind (is_named c.in-Named.name.now) None c.self.inside.unnamed c.self.inside.names refl
    ∙ ap (option_map (λ k. c.self.inside.unnamed + k)) (sym c.first_of.ensures ∙ c.in-None.is)

pub returns-else-self-behind : goal.returns-else-self-behind
returns-else-self-behind c =
    ap (λ r. index_in c.args.self.now (seen_reference r)) c.in-Named.is ∙ ap (position (is_named c.in-Named.name.now)) (sym c.self.view_is)
    ∙ position_behind (is_named c.in-Named.name.now) None c.self.inside.unnamed c.self.inside.names refl
    ∙ ap (option_map (λ k. c.self.inside.unnamed + k)) (sym c.first_of.ensures ∙ c.in-Some.is)
