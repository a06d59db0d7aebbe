use Rattle.std.proofs.Common.{nat_cmp, sym, ap, ◌∙◌}
use Rattle.finite_maps.proofs.Maps.{slice_cmp, get, get-empty}
use Rattle.file_tree.proofs.Ends.{walk_to_none, last_good}
use Rattle.file_tree.proofs.tree.Tree.mkdir.Goals as goal

pub make-requires-clause-name : goal.make-requires-clause-name
make-requires-clause-name c = λ none.
    let named = walk_to_none c.self.inside.nodes c.args.from c.args.path.now c.in_ok-place.place (sym c.in_ok-place.ensures.place) none in
    last_good c.args.path.now c.in_ok-place.ensures.parts named.0 named.1

pub make-requires-clause-names : goal.make-requires-clause-names
make-requires-clause-names c = λ name. ap (λ names. get names name) c.new.ensures ∙ get-empty (slice_cmp nat_cmp) name
