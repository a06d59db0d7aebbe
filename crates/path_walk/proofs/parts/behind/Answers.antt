use Rattle.std.proofs.Common.{◌≡◌, ℕ, ◌+◌, ◌-◌, ◌∷◌, List, ap, sym, ◌∙◌, arith, take, drop, length, take_all, length-drop, []}
use Rattle.path_walk.specs.Paths.{pieces}
use Rattle.path_walk.proofs.PieceLemmas.{pieces_split, pieces_last, first_len_le}
use Rattle.path_walk.proofs.parts.behind.Goals as goal

-- all that is left stands behind the slash
rest_taken : (xs : List ℕ) (n : ℕ) → take (length xs - n) (drop n xs) ≡ drop n xs
rest_taken xs n = take_all (length xs - n) (drop n xs) (omega (arith, length-drop n xs))

pub returns-then-len-rest-clause-pieces : goal.returns-then-len-rest-clause-pieces
returns-then-len-rest-clause-pieces c =
    pieces_split c.args.rest.now c.args.len c.requires c.if-len-rest.true
    ∙ ap (λ more. take c.args.len c.args.rest.now ∷ pieces more) (sym (rest_taken c.args.rest.now (c.args.len + 1)))

pub returns-else-len-rest-clause-pieces : goal.returns-else-len-rest-clause-pieces
returns-else-len-rest-clause-pieces c =
    pieces_last c.args.rest.now (omega (arith, c.requires, c.if-len-rest.false))
    ∙ ap (λ piece. piece ∷ []) (sym (take_all c.args.len c.args.rest.now (omega (arith, c.if-len-rest.false))))

pub returns-else-len-rest-clause-left : goal.returns-else-len-rest-clause-left
returns-else-len-rest-clause-left c = omega (arith, c.requires, first_len_le c.args.rest.now, c.if-len-rest.false)
