-- Sequences behind one another.
use Rattle.std.proofs.Common.{◌≡◌, refl, ap}
use Rattle.wasm_ast.specs.Sequence.{Sequence, Empty, Plain, Block, If}
use Rattle.wasm_ast.specs.Built.{append}

pub append-empty : (s : Sequence) → append s Empty ≡ s
append-empty Empty = refl
append-empty (Plain i rest) = ap (λ r. Plain i r) (append-empty rest)
append-empty (Block k of body rest) = ap (λ r. Block k of body r) (append-empty rest)
append-empty (If of one two rest) = ap (λ r. If of one two r) (append-empty rest)

pub append-append : (s t u : Sequence) → append (append s t) u ≡ append s (append t u)
append-append Empty t u = refl
append-append (Plain i rest) t u = ap (λ r. Plain i r) (append-append rest t u)
append-append (Block k of body rest) t u = ap (λ r. Block k of body r) (append-append rest t u)
append-append (If of one two rest) t u = ap (λ r. If of one two r) (append-append rest t u)
