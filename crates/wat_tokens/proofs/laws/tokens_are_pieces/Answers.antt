use Rattle.wat_tokens.proofs.LengthLemmas.{piece_has_byte}
use Rattle.wat_tokens.proofs.TokenLemmas.{whole_piece, no_piece}
use Rattle.wat_tokens.proofs.laws.tokens_are_pieces.Goals as goal

pub returns-clause-piece : goal.returns-clause-piece
returns-clause-piece c line text piece is = whole_piece line text piece is (piece_has_byte line text piece is)

pub returns-clause-fault : goal.returns-clause-fault
returns-clause-fault c line byte rest is = no_piece line byte rest is
