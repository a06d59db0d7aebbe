use Rattle.std.proofs.Common.{List}
use Rattle.wat_tokens.specs.Tokens.{Token}
use Rattle.wat_bodies.proofs.nesting.put_part.Goals as goal

pub returns-in-Plain : goal.returns-in-Plain
returns-in-Plain c = λ (tokens : List Token) n. rw c.in-Plain.is (c.put_plain.ensures tokens n)

pub returns-in-Open : goal.returns-in-Open
returns-in-Open c = λ (tokens : List Token) n. rw c.in-Open.is (c.put_open.ensures tokens n)

pub returns-in-Else : goal.returns-in-Else
returns-in-Else c = λ (tokens : List Token) n. rw c.in-Else.is (c.put_else.ensures tokens n)

pub returns-in-End : goal.returns-in-End
returns-in-End c = λ (tokens : List Token) n. rw c.in-End.is (c.put_end.ensures tokens n)
