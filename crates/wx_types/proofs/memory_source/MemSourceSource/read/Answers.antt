-- the source stands further on in the same bytes
use Rattle.std.proofs.Common.{◌≡◌, ◌+◌, ◌++◌, ℕ, List, take, drop}
use Rattle.std.proofs.lemmas.List.{drop-drop}
use Rattle.std.proofs.Math.Seq.{take-add}
use Rattle.wx_types.specs.MemoryObjects.{Plan, SourceState}
use Rattle.wx_types.proofs.memory_source.MemSourceSource.read.Goals as goal

abbrev stands : List ℕ → ℕ → Plan → SourceState
stands held at plan = record { given = take at held; left = drop at held; plan = plan }

goes_on : (held : List ℕ) (at n : ℕ) (plan : Plan) → stands held (at + n) plan ≡ record { given = take at held ++ take n (drop at held); left = drop n (drop at held); plan = plan }
goes_on held at n plan = rw (take-add at n held, drop-drop n at held)

pub returns-clause-gave : goal.returns-clause-gave
returns-clause-gave c = rw (← c.self.view_is, c.count_call.ensures) (goes_on c.self.inside.held c.self.inside.at c.min-n.result _)
