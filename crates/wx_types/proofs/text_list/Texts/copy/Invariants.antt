-- the copy has the texts so far
use Rattle.std.proofs.Common.{◌≡◌, take}
use Rattle.wx_types.proofs.text_list.Texts.copy.Given as goal

abbrev pub invariant-loop-text : goal.invariant-loop-text
invariant-loop-text l = l.items.items ≡ take l.text-index l.text-items
