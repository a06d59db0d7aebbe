use Rattle.std.proofs.Common.{◌≡◌, ◌+◌, ◌<◌, ◌^◌, ◌++◌, drop}
use Rattle.wasm_validate.specs.Prelude.{total, ends_from}
use Rattle.wasm_validate.proofs.context.ends.Given as goal

abbrev pub invariant-loop-group : goal.invariant-loop-group
invariant-loop-group l = record {
  small : l.end + total (drop l.group-index l.groups) < 2 ^ 32;
  ends : l.all.items ++ ends_from l.end (drop l.group-index l.groups) ≡ ends_from 0 l.groups;
}
