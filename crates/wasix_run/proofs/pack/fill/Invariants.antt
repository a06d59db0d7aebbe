use Rattle.std.proofs.Common.{◌≡◌, ℕ, List, Some, map, drop}
use Rattle.wx_types.specs.Files.{Files}
use Rattle.pack_list.specs.Answers.{seen}
use Rattle.wasix_run.specs.Packing.{filled}
use Rattle.wasix_run.proofs.pack.fill.Given as goal

abbrev pub invariant-files : goal.invariant-files
invariant-files g l = record {
  given : (held : Files) (out : List ℕ) → g.H.Shelf.held l.fn.shelf ≡ Some held → filled held out l.tree (map seen (drop l.index l.files)) ≡ filled held out l.fn.tree (map seen l.files);
  kept : g.H.Shelf.held l.shelf ≡ g.H.Shelf.held l.fn.shelf;
  faults : g.H.Shelf.faults l.shelf ≡ g.H.Shelf.faults l.fn.shelf;
}
