use Rattle.std.proofs.Common.{◌≡◌, ◌++◌, drop, filter_map}
use Rattle.std.specs.List.{list_all}
use Rattle.instance.specs.Links.{import_call, import_links}
use Rattle.instance.proofs.links.call_numbers.Given as goal

abbrev pub invariant-loop-import : goal.invariant-loop-import
invariant-loop-import l = record {
  found : l.numbers.items ++ filter_map (import_call l.module) (drop l.import-index l.import-items) ≡ filter_map (import_call l.module) l.import-items;
  links : list_all (import_links l.module) (drop l.import-index l.import-items) ≡ list_all (import_links l.module) l.import-items;
}
