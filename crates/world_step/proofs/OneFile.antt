-- The file of a tree that has one file is at its path.
use Rattle.std.proofs.Common.{◌≡◌, ℕ, zero, suc, true, false, arith, List, [], ◌∷◌, Some, Ok, refl, ap, ◌∙◌}
use Rattle.std.specs.Prelude.{codes, nat_lt}
use Rattle.std.specs.List.{list_all}
use Rattle.std.specs.Str.{IsAscii, is_utf8}
use Rattle.std.proofs.lemmas.Bool.{and_parts, ltb-true}
use Rattle.std.proofs.lemmas.Str.{IsUtf8-from_ascii, is_utf8-from_IsUtf8}
use Rattle.tree_nodes.specs.Names.{NameMap}
use Rattle.std.specs.FinMap.{get, insert, empty, get-insert}
use Rattle.std.proofs.lemmas.Cmp.{nat_cmp_total, nat_list_cmp_total}
use Rattle.file_tree.specs.FileTree.{only_root, new_node, root}
use Rattle.finite_maps.proofs.Lookups.{get-insert_same}
use Rattle.path_walk.specs.Paths.{PathParts, split_path}
use Rattle.tree_nodes.specs.declared.node.Node.{Node}
use Rattle.tree_nodes.specs.declared.node.Content.TheVariants.{File, Dir}
use Rattle.tree_nodes.specs.Nodes.{replaced, with_change, naming, named}
use Rattle.world_step.specs.Boot.{one_file}
use Rattle.world_step.specs.Laws.{OneFileIsThere}

abbrev name : List ℕ
name = codes "program"

abbrev parts : PathParts
parts = record { absolute = true; must_dir = false; last_dot = false; names = name ∷ [] }

-- ASCII is UTF-8
ascii : (bytes : List ℕ) → list_all (λ b. nat_lt b 128) bytes ≡ true → IsAscii bytes
ascii [] all i = omega arith
ascii (b ∷ bytes) all zero = ltb-true b 128 (and_parts (nat_lt b 128) _ all).0
ascii (b ∷ bytes) all (suc i) = ascii bytes (and_parts (nat_lt b 128) _ all).1 i

is_text : is_utf8 (codes "/program") ≡ true
is_text = is_utf8-from_IsUtf8 (codes "/program") (IsUtf8-from_ascii (codes "/program") (ascii (codes "/program") refl))

splits : split_path (codes "/program") ≡ Ok parts
splits = rw is_text refl

-- the root names node 2
abbrev naming_root : Node
naming_root = with_change (naming name 2) (new_node root (Dir empty))

root_there : (bytes : List ℕ) → get (one_file name bytes).nodes 1 ≡ Some naming_root
root_there bytes =
    get-insert nat_cmp_total (named only_root.nodes 1 name 2) 2 (new_node 1 (File bytes)) 1
    ∙ ap (λ found. get (replaced only_root.nodes 1 (with_change (naming name 2)) found) 1) (get-insert_same nat_cmp_total empty 1 (new_node root (Dir empty)))
    ∙ get-insert_same nat_cmp_total only_root.nodes 1 naming_root

file_there : (bytes : List ℕ) → get (one_file name bytes).nodes 2 ≡ Some (new_node 1 (File bytes))
file_there bytes = get-insert_same nat_cmp_total (named only_root.nodes 1 name 2) 2 (new_node 1 (File bytes))

abbrev names : NameMap
names = insert empty name 2

name_there : get names name ≡ Some 2
name_there = get-insert_same nat_list_cmp_total empty name 2

pub one_file_there : OneFileIsThere
one_file_there bytes = simp (splits, root_there bytes, file_there bytes, name_there)
