-- The names that clauses and proofs on file trees cite, passed on from one place. Declares nothing.
pub use Rattle.file_tree.specs.Answers.{Changes, Gives, Leaves, Tells}
pub use Rattle.file_tree.specs.FileTree.{FileTree, NodeMap, bytes_of_all, changed, forgotten, hold, last_number, let_go, linked_in, most_bytes, most_nodes, named, new_node, only_root, parent_of, release, root, settled, tree_code, unlinked, with_change, with_nodes, writing}
pub use Rattle.file_tree.specs.Files.{bytes_at, count_read, filled, fitted, read_at, room_for, set_size, write_at}
pub use Rattle.file_tree.specs.Listings.{list, listed, name_for, path_down, path_of, path_through, stat, stat_of}
pub use Rattle.file_tree.specs.Names.{above, added, create, has_no_names, is_dir, is_full, is_node, is_within, made_at, may_replace, may_replace_at, mkdir, moved, removed, rename, rename_node, replacing, rmdir, unlink, up_from}
pub use Rattle.file_tree.specs.Trees.{AreLinks, Climbs, IsName, IsNamed, IsTree, Leads, is_dir_node, node_under, target, target_in, target_of}
pub use Rattle.file_tree.specs.Walk.{and_then, bytes_of, content_at, find, is_dir_or_missing, is_nil, last_name, lookup, names_at, names_no_entry, names_of, place_itself, step, walk, walk_on}
pub use Rattle.file_tree.specs.declared.listing.Listed.{Listed}
pub use Rattle.file_tree.specs.declared.listing.Stat.{Stat}
pub use Rattle.file_tree.specs.declared.place.Place.{Place}
pub use Rattle.path_walk.specs.Paths.{AreParts, IsComponent, PathParts, is_dot, is_dot_dot, is_dots}
pub use Rattle.tree_nodes.specs.Names.{NameMap}
pub use Rattle.tree_nodes.specs.Nodes.{forgetting, is_free, is_linked, is_linked_node, kept, kept_if_there, lacks_name, lacks_name_at, naming, parent_of_node, replaced, resizing, with_links}
pub use Rattle.tree_nodes.specs.declared.node.Content.{Content}
pub use Rattle.tree_nodes.specs.declared.node.Content.TheVariants.{Dir, File}
pub use Rattle.tree_nodes.specs.declared.node.Node.{Node}
pub use Rattle.wx_types.specs.declared.errors.Errno.{Errno}
pub use Rattle.wx_types.specs.declared.errors.Errno.TheVariants.{Isdir, Noent, Notdir, Notempty}
