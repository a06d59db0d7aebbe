-- The names that clauses and proofs on images cite, passed on from one place. Declares nothing.
pub use Rattle.boot_image.specs.Answers.{IsLeft, Means, fault_of}
pub use Rattle.boot_image.specs.Entries.{Content, Directory, Entry, File, Fits, FitsContent, Spells, bytes_of, entries_bytes, entry_bytes, file_bytes, magic, path_bytes}
pub use Rattle.boot_image.specs.Image.{Image, Remains, if_plain, is_plain, joined, made}
unfoldable pub use Rattle.boot_image.specs.Image.{plain_parts, with_entries, with_entry}
pub use Rattle.boot_image.specs.NextItem.{Last, Next, One, Other, Reads, seen}
unfoldable pub use Rattle.boot_image.specs.NextItem.{directory_at, file_at, next_at, sized_at}
pub use Rattle.boot_image.specs.Same.{ReadsBack, SameContents, ShortPaths, content_under}
pub use Rattle.boot_image.specs.Progress.{Goes, IsBytes, Makes}
pub use Rattle.boot_image.specs.Written.{content_of_kind, entry_of, first_bytes, names_in, path_in}
unfoldable pub use Rattle.boot_image.specs.Written.{below, content_of, entries_of, image_of, paths_of, with_paths}
pub use Rattle.boot_image.specs.declared.fault.ImageFault.{ImageFault}
pub use Rattle.boot_image.specs.declared.fault.ImageFault.TheVariants.{Memory, NotImage}
pub use Rattle.boot_image.specs.declared.read.Progress.{Progress}
pub use Rattle.file_tree.specs.FileTree.{FileTree, NodeMap, changed, last_number, most_bytes, most_nodes, named, new_node, only_root, parent_of, root, with_nodes, writing}
pub use Rattle.file_tree.specs.Files.{bytes_at, fitted, room_for, write_at}
pub use Rattle.file_tree.specs.Listings.{list, listed, stat_of}
pub use Rattle.file_tree.specs.Names.{added, is_dir, is_full, made_at}
pub use Rattle.file_tree.specs.Trees.{IsName, IsTree, Leads, is_dir_node, node_under, target, target_in, target_of}
pub use Rattle.file_tree.specs.Walk.{and_then, last_name, names_at, names_of, place_itself, step, walk_on}
pub use Rattle.file_tree.specs.declared.listing.Listed.{Listed}
pub use Rattle.file_tree.specs.declared.listing.Stat.{Stat}
pub use Rattle.file_tree.specs.declared.place.Place.{Place}
pub use Rattle.path_walk.specs.Paths.{IsComponent, PathParts, any_is_long, before_first, begins_with_slash, ends_as_directory, is_dot, is_dot_dot, is_dots, is_empty, is_long_piece, is_name, is_no_text, is_too_long, parts_of, pieces}
pub use Rattle.tree_nodes.specs.Names.{NameMap}
pub use Rattle.tree_nodes.specs.Nodes.{bytes_of_all, is_linked, is_linked_node, kind_of, lacks_name, lacks_name_at, naming, parent_of_node, size_found, size_of, sizes, with_change, written}
pub use Rattle.tree_nodes.specs.declared.node.Content.TheVariants.{Dir}
pub use Rattle.tree_nodes.specs.declared.node.Node.{Node}
pub use Rattle.wx_types.specs.declared.errors.Errno.{Errno}
pub use Rattle.wx_types.specs.declared.errors.Errno.TheVariants.{Exist, Fbig, Inval, Nametoolong, Noent, Nospc}
