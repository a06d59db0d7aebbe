-- The names that clauses and proofs on a tree's nodes cite, passed on from one place. Declares nothing.
pub use Rattle.tree_nodes.specs.Names.{NameMap, coded_names, name_among}
pub use Rattle.tree_nodes.specs.Nodes.{Fits, FitsAfter, NodeMap, bytes_of_all, changed, coded_nodes, forgetting, forgotten, held, is_free, is_linked, is_linked_node, kept, kept_if_there, kind_of, lacks_name, lacks_name_at, let_go, linked_in, most_bytes, named, naming, parent_of, parent_of_node, replaced, resized, resizing, settled, size_found, size_of, size_of_node, sizes, unlinked, with_change, with_links, writing, written}
pub use Rattle.tree_nodes.specs.declared.node.Content.{Content}
pub use Rattle.tree_nodes.specs.declared.node.Content.TheVariants.{Dir, File}
pub use Rattle.tree_nodes.specs.declared.node.Node.{Node}
