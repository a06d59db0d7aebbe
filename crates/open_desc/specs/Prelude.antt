-- The names that clauses and proofs on open descriptions cite, passed on from one place. Declares nothing.
pub use Rattle.open_desc.specs.Codes.{Opens}
pub use Rattle.open_desc.specs.Descriptions.{Descriptions, after_open, after_release, after_share, changed, description_of, descriptions_code, end_left, is_end, is_last, references_of, referred, released, released_kind, shared, with_flags, with_opened}
pub use Rattle.open_desc.specs.Ends.{AreCounted, Counts, count_of, end_weight}
pub use Rattle.open_desc.specs.Offsets.{after_seek, base_of, offset_of, seek_answer, sought}
pub use Rattle.open_desc.specs.Processes.{AllMayCome, Close, CountsAgree, CountsStay, Dup, End, Exec, Fork, MayCome, New, Open, Processes, Renumber, Operation, after_operation, after_operations, all_released, all_shared, ids_of, names, names_end, names_in, no_processes, pairs_naming, put_or_released, released_closed, released_displaced, shared_where, some_names_end, table_of, with_table}
pub use Rattle.open_desc.specs.Reading.{Reads, held_after, read_file, read_kind, read_of, read_usable, usable}
pub use Rattle.open_desc.specs.Writing.{Writes, left_by, size_of, start_of, unwritten, write_file, write_kind, write_of, write_usable}
pub use Rattle.open_desc.specs.declared.description.Description.{Description}
pub use Rattle.open_desc.specs.declared.description.Kind.{Kind}
pub use Rattle.open_desc.specs.declared.description.Kind.TheVariants.{Dir, Error, File, Input, Output, PipeRead, PipeWrite}
pub use Rattle.open_desc.specs.declared.description.Opened.{Opened}
pub use Rattle.fd_table.specs.Places.{placed_from}
unfoldable pub use Rattle.fd_table.specs.Places.{by_place}
pub use Rattle.fd_table.specs.Table.{Table, after_exec, after_put, descriptor, dropped_ids, marked_id}
unfoldable pub use Rattle.fd_table.specs.Table.{lowest_free, marked_below, without_marked_below}
pub use Rattle.fd_table.specs.declared.table.Descriptor.{Descriptor}
pub use Rattle.file_tree.specs.FileTree.{FileTree}
pub use Rattle.file_tree.specs.Files.{count_read, filled, read_at, write_at}
pub use Rattle.wx_types.specs.declared.errors.Errno.{Errno}
pub use Rattle.wx_types.specs.declared.errors.Errno.TheVariants.{Badf, Mfile}
