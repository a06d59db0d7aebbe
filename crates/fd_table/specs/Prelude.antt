-- The names that clauses and proofs on descriptor tables cite, passed on from one place. Declares nothing.
pub use Rattle.fd_table.specs.Places.{placed_from}
unfoldable pub use Rattle.fd_table.specs.Places.{by_place}
pub use Rattle.fd_table.specs.Table.{HasWord, Table, after_close, after_dup, after_exec, after_mark, after_put, after_renumber, close_answer, descriptor, dropped_ids, dup_answer, id_at, marked_id, put_answer, renumber_answer, table_code}
unfoldable pub use Rattle.fd_table.specs.Table.{lowest_free, marked_below, without_marked_below}
pub use Rattle.fd_table.specs.declared.table.Descriptor.{Descriptor}
