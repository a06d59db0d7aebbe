-- The names that proofs on finite maps cite, passed on from one place. Declares nothing.
pub use Rattle.std.specs.FinMap.{FinMap, empty, get, insert, remove, contains_key, retain_keys, len, keys, values, entries, from_entries, find, put, is_sorted, get-empty, get-insert, get-remove, get-entries, get-from_entries, get-retain_keys, len-empty, len-insert, len-remove, len-entries, empty_of_len, entries_sorted, from_entries_push, same_map, IsAntisymmetric, nat_cmp-IsAntisymmetric, slice_cmp-IsAntisymmetric}
pub use Rattle.std.specs.Cmp.{IsTotalOrder, nat_cmp_total, tied_itself}
pub use Rattle.std.specs.Cmp.Lexicographic.{slice_cmp, nat_list_cmp_total}
pub use Rattle.std.specs.Ordering.{nat_cmp, eq_by_cmp, is_eq}
pub use Rattle.std.specs.Map.{lookup, keys_of}
pub use Rattle.finite_maps.specs.Maps.{mapped}
unfoldable pub use Rattle.finite_maps.specs.Maps.{total}
pub use Rattle.finite_maps.proofs.Entries.{find-lookup, get-lookup, from_entries-insert, from_entries-remove, entries-empty, entries_of_sorted, len_of_sorted, entries_rise, entries_insert}
pub use Rattle.finite_maps.proofs.Lookups.{differ, same_key, get-insert_same, get-insert_other, get-remove_same, get-remove_other, insert_same, remove_absent, insert-insert, insert-remove, remove-insert, is_insert, is_remove, nat_list_cmp-IsAntisymmetric}
pub use Rattle.finite_maps.proofs.Mapped.{get-mapped}
pub use Rattle.finite_maps.proofs.Sizes.{len-insert_there, len-insert_new, len_positive, len-remove_there}
pub use Rattle.finite_maps.proofs.Sums.{unwrap_or-option_map, total-empty, total-insert, total-remove, part-le_total, total-le_len, total-above, total-any, total-positive}
pub use Rattle.finite_maps.proofs.Values.{found_where, any_value}
