-- Whether an end of a pipe is left: some descriptor of a live process names it (POSIX.1-2017, `read` and `write`).
use Rattle.std.specs.Prelude.{ℕ, Bool, true, false}
use Rattle.std.specs.Option.{option_map_or}
use Rattle.std.specs.List.{list_any}
use Rattle.std.specs.FinMap.{get, values}
use Rattle.fd_table.specs.declared.table.Descriptor.{Descriptor}
use Rattle.fd_table.specs.Table.{Table}
use Rattle.open_desc.specs.Descriptions.{is_end}
use Rattle.open_desc.specs.declared.description.Description.{Description}
use Rattle.kernel_core.specs.Kernel.{Kernel}

-- the descriptor names that end: the writing one, or the reading one
abbrev pub names_end : Kernel → ℕ → Bool → Descriptor → Bool
names_end kernel pipe writing descriptor =
    option_map_or (λ (d : Description). is_end pipe writing d.kind) (get kernel.descriptions descriptor.id) false

abbrev pub some_names_end : Kernel → ℕ → Bool → Table → Bool
some_names_end kernel pipe writing table = list_any (names_end kernel pipe writing) (values table)

abbrev pub end_left : Kernel → ℕ → Bool → Bool
end_left kernel pipe writing = list_any (some_names_end kernel pipe writing) (values kernel.descriptors)

abbrev pub writer_left : Kernel → ℕ → Bool
writer_left kernel pipe = end_left kernel pipe true

abbrev pub reader_left : Kernel → ℕ → Bool
reader_left kernel pipe = end_left kernel pipe false
