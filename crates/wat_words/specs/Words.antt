-- Words of a text, which are runs of identifier characters: WebAssembly Core 1.0, section 6.3.
use Rattle.std.specs.Prelude.{ℕ, Bool, not, ◌&&◌, ◌==◌, nat_le, nat_lt, List, codes, length, slice_index}
use Rattle.std.specs.List.{list_any}

-- an identifier character: a visible character of ASCII but `"`, which is 34, and these (6.3.5)
abbrev pub is_word_byte : ℕ → Bool
is_word_byte byte = nat_le 33 byte && nat_le byte 126 && not (byte == 34) && not (list_any (λ other. byte == other) (codes "(),;[]{}"))

-- an identifier: `$`, which is 36, and at least one character more
abbrev pub is_identifier : List ℕ → Bool
is_identifier word = nat_lt 1 (length word) && slice_index word 0 == 36
