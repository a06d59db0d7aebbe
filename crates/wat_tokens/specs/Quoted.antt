-- What a string in a text stands for.
use Rattle.std.specs.Prelude.{ℕ, List}
use Rattle.wat_tokens.specs.declared.quoted.Quoted.{Quoted}
use Rattle.wat_tokens.specs.Strings.{string}
use Rattle.wat_tokens.specs.Pieces.{bytes_of}

abbrev pub quoted_bytes : Quoted → List ℕ
quoted_bytes quoted = bytes_of (string quoted.rest.now)
