-- Paths and their components (POSIX.1-2017, 3.271 and 4.13).
use Rattle.std.specs.Prelude.{◌≡◌, ℕ, ◌≤◌, Bool, true, false, not, ◌||◌, ◌==◌, nat_lt, if◌then◌else◌, List, [], ◌∷◌, length, Option, Some, None, Result, Ok, Err}
use Rattle.std.specs.List.{filter, list_any, last_or, AllByRecursion}
use Rattle.std.specs.Str.{bytes_eq, is_utf8}
use Rattle.wx_types.specs.declared.errors.Errno.{Errno}
use Rattle.wx_types.specs.declared.errors.Errno.TheVariants.{Noent, Nametoolong, Inval}

-- what a path says
pub record PathParts : Type 0 where
  -- it begins at the root
  pub absolute : Bool
  -- what it names must be a directory
  pub must_dir : Bool
  -- its last component that isn't empty is `.` or `..`
  pub last_dot : Bool
  -- its components without empty ones and `.`
  pub names : List (List ℕ)

-- `.` and `..`
abbrev pub dot : List ℕ
dot = 46 ∷ []

abbrev pub dot_dot : List ℕ
dot_dot = 46 ∷ 46 ∷ []

abbrev pub is_empty : List ℕ → Bool
is_empty [] = true
is_empty (byte ∷ bytes) = false

abbrev pub is_dot : List ℕ → Bool
is_dot piece = bytes_eq piece dot

abbrev pub is_dot_dot : List ℕ → Bool
is_dot_dot piece = bytes_eq piece dot_dot

-- a byte before the first of the pieces
abbrev pub before_first : ℕ → List (List ℕ) → List (List ℕ)
before_first byte [] = (byte ∷ []) ∷ []
before_first byte (piece ∷ pieces) = (byte ∷ piece) ∷ pieces

-- what stands between the slashes, which are one fewer than the pieces
abbrev pub pieces : List ℕ → List (List ℕ)
pieces [] = [] ∷ []
pieces (byte ∷ bytes) = if byte == 47 then [] ∷ pieces bytes else before_first byte (pieces bytes)

-- the piece is a component that a walk takes: a name or `..`
abbrev pub is_name : List ℕ → Bool
is_name piece = not (is_empty piece || is_dot piece)

abbrev pub begins_with_slash : List ℕ → Bool
begins_with_slash [] = false
begins_with_slash (byte ∷ bytes) = byte == 47

-- the last piece is empty, `.` or `..`: the path ends with `/`, `/.` or `/..`, or is `.` or `..`
abbrev pub ends_as_directory : Option (List ℕ) → Bool
ends_as_directory None = false
ends_as_directory (Some piece) = is_empty piece || (is_dot piece || is_dot_dot piece)

abbrev pub is_dots : Option (List ℕ) → Bool
is_dots None = false
is_dots (Some piece) = is_dot piece || is_dot_dot piece

abbrev pub parts_of : List ℕ → PathParts
parts_of path = record {
  absolute = begins_with_slash path;
  must_dir = ends_as_directory (last_or None (pieces path));
  last_dot = is_dots (last_or None (filter (λ piece. not (is_empty piece)) (pieces path)));
  names = filter is_name (pieces path);
}

abbrev pub is_long_piece : List ℕ → Bool
is_long_piece piece = nat_lt 255 (length piece)

abbrev pub any_is_long : List (List ℕ) → Bool
any_is_long [] = false
any_is_long (piece ∷ pieces) = is_long_piece piece || any_is_long pieces

-- the path has more than 1,024 bytes, or a component more than 255
abbrev pub is_too_long : List ℕ → Bool
is_too_long path = nat_lt 1024 (length path) || any_is_long (pieces path)

-- the path isn't UTF-8, or has a zero byte
abbrev pub is_no_text : List ℕ → Bool
is_no_text path = not (is_utf8 path) || list_any (λ byte. byte == 0) path

-- what a path says, or why it is refused: the first of these that applies
abbrev pub split_path : List ℕ → Result PathParts Errno
split_path path =
    if is_empty path then Err Noent
    else if is_too_long path then Err Nametoolong
    else if is_no_text path then Err Inval
    else Ok (parts_of path)

-- a component that a walk takes, `..` among them: 1 to 255 bytes of UTF-8 without a slash and a zero byte, and not `.`
pub record IsComponent (name : List ℕ) : Type 0 where
  pub taken : is_name name ≡ true
  pub short : length name ≤ 255
  pub text : is_utf8 name ≡ true
  pub no_slash : list_any (λ byte. byte == 47) name ≡ false
  pub no_zero : list_any (λ byte. byte == 0) name ≡ false

-- what holds of the parts of every path: where there is no component it must name a directory, and where the last one is
-- `..` the path ends with dots
pub record AreParts (path : PathParts) : Type 0 where
  pub components : AllByRecursion IsComponent path.names
  pub none : path.names ≡ [] → path.must_dir ≡ true
  pub dots : is_dots (last_or None path.names) ≡ true → path.last_dot ≡ true
