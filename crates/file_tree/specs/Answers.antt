-- What a call answers and leaves, against what the definitions give.
use Rattle.std.specs.Prelude.{◌≡◌, Result, Ok, Err, ⊤}
use Rattle.file_tree.specs.FileTree.{FileTree}
use Rattle.wx_types.specs.declared.errors.Errno.{Errno}
use Rattle.wx_types.specs.declared.errors.Refusal.{Refusal}
use Rattle.wx_types.specs.declared.errors.Refusal.TheVariants.{Errno as refused, Memory}

-- the call answers and leaves what is given, and nothing is changed where an error is given or memory runs out
abbrev pub Gives : {X : Type 0} → Result (X × FileTree) Errno → FileTree → FileTree → Result X Refusal → Type 0
Gives given old new (Ok x) = given ≡ Ok (x, new)
Gives given old new (Err (refused error)) = (given ≡ Err error) × (new ≡ old)
Gives given old new (Err Memory) = new ≡ old

-- the same of a call that answers nothing but a refusal
abbrev pub Leaves : Result FileTree Errno → FileTree → FileTree → Result (Unit {0}) Refusal → Type 0
Leaves given old new (Ok x) = given ≡ Ok new
Leaves given old new (Err (refused error)) = (given ≡ Err error) × (new ≡ old)
Leaves given old new (Err Memory) = new ≡ old

-- the same of a call that takes no memory
abbrev pub Changes : Result FileTree Errno → FileTree → FileTree → Result (Unit {0}) Errno → Type 0
Changes given old new (Ok x) = given ≡ Ok new
Changes given old new (Err error) = (given ≡ Err error) × (new ≡ old)

-- an answer that takes memory and changes nothing
abbrev pub Tells : {X : Type 0} → Result X Errno → Result X Refusal → Type 0
Tells given (Ok x) = given ≡ Ok x
Tells given (Err (refused error)) = given ≡ Err error
Tells given (Err Memory) = ⊤
