-- What the reader answers, against what the definitions give.
use Rattle.std.specs.Prelude.{◌≡◌, Option, Some, None, Result, Ok, Err}
use Rattle.file_tree.specs.FileTree.{FileTree}
use Rattle.wx_types.specs.declared.errors.Refusal.{Refusal}
use Rattle.wx_types.specs.declared.errors.Refusal.TheVariants.{Errno as refused, Memory as NoMemory}
use Rattle.boot_image.specs.declared.fault.ImageFault.{ImageFault}
use Rattle.boot_image.specs.declared.fault.ImageFault.TheVariants.{NotImage, Memory}

-- a call that changes a tree leaves what is given; where nothing is given it is refused; where memory runs out nothing is said
abbrev pub IsLeft : Option FileTree → FileTree → Result (Unit {0}) ImageFault → Type 0
IsLeft given new (Ok x) = given ≡ Some new
IsLeft given new (Err NotImage) = given ≡ None
IsLeft given new (Err Memory) = Unit {0}

-- what is read has this meaning; what is refused has none
abbrev pub Means : {X : Type 0} → (X → Type 0) → Result X ImageFault → Type 0
Means meaning (Ok x) = meaning x
Means {X} meaning (Err NotImage) = (x : X) → meaning x → ⊥
Means meaning (Err Memory) = Unit {0}

-- a refusal of the tree is one of the image
abbrev pub fault_of : Refusal → ImageFault
fault_of (refused error) = NotImage
fault_of NoMemory = Memory
