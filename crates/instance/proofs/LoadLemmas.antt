-- The row of what a module that was read makes.
use Rattle.std.proofs.Common.{◌≡◌, inl, inr, ℕ, List, Bool, true, false, not, if◌then◌else◌, Result, Ok, Err, refl, sym, subst}
use Rattle.wasm_ast.specs.declared.module.Module.{Module}
use Rattle.wasm_ast.specs.TypingModule.{is_typed}
use Rattle.wasm_decode.specs.Decodes.{Decodes}
use Rattle.instance.specs.declared.fault.LoadFault.{LoadFault}
use Rattle.instance.specs.declared.fault.LoadFault.TheVariants.{Invalid, Unlinked, SegmentOutside, NotYet}
use Rattle.instance.specs.Program.{Program}
use Rattle.instance.specs.Links.{is_answered, linked, links, program_of, segments_fit}
use Rattle.instance.specs.Loads.{IsUnlessMemory, Loads}

abbrev Answer : Type 0
Answer = Result Program LoadFault

abbrev by_tests : Program → Bool → Bool → Bool → Bool → Answer
by_tests p a b c d = if a then Err Invalid else if b then Err Unlinked else if c then Err SegmentOutside else if d then Err NotYet else Ok p

row : (bytes : List ℕ) (m : Module) (p : Program) (a b c d : Bool) → Decodes bytes (Ok m) → linked m ≡ by_tests p a b c d → Loads bytes (by_tests p a b c d)
row bytes m p true b c d s e = (m, s, e)
row bytes m p false true c d s e = (m, s, e)
row bytes m p false false true d s e = (m, s, e)
row bytes m p false false false true s e = (m, s, e)
row bytes m p false false false false s e = (m, s, e)

pub of_linked : (bytes : List ℕ) (m : Module) (r : Answer) → Decodes bytes (Ok m) → IsUnlessMemory r (linked m) → Loads bytes r
of_linked bytes m r s (inl e) = subst (Loads bytes) (sym e) (row bytes m (program_of m) (not (is_typed m)) (not (links m)) (not (segments_fit m)) (not (is_answered (program_of m))) s refl)
of_linked bytes m r s (inr e) = subst (Loads bytes) (sym e) s.0
