-- A part is put behind steps.
use Rattle.std.proofs.Common.{◌≡◌, true, List, [], ◌∷◌, ◌++◌, map, reverse, Option, None, refl, sym, ◌∙◌, ap, subst, arith, append_assoc}
use Rattle.std.proofs.lemmas.List.{map-append, reverse-append}
use Rattle.wasm_ast.specs.declared.types.ValType.{ValType}
use Rattle.wasm_ast.specs.declared.instr.Construct.{Construct}
use Rattle.wat_tokens.specs.Tokens.{Token}
use Rattle.wat_syntax.specs.Parsed.{Identifier, Plain}
use Rattle.wat_immediates.specs.InstructionForms.{Part, One, Opens, Elses, Ends}
use Rattle.wat_syntax.specs.Flat.{FlatStep, seen_step, seen_steps}
use Rattle.wat_bodies.specs.Nesting.{Frame, ahead, held, stands_in, is_row, opened, outer, IsNested, seen_frame, seen_frames, frame_size, frames_size, Puts}
use Rattle.wat_bodies.proofs.NestingLemmas.{ahead_both, one_held, open_held, else_held, end_held, end_if_held}
use Rattle.wasm_ast.specs.declared.instr.Construct.TheVariants as construct
use Rattle.wat_syntax.specs.declared.steps.Step as kept_step
use Rattle.wat_bodies.specs.declared.nesting.Frame as kept
use Rattle.wat_bodies.specs.declared.nesting.Stands.TheVariants as stands
use Rattle.wat_syntax.specs.Flat as step
use Rattle.wat_bodies.specs.Nesting as frame

-- the innermost lies last
pub frames_are : (tokens : List Token) (all others : List kept.Frame) (f : kept.Frame) → all ≡ others ++ f ∷ [] → seen_frames tokens all ≡ seen_frame tokens f ∷ seen_frames tokens others
frames_are tokens all others f e = ap (λ fs. map (seen_frame tokens) fs) (ap reverse e ∙ reverse-append others (f ∷ []))

pub steps_are : (old new : List kept_step.Step) (s : kept_step.Step) → new ≡ old ++ s ∷ [] → seen_steps new ≡ seen_steps old ++ seen_step s ∷ []
steps_are old new s e = ap seen_steps e ∙ map-append seen_step old (s ∷ [])

pub two_steps_are : (old mid new : List kept_step.Step) (s t : kept_step.Step) → mid ≡ old ++ s ∷ [] → new ≡ mid ++ t ∷ [] → seen_steps new ≡ seen_steps old ++ seen_step s ∷ seen_step t ∷ []
two_steps_are old mid new s t e f =
    steps_are mid new t f ∙ ap (λ x. x ++ seen_step t ∷ []) (steps_are old mid s e) ∙ append_assoc (seen_steps old) (seen_step s ∷ []) (seen_step t ∷ [])

pub steps_more : (E E' s : List FlatStep) (a b : Option (List FlatStep)) → E' ≡ E ++ s → a ≡ ahead s b → ahead E a ≡ ahead E' b
steps_more E E' s a b e h = ap (ahead E) h ∙ ahead_both E s b ∙ ap (λ x. ahead x b) (sym e)

puts : (E E' s : List FlatStep) (fs fs' : List Frame) (p : Part) → E' ≡ E ++ s → ((ps : List Part) → held fs (p ∷ ps) ≡ ahead s (held fs' ps)) → frames_size fs' ≡ frames_size fs → IsNested fs' →
    Puts E E' fs fs' p
puts E E' s fs fs' p e h z n = record { same = λ ps. steps_more E E' s (held fs (p ∷ ps)) (held fs' ps) e (h ps); size = z; nested = n }

pub plain_put : (E E' : List FlatStep) (fs : List Frame) (i : Plain) → E' ≡ E ++ step.One i ∷ [] → is_row (stands_in fs) ≡ true → IsNested fs → Puts E E' fs fs (One i)
plain_put E E' fs i e r n = puts E E' (step.One i ∷ []) fs fs (One i) e (λ ps. one_held fs i ps r) refl n

opened_size : (c : Construct) (fs : List Frame) → frames_size (opened c ∷ fs) ≡ frames_size fs
unfolding frames_size frame_size
opened_size (construct.Block k) fs = omega arith
opened_size construct.If fs = omega arith

opened_nested : (c : Construct) (fs : List Frame) → is_row (stands_in fs) ≡ true → IsNested fs → IsNested (opened c ∷ fs)
opened_nested (construct.Block k) fs r n = (r, n)
opened_nested construct.If fs r n = (r, n)

open_put_so : (E E' : List FlatStep) (fs : List Frame) (c : Construct) (label : Identifier) (of : Option ValType) → E' ≡ E ++ step.Open c label of ∷ [] → is_row (stands_in fs) ≡ true → IsNested fs →
    Puts E E' fs (opened c ∷ fs) (Opens c label of)
open_put_so E E' fs c label of e r n =
    puts E E' (step.Open c label of ∷ []) fs (opened c ∷ fs) (Opens c label of) e (λ ps. open_held fs c label of ps r) (opened_size c fs) (opened_nested c fs r n)

pub open_put : (E E' : List FlatStep) (fs fs' : List Frame) (c : Construct) (label : Identifier) (of : Option ValType) → E' ≡ E ++ step.Open c label of ∷ [] → is_row (stands_in fs) ≡ true → IsNested fs →
    fs' ≡ opened c ∷ fs → Puts E E' fs fs' (Opens c label of)
open_put E E' fs fs' c label of e r n f = subst (λ x. Puts E E' fs x (Opens c label of)) (sym f) (open_put_so E E' fs c label of e r n)

-- ---- what is open behind a block

outer_size : (fs : List Frame) → stands_in fs ≡ stands.Block → frames_size (outer fs) ≡ frames_size fs
unfolding frames_size frame_size
outer_size (frame.Block ∷ fs) e = omega arith
outer_size fs e = cc

outer_if_size : (fs : List Frame) → stands_in fs ≡ stands.If → frames_size (outer fs) ≡ frames_size fs
unfolding frames_size frame_size
outer_if_size (frame.If ∷ fs) e = omega arith
outer_if_size fs e = cc

block_nested : (fs : List Frame) → stands_in fs ≡ stands.Block → IsNested fs → (is_row (stands_in (outer fs)) ≡ true) × IsNested (outer fs)
block_nested (frame.Block ∷ fs) e n = n
block_nested fs e n = absurd (cc)

if_nested : (fs : List Frame) → stands_in fs ≡ stands.If → IsNested fs → (is_row (stands_in (outer fs)) ≡ true) × IsNested (outer fs)
if_nested (frame.If ∷ fs) e n = n
if_nested fs e n = absurd (cc)

block_size : (fs : List Frame) → frames_size (frame.Block ∷ fs) ≡ frames_size fs
unfolding frames_size frame_size
block_size fs = omega arith

else_put_so : (E E' : List FlatStep) (fs : List Frame) (label : Identifier) → E' ≡ E ++ step.Else label ∷ [] → stands_in fs ≡ stands.If → IsNested fs →
    Puts E E' fs (frame.Block ∷ outer fs) (Elses label)
else_put_so E E' fs label e s n =
    puts E E' (step.Else label ∷ []) fs (frame.Block ∷ outer fs) (Elses label) e (λ ps. else_held fs label ps s) (block_size (outer fs) ∙ outer_if_size fs s) (if_nested fs s n)

pub else_put : (E E' : List FlatStep) (fs fs' : List Frame) (label : Identifier) → E' ≡ E ++ step.Else label ∷ [] → stands_in fs ≡ stands.If → IsNested fs → fs' ≡ frame.Block ∷ outer fs →
    Puts E E' fs fs' (Elses label)
else_put E E' fs fs' label e s n f = subst (λ x. Puts E E' fs x (Elses label)) (sym f) (else_put_so E E' fs label e s n)

pub end_put : (E E' : List FlatStep) (fs fs' : List Frame) (label : Identifier) → E' ≡ E ++ step.End label ∷ [] → stands_in fs ≡ stands.Block → IsNested fs → fs' ≡ outer fs →
    Puts E E' fs fs' (Ends label)
end_put E E' fs fs' label e s n f =
    subst (λ x. Puts E E' fs x (Ends label)) (sym f)
    (puts E E' (step.End label ∷ []) fs (outer fs) (Ends label) e (λ ps. end_held fs label ps s (block_nested fs s n).0) (outer_size fs s) (block_nested fs s n).1)

pub end_if_put : (E E' : List FlatStep) (fs fs' : List Frame) (label : Identifier) → E' ≡ E ++ step.Else None ∷ step.End label ∷ [] → stands_in fs ≡ stands.If → IsNested fs → fs' ≡ outer fs →
    Puts E E' fs fs' (Ends label)
end_if_put E E' fs fs' label e s n f =
    subst (λ x. Puts E E' fs x (Ends label)) (sym f)
    (puts E E' (step.Else None ∷ step.End label ∷ []) fs (outer fs) (Ends label) e (λ ps. end_if_held fs label ps s (if_nested fs s n).0) (outer_if_size fs s) (if_nested fs s n).1)
