-- All turns over the instructions of a function.
use Rattle.std.proofs.Common.{◌≡◌, List, [], Option, Some, None, refl, sym, ◌∙◌, ap}
use Rattle.std.specs.Prelude.{Err}
use Rattle.std.specs.Option.{option_map, option_and_then}
use Rattle.wat_fields.specs.Items.{Items}
use Rattle.wat_syntax.specs.declared.parsed.Refusal.{Refusal}
use Rattle.wat_syntax.specs.Parsed.{Instructions}
use Rattle.wat_immediates.specs.InstructionForms.{Part, Level, levels, only_level, nested, Row, row_of, alone, parts_alone, instructions_of}
use Rattle.wat_immediates.specs.Rows.{parts_of}
use Rattle.wat_syntax.specs.Flat.{FlatStep, flat}
use Rattle.wat_bodies.specs.Bodies.{ReadsBody}
use Rattle.wat_tokens.specs.Tokens.{Token}
use Rattle.wat_bodies.specs.Nesting.{Frame, ahead, under, held, to_come, Turns}
use Rattle.wat_syntax.specs.declared.parsed.Refusal.TheVariants as refusal
use Rattle.wat_syntax.specs.Formed.{IsFormed}
use Rattle.wat_bodies.proofs.FormedReading.{instructions_formed}

level_steps : (ls : Option (List Level)) → option_and_then (λ ms. option_map flat (only_level ms)) ls ≡ option_map flat (option_and_then only_level ls)
level_steps None = refl
level_steps (Some ls) = refl

part_steps : (ps : Option (List Part)) → option_and_then (λ q. option_and_then (λ ms. option_map flat (only_level ms)) (levels q)) ps ≡ option_map flat (option_and_then nested ps)
part_steps None = refl
part_steps (Some ps) = level_steps (levels ps)

row_alone : (r : Option Row) → option_and_then nested (option_and_then parts_alone r) ≡ option_and_then alone r
row_alone None = refl
row_alone (Some r) = refl

all_come : (items : Items) → to_come [] items ≡ option_map flat (instructions_of items)
unfolding to_come held under
all_come items = part_steps (parts_of items) ∙ ap (option_map flat) (row_alone (row_of items))

read_by : (items : Items) (steps : List FlatStep) (x : Option Instructions) → instructions_of items ≡ x → option_map flat x ≡ Some steps →
    (is : Instructions) × (instructions_of items ≡ Some is) × (steps ≡ flat is) × IsFormed is
read_by items steps None e h = absurd (cc)
read_by items steps (Some is) e h = (is, e, cc, instructions_formed items is e)

pub all_read : (items : Items) (steps : List FlatStep) (left : Option (List FlatStep)) → to_come [] items ≡ left → left ≡ Some steps →
    (is : Instructions) × (instructions_of items ≡ Some is) × (steps ≡ flat is) × IsFormed is
all_read items steps left e h = read_by items steps (instructions_of items) refl (sym (all_come items) ∙ e ∙ h)

none_by : (x : Option Instructions) → option_map flat x ≡ None → x ≡ None
none_by None e = refl
none_by (Some is) e = cc

pub none_read : (items : Items) (steps : List FlatStep) (left : Option (List FlatStep)) → to_come [] items ≡ ahead steps left → left ≡ None → instructions_of items ≡ None
none_read items steps left e h = none_by (instructions_of items) (sym (all_come items) ∙ e ∙ ap (ahead steps) h)

pub body_refused : {A : Type 0} (seen : A → List FlatStep) (tokens : List Token) (all items : Items) (E E' : List FlatStep) (fs fs' : List Frame) (why : Refusal) →
    to_come [] all ≡ ahead E (to_come fs items) → Turns tokens E E' fs fs' items (Err why) → ReadsBody seen all (Err why)
body_refused seen tokens all items E E' fs fs' refusal.Form e t = none_read all E (to_come fs items) e t
body_refused seen tokens all items E E' fs fs' refusal.Memory e t = tt
