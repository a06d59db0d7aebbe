-- A field for a function, read part by part.
use Rattle.std.proofs.Common.{◌≡◌, ℕ, List, Option, Some, sym, ◌∙◌, ap}
use Rattle.std.specs.Prelude.{codes}
use Rattle.std.specs.Option.{option_map, option_and_then}
use Rattle.wat_fields.specs.Items.{Items}
use Rattle.wat_syntax.specs.Parsed.{Identifier, Variable, TypeUse, Instructions, FunctionParts, Field, FunctionField}
use Rattle.wat_syntax.specs.Immediates.{Front, front, identifier_front, exports_front, variables_front, use_front}
use Rattle.wat_immediates.specs.InstructionForms.{instructions_of}
use Rattle.wat_forms.specs.FieldForms.{function_field}

abbrev pub parts : Identifier → List (List ℕ) → TypeUse → List Variable → Instructions → FunctionParts
parts name exports of locals body = record { name = name; exports = exports; of = of; locals = locals; body = body }

abbrev pub with_body : Identifier → List (List ℕ) → TypeUse → Front (List Variable) → Option Field
with_body name exports of locals = option_map (λ body. FunctionField (parts name exports of locals.value body)) (instructions_of locals.rest)

abbrev pub with_locals : Identifier → List (List ℕ) → Front TypeUse → Option Field
with_locals name exports of = option_and_then (with_body name exports of.value) (variables_front (codes "local") of.rest)

abbrev pub with_use : Identifier → Front (List (List ℕ)) → Option Field
with_use name exports = option_and_then (with_locals name exports.value) (use_front exports.rest)

abbrev pub with_name : Front Identifier → Option Field
with_name name = option_and_then (with_use name.value) (exports_front name.rest)

-- what is read so far, and what comes next
pub named_function : (items : Items) (name : Front Identifier) → name ≡ identifier_front items → function_field items ≡ with_name name
named_function items name e = ap with_name (sym e)

pub exported_function : (items rest : Items) (name : Front Identifier) (exports : Option (Front (List (List ℕ)))) → name ≡ identifier_front items → exports_front name.rest ≡ exports →
    function_field items ≡ option_and_then (with_use name.value) exports
exported_function items rest name exports e h = named_function items name e ∙ ap (option_and_then (with_use name.value)) h

pub function_there : (items i2 i3 i4 : Items) (name : Front Identifier) (exports : List (List ℕ)) (of : TypeUse) (locals : List Variable) (is : Instructions) → name ≡ identifier_front items →
    exports_front name.rest ≡ Some (front exports i2) → use_front i2 ≡ Some (front of i3) → variables_front (codes "local") i3 ≡ Some (front locals i4) → instructions_of i4 ≡ Some is →
    function_field items ≡ Some (FunctionField (parts name.value exports of locals is))
function_there items i2 i3 i4 name exports of locals is e h u v b =
    exported_function items i2 name (Some (front exports i2)) e h ∙ ap (option_and_then (with_locals name.value exports)) u ∙ ap (option_and_then (with_body name.value exports of)) v
    ∙ ap (option_map (λ body. FunctionField (parts name.value exports of locals body))) b
