-- Instructions one behind another, as the code keeps them: WebAssembly Core 1.0, section 6.5.
use Rattle.std.specs.Prelude.{◌≡◌, List, [], ◌∷◌, ◌++◌, map, Option, None}
use Rattle.wasm_ast.specs.declared.types.ValType.{ValType}
use Rattle.wasm_ast.specs.declared.instr.Construct.{Construct}
use Rattle.wat_syntax.specs.Parsed.{Identifier, Plain, Alone, Br, BrIf, BrTable, Call, CallIndirect, OnVariable, Instructions, Done, Then, Block, If, FunctionParts}
use Rattle.wat_syntax.specs.Formed.{IsFormed}
use Rattle.wat_syntax.specs.Seen.{seen_reference, seen_name, seen_variables, seen_use}
use Rattle.wasm_ast.specs.declared.instr.Construct.TheVariants as construct
use Rattle.wat_syntax.specs.declared.steps.Plain as kept
use Rattle.wat_syntax.specs.declared.steps.Plain.TheVariants as plain
use Rattle.wat_syntax.specs.declared.steps.Step as kept_step
use Rattle.wat_syntax.specs.declared.steps.Step.TheVariants as step
use Rattle.wat_syntax.specs.declared.steps.FunctionField as kept_function

-- one of what instructions are written with: an instruction that has no inner ones; the start of a block, a loop or an if; the
-- `else` of an if; the `end` of any of them
pub data FlatStep : Type 0 where
  One : (i : Plain) → FlatStep
  Open : (of : Construct) (label : Identifier) (leaves : Option ValType) → FlatStep
  Else : (label : Identifier) → FlatStep
  End : (label : Identifier) → FlatStep

-- the first of the labels at the `else` and the `end` of an if; a block has none at an `else`
abbrev pub else_label : List Identifier → Identifier
else_label [] = None
else_label (l ∷ []) = None
else_label (l ∷ m ∷ ls) = l

-- the last of these labels
abbrev pub end_label : List Identifier → Identifier
end_label [] = None
end_label (l ∷ []) = l
end_label (l ∷ m ∷ ls) = end_label (m ∷ ls)

-- The steps of instructions. A label that isn't repeated is none, and every if has its `else`.
abbrev pub flat : Instructions → List FlatStep
flat Done = []
flat (Then i rest) = One i ∷ flat rest
flat (Block k label repeated of body rest) = Open (construct.Block k) label of ∷ flat body ++ End (end_label repeated) ∷ flat rest
flat (If label repeated of first second rest) =
    Open construct.If label of ∷ flat first ++ Else (else_label repeated) ∷ flat second ++ End (end_label repeated) ∷ flat rest

-- ---- what the code keeps

abbrev pub seen_plain : kept.Plain → Plain
seen_plain (plain.Alone i) = Alone i
seen_plain (plain.Br x) = Br (seen_reference x)
seen_plain (plain.BrIf x) = BrIf (seen_reference x)
seen_plain (plain.BrTable labels default) = BrTable (map seen_reference labels.items) (seen_reference default)
seen_plain (plain.Call x) = Call (seen_reference x)
seen_plain (plain.CallIndirect of) = CallIndirect (seen_use of)
seen_plain (plain.OnVariable op x) = OnVariable op (seen_reference x)

abbrev pub seen_step : kept_step.Step → FlatStep
seen_step (step.Plain i) = One (seen_plain i)
seen_step (step.Open of label leaves) = Open of (seen_name label) leaves
seen_step (step.Else label) = Else (seen_name label)
seen_step (step.End label) = End (seen_name label)

abbrev pub seen_steps : List kept_step.Step → List FlatStep
seen_steps steps = map seen_step steps

-- a field for a function is what the text says, its body by its steps
pub record SeesFunction (kept : kept_function.FunctionField) (f : FunctionParts) : Type 0 where
  pub name : seen_name kept.name ≡ f.name
  pub exports : kept.exports.items ≡ f.exports
  pub of : seen_use kept.of ≡ f.of
  pub locals : seen_variables kept.locals.items ≡ f.locals
  pub body : seen_steps kept.body.items ≡ flat f.body
  pub formed : IsFormed f.body
