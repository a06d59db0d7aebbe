-- A module to which the parts of the fields that the code keeps are added is the module of what they say.
use Rattle.std.proofs.Common.{◌≡◌, ℕ, ◌+◌, ◌<◌, get_or, Bool, true, false, cond, List, [], ◌∷◌, ◌++◌, length, map, drop, Option, Some, None, Result, Ok, Err, refl, sym, ◌∙◌, ap, append_assoc}
use Rattle.std.specs.Option.{option_map, option_and_then, option_or}
use Rattle.std.proofs.lemmas.List.{append-nil, drop_more}
use Rattle.wasm_ast.specs.declared.types.FuncType.{FuncType}
use Rattle.wasm_ast.specs.declared.module.Module.{Module}
use Rattle.wasm_ast.specs.declared.module.ImportKind.TheVariants as import
use Rattle.wasm_ast.specs.declared.module.ExportKind.{ExportKind}
use Rattle.wasm_ast.specs.declared.module.ExportKind.TheVariants as export
use Rattle.wasm_ast.specs.Sequence.{Sequence}
use Rattle.wat_syntax.specs.declared.field.Field as kept
use Rattle.wat_syntax.specs.declared.field.Field.TheVariants as field
use Rattle.wat_syntax.specs.declared.field.FieldInLine.{FieldInLine}
use Rattle.wat_syntax.specs.declared.parsed.Exported as kept_exported
use Rattle.wat_syntax.specs.declared.parsed.Exported.TheVariants as exported
use Rattle.wat_syntax.specs.declared.parsed.ImportOf.{ImportOf}
use Rattle.wat_syntax.specs.declared.parsed.ImportOf.TheVariants as imported
use Rattle.wat_syntax.specs.declared.steps.FunctionField as kept_function
use Rattle.wat_syntax.specs.Parsed.{TypeUse, Variable, Field, FunctionParts, InLine}
use Rattle.wat_syntax.specs.Seen.{seen_reference, seen_use, seen_variables, seen_import, seen_exported}
use Rattle.wat_syntax.specs.Flat.{FlatStep, seen_steps, flat, SeesFunction}
use Rattle.wat_syntax.specs.SeenFields.{SeesField, SeesFields}
use Rattle.wat_spaces.specs.declared.bindings.Bindings.{Bindings}
use Rattle.wat_spaces.specs.declared.spaces.Spaces.{Spaces}
use Rattle.wat_spaces.specs.Spaces.{Functions, Memories, are_distinct, index_in, space_of, rebinds}
use Rattle.wat_spaces.specs.Types.{Found, types_of_fields}
use Rattle.wat_spaces.specs.KeptSpaces.{no_names, spaces_said, spaces_with, kept_rebinds, spaces_of_kept}
use Rattle.wat_spaces.proofs.CollectedLemmas.{types_are}
use Rattle.wat_spaces.proofs.SpaceLemmas.{rebinds_seen, spaces_more, spaces_are}
use Rattle.wat_meaning.specs.Meaning.{Context, all_some, nothing, meaning, exports_as, import_function_meant, function_meant, type_meant, exported_meant, expression, given_by}
use Rattle.wat_meaning.specs.Meaning as meant
use Rattle.wat_meaning.specs.Locals.{local_names, variable_names}
use Rattle.wat_meaning.specs.Steps.{bindings, type_for, body_for}
use Rattle.wat_meaning.proofs.DistinctLemmas.{distinct_is, locals_are}
use Rattle.wat_meaning.proofs.StepLemmas.{body_is}
use Rattle.wat_asm.specs.declared.fault.AsmKind.TheVariants as asm_kind
use Rattle.wat_asm.specs.Assembled.{Fault, fault, joined, in_front, if_given, parts_of, with_types, module_of_fields}
use Rattle.wat_asm.specs.Taken.{exports_named, import_with, import_function_taken, import_taken, code_with, code_for, function_with, function_taken, exported_for, taken, if_taken, all_taken, typed, module_kept}

or-none : (o : Option ℕ) → o ≡ option_or o None
or-none None = refl
or-none (Some n) = refl

-- nothing behind a module
same_module : (m : Module) → m ≡ joined m nothing
same_module m = λ i. record {
  types = sym (append-nil m.types) i;
  imports = sym (append-nil m.imports) i;
  functions = sym (append-nil m.functions) i;
  tables = sym (append-nil m.tables) i;
  memories = sym (append-nil m.memories) i;
  globals = sym (append-nil m.globals) i;
  exports = sym (append-nil m.exports) i;
  start = or-none m.start i;
  elements = sym (append-nil m.elements) i;
  codes = sym (append-nil m.codes) i;
  segments = sym (append-nil m.segments) i;
}

or-assoc : (a b c : Option ℕ) → option_or a (option_or b c) ≡ option_or (option_or a b) c
or-assoc None b c = refl
or-assoc (Some n) b c = refl

joined-assoc : (a b c : Module) → joined a (joined b c) ≡ joined (joined a b) c
joined-assoc a b c = λ i. record {
  types = sym (append_assoc a.types b.types c.types) i;
  imports = sym (append_assoc a.imports b.imports c.imports) i;
  functions = sym (append_assoc a.functions b.functions c.functions) i;
  tables = sym (append_assoc a.tables b.tables c.tables) i;
  memories = sym (append_assoc a.memories b.memories c.memories) i;
  globals = sym (append_assoc a.globals b.globals c.globals) i;
  exports = sym (append_assoc a.exports b.exports c.exports) i;
  start = or-assoc a.start b.start c.start i;
  elements = sym (append_assoc a.elements b.elements c.elements) i;
  codes = sym (append_assoc a.codes b.codes c.codes) i;
  segments = sym (append_assoc a.segments b.segments c.segments) i;
}

-- ---- the parts of one field

module _ (c : Context) (m : Module) where
  import_function_case : (from field : List ℕ) (of : TypeUse) → import_function_taken (bindings c) from field of m ≡ option_map (joined m) (option_and_then (import_function_meant from field of) (type_meant c of))
  import_function_case from field of =
      ap (option_and_then (λ names. option_map (import_with m from field) (option_map (λ (found : Found). found.index) (type_meant c of)))) (distinct_is [] (variable_names of.params) refl)
      ∙ by (are_distinct (variable_names of.params)) (type_meant c of)
    where
      by : (d : Bool) (o : Option Found) → option_and_then (λ names. option_map (import_with m from field) (option_map (λ (found : Found). found.index) o)) (cond d (Some (variable_names of.params)) None)
          ≡ option_map (joined m) (option_and_then (λ (found : Found). cond d (Some (record nothing { imports = record { «module» = from; name = field; kind = import.Func found.index } ∷ [] })) None) o)
      by true (Some found) = λ i. Some (record (same_module m i) { imports = m.imports ++ record { «module» = from; name = field; kind = import.Func found.index } ∷ [] })
      by false None = refl
      by d o = refl

  import_case : (before : List Field) (from field : List ℕ) (of : ImportOf) → import_taken (bindings c) from field of m ≡ option_map (joined m) (given_by c before (seen_import from field of))
  import_case before from field (imported.Function name of) = import_function_case from field (seen_use of)
  import_case before from field (imported.Memory name of) = λ i. Some (record (same_module m i) { imports = m.imports ++ record { «module» = from; name = field; kind = import.Memory of } ∷ [] })

  -- a function by what it is made of
  abbrev made_of : ℕ → (exports : List (List ℕ)) (params locals : List Variable) → List FlatStep → Found → Option Module
  made_of index exports params locals steps found = option_map (function_with m index exports found.index) (code_for (bindings c) found.of params locals steps)

  function_made : (index : ℕ) (f : FunctionParts) (found : Found) → (names : List (Option (List ℕ))) (d : Bool) (o : Option Sequence) → body_for (bindings c) names (flat f.body) ≡ o →
      option_map (function_with m index f.exports found.index) (option_and_then (λ ns. option_map (code_with f.locals) (body_for (bindings c) ns (flat f.body))) (cond d (Some names) None))
      ≡ option_map (joined m) (cond d (option_map (meant.function_with index f found.index) o) None)
  function_made index f found names false o e = refl
  function_made index f found names true None e = ap (λ x. option_map (function_with m index f.exports found.index) (option_map (code_with f.locals) x)) e
  function_made index f found names true (Some body) e =
      ap (λ x. option_map (function_with m index f.exports found.index) (option_map (code_with f.locals) x)) e
      ∙ (λ i. Some (record (same_module m i) {
        functions = m.functions ++ found.index ∷ [];
        exports = m.exports ++ exports_named (export.Func index) f.exports;
        codes = m.codes ++ code_with f.locals body ∷ [];
      }))

  function_case : (index : ℕ) (f : kept_function.FunctionField) (said : FunctionParts) → SeesFunction f said →
      option_and_then (function_taken (bindings c) index f m) (type_for (bindings c) (seen_use f.of)) ≡ option_map (joined m) (option_and_then (function_meant c index said) (type_meant c said.of))
  function_case index f said h =
      ap (λ xs. option_and_then (made_of index xs (seen_use f.of).params (seen_variables f.locals.items) (seen_steps f.body.items)) (type_for (bindings c) (seen_use f.of))) h.exports
      ∙ ap (λ u. option_and_then (made_of index said.exports u.params (seen_variables f.locals.items) (seen_steps f.body.items)) (type_for (bindings c) u)) h.of
      ∙ ap (λ vs. option_and_then (made_of index said.exports said.of.params vs (seen_steps f.body.items)) (type_meant c said.of)) h.locals
      ∙ ap (λ ss. option_and_then (made_of index said.exports said.of.params said.locals ss) (type_meant c said.of)) h.body
      ∙ by (type_meant c said.of)
    where
      by : (o : Option Found) → option_and_then (made_of index said.exports said.of.params said.locals (flat said.body)) o ≡ option_map (joined m) (option_and_then (function_meant c index said) o)
      by None = refl
      by (Some found) =
          let names = local_names found.of said.of.params said.locals in
          ap (λ ns. option_map (function_with m index said.exports found.index) (option_and_then (λ n. option_map (code_with said.locals) (body_for (bindings c) n (flat said.body))) ns)) (locals_are found.of said.of.params said.locals)
          ∙ function_made index said found names (are_distinct names) (meaning c names [] said.body) (body_is c names said.body h.formed)

  export_case : (name : List ℕ) (o : Option ExportKind) → option_map (λ kind. record m { exports = m.exports ++ record { name = name; kind = kind } ∷ [] }) o
      ≡ option_map (joined m) (option_map (λ kind. record nothing { exports = record { name = name; kind = kind } ∷ [] }) o)
  export_case name None = refl
  export_case name (Some kind) = λ i. Some (record (same_module m i) { exports = m.exports ++ record { name = name; kind = kind } ∷ [] })

  exported_case : (x : kept_exported.Exported) → exported_for (spaces_said c.fields) (seen_exported x) ≡ exported_meant c (seen_exported x)
  exported_case (exported.Function x) = refl
  exported_case x = refl

  taken_said : (before : List Field) (f : kept.Field) (said : Field) → SeesField f said → taken (bindings c) (spaces_said before) f m ≡ option_map (joined m) (given_by c before said)
  taken_said before (field.Type f) said h = ap Some (same_module m) ∙ ap (λ s. option_map (joined m) (given_by c before s)) (sym h)
  taken_said before (field.Import f) said h = import_case before f.from f.field f.of ∙ ap (λ s. option_map (joined m) (given_by c before s)) (sym h)
  taken_said before (field.Function f) said h = function_case (length (space_of Functions before)) f h.0 h.2 ∙ ap (λ s. option_map (joined m) (given_by c before s)) (sym h.1)
  taken_said before (field.Table f) said h = (λ i. Some (record (same_module m i) { tables = m.tables ++ f.of ∷ [] })) ∙ ap (λ s. option_map (joined m) (given_by c before s)) (sym h)
  taken_said before (field.Memory f) said h =
      (λ i. Some (record (same_module m i) { memories = m.memories ++ f.of ∷ []; exports = m.exports ++ exports_as export.Memory (length (space_of Memories before)) f.exports.items }))
      ∙ ap (λ s. option_map (joined m) (given_by c before s)) (sym h)
  taken_said before (field.Global f) said h =
      (λ i. Some (record (same_module m i) { globals = m.globals ++ record { of = f.of; mutable = f.mutable; init = expression f.value } ∷ [] })) ∙ ap (λ s. option_map (joined m) (given_by c before s)) (sym h)
  taken_said before (field.Export f) said h =
      export_case f.name (exported_for (spaces_said c.fields) (seen_exported f.of))
      ∙ ap (λ o. option_map (joined m) (option_map (λ kind. record nothing { exports = record { name = f.name; kind = kind } ∷ [] }) o)) (exported_case f.of)
      ∙ ap (λ s. option_map (joined m) (given_by c before s)) (sym h)
  taken_said before (field.Start x) said h = by (index_in (spaces_said c.fields).functions (seen_reference x)) ∙ ap (λ s. option_map (joined m) (given_by c before s)) (sym h)
    where
      by : (o : Option ℕ) → option_map (λ n. record m { start = option_or m.start (Some n) }) o ≡ option_map (joined m) (option_map (λ n. record nothing { start = Some n }) o)
      by None = refl
      by (Some n) = λ i. Some (record (same_module m i) { start = option_or m.start (Some n) })
  taken_said before (field.Element f) said h =
      by (all_some (map (index_in (spaces_said c.fields).functions) (map seen_reference f.functions.items))) ∙ ap (λ s. option_map (joined m) (given_by c before s)) (sym h)
    where
      by : (o : Option (List ℕ)) → option_map (λ fs. record m { elements = m.elements ++ record { table = 0; offset = expression f.offset; functions = fs } ∷ [] }) o
          ≡ option_map (joined m) (option_map (λ fs. record nothing { elements = record { table = 0; offset = expression f.offset; functions = fs } ∷ [] }) o)
      by None = refl
      by (Some fs) = λ i. Some (record (same_module m i) { elements = m.elements ++ record { table = 0; offset = expression f.offset; functions = fs } ∷ [] })
  taken_said before (field.Data f) said h =
      (λ i. Some (record (same_module m i) { segments = m.segments ++ record { memory = 0; offset = expression f.offset; bytes = f.bytes } ∷ [] })) ∙ ap (λ s. option_map (joined m) (given_by c before s)) (sym h)

-- ---- the parts of all fields

-- with the kind of a fault
abbrev named : Result Module ℕ → Result Module Fault
named (Ok m) = Ok m
named (Err line) = Err (fault asm_kind.Name line)

abbrev one : Bool → ℕ → Option Module → (Module → Result Module Fault) → Result Module Fault
one b line o more = cond b (Err (fault asm_kind.Name line)) (if_taken line o more)

step : (m : Module) (line : ℕ) (b : Bool) (o : Option Module) (rest : Result Module ℕ) →
    one b line (option_map (joined m) o) (λ n. named (in_front n rest)) ≡ named (in_front m (cond b (Err line) (if_given line o rest)))
step m line true o rest = refl
step m line false None rest = refl
step m line false (Some p) (Ok n) = ap Ok (sym (joined-assoc m p n))
step m line false (Some p) (Err other) = refl

all_said : (c : Context) (before : List Field) (fs : List FieldInLine) (said : List (InLine Field)) → SeesFields fs said → (m : Module) →
    all_taken (bindings c) (spaces_said before) fs m ≡ named (in_front m (parts_of c before said))
all_said c before [] [] h m = ap Ok (same_module m)
all_said c before (f ∷ fs) (s ∷ said) h m =
    let b = bindings c in
    let now = spaces_said before in
    let all = all_taken b (spaces_with now f.field) fs in
    ap (λ l. one (kept_rebinds now f.field) l (taken b now f.field m) all) (sym h.0)
    ∙ ap (λ x. one x s.line (taken b now f.field m) all) (rebinds_seen before f.field s.value h.1)
    ∙ ap (λ o. one (rebinds before s.value) s.line o all) (taken_said c m before f.field s.value h.1)
    ∙ ap (λ x. one (rebinds before s.value) s.line (option_map (joined m) (given_by c before s.value)) (all_taken b x fs)) (spaces_more before f.field s.value h.1)
    ∙ ap (one (rebinds before s.value) s.line (option_map (joined m) (given_by c before s.value))) (λ i n. all_said c (before ++ s.value ∷ []) fs said h.2 n i)
    ∙ step m s.line (rebinds before s.value) (given_by c before s.value) (parts_of c (before ++ s.value ∷ []) said)
all_said c before fs said h m = absurd h

-- the module of the fields
pub module_is : (fs : List FieldInLine) (said : List (InLine Field)) → SeesFields fs said → module_kept fs ≡ module_of_fields said
module_is fs said h =
    let fields = map (λ (s : InLine Field). s.value) said in
    let types = types_of_fields fields in
    ap (λ ts. typed ts (all_taken (record { of = ts; names = spaces_of_kept no_names fs }) no_names fs nothing)) (types_are fs said h)
    ∙ ap (λ s. typed types (all_taken (record { of = types; names = s }) no_names fs nothing)) (spaces_are fs said h)
    ∙ ap (typed types) (all_said (record { fields = fields; types = types }) [] fs said h nothing)
    ∙ by types (parts_of (record { fields = fields; types = types }) [] said)
  where
    by : (types : List FuncType) (parts : Result Module ℕ) → typed types (named (in_front nothing parts)) ≡ with_types types parts
    by types (Ok m) = refl
    by types (Err line) = refl

-- a field whose parts are added, and those behind it
pub turn : (b : Bindings) (xs : List FieldInLine) (i : ℕ) (x : FieldInLine) (before : Spaces) (m : Module) (o : Option Module) (all : Result Module Fault) → i < length xs → x ≡ get_or xs i x →
    all_taken b before (drop i xs) m ≡ all → kept_rebinds before x.field ≡ false → taken b before x.field m ≡ o → if_taken x.line o (all_taken b (spaces_with before x.field) (drop (i + 1) xs)) ≡ all
turn b xs i x before m o all h e seen bound part =
    let more = all_taken b (spaces_with before x.field) (drop (i + 1) xs) in
    ap (λ p. if_taken x.line p more) (sym part) ∙ ap (λ r. one r x.line (taken b before x.field m) more) (sym bound)
    ∙ ap (λ ys. all_taken b before ys m) (sym (drop_more xs i x h ∙ ap (λ y. y ∷ drop (i + 1) xs) (sym e))) ∙ seen
