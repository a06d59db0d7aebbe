-- The steps of instructions mean what the instructions mean.
use Rattle.std.proofs.Common.{◌≡◌, Bool, true, false, cond, ◌&&◌, List, [], ◌∷◌, ◌++◌, Option, Some, None, refl, sym, ◌∙◌, ap, append_assoc}
use Rattle.std.proofs.lemmas.List.{append-nil}
use Rattle.std.specs.List.{list_all}
use Rattle.std.specs.Option.{option_map, option_and_then}
use Rattle.wasm_ast.specs.declared.types.ValType.{ValType}
use Rattle.wasm_ast.specs.declared.instr.VariableOp.{VariableOp}
use Rattle.wasm_ast.specs.declared.instr.VariableOp.TheVariants.{LocalGet}
use Rattle.wasm_ast.specs.declared.instr.Instr.{Instr}
use Rattle.wasm_ast.specs.declared.instr.BlockKind.{BlockKind}
use Rattle.wasm_ast.specs.Sequence.{Sequence}
use Rattle.wasm_ast.specs.Built.{append, with_plain, with_open, with_else, with_end}
use Rattle.wat_meaning.specs.declared.body_meaning.Walked.{Walked}
use Rattle.wat_syntax.specs.Parsed.{Identifier, Reference, Plain, OnVariable, Instructions, Done, Then, Block, If}
use Rattle.wat_meaning.specs.Meaning.{Context, meaning, meaning_of_plain, variable_index}
use Rattle.wat_spaces.specs.Labels.{repeats}
use Rattle.wat_syntax.specs.Flat.{FlatStep, Else, End, else_label, end_label, flat}
use Rattle.wat_meaning.specs.Steps.{bindings, variable_for, plain_for, walked, walk, start, finished, body_for}
use Rattle.wat_syntax.specs.Formed.{AtMostOne, AtMostTwo, IsFormed}
use Rattle.wasm_ast.specs.declared.instr.Construct.TheVariants as construct
use Rattle.wasm_ast.specs.Sequence as sequence

-- ---- names

variable_is : (c : Context) (locals : List Identifier) (op : VariableOp) (x : Reference) → variable_for (bindings c) locals op x ≡ variable_index c locals op x
variable_is c locals LocalGet x = refl
variable_is c locals op x = refl

plain_is : (c : Context) (locals labels : List Identifier) (i : Plain) → plain_for (bindings c) locals labels i ≡ meaning_of_plain c locals labels i
plain_is c locals labels (OnVariable op x) = ap (option_map _) (variable_is c locals op x)
plain_is c locals labels i = refl

-- ---- sequences

append-empty : (s : Sequence) → append s sequence.Empty ≡ s
append-empty sequence.Empty = refl
append-empty (sequence.Plain i rest) = ap (sequence.Plain i) (append-empty rest)
append-empty (sequence.Block k of body rest) = ap (sequence.Block k of body) (append-empty rest)
append-empty (sequence.If of a b rest) = ap (sequence.If of a b) (append-empty rest)

append-assoc : (s t u : Sequence) → append (append s t) u ≡ append s (append t u)
append-assoc sequence.Empty t u = refl
append-assoc (sequence.Plain i rest) t u = ap (sequence.Plain i) (append-assoc rest t u)
append-assoc (sequence.Block k of body rest) t u = ap (sequence.Block k of body) (append-assoc rest t u)
append-assoc (sequence.If of a b rest) t u = ap (sequence.If of a b) (append-assoc rest t u)

-- a sequence behind what was walked
abbrev behind : Walked → Sequence → Walked
behind w s = walked w.labels (record { opens = w.built.opens; before = append w.built.before s })

behind_more : (labels : List Identifier) (w : Walked) (s t : Sequence) → behind (behind w s) t ≡ behind w (append s t)
behind_more labels w s t = ap (λ u. walked w.labels (record { opens = w.built.opens; before = u })) (append-assoc w.built.before s t)

-- ---- the law

module _ (c : Context) (locals : List Identifier) where
  abbrev go : List FlatStep → Walked → Option Walked
  go steps w = walk (bindings c) locals steps w

  abbrev on : List FlatStep → Walked → Option Sequence → Option Walked
  on more w o = option_and_then (λ s. go more (behind w s)) o

  -- a sequence in front of those that come
  in_front : (more : List FlatStep) (w : Walked) (s : Sequence) (f : Sequence → Sequence) → ((t : Sequence) → append s t ≡ f t) → (o : Option Sequence) → on more (behind w s) o ≡ on more w (option_map f o)
  in_front more w s f h None = refl
  in_front more w s f h (Some t) = ap (go more) (behind_more [] w s t ∙ ap (behind w) (h t))

  and_true : (b : Bool) → b ≡ (b && true)
  and_true true = refl
  and_true false = refl

  one_label : (label : Identifier) (repeated : List Identifier) → AtMostOne repeated → repeats label (end_label repeated) ≡ list_all (repeats label) repeated
  one_label label [] h = refl
  one_label label (l ∷ []) h = and_true (repeats label l)
  one_label label (l ∷ m ∷ ls) h = absurd h

  two_labels : (label : Identifier) (repeated : List Identifier) → AtMostTwo repeated → (repeats label (else_label repeated) && repeats label (end_label repeated)) ≡ list_all (repeats label) repeated
  two_labels label [] h = refl
  two_labels label (l ∷ []) h = one_label label (l ∷ []) h
  two_labels label (l ∷ m ∷ []) h = ap (λ b. repeats label l && b) (one_label label (m ∷ []) h)
  two_labels label (l ∷ m ∷ n ∷ ls) h = absurd h

  -- an instruction without inner ones
  plain_case : (more fs : List FlatStep) (w : Walked) (rest : Option Sequence) →
      ((v : Walked) → v.labels ≡ w.labels → go fs v ≡ on more v rest) → (o : Option Instr) →
      option_and_then (go fs) (option_map (λ j. walked w.labels (with_plain j w.built)) o) ≡ on more w (option_and_then (λ j. option_map (sequence.Plain j) rest) o)
  plain_case more fs w rest h None = refl
  plain_case more fs w rest h (Some j) =
      h (behind w (sequence.Plain j sequence.Empty)) refl ∙ in_front more w (sequence.Plain j sequence.Empty) (sequence.Plain j) (λ t. refl) rest

  -- what stands behind the end of a block
  block_case : (more fs : List FlatStep) (w : Walked) (label : Identifier) (k : BlockKind) (of : Option ValType) (rest : Option Sequence) →
      ((v : Walked) → v.labels ≡ w.labels → go fs v ≡ on more v rest) → (b : Bool) (o : Option Sequence) →
      option_and_then (λ s. option_and_then (go fs) (cond b (Some (walked w.labels (with_end (behind (walked (label ∷ w.labels) (with_open (construct.Block k) of w.built)) s).built))) None)) o
      ≡ on more w (cond b (option_and_then (λ a. option_map (sequence.Block k of a) rest) o) None)
  block_case more fs w label k of rest h false None = refl
  block_case more fs w label k of rest h true (Some s) =
      h (behind w (sequence.Block k of s sequence.Empty)) refl ∙ in_front more w (sequence.Block k of s sequence.Empty) (sequence.Block k of s) (λ t. refl) rest
  block_case more fs w label k of rest h b o = refl

  -- inside the second arm of an if
  abbrev second_arm : Walked → Identifier → Option ValType → Sequence → Walked
  second_arm w label of s = walked (label ∷ w.labels) (with_else (behind (walked (label ∷ w.labels) (with_open construct.If of w.built)) s).built)

  -- what stands behind the end of an if
  second_case : (more fs : List FlatStep) (w : Walked) (label : Identifier) (of : Option ValType) (rest : Option Sequence) →
      ((v : Walked) → v.labels ≡ w.labels → go fs v ≡ on more v rest) → (s : Sequence) (b : Bool) (o : Option Sequence) →
      option_and_then (λ t. option_and_then (go fs) (cond b (Some (walked w.labels (with_end (behind (second_arm w label of s) t).built))) None)) o
      ≡ on more w (cond b (option_and_then (λ t. option_map (sequence.If of s t) rest) o) None)
  second_case more fs w label of rest h s false None = refl
  second_case more fs w label of rest h s true (Some t) =
      h (behind w (sequence.If of s t sequence.Empty)) refl ∙ in_front more w (sequence.If of s t sequence.Empty) (sequence.If of s t) (λ u. refl) rest
  second_case more fs w label of rest h s b o = refl

  first_case : (more fs : List FlatStep) (w : Walked) (label : Identifier) (of : Option ValType) (rest second : Option Sequence) (b : Bool) →
      ((s : Sequence) → go fs (second_arm w label of s) ≡ on more w (cond b (option_and_then (λ t. option_map (sequence.If of s t) rest) second) None)) → (a : Bool) (o : Option Sequence) →
      option_and_then (λ s. option_and_then (go fs) (cond a (Some (second_arm w label of s)) None)) o
      ≡ on more w (cond (a && b) (option_and_then (λ s. option_and_then (λ t. option_map (sequence.If of s t) rest) second) o) None)
  first_case more fs w label of rest second b h false None = refl
  first_case more fs w label of rest second true h true (Some s) = h s
  first_case more fs w label of rest second false h true (Some s) = h s
  first_case more fs w label of rest second b h a o = refl

  -- with these labels
  abbrev Means : Instructions → List FlatStep → Walked → Type 0
  Means is more w = go (flat is ++ more) w ≡ on more w (meaning c locals w.labels is)

  again : (is : Instructions) (more : List FlatStep) → ((w : Walked) → Means is more w) → (w v : Walked) → v.labels ≡ w.labels → go (flat is ++ more) v ≡ on more v (meaning c locals w.labels is)
  again is more h w v e = h v ∙ ap (λ ls. on more v (meaning c locals ls is)) e

  pub walk_flat : (is : Instructions) → IsFormed is → (more : List FlatStep) (w : Walked) → Means is more w
  walk_flat Done formed more w = ap (go more) (sym (ap (λ u. walked w.labels (record { opens = w.built.opens; before = u })) (append-empty w.built.before)))
  walk_flat (Then i rest) formed more w =
      ap (λ o. option_and_then (go (flat rest ++ more)) (option_map (λ j. walked w.labels (with_plain j w.built)) o)) (plain_is c locals w.labels i)
      ∙ plain_case more (flat rest ++ more) w (meaning c locals w.labels rest) (again rest more (walk_flat rest formed more) w) (meaning_of_plain c locals w.labels i)
  walk_flat (Block k label repeated of body rest) formed more w =
      let e = end_label repeated in
      let inner = walked (label ∷ w.labels) (with_open (construct.Block k) of w.built) in
      let within = meaning c locals (label ∷ w.labels) body in
      let last = meaning c locals w.labels rest in
      ap (λ fs. go fs inner) (append_assoc (flat body) (End e ∷ flat rest) more)
      ∙ walk_flat body formed.1 (End e ∷ (flat rest ++ more)) inner
      ∙ block_case more (flat rest ++ more) w label k of last (again rest more (walk_flat rest formed.2 more) w) (repeats label e) within
      ∙ ap (λ b. on more w (cond b (option_and_then (λ a. option_map (sequence.Block k of a) last) within) None)) (one_label label repeated formed.0)
  walk_flat (If label repeated of first second rest) formed more w =
      let d = else_label repeated in
      let e = end_label repeated in
      let inner = walked (label ∷ w.labels) (with_open construct.If of w.built) in
      let one = meaning c locals (label ∷ w.labels) first in
      let two = meaning c locals (label ∷ w.labels) second in
      let last = meaning c locals w.labels rest in
      let behind_end = flat rest ++ more in
      let behind_else = flat second ++ (End e ∷ behind_end) in
      ap (λ fs. go fs inner) (append_assoc (flat first ++ (Else d ∷ flat second)) (End e ∷ flat rest) more ∙ append_assoc (flat first) (Else d ∷ flat second) (End e ∷ behind_end))
      ∙ walk_flat first formed.1 (Else d ∷ behind_else) inner
      ∙ first_case more behind_else w label of last two (repeats label e)
      (λ s. walk_flat second formed.2 (End e ∷ behind_end) (second_arm w label of s)
      ∙ second_case more behind_end w label of last (again rest more (walk_flat rest formed.3 more) w) s (repeats label e) two)
      (repeats label d) one
      ∙ ap (λ b. on more w (cond b (option_and_then (λ s. option_and_then (λ t. option_map (sequence.If of s t) last) two) one) None)) (two_labels label repeated formed.0)

-- the body of steps is that of the instructions
pub body_is : (c : Context) (locals : List Identifier) (is : Instructions) → IsFormed is → body_for (bindings c) locals (flat is) ≡ meaning c locals [] is
body_is c locals is formed =
    ap (λ fs. option_and_then finished (walk (bindings c) locals fs start)) (sym (append-nil (flat is)))
    ∙ ap (option_and_then finished) (walk_flat c locals is formed [] start)
    ∙ by (meaning c locals [] is)
  where
    by : (o : Option Sequence) → option_and_then finished (option_and_then (λ s. Some (walked [] (record { opens = []; before = s }))) o) ≡ o
    by None = refl
    by (Some s) = refl
