-- Behind the events of a sequence the operands are those that its typing leaves.
use Rattle.std.proofs.Common.{◌≡◌, Bool, true, false, ◌&&◌, cond, List, [], ◌∷◌, ◌++◌, Option, Some, None, option_and_then, option_map, option_to_list, refl, sym, ap, ◌∙◌, arith}
use Rattle.wasm_validate.specs.Prelude.{ValType, I32, BlockKind, Sequence, Empty, Plain, Block, If, Event, Else, End, is_empty, events, Context, Operands, no_operands, push_operands, pop_expected, after, leaves, typed, label_of, is_body, OpenBlocks, labels_of, first_block, opened, ended, fitting, with_operands, step, behind}
use Rattle.wasm_ast.specs.declared.instr.BlockKind.TheVariants as kind

-- what doesn't fit is not mended
behind_none : (c : Context) (es : List Event) → behind c es None ≡ None
behind_none c [] = refl
behind_none c (e ∷ es) = behind_none c es

behind_append : (c : Context) (es fs : List Event) (v : Option OpenBlocks) → behind c (es ++ fs) v ≡ behind c fs (behind c es v)
behind_append c [] fs v = refl
behind_append c (e ∷ es) fs v = behind_append c es fs (option_and_then (step c e) v)

-- the operands that a block leaves, and the blocks around it
end_leaves : (c : Context) (k : BlockKind) (of : Option ValType) (v : OpenBlocks) (s : Operands) (o : Option Operands) →
    option_and_then (step c End) (option_map (with_operands (opened k of (with_operands v s))) o) ≡ cond (leaves of o) (Some (with_operands v (push_operands (option_to_list of) s))) None
end_leaves c k of v s None = refl
end_leaves c k of v s (Some a) = refl

else_leaves : (c : Context) (b : Bool) (of : Option ValType) (v : OpenBlocks) (s : Operands) (o : Option Operands) →
    option_and_then (step c (Else b)) (option_map (with_operands (opened kind.Block of (with_operands v s))) o) ≡ cond (leaves of o) (Some (opened kind.Block of (with_operands v s))) None
else_leaves c b of v s None = refl
else_leaves c b of v s (Some a) = refl

module _ (c : Context) where
  -- what the recursion gives of a sequence
  abbrev IsTyped : Sequence → Type 0
  IsTyped t = (v : OpenBlocks) → behind c (events t) (Some v) ≡ option_map (with_operands v) (typed c (labels_of v.enclosing) t v.operands)

  over : (t : Sequence) → IsTyped t → (v : OpenBlocks) (o : Option Operands) → behind c (events t) (option_map (with_operands v) o) ≡ option_map (with_operands v) (option_and_then (typed c (labels_of v.enclosing) t) o)
  over t h v None = behind_none c (events t)
  over t h v (Some s) = h (with_operands v s)

  over_if : (t : Sequence) → IsTyped t → (v : OpenBlocks) (s : Operands) (b : Bool) →
      behind c (events t) (cond b (Some (with_operands v s)) None) ≡ option_map (with_operands v) (cond b (typed c (labels_of v.enclosing) t s) None)
  over_if t h v s true = h (with_operands v s)
  over_if t h v s false = behind_none c (events t)

  -- a block, a loop or an arm of an if, its end, and the rest
  block_typed : (body rest : Sequence) → IsTyped body → IsTyped rest → (k : BlockKind) (of : Option ValType) (v : OpenBlocks) (s : Operands) →
      behind c (events body ++ (End ∷ events rest)) (Some (opened k of (with_operands v s)))
      ≡ option_map (with_operands v) (cond (leaves of (typed c (label_of k of ∷ labels_of v.enclosing) body no_operands)) (typed c (labels_of v.enclosing) rest (push_operands (option_to_list of) s)) None)
  block_typed body rest h g k of v s =
      let w = opened k of (with_operands v s) in
      let o = typed c (label_of k of ∷ labels_of v.enclosing) body no_operands in
      behind_append c (events body) (End ∷ events rest) (Some w)
      ∙ ap (behind c (End ∷ events rest)) (h w)
      ∙ ap (behind c (events rest)) (end_leaves c k of v s o)
      ∙ over_if rest g v (push_operands (option_to_list of) s) (leaves of o)

  both : {A : Type 0} (a b : Bool) (x : Option A) → cond a (cond b x None) None ≡ cond (a && b) x None
  both a b x = grind arith

  second_typed : (second rest : Sequence) → IsTyped second → IsTyped rest → (of : Option ValType) (v : OpenBlocks) (s : Operands) (a : Bool) →
      behind c (events second ++ (End ∷ events rest)) (cond a (Some (opened kind.Block of (with_operands v s))) None)
      ≡ option_map (with_operands v) (cond a (cond (leaves of (typed c (of ∷ labels_of v.enclosing) second no_operands)) (typed c (labels_of v.enclosing) rest (push_operands (option_to_list of) s)) None) None)
  second_typed second rest h g of v s true = block_typed second rest h g kind.Block of v s
  second_typed second rest h g of v s false = behind_none c (events second ++ (End ∷ events rest))

  arms_typed : (first second rest : Sequence) → IsTyped first → IsTyped second → IsTyped rest → (of : Option ValType) (v : OpenBlocks) (o : Option Operands) →
      behind c (events first ++ (Else (is_empty second) ∷ events second ++ (End ∷ events rest))) (option_map (λ s. opened kind.Block of (with_operands v s)) o)
      ≡ option_map (with_operands v)
      (option_and_then (λ a. cond (leaves of (typed c (of ∷ labels_of v.enclosing) first no_operands) && leaves of (typed c (of ∷ labels_of v.enclosing) second no_operands)) (typed c (labels_of v.enclosing) rest (push_operands (option_to_list of) a)) None) o)
  arms_typed first second rest f h g of v None = behind_none c (events first ++ (Else (is_empty second) ∷ events second ++ (End ∷ events rest)))
  arms_typed first second rest f h g of v (Some s) =
      let w = opened kind.Block of (with_operands v s) in
      let o = typed c (of ∷ labels_of v.enclosing) first no_operands in
      let p = typed c (of ∷ labels_of v.enclosing) second no_operands in
      behind_append c (events first) (Else (is_empty second) ∷ events second ++ (End ∷ events rest)) (Some w)
      ∙ ap (behind c (Else (is_empty second) ∷ events second ++ (End ∷ events rest))) (f w)
      ∙ ap (behind c (events second ++ (End ∷ events rest))) (else_leaves c (is_empty second) of v s o)
      ∙ second_typed second rest h g of v s (leaves of o)
      ∙ ap (option_map (with_operands v)) (both (leaves of o) (leaves of p) (typed c (labels_of v.enclosing) rest (push_operands (option_to_list of) s)))

  behind_typed : (t : Sequence) → IsTyped t
  behind_typed Empty v = refl
  behind_typed (Plain i rest) v = over rest (behind_typed rest) v (after c (labels_of v.enclosing) i v.operands)
  behind_typed (Block k of body rest) v = block_typed body rest (behind_typed body) (behind_typed rest) k of v v.operands
  behind_typed (If of first second rest) v = arms_typed first second rest (behind_typed first) (behind_typed second) (behind_typed rest) of v (pop_expected I32 v.operands)

-- the operands are exactly the value that a function leaves
abbrev pub leave : Option ValType → Option OpenBlocks → Bool
leave of None = false
leave of (Some v) = leaves of (Some v.operands)

leave_map : (of : Option ValType) (v : OpenBlocks) (o : Option Operands) → leave of (option_map (with_operands v) o) ≡ leaves of o
leave_map of v None = refl
leave_map of v (Some s) = refl

pub body_typed : (c : Context) (s : Sequence) → leave c.result (behind c (events s) (Some (first_block c.result))) ≡ is_body c s
body_typed c s = ap (leave c.result) (behind_typed c s (first_block c.result)) ∙ leave_map c.result (first_block c.result) (typed c (c.result ∷ []) s no_operands)

-- an event that doesn't fit
pub refused : (c : Context) (s : Sequence) (e : Event) (es : List Event) (v w : OpenBlocks) → behind c (e ∷ es) (Some v) ≡ behind c (events s) (Some (first_block c.result)) → fitting false w ≡ step c e v → false ≡ is_body c s
refused c s e es v w p q = ap (leave c.result) (sym (behind_none c es) ∙ ap (behind c es) q ∙ p) ∙ body_typed c s

-- what fits, by the operands and the blocks
pub fits_with : (fits : Bool) (v w : OpenBlocks) (o : Option Operands) → ended fits w.operands ≡ o → w.enclosing ≡ v.enclosing → fitting fits w ≡ option_map (with_operands v) o
fits_with true v w o p q = ap (λ e. Some (record { operands = w.operands; enclosing = e })) q ∙ ap (option_map (with_operands v)) p
fits_with false v w o p q = ap (option_map (with_operands v)) p
