-- The sequence of a numbered list is that of its instructions.
use Rattle.std.proofs.Common.{◌≡◌, ℕ, zero, suc, ◌≤◌, List, [], ◌∷◌, length, refl, ap, arith, ◌∙◌}
use Rattle.wasm_ast.specs.declared.instr.Instr.{Instr}
use Rattle.wasm_ast.specs.declared.instr.Instr.TheVariants as instr
use Rattle.wasm_ast.specs.declared.instr.BlockKind.TheVariants as kind
use Rattle.wasm_ast.specs.Sequence.{Sequence, Block, If}
use Rattle.wasm_ast.specs.Numbering.{list_at, InstrNames, ListNames, in_front, sequence}

-- inner sequences count only where they are named
in_front-agree : (F G : ℕ → Sequence) (i : Instr) (s : Sequence) → InstrNames (λ m. F m ≡ G m) i → in_front F i s ≡ in_front G i s
in_front-agree F G (instr.Block of body) s h = ap (λ x. Block kind.Block of x s) h
in_front-agree F G (instr.Loop of body) s h = ap (λ x. Block kind.Loop of x s) h
in_front-agree F G (instr.If of then otherwise) s h = ap (λ x. If of x (F otherwise) s) h.0 ∙ ap (λ x. If of (G then) x s) h.1
in_front-agree F G _ s h = refl

pub sequence-agree : (F G : ℕ → Sequence) (is : List Instr) → ListNames (λ m. F m ≡ G m) is → sequence F is ≡ sequence G is
sequence-agree F G [] h = refl
sequence-agree F G (i ∷ is) h = ap (in_front F i) (sequence-agree F G is h.1) ∙ in_front-agree F G i (sequence G is) h.0

instr_names : (P Q : ℕ → Type 0) (i : Instr) → ((m : ℕ) → P m → Q m) → InstrNames P i → InstrNames Q i
instr_names P Q (instr.Block of body) f h = f body h
instr_names P Q (instr.Loop of body) f h = f body h
instr_names P Q (instr.If of then otherwise) f h = (f then h.0, f otherwise h.1)
instr_names P Q _ f h = tt

pub list_names : (P Q : ℕ → Type 0) (is : List Instr) → ((m : ℕ) → P m → Q m) → ListNames P is → ListNames Q is
list_names P Q [] f h = tt
list_names P Q (i ∷ is) f h = (instr_names P Q i f h.0, list_names P Q is f h.1)

pub past_end : (lists : List (List Instr)) (n : ℕ) → length lists ≤ n → list_at lists n ≡ []
past_end [] n h = refl
past_end (is ∷ lists) zero h = absurd (omega arith)
past_end (is ∷ lists) (suc n) h = past_end lists n (omega arith)
