-- The names of instructions part as their words do.
use Rattle.std.proofs.Common.{◌≡◌, ◌≢◌, ℕ, List, [], ◌∷◌, ◌++◌, Option, Some, None, refl, sym, ◌∙◌, ap, subst, nat_eq, false, get_or, arith}
use Rattle.std.proofs.lemmas.Bool.Decides.{nat_tests}
use Rattle.std.specs.Prelude.{codes, MatchOption}
use Rattle.std.proofs.lemmas.List.{append_cancel_left, append_cancel_right, append-nil}
use Rattle.wasm_ast.specs.declared.types.IntType.{IntType}
use Rattle.wasm_ast.specs.declared.types.IntType.TheVariants as int
use Rattle.wasm_ast.specs.declared.instr.NumericOp.{NumericOp}
use Rattle.wasm_ast.specs.declared.instr.NumericOp.TheVariants.{Eqz, Compare, Unary, Binary, Convert}
use Rattle.wasm_ast.specs.declared.instr.CompareOp.{CompareOp}
use Rattle.wasm_ast.specs.declared.instr.CompareOp.TheVariants.{Eq, Ne}
use Rattle.wasm_ast.specs.declared.instr.UnaryOp.{UnaryOp}
use Rattle.wasm_ast.specs.declared.instr.UnaryOp.TheVariants.{Clz}
use Rattle.wasm_ast.specs.declared.instr.BinaryOp.{BinaryOp}
use Rattle.wasm_ast.specs.declared.instr.BinaryOp.TheVariants as binary
use Rattle.wasm_ast.specs.declared.instr.ConvertOp.{ConvertOp}
use Rattle.wasm_ast.specs.declared.instr.ConvertOp.TheVariants.{Wrap}
use Rattle.wasm_ast.specs.declared.instr.VariableOp.{VariableOp}
use Rattle.wasm_ast.specs.declared.instr.VariableOp.TheVariants.{LocalGet}
use Rattle.wasm_ast.specs.declared.instr.LoadOp.{LoadOp}
use Rattle.wasm_ast.specs.declared.instr.LoadOp.TheVariants as load
use Rattle.wasm_ast.specs.declared.instr.RmwOp.{RmwOp}
use Rattle.wasm_ast.specs.declared.instr.Form.{Form}
use Rattle.wasm_ast.specs.declared.instr.Form.TheVariants as form
use Rattle.wasm_ast.specs.declared.instr.Access.{Access}
use Rattle.wasm_ast.specs.declared.instr.Access.TheVariants.{Load, Store, Notify, Wait, AtomicLoad, AtomicStore, AtomicRmw, AtomicCompareExchange}
use Rattle.wasm_ast.specs.Operators.{form_type, load_type}
use Rattle.wat_names.specs.declared.named.Named.{Named}
use Rattle.wat_names.specs.declared.named.Named.TheVariants as named
use Rattle.wat_names.specs.Names.{typed, numeric_type, numeric_word, compare_word, unary_word, binary_word, convert_word, load_word, bits, extension, rmw_word, rmw_form_word, store_word, atomic_load_word, IsModify, IsExtended, IsRmwNamed, IsPlainNamed, IsAtomicNamed}
use Rattle.wat_names.specs.Rows.{name_of}

-- lists differ where they have different bytes at a place
apart : (k : ℕ) (x y : List ℕ) → x ≡ y → nat_eq (get_or x k 0) (get_or y k 0) ≡ false → ⊥
apart k x y e f = let g : get_or x k 0 ≡ get_or y k 0 = ap (λ l. get_or l k 0) e in grind (arith, nat_tests)

-- what is found by one fact is found by another
abbrev pub Finds : (Access → Type 0) → Option Access → Type 0
Finds P r = MatchOption r ((a : Access) → P a → ⊥) P

pub found_as : (P Q : Access → Type 0) (r : Option Access) → ((a : Access) → P a → Q a) → ((a : Access) → Q a → P a) → Finds P r → Finds Q r
found_as P Q None f g h = λ a q. h a (g a q)
found_as P Q (Some a) f g h = f a h

-- ---- reads, modifies and writes

-- a word without an extension
to_extended : (of : Form) (rest : List ℕ) → extension of ≡ [] → (a : Access) → IsModify of a rest → IsExtended of a rest
to_extended of rest e (AtomicRmw op other) h = (h.0, ap (λ x. rmw_word op ++ x) e ∙ append-nil (rmw_word op) ∙ h.1)
to_extended of rest e (AtomicCompareExchange other) h = (h.0, ap (λ x. codes "cmpxchg" ++ x) e ∙ h.1)
to_extended of rest e a h = h

from_extended : (of : Form) (rest : List ℕ) → extension of ≡ [] → (a : Access) → IsExtended of a rest → IsModify of a rest
from_extended of rest e (AtomicRmw op other) h = (h.0, sym (append-nil (rmw_word op)) ∙ ap (λ x. rmw_word op ++ x) (sym e) ∙ h.1)
from_extended of rest e (AtomicCompareExchange other) h = (h.0, ap (λ x. codes "cmpxchg" ++ x) (sym e) ∙ h.1)
from_extended of rest e a h = h

pub whole_is : (of : Form) (rest : List ℕ) → extension of ≡ [] → (r : Option Access) → Finds (λ a. IsModify of a rest) r → Finds (λ a. IsExtended of a rest) r
whole_is of rest e r h = found_as _ _ r (to_extended of rest e) (from_extended of rest e) h

-- a word with `_u` behind it
to_narrow : (of : Form) (front word : List ℕ) → extension of ≡ codes "_u" → word ≡ front ++ codes "_u" → (a : Access) → IsModify of a front → IsExtended of a word
to_narrow of front word e w (AtomicRmw op other) h = (h.0, ap (λ x. rmw_word op ++ x) e ∙ ap (λ x. x ++ codes "_u") h.1 ∙ sym w)
to_narrow of front word e w (AtomicCompareExchange other) h = (h.0, ap (λ x. codes "cmpxchg" ++ x) e ∙ ap (λ x. x ++ codes "_u") h.1 ∙ sym w)
to_narrow of front word e w a h = h

from_narrow : (of : Form) (front word : List ℕ) → extension of ≡ codes "_u" → word ≡ front ++ codes "_u" → (a : Access) → IsExtended of a word → IsModify of a front
from_narrow of front word e w (AtomicRmw op other) h =
    (h.0, append_cancel_right (rmw_word op) front (codes "_u") (ap (λ x. rmw_word op ++ x) (sym e) ∙ h.1 ∙ w))
from_narrow of front word e w (AtomicCompareExchange other) h =
    (h.0, append_cancel_right (codes "cmpxchg") front (codes "_u") (ap (λ x. codes "cmpxchg" ++ x) (sym e) ∙ h.1 ∙ w))
from_narrow of front word e w a h = h

pub narrow_is : (of : Form) (front word : List ℕ) → extension of ≡ codes "_u" → word ≡ front ++ codes "_u" → (r : Option Access) → Finds (λ a. IsModify of a front) r → Finds (λ a. IsExtended of a word) r
narrow_is of front word e w r h = found_as _ _ r (to_narrow of front word e w) (from_narrow of front word e w) h

-- the form is read off the type and the bits
same_form : (other of : Form) (x y : List ℕ) → form_type other ≡ form_type of → codes "rmw" ++ (bits other ++ (codes "." ++ x)) ≡ codes "rmw" ++ (bits of ++ (codes "." ++ y)) → (other ≡ of) × (x ≡ y)
same_form form.I32 form.I32 x y t e = (refl, cc)
same_form form.I32 form.I32Low8 x y t e = absurd (apart 3 _ _ e refl)
same_form form.I32 form.I32Low16 x y t e = absurd (apart 3 _ _ e refl)
same_form form.I32Low8 form.I32 x y t e = absurd (apart 3 _ _ e refl)
same_form form.I32Low8 form.I32Low8 x y t e = (refl, cc)
same_form form.I32Low8 form.I32Low16 x y t e = absurd (apart 3 _ _ e refl)
same_form form.I32Low16 form.I32 x y t e = absurd (apart 3 _ _ e refl)
same_form form.I32Low16 form.I32Low8 x y t e = absurd (apart 3 _ _ e refl)
same_form form.I32Low16 form.I32Low16 x y t e = (refl, cc)
same_form form.I64 form.I64 x y t e = (refl, cc)
same_form form.I64 form.I64Low8 x y t e = absurd (apart 3 _ _ e refl)
same_form form.I64 form.I64Low16 x y t e = absurd (apart 3 _ _ e refl)
same_form form.I64 form.I64Low32 x y t e = absurd (apart 3 _ _ e refl)
same_form form.I64Low8 form.I64 x y t e = absurd (apart 3 _ _ e refl)
same_form form.I64Low8 form.I64Low8 x y t e = (refl, cc)
same_form form.I64Low8 form.I64Low16 x y t e = absurd (apart 3 _ _ e refl)
same_form form.I64Low8 form.I64Low32 x y t e = absurd (apart 3 _ _ e refl)
same_form form.I64Low16 form.I64 x y t e = absurd (apart 3 _ _ e refl)
same_form form.I64Low16 form.I64Low8 x y t e = absurd (apart 3 _ _ e refl)
same_form form.I64Low16 form.I64Low16 x y t e = (refl, cc)
same_form form.I64Low16 form.I64Low32 x y t e = absurd (apart 3 _ _ e refl)
same_form form.I64Low32 form.I64 x y t e = absurd (apart 3 _ _ e refl)
same_form form.I64Low32 form.I64Low8 x y t e = absurd (apart 3 _ _ e refl)
same_form form.I64Low32 form.I64Low16 x y t e = absurd (apart 3 _ _ e refl)
same_form form.I64Low32 form.I64Low32 x y t e = (refl, cc)
same_form other of x y t e = (cc, cc)

module _ (of : Form) (t : IntType) (word rest : List ℕ) (is : form_type of ≡ t) (w : word ≡ codes "rmw" ++ (bits of ++ (codes "." ++ rest))) where
  formed : (other : Form) (op : List ℕ) → other ≡ of → op ++ extension of ≡ rest → (form_type other ≡ t) × (rmw_form_word other op ≡ word)
  formed other op e h = subst (λ f. (form_type f ≡ t) × (rmw_form_word f op ≡ word)) (sym e) (is, ap (λ x. codes "rmw" ++ (bits of ++ (codes "." ++ x))) h ∙ sym w)

  unformed : (other : Form) (op : List ℕ) → form_type other ≡ t → rmw_form_word other op ≡ word → (other ≡ of) × (op ++ extension of ≡ rest)
  unformed other op e h =
      let s = same_form other of (op ++ extension other) rest (e ∙ sym is) (h ∙ w) in
      (s.0, ap (λ f. op ++ extension f) (sym s.0) ∙ s.1)

  to_rmw : (a : Access) → IsExtended of a rest → IsRmwNamed t a word
  to_rmw (AtomicRmw op other) h = formed other (rmw_word op) h.0 h.1
  to_rmw (AtomicCompareExchange other) h = formed other (codes "cmpxchg") h.0 h.1
  to_rmw a h = h

  from_rmw : (a : Access) → IsRmwNamed t a word → IsExtended of a rest
  from_rmw (AtomicRmw op other) h = unformed other (rmw_word op) h.0 h.1
  from_rmw (AtomicCompareExchange other) h = unformed other (codes "cmpxchg") h.0 h.1
  from_rmw a h = h

  pub rmw_is : (r : Option Access) → Finds (λ a. IsExtended of a rest) r → Finds (λ a. IsRmwNamed t a word) r
  rmw_is r h = found_as _ _ r to_rmw from_rmw h

-- loads and stores, or reads, modifies and writes
pub atomic_is : (of : IntType) (word : List ℕ) → ((f : Form) → form_type f ≡ of → atomic_load_word f ≢ word) → ((f : Form) → form_type f ≡ of → store_word f ≢ word) →
    (r : Option Access) → Finds (λ a. IsRmwNamed of a word) r → Finds (λ a. IsAtomicNamed of a word) r
atomic_is of word l s r h = found_as (λ a. IsRmwNamed of a word) (λ a. IsAtomicNamed of a word) r to from h
  where
    to : (a : Access) → IsRmwNamed of a word → IsAtomicNamed of a word
    to (AtomicLoad form) g = absurd g
    to (AtomicStore form) g = absurd g
    to (AtomicRmw op form) g = g
    to (AtomicCompareExchange form) g = g
    to a g = g

    from : (a : Access) → IsAtomicNamed of a word → IsRmwNamed of a word
    from (AtomicLoad form) g = absurd (l form g.0 g.1)
    from (AtomicStore form) g = absurd (s form g.0 g.1)
    from (AtomicRmw op form) g = g
    from (AtomicCompareExchange form) g = g
    from a g = g

-- ---- types

pub typed_parts : (a b : IntType) (x y : List ℕ) → typed a x ≡ typed b y → (a ≡ b) × (x ≡ y)
typed_parts int.I32 int.I32 x y e = (refl, cc)
typed_parts int.I64 int.I64 x y e = (refl, cc)
typed_parts int.I32 int.I64 x y e = absurd (apart 1 _ _ e refl)
typed_parts int.I64 int.I32 x y e = absurd (apart 1 _ _ e refl)

-- no numeric word begins with `atomic.`
compare_plain : (op : CompareOp) (rest : List ℕ) → compare_word op ≡ codes "atomic." ++ rest → ⊥
compare_plain Eq rest e = apart 0 _ _ e refl
compare_plain op rest e = apart 0 _ _ e refl

unary_plain : (op : UnaryOp) (rest : List ℕ) → unary_word op ≡ codes "atomic." ++ rest → ⊥
unary_plain Clz rest e = apart 0 _ _ e refl
unary_plain op rest e = apart 0 _ _ e refl

binary_plain : (op : BinaryOp) (rest : List ℕ) → binary_word op ≡ codes "atomic." ++ rest → ⊥
binary_plain binary.Add rest e = apart 1 _ _ e refl
binary_plain binary.And rest e = apart 1 _ _ e refl
binary_plain op rest e = apart 0 _ _ e refl

convert_plain : (op : ConvertOp) (rest : List ℕ) → convert_word op ≡ codes "atomic." ++ rest → ⊥
convert_plain Wrap rest e = apart 0 _ _ e refl
convert_plain op rest e = apart 0 _ _ e refl

load_plain : (op : LoadOp) (rest : List ℕ) → load_word op ≡ codes "atomic." ++ rest → ⊥
load_plain load.I32 rest e = apart 0 _ _ e refl
load_plain op rest e = apart 0 _ _ e refl

numeric_plain : (op : NumericOp) (rest : List ℕ) → numeric_word op ≡ codes "atomic." ++ rest → ⊥
numeric_plain (Eqz of) rest e = apart 0 _ _ e refl
numeric_plain (Compare of op) rest e = compare_plain op rest e
numeric_plain (Unary of op) rest e = unary_plain op rest e
numeric_plain (Binary of op) rest e = binary_plain op rest e
numeric_plain (Convert op) rest e = convert_plain op rest e

-- an atomic access is what has a type and `atomic.` in front
pub typed_atomic : (of : IntType) (word behind : List ℕ) → word ≡ codes "atomic." ++ behind → ((a : Access) → IsAtomicNamed of a behind → ⊥) → (n : Named) → name_of n ≡ typed of word → ⊥
typed_atomic of word behind w h (named.Numeric op) e = numeric_plain op behind ((typed_parts (numeric_type op) of _ _ e).1 ∙ w)
typed_atomic of word behind w h named.I32Const e = apart 0 _ _ ((typed_parts int.I32 of _ _ e).1 ∙ w) refl
typed_atomic of word behind w h named.I64Const e = apart 0 _ _ ((typed_parts int.I64 of _ _ e).1 ∙ w) refl
typed_atomic of word behind w h (named.Access (Load op)) e = load_plain op behind ((typed_parts (load_type op) of _ _ e).1 ∙ w)
typed_atomic of word behind w h (named.Access (Store f)) e = apart 0 _ _ ((typed_parts (form_type f) of _ _ e).1 ∙ w) refl
typed_atomic of word behind w h (named.Access (AtomicLoad f)) e =
    let p = typed_parts (form_type f) of (codes "atomic." ++ atomic_load_word f) word e in h (AtomicLoad f) (p.0, append_cancel_left (codes "atomic.") _ _ (p.1 ∙ w))
typed_atomic of word behind w h (named.Access (AtomicStore f)) e =
    let p = typed_parts (form_type f) of (codes "atomic." ++ store_word f) word e in h (AtomicStore f) (p.0, append_cancel_left (codes "atomic.") _ _ (p.1 ∙ w))
typed_atomic of word behind w h (named.Access (AtomicRmw op f)) e =
    let p = typed_parts (form_type f) of (codes "atomic." ++ rmw_form_word f (rmw_word op)) word e in h (AtomicRmw op f) (p.0, append_cancel_left (codes "atomic.") _ _ (p.1 ∙ w))
typed_atomic of word behind w h (named.Access (AtomicCompareExchange f)) e =
    let p = typed_parts (form_type f) of (codes "atomic." ++ rmw_form_word f (codes "cmpxchg")) word e in h (AtomicCompareExchange f) (p.0, append_cancel_left (codes "atomic.") _ _ (p.1 ∙ w))
typed_atomic int.I32 word behind w h (named.Access (Wait int.I32)) e = apart 1 _ _ e refl
typed_atomic int.I32 word behind w h (named.Access (Wait int.I64)) e = apart 1 _ _ e refl
typed_atomic int.I64 word behind w h (named.Access (Wait int.I32)) e = apart 1 _ _ e refl
typed_atomic int.I64 word behind w h (named.Access (Wait int.I64)) e = apart 1 _ _ e refl
typed_atomic int.I32 word behind w h (named.Variable LocalGet) e = apart 1 _ _ e refl
typed_atomic int.I32 word behind w h (named.Variable op) e = apart 1 _ _ e refl
typed_atomic int.I64 word behind w h (named.Variable LocalGet) e = apart 1 _ _ e refl
typed_atomic int.I64 word behind w h (named.Variable op) e = apart 1 _ _ e refl
typed_atomic int.I32 word behind w h n e = apart 1 _ _ e refl
typed_atomic int.I64 word behind w h n e = apart 1 _ _ e refl

-- what is no atomic access, no constant, no numeric instruction and no other access is none with a type
pub typed_none : (of : IntType) (word : List ℕ) → ((rest : List ℕ) → word ≢ codes "atomic." ++ rest) → word ≢ codes "const" → ((op : NumericOp) → numeric_type op ≡ of → numeric_word op ≢ word) →
    ((a : Access) → IsPlainNamed of a word → ⊥) → (n : Named) → name_of n ≡ typed of word → ⊥
typed_none of word f c g h (named.Numeric op) e = let p = typed_parts (numeric_type op) of (numeric_word op) word e in g op p.0 p.1
typed_none of word f c g h named.I32Const e = c (sym (typed_parts int.I32 of _ _ e).1)
typed_none of word f c g h named.I64Const e = c (sym (typed_parts int.I64 of _ _ e).1)
typed_none of word f c g h (named.Access (Load op)) e = h (Load op) (typed_parts (load_type op) of (load_word op) word e)
typed_none of word f c g h (named.Access (Store form)) e = h (Store form) (typed_parts (form_type form) of (store_word form) word e)
typed_none of word f c g h (named.Access (AtomicLoad form)) e = f _ (sym (typed_parts (form_type form) of (codes "atomic." ++ atomic_load_word form) word e).1)
typed_none of word f c g h (named.Access (AtomicStore form)) e = f _ (sym (typed_parts (form_type form) of (codes "atomic." ++ store_word form) word e).1)
typed_none of word f c g h (named.Access (AtomicRmw op form)) e = f _ (sym (typed_parts (form_type form) of (codes "atomic." ++ rmw_form_word form (rmw_word op)) word e).1)
typed_none of word f c g h (named.Access (AtomicCompareExchange form)) e = f _ (sym (typed_parts (form_type form) of (codes "atomic." ++ rmw_form_word form (codes "cmpxchg")) word e).1)
typed_none int.I32 word f c g h (named.Access (Wait int.I32)) e = apart 1 _ _ e refl
typed_none int.I32 word f c g h (named.Access (Wait int.I64)) e = apart 1 _ _ e refl
typed_none int.I64 word f c g h (named.Access (Wait int.I32)) e = apart 1 _ _ e refl
typed_none int.I64 word f c g h (named.Access (Wait int.I64)) e = apart 1 _ _ e refl
typed_none int.I32 word f c g h (named.Variable LocalGet) e = apart 1 _ _ e refl
typed_none int.I32 word f c g h (named.Variable op) e = apart 1 _ _ e refl
typed_none int.I64 word f c g h (named.Variable LocalGet) e = apart 1 _ _ e refl
typed_none int.I64 word f c g h (named.Variable op) e = apart 1 _ _ e refl
typed_none int.I32 word f c g h n e = apart 1 _ _ e refl
typed_none int.I64 word f c g h n e = apart 1 _ _ e refl
