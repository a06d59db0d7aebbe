-- Each instruction is found by its name, and its row is that of the encoding.
use Rattle.std.proofs.Common.{◌≡◌, ◌≢◌, ℕ, Bool, true, false, cond, List, [], ◌∷◌, Option, Some, None, refl, sym, ◌∙◌, ap, subst}
use Rattle.std.specs.Prelude.{MatchOption}
use Rattle.std.specs.List.{find}
use Rattle.std.specs.Str.{bytes_eq}
use Rattle.std.proofs.lemmas.Slice.Eq.{bytes_eq-Decides}
use Rattle.wasm_ast.specs.declared.types.IntType.TheVariants as int
use Rattle.wasm_ast.specs.declared.instr.NumericOp.{NumericOp}
use Rattle.wasm_ast.specs.declared.instr.NumericOp.TheVariants.{Eqz, Compare, Unary, Binary, Convert}
use Rattle.wasm_ast.specs.declared.instr.CompareOp.TheVariants.{Eq}
use Rattle.wasm_ast.specs.declared.instr.UnaryOp.TheVariants.{Clz}
use Rattle.wasm_ast.specs.declared.instr.BinaryOp.TheVariants as binary
use Rattle.wasm_ast.specs.declared.instr.ConvertOp.TheVariants.{Wrap}
use Rattle.wasm_ast.specs.declared.instr.VariableOp.TheVariants.{LocalGet}
use Rattle.wasm_ast.specs.declared.instr.LoadOp.TheVariants as load
use Rattle.wasm_ast.specs.declared.instr.RmwOp.TheVariants as rmw
use Rattle.wasm_ast.specs.declared.instr.Form.TheVariants as form
use Rattle.wasm_ast.specs.declared.instr.Access.{Access}
use Rattle.wasm_ast.specs.declared.instr.Access.TheVariants.{Load, Store, Notify, Wait, AtomicLoad, AtomicStore, AtomicRmw, AtomicCompareExchange}
use Rattle.wasm_ast.specs.Immediates.{Value}
use Rattle.wasm_ast.specs.declared.opcode.Opcode.TheVariants as op
use Rattle.wasm_ast.specs.OpcodeTables.{control}
use Rattle.wat_names.specs.declared.named.Named.{Named}
use Rattle.wat_names.specs.declared.named.Named.TheVariants as named
use Rattle.wat_names.specs.Rows.{row_of, name_of, MakesEncoding, BeginsRound, opcode_round}
use Rattle.wat_names.specs.Named.{named_by, instructions}

numeric_found : (op : NumericOp) → named_by (name_of (named.Numeric op)) ≡ Some (named.Numeric op)
unfolding named_by
numeric_found (Eqz int.I32) = refl
numeric_found (Eqz int.I64) = refl
numeric_found (Compare int.I32 Eq) = refl
numeric_found (Compare int.I32 op) = refl
numeric_found (Compare int.I64 Eq) = refl
numeric_found (Compare int.I64 op) = refl
numeric_found (Unary int.I32 Clz) = refl
numeric_found (Unary int.I32 op) = refl
numeric_found (Unary int.I64 Clz) = refl
numeric_found (Unary int.I64 op) = refl
numeric_found (Binary int.I32 binary.Add) = refl
numeric_found (Binary int.I32 op) = refl
numeric_found (Binary int.I64 binary.Add) = refl
numeric_found (Binary int.I64 op) = refl
numeric_found (Convert Wrap) = refl
numeric_found (Convert op) = refl

access_found : (op : Access) → named_by (name_of (named.Access op)) ≡ Some (named.Access op)
unfolding named_by
access_found (Load load.I32) = refl
access_found (Load op) = refl
access_found (Store form.I32) = refl
access_found (Store op) = refl
access_found Notify = refl
access_found (Wait int.I32) = refl
access_found (Wait int.I64) = refl
access_found (AtomicLoad form.I32) = refl
access_found (AtomicLoad of) = refl
access_found (AtomicStore form.I32) = refl
access_found (AtomicStore of) = refl
access_found (AtomicRmw rmw.Add form.I32) = refl
access_found (AtomicRmw rmw.Sub form.I32) = refl
access_found (AtomicRmw rmw.And form.I32) = refl
access_found (AtomicRmw rmw.Or form.I32) = refl
access_found (AtomicRmw rmw.Xor form.I32) = refl
access_found (AtomicRmw rmw.Exchange form.I32) = refl
access_found (AtomicRmw op of) = refl
access_found (AtomicCompareExchange form.I32) = refl
access_found (AtomicCompareExchange of) = refl

pub found : (n : Named) → named_by (name_of n) ≡ Some n
unfolding named_by
found (named.Numeric op) = numeric_found op
found (named.Access op) = access_found op
found (named.Variable LocalGet) = refl
found (named.Variable op) = refl
found n = refl

-- ---- what is found passes the test

find_passes : {A : Type 0} (p : A → Bool) (xs : List A) (x : A) → find p xs ≡ Some x → p x ≡ true
find_passes p [] x e = cc
find_passes p (y ∷ ys) x e = by (p y) refl (find_passes p ys x) e
  where
    by : (b : Bool) → p y ≡ b → (find p ys ≡ Some x → p x ≡ true) → cond b (Some y) (find p ys) ≡ Some x → p x ≡ true
    by true q g h = let same : y ≡ x = cc in ap p (sym same) ∙ q
    by false q g h = g h

pub bears : (word : List ℕ) (n : Named) → named_by word ≡ Some n → name_of n ≡ word
unfolding named_by
bears word n e = (bytes_eq-Decides (name_of n) word).0 (find_passes (λ m. bytes_eq (name_of m) word) instructions n e)

-- a word that is no instruction's name
pub not_found : (word : List ℕ) → ((n : Named) → name_of n ≢ word) → named_by word ≡ None
not_found word h = by (named_by word) refl
  where
    by : (o : Option Named) → named_by word ≡ o → named_by word ≡ None
    by None e = e
    by (Some n) e = absurd (h n (bears word n e))

pub is_named_by : (word : List ℕ) (r : Option Named) → MatchOption r ((n : Named) → name_of n ≢ word) (λ n. name_of n ≡ word) → r ≡ named_by word
is_named_by word None h = sym (not_found word h)
is_named_by word (Some n) h = sym (found n) ∙ ap named_by h

-- ---- the rows

pub makes : (n : Named) (v : Value (row_of n).immediates) → MakesEncoding n v
makes named.Block v e = cc
makes named.Loop v e = cc
makes named.If v e = cc
makes named.Else v e = cc
makes named.End v e = cc
makes n v e = refl

pub begins : (n : Named) → BeginsRound n
begins named.Block o e = let q : op.Block ≡ o = cc in (0x02, ap control (sym q), refl)
begins named.Loop o e = let q : op.Loop ≡ o = cc in (0x03, ap control (sym q), refl)
begins named.If o e = let q : op.If ≡ o = cc in (0x04, ap control (sym q), refl)
begins named.Else o e = let q : op.Else ≡ o = cc in (0x05, ap control (sym q), refl)
begins named.End o e = let q : op.End ≡ o = cc in (0x0B, ap control (sym q), refl)
begins n o e = cc
