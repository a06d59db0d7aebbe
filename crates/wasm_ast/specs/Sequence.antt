-- A sequence of instructions with its blocks inside it: WebAssembly Core 1.0, section 2.4.6.
use Rattle.std.proofs.Common.{◌≡◌, ap, Option}
use Rattle.std.specs.Coded.{Coded, coded_option}
use base.Stored.{Gv, gnil, gnum, gcons}
use Rattle.wasm_ast.specs.declared.instr.{Instr.Instr, BlockKind.BlockKind}
use Rattle.wasm_ast.specs.declared.types.ValType.{ValType}
use Rattle.wasm_ast.specs.contracts.instr.Instr as instr
use Rattle.wasm_ast.specs.contracts.instr.BlockKind as blockkind
use Rattle.wasm_ast.specs.contracts.types.ValType as valtype

-- Nothing; or an instruction that has no inner list, and what comes behind it; or a block, a loop or
-- an if with the type of what it leaves, its inner sequence or its two arms, and what comes behind it.
pub data Sequence : Type 0 where
  Empty : Sequence
  Plain : (i : Instr) (rest : Sequence) → Sequence
  Block : (kind : BlockKind) (of : Option ValType) (body rest : Sequence) → Sequence
  If : (of : Option ValType) (then otherwise rest : Sequence) → Sequence

-- How the logic stores a sequence.
abbrev head : Gv → Gv
head gnil = gnil
head (gnum n) = gnil
head (gcons a b) = a

abbrev tail : Gv → Gv
tail gnil = gnil
tail (gnum n) = gnil
tail (gcons a b) = b

abbrev of_code : Option ValType → Gv
of_code of = (coded_option valtype.the_row.coded).code of

abbrev kind_code : BlockKind → Gv
kind_code k = blockkind.the_row.coded.code k

abbrev of_inj : (x y : Option ValType) → of_code x ≡ of_code y → x ≡ y
of_inj x y p = (coded_option valtype.the_row.coded).inj x y p

abbrev stored : Sequence → Gv
stored Empty = gcons (gnum 0) gnil
stored (Plain i r) = gcons (gnum 1) (gcons (instr.the_row.coded.code i) (stored r))
stored (Block k t a r) = gcons (gnum 2) (gcons (kind_code k) (gcons (of_code t) (gcons (stored a) (stored r))))
stored (If t a b r) = gcons (gnum 3) (gcons (of_code t) (gcons (stored a) (gcons (stored b) (stored r))))

pub stored_inj : (x y : Sequence) → stored x ≡ stored y → x ≡ y
stored_inj Empty Empty p = λ i. Empty
stored_inj (Plain a r) (Plain b s) p = λ i. Plain (instr.the_row.coded.inj a b (ap (λ g. head (tail g)) p) i) (stored_inj r s (ap (λ g. tail (tail g)) p) i)
stored_inj (Block k t a r) (Block l u b s) p = λ i. Block (blockkind.the_row.coded.inj k l (ap (λ g. head (tail g)) p) i) (of_inj t u (ap (λ g. head (tail (tail g))) p) i) (stored_inj a b (ap (λ g. head (tail (tail (tail g)))) p) i) (stored_inj r s (ap (λ g. tail (tail (tail (tail g)))) p) i)
stored_inj (If t a c r) (If u b d s) p = λ i. If (of_inj t u (ap (λ g. head (tail g)) p) i) (stored_inj a b (ap (λ g. head (tail (tail g))) p) i) (stored_inj c d (ap (λ g. head (tail (tail (tail g)))) p) i) (stored_inj r s (ap (λ g. tail (tail (tail (tail g)))) p) i)
stored_inj _ _ p = cc

abbrev pub sequence_code : Coded Sequence
sequence_code = record { code = stored; inj = stored_inj }
