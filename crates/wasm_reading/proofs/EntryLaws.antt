-- Reading the parts of a module takes just what is spelled so.
use Rattle.std.proofs.Common.{◌≡◌, ℕ, ◌+◌, ◌<◌, ◌^◌, nat_lt, true, cond, List, [], ◌∷◌, ◌++◌, Some, None, refl, sym, ◌∙◌, ap, arith, ltb-true, lt-ltb}
use Rattle.std.proofs.lemmas.Option.{same_Some}
use Rattle.std.specs.Option.{option_and_then}
use Rattle.wasm_ast.specs.declared.locals.LocalGroup.{LocalGroup}
use Rattle.wasm_ast.specs.declared.module.{ImportKind.ImportKind, ExportKind.ExportKind}
use Rattle.wasm_ast.specs.declared.module.ImportKind.TheVariants as imported
use Rattle.wasm_ast.specs.declared.module.ExportKind.TheVariants as exported
use Rattle.wasm_ast.specs.Locals.{added, total}
use Rattle.wasm_ast.specs.Spelling.{Joined}
use Rattle.wasm_ast.specs.SpelledModule.{SpellsImportKind, SpellsImport, SpellsGlobal, SpellsExportKind, SpellsExport, SpellsElement, SpellsSegment, SpellsGroup, SpellsLocals, SpellsCode, gathered}
use Rattle.wasm_ast.specs.SpelledInstr.{SpellsExpr}
use Rattle.wasm_reading.specs.ReadValues.{IsExact}
use Rattle.wasm_reading.specs.ReadModule.{import_kind_at, import_at, global_at, export_kind_at, export_at, element_at, segment_at, group_at, with_group, locals_at, code_at}
use Rattle.wasm_reading.proofs.ValueLaws.{chose_some, so_some, mapped_exact, pair_exact, u32_exact, vec_exact, bytes_exact, name_exact, sized_exact, added_all, counted_exact, no_tag, tag_takes, tagged_takes, tag_again}
use Rattle.wasm_reading.proofs.TypeLaws.{valtype_exact, memory_exact, table_exact, globaltype_exact}
use Rattle.wasm_reading.proofs.ExprAgain.{expr_exact}

import_kind_again : (front rest : List ℕ) (k : ImportKind) → SpellsImportKind front k → import_kind_at (front ++ rest) ≡ Some (k, rest)
import_kind_again front rest (imported.Func of) h = tag_again import_kind_at 0x00 (λ of. imported.Func of) u32_exact (λ bytes. refl) front rest of h
import_kind_again front rest (imported.Table l) h = tag_again import_kind_at 0x01 (λ l. imported.Table l) table_exact (λ bytes. refl) front rest l h
import_kind_again front rest (imported.Memory l) h = tag_again import_kind_at 0x02 (λ l. imported.Memory l) memory_exact (λ bytes. refl) front rest l h
import_kind_again front rest (imported.Global of mutable) h = tag_again import_kind_at 0x03 (λ g. imported.Global g.0 g.1) globaltype_exact (λ bytes. refl) front rest (of, mutable) h

import_kind_exact : IsExact SpellsImportKind import_kind_at
import_kind_exact = record {
  takes = tagged_takes
      (tag_takes 0x00 (λ of. imported.Func of) u32_exact (λ front x s. (refl, s))
      (tag_takes 0x01 (λ l. imported.Table l) table_exact (λ front x s. (refl, s))
      (tag_takes 0x02 (λ l. imported.Memory l) memory_exact (λ front x s. (refl, s))
      (tag_takes 0x03 (λ g. imported.Global g.0 g.1) globaltype_exact (λ front x s. (refl, s)) (no_tag SpellsImportKind)))));
  again = import_kind_again;
}

pub import_exact : IsExact SpellsImport import_at
import_exact = mapped_exact SpellsImport (λ i. record { «module» = i.0; name = i.1.0; kind = i.1.1 }) (pair_exact name_exact (pair_exact name_exact import_kind_exact))
    (λ bytes p s. s) (λ bytes i s. ((i.module, (i.name, i.kind)), s, refl))

pub global_exact : IsExact SpellsGlobal global_at
global_exact = mapped_exact SpellsGlobal (λ g. record { of = g.0.0; mutable = g.0.1; init = g.1 }) (pair_exact globaltype_exact expr_exact)
    (λ bytes p s. s) (λ bytes g s. (((g.of, g.mutable), g.init), s, refl))

export_kind_again : (front rest : List ℕ) (k : ExportKind) → SpellsExportKind front k → export_kind_at (front ++ rest) ≡ Some (k, rest)
export_kind_again front rest (exported.Func i) h = tag_again export_kind_at 0x00 (λ i. exported.Func i) u32_exact (λ bytes. refl) front rest i h
export_kind_again front rest (exported.Table i) h = tag_again export_kind_at 0x01 (λ i. exported.Table i) u32_exact (λ bytes. refl) front rest i h
export_kind_again front rest (exported.Memory i) h = tag_again export_kind_at 0x02 (λ i. exported.Memory i) u32_exact (λ bytes. refl) front rest i h
export_kind_again front rest (exported.Global i) h = tag_again export_kind_at 0x03 (λ i. exported.Global i) u32_exact (λ bytes. refl) front rest i h

export_kind_exact : IsExact SpellsExportKind export_kind_at
export_kind_exact = record {
  takes = tagged_takes
      (tag_takes 0x00 (λ i. exported.Func i) u32_exact (λ front x s. (refl, s))
      (tag_takes 0x01 (λ i. exported.Table i) u32_exact (λ front x s. (refl, s))
      (tag_takes 0x02 (λ i. exported.Memory i) u32_exact (λ front x s. (refl, s)) (tag_takes 0x03 (λ i. exported.Global i) u32_exact (λ front x s. (refl, s)) (no_tag SpellsExportKind)))));
  again = export_kind_again;
}

pub export_exact : IsExact SpellsExport export_at
export_exact = mapped_exact SpellsExport (λ e. record { name = e.0; kind = e.1 }) (pair_exact name_exact export_kind_exact)
    (λ bytes p s. s) (λ bytes e s. ((e.name, e.kind), s, refl))

pub element_exact : IsExact SpellsElement element_at
element_exact = mapped_exact SpellsElement (λ e. record { table = e.0; offset = e.1.0; functions = e.1.1 }) (pair_exact u32_exact (pair_exact expr_exact (vec_exact u32_exact)))
    (λ bytes p s. s) (λ bytes e s. ((e.table, (e.offset, e.functions)), s, refl))

pub segment_exact : IsExact SpellsSegment segment_at
segment_exact = mapped_exact SpellsSegment (λ s. record { memory = s.0; offset = s.1.0; bytes = s.1.1 }) (pair_exact u32_exact (pair_exact expr_exact bytes_exact))
    (λ bytes p s. s) (λ bytes e s. ((e.memory, (e.offset, e.bytes)), s, refl))

group_exact : IsExact SpellsGroup group_at
group_exact = mapped_exact SpellsGroup (λ g. record { count = g.0; of = g.1 }) (pair_exact u32_exact valtype_exact)
    (λ bytes p s. s) (λ bytes g s. ((g.count, g.of), s, refl))

-- groups behind so many locals in groups, which they leave few
groups_added : (gs : List LocalGroup) (count : ℕ) (groups : List LocalGroup) → count + total gs < 2 ^ 32 → added_all with_group (count, groups) gs ≡ Some (count + total gs, gathered groups gs)
groups_added [] count groups l = ap (λ c. Some (c, groups)) {y = count + 0} (omega arith)
groups_added (g ∷ gs) count groups l =
    let t : nat_lt (count + g.count) (2 ^ 32) ≡ true = lt-ltb (count + g.count) (2 ^ 32) (omega arith) in
    ap (λ b. option_and_then (λ ls. added_all with_group ls gs) (cond b (Some (count + g.count, added groups g)) None)) t
    ∙ groups_added gs (count + g.count) (added groups g) (omega arith)
    ∙ ap (λ c. Some (c, gathered (added groups g) gs)) {y = count + (g.count + total gs)} (omega arith)

few_groups : (gs : List LocalGroup) (ls out : ℕ × List LocalGroup) → ls.0 < 2 ^ 32 → added_all with_group ls gs ≡ Some out → ls.0 + total gs < 2 ^ 32
few_groups [] ls out l h = omega arith
few_groups (g ∷ gs) ls out l h =
    let u = so_some (λ t. added_all with_group t gs) (with_group ls g) out h in
    let p = chose_some (nat_lt (ls.0 + g.count) (2 ^ 32)) (Some (ls.0 + g.count, added ls.1 g)) u.0 u.1 in
    let count : ls.0 + g.count ≡ u.0.0 = ap (λ z. z.0) (same_Some _ _ p.1) in
    omega (arith, count, few_groups gs u.0 out (omega (arith, count, ltb-true (ls.0 + g.count) (2 ^ 32) p.0)) u.2)

pub locals_exact : IsExact SpellsLocals locals_at
locals_exact = mapped_exact SpellsLocals (λ ls. ls.1) (counted_exact with_group group_exact (0, []))
    (λ bytes ls v.
    let few = few_groups v.0 (0, []) ls (omega arith) v.2 in
    let fits : total v.0 < 2 ^ 32 = omega (arith, few) in
    (v.0, v.1, fits, ap (λ z. z.1) (same_Some _ _ (sym v.2 ∙ groups_added v.0 0 [] few))))
    (λ bytes locals s. ((0 + total s.0, gathered [] s.0), (s.0, s.1, groups_added s.0 0 [] (omega (arith, s.2))), sym s.3))

pub code_exact : IsExact SpellsCode code_at
code_exact = sized_exact (mapped_exact (λ bytes c. Joined (λ a. SpellsLocals a c.locals) (λ b. SpellsExpr b c.body) bytes) (λ c. record { locals = c.0; body = c.1 }) (pair_exact locals_exact expr_exact)
    (λ bytes p s. s) (λ bytes c s. ((c.locals, c.body), s, refl)))
