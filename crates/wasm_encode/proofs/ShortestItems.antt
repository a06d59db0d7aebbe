-- The items of a module are written so that they are spelled, in the fewest bytes.
use Rattle.wasm_ast.specs.declared.module.{Import.Import, GlobalVar.GlobalVar, Export.Export, Element.Element, Segment.Segment}
use Rattle.wasm_ast.specs.declared.module.ImportKind.TheVariants as imported
use Rattle.wasm_ast.specs.declared.module.ExportKind.TheVariants as exported
use Rattle.wasm_ast.specs.Shortest.{shortest_unsigned}
use Rattle.wasm_ast.specs.Canon.{canon_memory, canon_table, canon_global_type, canon_import_kind, canon_import, canon_global, canon_export_kind, canon_export, canon_element, canon_segment}
use Rattle.wasm_ast.specs.SpelledModule.{SpellsImportKind, SpellsImport, SpellsGlobal, SpellsExportKind, SpellsExport, SpellsElement, SpellsSegment}
use Rattle.wasm_encode.proofs.ShortestVectors.{IsShortest, u32_is, pair_shortest, triple_shortest, behind_shortest, vec_shortest, bytes_shortest, name_shortest}
use Rattle.wasm_encode.proofs.ShortestTypes.{memory_shortest, table_shortest, globaltype_shortest}
use Rattle.wasm_encode.proofs.ShortestBodies.{expr_shortest}

import_kind_shortest : IsShortest SpellsImportKind canon_import_kind
import_kind_shortest bytes (imported.Func of) a s = behind_shortest 0x00 bytes (shortest_unsigned of) a s (λ x b t. u32_is x of b t)
import_kind_shortest bytes (imported.Table limits) a s = behind_shortest 0x01 bytes (canon_table limits) a s (λ x b t. table_shortest x limits b t)
import_kind_shortest bytes (imported.Memory limits) a s = behind_shortest 0x02 bytes (canon_memory limits) a s (λ x b t. memory_shortest x limits b t)
import_kind_shortest bytes (imported.Global of mutable) a s = behind_shortest 0x03 bytes (canon_global_type of mutable) a s (λ x b t. globaltype_shortest x (of, mutable) b t)

pub import_shortest : IsShortest SpellsImport canon_import
import_shortest = triple_shortest (λ (i : Import). i.name) (λ (i : Import). i.kind) name_shortest import_kind_shortest (λ (i : Import). i.module) name_shortest

pub global_shortest : IsShortest SpellsGlobal canon_global
global_shortest = pair_shortest (λ (g : GlobalVar). (g.of, g.mutable)) (λ (g : GlobalVar). g.init) globaltype_shortest expr_shortest

export_kind_shortest : IsShortest SpellsExportKind canon_export_kind
export_kind_shortest bytes (exported.Func index) a s = behind_shortest 0x00 bytes (shortest_unsigned index) a s (λ x b t. u32_is x index b t)
export_kind_shortest bytes (exported.Table index) a s = behind_shortest 0x01 bytes (shortest_unsigned index) a s (λ x b t. u32_is x index b t)
export_kind_shortest bytes (exported.Memory index) a s = behind_shortest 0x02 bytes (shortest_unsigned index) a s (λ x b t. u32_is x index b t)
export_kind_shortest bytes (exported.Global index) a s = behind_shortest 0x03 bytes (shortest_unsigned index) a s (λ x b t. u32_is x index b t)

pub export_shortest : IsShortest SpellsExport canon_export
export_shortest = pair_shortest (λ (e : Export). e.name) (λ (e : Export). e.kind) name_shortest export_kind_shortest

pub element_shortest : IsShortest SpellsElement canon_element
element_shortest = triple_shortest (λ (e : Element). e.offset) (λ (e : Element). e.functions) expr_shortest (vec_shortest u32_is) (λ (e : Element). e.table) u32_is

pub segment_shortest : IsShortest SpellsSegment canon_segment
segment_shortest = triple_shortest (λ (s : Segment). s.offset) (λ (s : Segment). s.bytes) expr_shortest bytes_shortest (λ (s : Segment). s.memory) u32_is
