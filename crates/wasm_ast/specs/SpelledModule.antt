-- Modules in the binary format: WebAssembly Core 1.0, section 5.5.
use Rattle.std.specs.Prelude.{◌≡◌, ◌⊎◌, ℕ, ◌+◌, ◌<◌, ◌≤◌, ◌^◌, ◌==◌, if◌then◌else◌, List, [], ◌∷◌, ◌++◌, length, Option, Some, None, MatchOption}
use Rattle.wasm_ast.specs.declared.locals.LocalGroup.{LocalGroup}
use Rattle.wasm_ast.specs.declared.module.{ImportKind.ImportKind, Import.Import, GlobalVar.GlobalVar, ExportKind.ExportKind, Export.Export, Element.Element, Segment.Segment, Code.Code, Module.Module}
use Rattle.wasm_ast.specs.declared.module.ImportKind.TheVariants as imported
use Rattle.wasm_ast.specs.declared.module.ExportKind.TheVariants as exported
use Rattle.wasm_ast.specs.Locals.{total, added}
use Rattle.wasm_ast.specs.Spelling.{Joined, Behind, SpellsU32, SpellsEach, SpellsVec, SpellsBytes, SpellsName, Sized}
use Rattle.wasm_ast.specs.SpelledTypes.{SpellsValType, SpellsFuncType, SpellsMemory, SpellsTable, SpellsGlobalType}
use Rattle.wasm_ast.specs.SpelledInstr.{SpellsExpr}

-- import (5.5.5)
abbrev pub SpellsImportKind : List ℕ → ImportKind → Type 0
SpellsImportKind bytes (imported.Func of) = Behind 0x00 (λ a. SpellsU32 a of) bytes
SpellsImportKind bytes (imported.Table limits) = Behind 0x01 (λ a. SpellsTable a limits) bytes
SpellsImportKind bytes (imported.Memory limits) = Behind 0x02 (λ a. SpellsMemory a limits) bytes
SpellsImportKind bytes (imported.Global of mutable) = Behind 0x03 (λ a. SpellsGlobalType a of mutable) bytes

abbrev pub SpellsImport : List ℕ → Import → Type 0
SpellsImport bytes i = Joined (λ a. SpellsName a i.module) (Joined (λ b. SpellsName b i.name) (λ c. SpellsImportKind c i.kind)) bytes

-- global (5.5.9)
abbrev pub SpellsGlobal : List ℕ → GlobalVar → Type 0
SpellsGlobal bytes g = Joined (λ a. SpellsGlobalType a g.of g.mutable) (λ b. SpellsExpr b g.init) bytes

-- export (5.5.10)
abbrev pub SpellsExportKind : List ℕ → ExportKind → Type 0
SpellsExportKind bytes (exported.Func index) = Behind 0x00 (λ a. SpellsU32 a index) bytes
SpellsExportKind bytes (exported.Table index) = Behind 0x01 (λ a. SpellsU32 a index) bytes
SpellsExportKind bytes (exported.Memory index) = Behind 0x02 (λ a. SpellsU32 a index) bytes
SpellsExportKind bytes (exported.Global index) = Behind 0x03 (λ a. SpellsU32 a index) bytes

abbrev pub SpellsExport : List ℕ → Export → Type 0
SpellsExport bytes e = Joined (λ a. SpellsName a e.name) (λ b. SpellsExportKind b e.kind) bytes

-- elem (5.5.12)
abbrev pub SpellsElement : List ℕ → Element → Type 0
SpellsElement bytes e = Joined (λ a. SpellsU32 a e.table) (Joined (λ b. SpellsExpr b e.offset) (λ c. SpellsVec SpellsU32 c e.functions)) bytes

-- data (5.5.14)
abbrev pub SpellsSegment : List ℕ → Segment → Type 0
SpellsSegment bytes s = Joined (λ a. SpellsU32 a s.memory) (Joined (λ b. SpellsExpr b s.offset) (λ c. SpellsBytes c s.bytes)) bytes

-- locals (5.5.13): how many of one type
abbrev pub SpellsGroup : List ℕ → LocalGroup → Type 0
SpellsGroup bytes g = Joined (λ a. SpellsU32 a g.count) (λ b. SpellsValType b g.of) bytes

-- the groups added to some, one after another: an empty one leaves no trace, and neighbours of one
-- type are one
abbrev pub gathered : List LocalGroup → List LocalGroup → List LocalGroup
gathered groups [] = groups
gathered groups (g ∷ gs) = gathered (added groups g) gs

-- the locals of a function, fewer than 2 to the 32
abbrev pub SpellsLocals : List ℕ → List LocalGroup → Type 0
SpellsLocals bytes locals = (groups : List LocalGroup) × SpellsVec SpellsGroup bytes groups × (total groups < 2 ^ 32) × (locals ≡ gathered [] groups)

-- code (5.5.13)
abbrev pub SpellsCode : List ℕ → Code → Type 0
SpellsCode bytes c = Sized (Joined (λ a. SpellsLocals a c.locals) (λ b. SpellsExpr b c.body)) bytes

-- a section's number and content
pub record Section : Type 0 where
  pub id : ℕ
  pub content : List ℕ

-- section (5.5.2)
abbrev pub SpellsSection : List ℕ → Section → Type 0
SpellsSection bytes s = Behind s.id (λ a. SpellsBytes a s.content) bytes

-- custom (5.5.3): a name, and anything
abbrev pub IsCustom : List ℕ → Type 0
IsCustom content = (name : List ℕ) × Joined (λ a. SpellsName a name) (λ b. Unit {0}) content

-- Sections of the numbers from that one to 11 come at most once and in the order of their numbers;
-- custom sections, of number 0, may stand anywhere (5.5.15).
abbrev pub InOrder : ℕ → List Section → Type 0
InOrder next [] = Unit {0}
InOrder next (s ∷ ss) =
    ((s.id ≡ 0) × IsCustom s.content × InOrder next ss)
    ⊎ ((0 < s.id) × (next ≤ s.id) × (s.id ≤ 11) × InOrder (s.id + 1) ss)

-- the content of the section of that number
abbrev pub content_of : ℕ → List Section → Option (List ℕ)
content_of id [] = None
content_of id (s ∷ ss) = if s.id == id then Some s.content else content_of id ss

-- what a section holds, nothing where there is none
abbrev pub Holds : {X : Type 0} → (List ℕ → X → Type 0) → ℕ → List Section → List X → Type 0
Holds S id sections xs = MatchOption (content_of id sections) (xs ≡ []) (λ content. SpellsVec S content xs)

-- start (5.5.11)
abbrev pub HoldsStart : List Section → Option ℕ → Type 0
HoldsStart sections None = content_of 8 sections ≡ None
HoldsStart sections (Some function) = MatchOption (content_of 8 sections) ⊥ (λ content. SpellsU32 content function)

-- magic and version (5.5.15)
abbrev pub preamble : List ℕ
preamble = 0x00 ∷ 0x61 ∷ 0x73 ∷ 0x6D ∷ 0x01 ∷ 0x00 ∷ 0x00 ∷ 0x00 ∷ []

-- module (5.5.15): the sections, each by its number from 5.5.4 on
pub record SpellsModule (bytes : List ℕ) (m : Module) : Type 0 where
  pub sections : List Section
  pub body : List ℕ
  pub begins : bytes ≡ preamble ++ body
  pub parts : SpellsEach SpellsSection body sections
  pub order : InOrder 1 sections
  pub types : Holds SpellsFuncType 1 sections m.types
  pub imports : Holds SpellsImport 2 sections m.imports
  pub functions : Holds SpellsU32 3 sections m.functions
  pub tables : Holds SpellsTable 4 sections m.tables
  pub memories : Holds SpellsMemory 5 sections m.memories
  pub globals : Holds SpellsGlobal 6 sections m.globals
  pub exports : Holds SpellsExport 7 sections m.exports
  pub start : HoldsStart sections m.start
  pub elements : Holds SpellsElement 9 sections m.elements
  pub codes : Holds SpellsCode 10 sections m.codes
  pub segments : Holds SpellsSegment 11 sections m.segments
  pub counts : length m.functions ≡ length m.codes
