-- A module is written so that it is spelled, in the fewest bytes.
use Rattle.std.proofs.Common.{◌≡◌, ℕ, suc, ◌+◌, ◌<◌, ◌≤◌, ◌^◌, List, [], ◌∷◌, ◌++◌, length, Option, Some, None, MatchOption, refl, sym, ◌∙◌, ap, subst, arith, length-append, append_assoc}
use Rattle.std.proofs.lemmas.List.{append-nil}
use Rattle.std.specs.List.{All}
use Rattle.std.proofs.lemmas.List.Elements.{recursion_from_All}
use Rattle.wasm_ast.specs.declared.module.Module.{Module}
use Rattle.wasm_ast.specs.Shortest.{shortest_unsigned, canon_vec}
use Rattle.wasm_ast.specs.Canon.{canon_func_type, canon_import, canon_table, canon_memory, canon_global, canon_export, canon_element, canon_code, canon_segment, canon_list, canon_start, canon}
use Rattle.wasm_ast.specs.Spelling.{SpellsU32, SpellsVec, SpellsBytes}
use Rattle.wasm_ast.specs.SpelledModule.{Section, content_of, Holds, HoldsStart, preamble, SpellsModule}
use Rattle.wasm_reading.proofs.ModuleLaws.{Hold, parts_of, spelled_by}
use Rattle.wasm_encode.proofs.ShortestNumbers.{AreBytes, bytes_split, NoLonger, u32_order}
use Rattle.wasm_encode.proofs.ShortestVectors.{IsShortest, u32_is, vec_shortest, content_shortest, content_bytes}
use Rattle.wasm_encode.proofs.ShortestTypes.{functype_shortest, table_shortest, memory_shortest}
use Rattle.wasm_encode.proofs.ShortestItems.{import_shortest, global_shortest, export_shortest, element_shortest, segment_shortest}
use Rattle.wasm_encode.proofs.ShortestLocals.{code_shortest}
use Rattle.wasm_encode.proofs.ShortestSections.{sections_from, written_slot, written_from, slot_at, content_at, order_from, Fits, Covered, slots_shortest, content_spelled}

-- the content of the section of a list, if there is one
abbrev slot : {X : Type 0} → (X → List ℕ) → List X → Option (List ℕ)
slot written [] = None
slot written (x ∷ xs) = Some (canon_vec written (x ∷ xs))

abbrev start_slot : Option ℕ → Option (List ℕ)
start_slot None = None
start_slot (Some function) = Some (shortest_unsigned function)

abbrev slots : Module → List (Option (List ℕ))
slots m =
    slot canon_func_type m.types ∷ slot canon_import m.imports ∷ slot shortest_unsigned m.functions ∷ slot canon_table m.tables ∷ slot canon_memory m.memories ∷ slot canon_global m.globals
    ∷ slot canon_export m.exports ∷ start_slot m.start ∷ slot canon_element m.elements ∷ slot canon_code m.codes ∷ slot canon_segment m.segments ∷ []

-- ---- the bytes of the slots are those of the module

list_is : {X : Type 0} (written : X → List ℕ) (id : ℕ) (xs : List X) → written_slot id (slot written xs) ≡ canon_list written id xs
list_is written id [] = refl
list_is written id (x ∷ xs) = refl

start_is : (x : Option ℕ) → written_slot 8 (start_slot x) ≡ canon_start x
start_is None = refl
start_is (Some function) = refl

-- the same bytes, grouped from the front
abbrev behind : List ℕ → ℕ → List (Option (List ℕ)) → List ℕ
behind front next [] = front
behind front next (slot ∷ slots) = behind (front ++ written_slot next slot) (suc next) slots

behind_is : (slots : List (Option (List ℕ))) (front : List ℕ) (next : ℕ) → behind front next slots ≡ front ++ written_from next slots
behind_is [] front next = sym (append-nil front)
behind_is (slot ∷ slots) front next = behind_is slots (front ++ written_slot next slot) (suc next) ∙ append_assoc front (written_slot next slot) (written_from (suc next) slots)

slots_are : (m : Module) → behind preamble 1 (slots m) ≡ canon m
slots_are m = simp (list_is, start_is)

canon_is : (m : Module) → canon m ≡ preamble ++ written_from 1 (slots m)
canon_is m = sym (slots_are m) ∙ behind_is (slots m) preamble 1

-- ---- what each slot holds

-- a content that is no longer, where that with its size is spelled
content_fits : (content v : List ℕ) → (front : List ℕ) × AreBytes front × SpellsBytes front content → length v ≤ length content → Fits (Some v) (Some content)
content_fits content v (front, a, s) l =
    let b = bytes_split s.front s.back (subst AreBytes s.parts a) in
    let order = u32_order s.front (length content) (length v) b.0 s.first l in
    ((content_shortest front content v a s l).spells, omega (arith, l, order, length-append (shortest_unsigned (length v)) v, length-append (shortest_unsigned (length content)) content))

-- of a list against what was spelled at its number
held_of : {X : Type 0} {S : List ℕ → X → Type 0} {written : X → List ℕ} → IsShortest S written → (o : Option (List ℕ)) (xs : List X) →
    ((content : List ℕ) → o ≡ Some content → (front : List ℕ) × AreBytes front × SpellsBytes front content) → MatchOption o (xs ≡ []) (λ content. SpellsVec S content xs) →
    Fits (slot written xs) o × MatchOption (slot written xs) (xs ≡ []) (λ content. SpellsVec S content xs)
held_of e o [] a h = (tt, refl)
held_of e None (x ∷ xs) a h = absurd cc
held_of {X} {S} {written} e (Some content) (x ∷ xs) a h =
    let (front, b, s) = a content refl in
    let p = vec_shortest e content (x ∷ xs) (content_bytes front content b s) h in (content_fits content _ (front, b, s) p.shorter, p.spells)

start_of : (o : Option (List ℕ)) (ss : List Section) (x : Option ℕ) → o ≡ content_of 8 ss → ((content : List ℕ) → o ≡ Some content → (front : List ℕ) × AreBytes front × SpellsBytes front content) →
    HoldsStart ss x → Fits (start_slot x) o × ((ts : List Section) → content_of 8 ts ≡ start_slot x → HoldsStart ts x)
start_of o ss None e a h = (tt, λ ts k. k)
start_of None ss (Some function) e a h = absurd (subst (λ o. MatchOption o ⊥ (λ content. SpellsU32 content function)) (sym e) h)
start_of (Some content) ss (Some function) e a h =
    let (front, b, s) = a content refl in
    let p = u32_is content function (content_bytes front content b s) (subst (λ o. MatchOption o ⊥ (λ content. SpellsU32 content function)) (sym e) h) in
    (content_fits content _ (front, b, s) p.shorter, λ ts k. subst (λ o. MatchOption o ⊥ (λ content. SpellsU32 content function)) (sym k) p.spells)

-- ---- the module

module _ (bytes : List ℕ) (m : Module) (a : AreBytes bytes) (h : SpellsModule bytes m) where
  body_bytes : AreBytes h.body
  body_bytes = (bytes_split preamble h.body (subst AreBytes h.begins a)).1

  spelled_at : (id : ℕ) (content : List ℕ) → content_of id h.sections ≡ Some content → (front : List ℕ) × AreBytes front × SpellsBytes front content
  spelled_at id content e = content_spelled h.sections h.body id content body_bytes h.parts e

  -- the list of a number, so many behind the first, in what was spelled and in what is written
  held : {X : Type 0} {S : List ℕ → X → Type 0} {written : X → List ℕ} → IsShortest S written → (i : ℕ) (xs : List X) → slot_at (slots m) i ≡ slot written xs → Holds S (1 + i) h.sections xs →
      Fits (slot written xs) (content_of (1 + i) h.sections) × Holds S (1 + i) (sections_from 1 (slots m)) xs
  held {X} {S} {written} e i xs k s =
      let p = held_of e (content_of (1 + i) h.sections) xs (spelled_at (1 + i)) s in
      (p.0, subst (λ o. MatchOption o (xs ≡ []) (λ content. SpellsVec S content xs)) (sym (content_at (slots m) 1 i (1 + i) refl ∙ k)) p.1)

  pub module_shortest : NoLonger (λ w. SpellsModule w m) bytes (canon m)
  module_shortest =
      let types = held functype_shortest 0 m.types refl h.types in
      let imports = held import_shortest 1 m.imports refl h.imports in
      let functions = held u32_is 2 m.functions refl h.functions in
      let tables = held table_shortest 3 m.tables refl h.tables in
      let memories = held memory_shortest 4 m.memories refl h.memories in
      let globals = held global_shortest 5 m.globals refl h.globals in
      let exports = held export_shortest 6 m.exports refl h.exports in
      let start = start_of (content_of 8 h.sections) h.sections m.start refl (spelled_at 8) h.start in
      let elements = held element_shortest 8 m.elements refl h.elements in
      let codes = held code_shortest 9 m.codes refl h.codes in
      let segments = held segment_shortest 10 m.segments refl h.segments in
      let written : List Section = sections_from 1 (slots m) in
      let covered : Covered 1 h.sections (slots m) = (types.0, (imports.0, (functions.0, (tables.0, (memories.0, (globals.0, (exports.0, (start.0, (elements.0, (codes.0, (segments.0, tt))))))))))) in
      let begun = start.1 written (content_at (slots m) 1 7 8 (omega arith)) in
      let hold : Hold written (parts_of m) = (types.1, (imports.1, (functions.1, (tables.1, (memories.1, (globals.1, (exports.1, (begun, (elements.1, (codes.1, segments.1)))))))))) in
      let body = slots_shortest h.sections (slots m) 1 h.body body_bytes h.parts covered in
      record {
        spells = spelled_by (canon m) (written_from 1 (slots m)) written m (canon_is m) body.spells (order_from (slots m) 1 (omega arith) (omega arith)) hold h.counts;
        shorter = omega (arith, body.shorter, ap length h.begins, ap length (canon_is m), length-append preamble h.body, length-append preamble (written_from 1 (slots m)));
      }

-- of bytes, each below 2 to the 8
pub module_written : (bytes : List ℕ) (m : Module) → All (λ b. b < 2 ^ 8) bytes → SpellsModule bytes m → NoLonger (λ w. SpellsModule w m) bytes (canon m)
module_written bytes m a h = module_shortest bytes m (recursion_from_All (λ b. b < 2 ^ 8) bytes a) h
