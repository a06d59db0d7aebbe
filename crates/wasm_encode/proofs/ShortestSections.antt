-- Sections, each at its number, are written so that they are spelled, in the fewest bytes.
use Rattle.std.proofs.Common.{◌≡◌, inl, inr, ℕ, zero, suc, ◌+◌, ◌<◌, ◌≤◌, ◌==◌, cond, List, [], ◌∷◌, ◌++◌, length, Option, Some, None, MatchOption, refl, ◌∙◌, ap, subst, arith, length-append, eq-eqb, ne_eqb}
use Rattle.std.proofs.lemmas.Bool.{cases_eq}
use Rattle.byte_cursor.proofs.Laws.{chosen}
use Rattle.wasm_ast.specs.Canon.{canon_bytes, canon_section}
use Rattle.wasm_ast.specs.Spelling.{SpellsEach, SpellsBytes}
use Rattle.wasm_ast.specs.SpelledModule.{Section, SpellsSection, InOrder, content_of}
use Rattle.std.proofs.lemmas.Option.{same_Some}
use Rattle.wasm_encode.proofs.ShortestNumbers.{AreBytes, bytes_split, NoLonger}
use Rattle.wasm_encode.proofs.ShortestVectors.{content_shortest}

-- the sections of the contents at the numbers from one on, none where there is none
abbrev pub sections_from : ℕ → List (Option (List ℕ)) → List Section
sections_from next [] = []
sections_from next (None ∷ slots) = sections_from (suc next) slots
sections_from next (Some content ∷ slots) = record { id = next; content = content } ∷ sections_from (suc next) slots

-- the bytes of the section of a number
abbrev pub written_slot : ℕ → Option (List ℕ) → List ℕ
written_slot id None = []
written_slot id (Some content) = canon_section id content

-- and of all of them
abbrev pub written_from : ℕ → List (Option (List ℕ)) → List ℕ
written_from next [] = []
written_from next (slot ∷ slots) = written_slot next slot ++ written_from (suc next) slots

abbrev pub slot_at : List (Option (List ℕ)) → ℕ → Option (List ℕ)
slot_at [] i = None
slot_at (slot ∷ slots) zero = slot
slot_at (slot ∷ slots) (suc i) = slot_at slots i

-- a section that is of another number
past : (s : Section) (ss : List Section) (id : ℕ) → (s.id ≡ id → ⊥) → content_of id (s ∷ ss) ≡ content_of id ss
past s ss id n = ap (λ b. cond b (Some s.content) (content_of id ss)) (ne_eqb s.id id n)

-- and one that is of that number
here : (s : Section) (ss : List Section) (id : ℕ) → s.id ≡ id → content_of id (s ∷ ss) ≡ Some s.content
here s ss id e = ap (λ b. cond b (Some s.content) (content_of id ss)) (eq-eqb s.id id e)

-- no section of a number stands among those from a later one on
none_before : (slots : List (Option (List ℕ))) (next id : ℕ) → id < next → content_of id (sections_from next slots) ≡ None
none_before [] next id l = refl
none_before (None ∷ slots) next id l = none_before slots (suc next) id (omega arith)
none_before (Some content ∷ slots) next id l =
    past (record { id = next; content = content }) (sections_from (suc next) slots) id (λ e. omega (arith, e)) ∙ none_before slots (suc next) id (omega arith)

-- what stands at a number
pub content_at : (slots : List (Option (List ℕ))) (next i id : ℕ) → id ≡ next + i → content_of id (sections_from next slots) ≡ slot_at slots i
content_at [] next i id e = refl
content_at (None ∷ slots) next zero id e = none_before slots (suc next) id (omega arith)
content_at (Some content ∷ slots) next zero id e = here (record { id = next; content = content }) (sections_from (suc next) slots) id (omega arith)
content_at (None ∷ slots) next (suc i) id e = content_at slots (suc next) i id (omega arith)
content_at (Some content ∷ slots) next (suc i) id e =
    past (record { id = next; content = content }) (sections_from (suc next) slots) id (λ f. omega (arith, f)) ∙ content_at slots (suc next) i id (omega arith)

-- sections in order from a number on are so from a smaller one on
order_less : (ss : List Section) (next more : ℕ) → next ≤ more → InOrder more ss → InOrder next ss
order_less [] next more l o = tt
order_less (s ∷ ss) next more l o = elim o [ inl w ↦ inl (w.0, w.1, order_less ss next more l w.2) | inr w ↦ inr (w.0, omega (arith, w.1), w.2, w.3) ]

pub order_from : (slots : List (Option (List ℕ))) (next : ℕ) → 0 < next → next + length slots ≤ 12 → InOrder next (sections_from next slots)
order_from [] next p l = tt
order_from (None ∷ slots) next p l = order_less (sections_from (suc next) slots) next (suc next) (omega arith) (order_from slots (suc next) (omega arith) (omega arith))
order_from (Some content ∷ slots) next p l =
    let later : InOrder (suc next) (sections_from (suc next) slots) = order_from slots (suc next) (omega arith) (omega arith) in
    inr (p, omega arith, omega arith, subst (λ n. InOrder n (sections_from (suc next) slots)) (omega arith) later)

-- ---- against sections that are spelled

-- the number in front of the size and the content
section_front : (s : Section) (front : List ℕ) → SpellsSection front s → (more : List ℕ) × (front ≡ s.id ∷ more) × SpellsBytes more s.content
section_front s [] h = absurd h
section_front s (b ∷ more) h = (more, ap (λ c. c ∷ more) h.0, h.1)

-- how many bytes the sections at so many numbers from one on have, where they are written
abbrev size : ℕ → ℕ → List Section → ℕ
size zero next ss = 0
size (suc k) next ss = length (written_slot next (content_of next ss)) + size k (suc next) ss

size_none : (k next : ℕ) → size k next [] ≡ 0
size_none zero next = refl
size_none (suc k) next = omega (arith, size_none k (suc next))

size_past : (k next : ℕ) (s : Section) (ss : List Section) → s.id < next → size k next (s ∷ ss) ≡ size k next ss
size_past zero next s ss l = refl
size_past (suc k) next s ss l =
    omega (arith, ap (λ o. length (written_slot next o)) (past s ss next (λ e. omega (arith, e, l))), size_past k (suc next) s ss (omega arith))

-- a section in front is at one number at most
size_more : (k next : ℕ) (s : Section) (ss : List Section) → size k next (s ∷ ss) ≤ length (canon_section s.id s.content) + size k next ss
size_more zero next s ss = omega arith
size_more (suc k) next s ss =
    elim (cases_eq s.id next) [
      | inl e ↦ omega (arith, ap (λ o. length (written_slot next o)) (here s ss next e), size_past k (suc next) s ss (omega (arith, e)))
      | inr n ↦ omega (arith, ap (λ o. length (written_slot next o)) (past s ss next n), size_more k (suc next) s ss)
    ]

size_fits : (ss : List Section) (body : List ℕ) (k next : ℕ) → AreBytes body → SpellsEach SpellsSection body ss → size k next ss ≤ length body
size_fits [] body k next a j = omega (arith, size_none k next)
size_fits (s ∷ ss) body k next a j =
    let b = bytes_split j.front j.back (subst AreBytes j.parts a) in
    let f = section_front s j.front j.first in
    let q = content_shortest f.0 s.content s.content (subst AreBytes f.1 b.0).1 f.2 (omega arith) in
    omega (arith, size_more k next s ss, size_fits ss j.back k next b.1 j.second, q.shorter, ap length f.1, ap length j.parts, length-append j.front j.back)

-- what is written at a number is spelled, and no longer than the content there where that is written
abbrev pub Fits : Option (List ℕ) → Option (List ℕ) → Type 0
Fits None o = Unit {0}
Fits (Some v) o = MatchOption o ⊥ (λ content. SpellsBytes (canon_bytes v) v × (length (canon_bytes v) ≤ length (canon_bytes content)))

-- and that at each number from one on
abbrev pub Covered : ℕ → List Section → List (Option (List ℕ)) → Type 0
Covered next ss [] = Unit {0}
Covered next ss (slot ∷ slots) = Fits slot (content_of next ss) × Covered (suc next) ss slots

slot_fits : (v : List ℕ) (next : ℕ) (o : Option (List ℕ)) → Fits (Some v) o → SpellsBytes (canon_bytes v) v × (length (canon_section next v) ≤ length (written_slot next o))
slot_fits v next None h = absurd h
slot_fits v next (Some content) h = (h.0, omega (arith, h.1))

slots_fit : (slots : List (Option (List ℕ))) (next : ℕ) (ss : List Section) → Covered next ss slots →
    SpellsEach SpellsSection (written_from next slots) (sections_from next slots) × (length (written_from next slots) ≤ size (length slots) next ss)
slots_fit [] next ss c = (refl, omega arith)
slots_fit (None ∷ slots) next ss c = let r = slots_fit slots (suc next) ss c.1 in (r.0, omega (arith, r.1))
slots_fit (Some v ∷ slots) next ss c =
    let r = slots_fit slots (suc next) ss c.1 in
    let f = slot_fits v next (content_of next ss) c.0 in (
      record { front = canon_section next v; back = written_from (suc next) slots; parts = refl; first = (refl, f.0); second = r.0 },
      omega (arith, f.1, r.1, length-append (canon_section next v) (written_from (suc next) slots)),
    )

pub slots_shortest : (ss : List Section) (slots : List (Option (List ℕ))) (next : ℕ) (body : List ℕ) → AreBytes body → SpellsEach SpellsSection body ss → Covered next ss slots →
    NoLonger (λ a. SpellsEach SpellsSection a (sections_from next slots)) body (written_from next slots)
slots_shortest ss slots next body a j c =
    let r = slots_fit slots next ss c in
    record { spells = r.0; shorter = omega (arith, r.1, size_fits ss body (length slots) next a j) }

-- the content of a section, in bytes with its size
pub content_spelled : (ss : List Section) (body : List ℕ) (id : ℕ) (content : List ℕ) → AreBytes body → SpellsEach SpellsSection body ss → content_of id ss ≡ Some content →
    (front : List ℕ) × AreBytes front × SpellsBytes front content
content_spelled [] body id content a j e = absurd cc
content_spelled (s ∷ ss) body id content a j e =
    let b = bytes_split j.front j.back (subst AreBytes j.parts a) in
    let f = section_front s j.front j.first in
    elim (chosen (s.id == id) (Some s.content) (content_of id ss) (Some content) e) [
      | inl w ↦ (f.0, (subst AreBytes f.1 b.0).1, subst (λ c. SpellsBytes f.0 c) (same_Some s.content content w.1) f.2)
      | inr w ↦ content_spelled ss j.back id content b.1 j.second w.1
    ]
