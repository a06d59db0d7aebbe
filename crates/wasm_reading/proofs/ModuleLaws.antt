-- Reading a module takes just what is spelled so.
use Rattle.std.proofs.Common.{◌≡◌, ◌⊎◌, inl, inr, ℕ, zero, suc, ◌+◌, ◌<◌, ◌≤◌, ◌==◌, true, cond, List, [], ◌∷◌, ◌++◌, length, Option, Some, None, MatchOption, is_some, refl, sym, ◌∙◌, ap, subst, arith, eqb-true, eq-eqb, ne_eqb, le-ltb, length-append}
use Rattle.std.proofs.lemmas.Option.{same_Some}
use Rattle.std.specs.Option.{option_map, option_and_then}
use Rattle.byte_cursor.specs.Integers.{BeginsWith}
use Rattle.wasm_ast.specs.declared.module.Module.{Module}
use Rattle.wasm_ast.specs.Spelling.{SpellsU32, SpellsEach, SpellsVec}
use Rattle.wasm_ast.specs.SpelledTypes.{SpellsFuncType, SpellsTable, SpellsMemory}
use Rattle.wasm_ast.specs.SpelledModule.{SpellsImport, SpellsGlobal, SpellsExport, SpellsElement, SpellsCode, SpellsSegment, Section, SpellsSection, IsCustom, InOrder, content_of, Holds, HoldsStart, preamble, SpellsModule}
use Rattle.wasm_reading.specs.ReadValues.{and_then, u32_at, bytes_at, name_at, all_of, with_rest, IsExact}
use Rattle.wasm_reading.specs.ReadModule.{next_from, section_at, sections_at, all_held, held_at, start_held, both, Fields, fields_of, module_with, counted, module_of, preamble_at, body_at, module_at}
use Rattle.wasm_reading.proofs.ValueLaws.{chose_some, so_some, read_first, with_takes, u32_exact, vec_exact, bytes_exact, name_exact, all_spelled, all_again}
use Rattle.wasm_reading.proofs.TypeLaws.{functype_exact, memory_exact, table_exact}
use Rattle.wasm_reading.proofs.EntryLaws.{import_exact, global_exact, export_exact, element_exact, code_exact, segment_exact}

map_some : {X Y : Type 0} (f : X → Y) (o : Option X) (y : Y) → option_map f o ≡ Some y → (x : X) × (o ≡ Some x) × (f x ≡ y)
map_some f None y h = cc
map_some f (Some x) y h = (x, refl, same_Some _ _ h)

-- a name in front
custom_of : (content : List ℕ) (o : Option (List ℕ × List ℕ)) → name_at content ≡ o → is_some o ≡ true → IsCustom content
custom_of content None e h = cc
custom_of content (Some p) e h =
    let t = name_exact.takes content p.0 p.1 e in
    (p.0, record { front = t.0; back = p.1; parts = t.2; first = t.1; second = tt })

custom_named : (content : List ℕ) → IsCustom content → is_some (name_at content) ≡ true
custom_named content c =
    ap (λ b. is_some (name_at b)) c.1.parts ∙ ap is_some (name_exact.again c.1.front c.1.back c.0 c.1.first)

-- what the number of a section, from one on, says of the next
abbrev pub IsPlaced : ℕ → Section → ℕ → Type 0
IsPlaced next s n =
    ((s.id ≡ 0) × IsCustom s.content × (n ≡ next))
    ⊎ ((0 < s.id) × (next ≤ s.id) × (s.id ≤ 11) × (n ≡ s.id + 1))

next_takes : (next b : ℕ) (content : List ℕ) (n : ℕ) → next_from next b content ≡ Some n → IsPlaced next (record { id = b; content = content }) n
next_takes next zero content n h =
    let c = chose_some (is_some (name_at content)) (Some next) n h in inl (refl, custom_of content (name_at content) refl c.0, sym (same_Some _ _ c.1))
next_takes next (suc b) content n h = inr (omega arith, grind arith, grind arith, grind arith)

next_again : (next : ℕ) (s : Section) (n : ℕ) → IsPlaced next s n → next_from next s.id s.content ≡ Some n
next_again next s n (inl w) = let named = custom_named s.content w.1 in rw (eq-eqb s.id 0 w.0, named) (ap (λ k. Some k) (sym w.2))
next_again next s n (inr w) = rw (ne_eqb s.id 0 (λ e. omega (arith, e, w.0)), le-ltb s.id next w.1, le-ltb 11 s.id w.2) (ap (λ k. Some k) (sym w.3))

-- a section that is spelled, and the number from which on the next may be
abbrev pub SpellsNext : ℕ → List ℕ → Section × ℕ → Type 0
SpellsNext next bytes p = SpellsSection bytes p.0 × IsPlaced next p.0 p.1

module _ (next : ℕ) where
  abbrev behind : ℕ → List ℕ → List ℕ → Option ((Section × ℕ) × List ℕ)
  behind b content rest = with_rest rest (option_map (λ n. (record { id = b; content = content }, n)) (next_from next b content))

  pub section_exact : IsExact (SpellsNext next) (section_at next)
  section_exact = record { takes = takes; again = again } where
    takes : (bytes : List ℕ) (p : Section × ℕ) (rest : List ℕ) → section_at next bytes ≡ Some (p, rest) → BeginsWith (SpellsNext next) bytes p rest
    takes [] p rest h = cc
    takes (b ∷ bytes) p rest h =
        let u = read_first (bytes_at bytes) (behind b) (p, rest) h in
        let w = with_takes u.1 _ p rest u.3 in
        let m = map_some (λ n. (record { id = b; content = u.0 }, n)) (next_from next b u.0) p w.0 in
        let t = bytes_exact.takes bytes u.0 u.1 u.2 in
        (b ∷ t.0, subst (λ z. SpellsNext next (b ∷ t.0) z) m.2 ((refl, t.1), next_takes next b u.0 m.0 m.1), ap (λ z. b ∷ z) (t.2 ∙ ap (λ z. t.0 ++ z) w.1))

    again : (front rest : List ℕ) (p : Section × ℕ) → SpellsNext next front p → section_at next (front ++ rest) ≡ Some (p, rest)
    again [] rest p h = absurd h.0
    again (b ∷ front) rest p h =
        ap (λ o. and_then o (behind b)) (bytes_exact.again front rest p.0.content h.0.1)
        ∙ ap (λ i. behind i p.0.content rest) h.0.0
        ∙ ap (λ o. with_rest rest (option_map (λ n. (p.0, n)) o)) (next_again next p.0 p.1 h.1)

order_more : (next n : ℕ) (s : Section) (ss : List Section) → IsPlaced next s n → InOrder n ss → InOrder next (s ∷ ss)
order_more next n s ss (inl w) o = inl (w.0, w.1, subst (λ k. InOrder k ss) w.2 o)
order_more next n s ss (inr w) o = inr (w.0, w.1, w.2, subst (λ k. InOrder k ss) w.3 o)

order_first : (next : ℕ) (s : Section) (ss : List Section) → InOrder next (s ∷ ss) → (n : ℕ) × IsPlaced next s n × InOrder n ss
order_first next s ss (inl w) = (next, inl (w.0, w.1, refl), w.2)
order_first next s ss (inr w) = (s.id + 1, inr (w.0, w.1, w.2, refl), w.3)

sections_take : (n next : ℕ) (bytes : List ℕ) (ss : List Section) → sections_at n next bytes ≡ Some ss → SpellsEach SpellsSection bytes ss × InOrder next ss
sections_take n next [] ss h = subst (λ z. SpellsEach SpellsSection [] z × InOrder next z) (same_Some _ _ h) (refl, tt)
sections_take zero next (b ∷ bytes) ss h = cc
sections_take (suc n) next (b ∷ bytes) ss h =
    let u = read_first (section_at next (b ∷ bytes)) (λ s rest. option_map (λ ss. s.0 ∷ ss) (sections_at n s.1 rest)) ss h in
    let t = (section_exact next).takes (b ∷ bytes) u.0 u.1 u.2 in
    let m = map_some (λ ss. u.0.0 ∷ ss) (sections_at n u.0.1 u.1) ss u.3 in
    let r = sections_take n u.0.1 u.1 m.0 m.1 in
    subst (λ z. SpellsEach SpellsSection (b ∷ bytes) z × InOrder next z) m.2
    (record { front = t.0; back = u.1; parts = t.2; first = t.1.0; second = r.0 }, order_more next u.0.1 u.0.0 m.0 t.1.1 r.1)

section_again : (s : Section) (ss : List Section) (n next : ℕ) (front back : List ℕ) → SpellsSection front s → length (front ++ back) ≤ n →
    ((m later : ℕ) → length back ≤ m → InOrder later ss → sections_at m later back ≡ Some ss) → InOrder next (s ∷ ss) → sections_at n next (front ++ back) ≡ Some (s ∷ ss)
section_again s ss n next [] back h l k o = absurd h
section_again s ss zero next (b ∷ front) back h l k o = absurd (omega arith)
section_again s ss (suc n) next (b ∷ front) back h l k o =
    let p = order_first next s ss o in
    ap (λ r. and_then r (λ s rest. option_map (λ ss. s.0 ∷ ss) (sections_at n s.1 rest))) ((section_exact next).again (b ∷ front) back (s, p.0) (h, p.1))
    ∙ ap (λ r. option_map (λ ss. s ∷ ss) r) (k n p.0 (omega (arith, l, length-append front back)) p.2)

sections_again : (ss : List Section) (n next : ℕ) (bytes : List ℕ) → length bytes ≤ n → SpellsEach SpellsSection bytes ss → InOrder next ss → sections_at n next bytes ≡ Some ss
sections_again [] n next bytes l h o = ap (λ b. sections_at n next b) h
sections_again (s ∷ ss) n next bytes l h o =
    ap (λ b. sections_at n next b) h.parts
    ∙ section_again s ss n next h.front h.back h.first (subst (λ b. length b ≤ n) h.parts l) (λ m later k q. sections_again ss m later h.back k h.second q) o

-- reading sections gives just what they hold
record IsHeld {X : Type 0} (H : List Section → X → Type 0) (r : List Section → Option X) : Type 0 where
  takes : (ss : List Section) (x : X) → r ss ≡ Some x → H ss x
  again : (ss : List Section) (x : X) → H ss x → r ss ≡ Some x

held_exact : {X : Type 0} {S : List ℕ → X → Type 0} {r : List ℕ → Option (X × List ℕ)} (id : ℕ) → IsExact S r → IsHeld (Holds S id) (held_at r id)
held_exact {X} {S} {r} id e = record { takes = λ ss xs h. takes (content_of id ss) xs h; again = λ ss xs h. again (content_of id ss) xs h } where
  takes : (o : Option (List ℕ)) (xs : List X) → all_held r o ≡ Some xs → MatchOption o (xs ≡ []) (λ content. SpellsVec S content xs)
  takes None xs h = sym (same_Some _ _ h)
  takes (Some content) xs h = all_spelled (vec_exact e) content xs h

  again : (o : Option (List ℕ)) (xs : List X) → MatchOption o (xs ≡ []) (λ content. SpellsVec S content xs) → all_held r o ≡ Some xs
  again None xs h = ap (λ z. Some z) (sym h)
  again (Some content) xs h = all_again (vec_exact e) content xs h

start_exact : IsHeld HoldsStart (λ ss. start_held (content_of 8 ss))
start_exact = record { takes = λ ss x h. takes ss (content_of 8 ss) refl x h; again = again } where
  takes : (ss : List Section) (o : Option (List ℕ)) → content_of 8 ss ≡ o → (x : Option ℕ) → start_held o ≡ Some x → HoldsStart ss x
  takes ss None e x h = subst (λ z. HoldsStart ss z) (same_Some _ _ h) e
  takes ss (Some content) e x h =
      let m = map_some (λ f. Some f) (all_of (u32_at content)) x h in
      subst (λ z. HoldsStart ss z) m.2 (subst (λ o. MatchOption o ⊥ (λ content. SpellsU32 content m.0)) (sym e) (all_spelled u32_exact content m.0 m.1))

  from : (f : ℕ) (o : Option (List ℕ)) → MatchOption o ⊥ (λ content. SpellsU32 content f) → start_held o ≡ Some (Some f)
  from f None h = absurd h
  from f (Some content) h = ap (λ o. option_map (λ f. Some f) o) (all_again u32_exact content f h)

  again : (ss : List Section) (x : Option ℕ) → HoldsStart ss x → start_held (content_of 8 ss) ≡ Some x
  again ss None h = ap start_held h
  again ss (Some f) h = from f (content_of 8 ss) h

both_exact : {X Y : Type 0} {H : List Section → X → Type 0} {K : List Section → Y → Type 0} {r : List Section → Option X} {s : List Section → Option Y} → IsHeld H r → IsHeld K s →
    IsHeld (λ ss p. H ss p.0 × K ss p.1) (λ ss. both (r ss) (s ss))
unfolding both
both_exact {X} {Y} {H} {K} {r} {s} d e = record {
  takes = λ ss p h. let q = some (r ss) (s ss) p h in (d.takes ss p.0 q.0, e.takes ss p.1 q.1);
  again = λ ss p h. ap (λ o. both o (s ss)) (d.again ss p.0 h.0) ∙ ap (λ o. both (Some p.0) o) (e.again ss p.1 h.1);
} where
  some : (o : Option X) (q : Option Y) (z : X × Y) → both o q ≡ Some z → (o ≡ Some z.0) × (q ≡ Some z.1)
  some None q z h = cc
  some (Some x) None z h = cc
  some (Some x) (Some y) z h = (ap (λ w. Some w.0) (same_Some _ _ h), ap (λ w. Some w.1) (same_Some _ _ h))

-- what the sections hold
abbrev pub Hold : List Section → Fields → Type 0
Hold ss (types, (imports, (functions, (tables, (memories, (globals, (exports, (start, (elements, (codes, segments)))))))))) =
    Holds SpellsFuncType 1 ss types × (Holds SpellsImport 2 ss imports × (Holds SpellsU32 3 ss functions × (Holds SpellsTable 4 ss tables × (Holds SpellsMemory 5 ss memories
    × (Holds SpellsGlobal 6 ss globals × (Holds SpellsExport 7 ss exports × (HoldsStart ss start × (Holds SpellsElement 9 ss elements × (Holds SpellsCode 10 ss codes × Holds SpellsSegment 11 ss segments)))))))))

fields_exact : IsHeld Hold fields_of
fields_exact =
    both_exact (held_exact 1 functype_exact) (both_exact (held_exact 2 import_exact) (both_exact (held_exact 3 u32_exact) (both_exact (held_exact 4 table_exact)
    (both_exact (held_exact 5 memory_exact) (both_exact (held_exact 6 global_exact) (both_exact (held_exact 7 export_exact) (both_exact start_exact
    (both_exact (held_exact 9 element_exact) (both_exact (held_exact 10 code_exact) (held_exact 11 segment_exact))))))))))

-- the parts of a module
abbrev pub parts_of : Module → Fields
parts_of m = (m.types, (m.imports, (m.functions, (m.tables, (m.memories, (m.globals, (m.exports, (m.start, (m.elements, (m.codes, m.segments))))))))))

pub spelled_by : (bytes body : List ℕ) (ss : List Section) (m : Module) → bytes ≡ preamble ++ body → SpellsEach SpellsSection body ss → InOrder 1 ss → Hold ss (parts_of m) → length m.functions ≡ length m.codes → SpellsModule bytes m
spelled_by bytes body ss m begins parts order (types, (imports, (functions, (tables, (memories, (globals, (exports, (start, (elements, (codes, segments)))))))))) counts =
    record {
      sections = ss;
      body = body;
      begins = begins;
      parts = parts;
      order = order;
      types = types;
      imports = imports;
      functions = functions;
      tables = tables;
      memories = memories;
      globals = globals;
      exports = exports;
      start = start;
      elements = elements;
      codes = codes;
      segments = segments;
      counts = counts;
    }

preamble_takes : (cs bytes body : List ℕ) → preamble_at cs bytes ≡ Some body → bytes ≡ cs ++ body
preamble_takes [] bytes body h = same_Some _ _ h
preamble_takes (c ∷ cs) [] body h = cc
preamble_takes (c ∷ cs) (b ∷ bytes) body h =
    let p = chose_some (b == c) (preamble_at cs bytes) body h in
    ap (λ a. a ∷ bytes) (eqb-true b c p.0) ∙ ap (λ m. c ∷ m) (preamble_takes cs bytes body p.1)

preamble_again : (cs body : List ℕ) → preamble_at cs (cs ++ body) ≡ Some body
preamble_again [] body = refl
preamble_again (c ∷ cs) body = ap (λ t. cond t (preamble_at cs (cs ++ body)) None) (eq-eqb c c refl) ∙ preamble_again cs body

-- what is read as a module is spelled so
pub module_takes : (bytes : List ℕ) (m : Module) → module_at bytes ≡ Some m → SpellsModule bytes m
unfolding module_at body_at module_of
module_takes bytes m h =
    let p = so_some body_at (preamble_at preamble bytes) m h in
    let s = so_some module_of (sections_at (length p.0) 1 p.0) m p.2 in
    let t = sections_take (length p.0) 1 p.0 s.0 s.1 in
    let f = so_some (λ f. counted (module_with f)) (fields_of s.0) m s.2 in
    let c = chose_some (length (module_with f.0).functions == length (module_with f.0).codes) (Some (module_with f.0)) m f.2 in
    subst (λ z. SpellsModule bytes z) (same_Some _ _ c.1) (spelled_by bytes p.0 s.0 (module_with f.0) (preamble_takes preamble bytes p.0 p.1) t.0 t.1 (fields_exact.takes s.0 f.0 f.1) (eqb-true _ _ c.0))

-- what is spelled as a module is read so
pub module_again : (bytes : List ℕ) (m : Module) → SpellsModule bytes m → module_at bytes ≡ Some m
unfolding module_at body_at module_of
module_again bytes m h =
    ap (λ b. option_and_then body_at (preamble_at preamble b)) h.begins
    ∙ ap (λ o. option_and_then body_at o) (preamble_again preamble h.body)
    ∙ ap (λ o. option_and_then module_of o) (sections_again h.sections (length h.body) 1 h.body (omega arith) h.parts h.order)
    ∙ ap (λ o. option_and_then (λ f. counted (module_with f)) o)
    (fields_exact.again h.sections (parts_of m)
    (h.types, (h.imports, (h.functions, (h.tables, (h.memories, (h.globals, (h.exports, (h.start, (h.elements, (h.codes, h.segments)))))))))))
    ∙ ap (λ t. cond t (Some m) None) (eq-eqb _ _ h.counts)

pub one_module : (bytes : List ℕ) (m n : Module) → SpellsModule bytes m → SpellsModule bytes n → m ≡ n
one_module bytes m n p q = same_Some m n (sym (module_again bytes m p) ∙ module_again bytes n q)
