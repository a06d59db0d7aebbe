-- A walk goes on event by event.
use Rattle.std.proofs.Common.{◌≡◌, ℕ, zero, suc, false, ◌==◌, List, [], ◌∷◌, ◌++◌, length, reverse, Option, Some, None, refl, sym, ◌∙◌, ap, append_assoc, arith}
use Rattle.std.proofs.Math.Dec.{eqb-suc-zero}
use Rattle.std.proofs.lemmas.List.{append-nil, reverse-append}
use Rattle.wasm_ast.specs.declared.instr.Instr.{Instr}
use Rattle.wasm_ast.specs.declared.instr.Instr.TheVariants as instr
use Rattle.wasm_ast.specs.declared.walk.{Inner.Inner, Outer.Outer}
use Rattle.wasm_ast.specs.Sequence.{Sequence}
use Rattle.wasm_ast.specs.Numbering.{in_front, sequence}
use Rattle.wasm_ast.specs.Position.{sequence_at, IsList}
use Rattle.wasm_ast.specs.Events.{Event, Instruction, Begin, Else, End, is_empty, events}
use Rattle.wasm_ast.specs.Opened.{opened_by}
use Rattle.wasm_ast.specs.Walk.{end_event, first_plain, outer_events, walk_events}

pub at_start : (s : Sequence) (is : List Instr) → IsList s 0 is → walk_events s is [] ≡ events s
at_start s is l = append-nil (events (sequence (sequence_at s) is)) ∙ ap events (sym (l 0))

-- the second arm of an if, if there is one, and what comes behind it
abbrev second_events : Sequence → Option ℕ → List Event → List Event
second_events s None behind = behind
second_events s (Some n) behind = Else (is_empty (sequence_at s n)) ∷ events (sequence_at s n) ++ behind

-- an instruction in front
abbrev front_events : Sequence → Instr → Option Inner → List Event → List Event
front_events s i None behind = Instruction i ∷ behind
front_events s i (Some o) behind = Begin o.construct o.of ∷ events (sequence_at s o.first) ++ second_events s o.second (End ∷ behind)

front : (s : Sequence) (i : Instr) (rest : Sequence) → events (in_front (sequence_at s) i rest) ≡ front_events s i (opened_by i) (events rest)
front s (instr.Block of body) rest = refl
front s _ rest = refl

last_first : (os os' : List Outer) (o : Outer) → os' ≡ os ++ o ∷ [] → reverse os' ≡ o ∷ reverse os
last_first os os' o p = ap reverse p ∙ reverse-append os (o ∷ [])

-- A construct begins. What stands behind it comes where its list is at its end, or where that of its second arm is.
module _ (v : List Event) (s : Sequence) (i : Instr) (all is list : List Instr) (os os1 : List Outer) (o : Inner) (outer : Outer) (now : walk_events s all (reverse os) ≡ v) (first : all ≡ i ∷ is) (opens : opened_by i ≡ Some o) (lists : IsList s o.first list) (added : os1 ≡ os ++ outer ∷ []) (rest_is : outer.rest.now ≡ is) (behind : outer.ends ≡ 1) where
  abbrev into : List Event → List Event
  into es = Begin o.construct o.of ∷ events (sequence_at s o.first) ++ es

  abbrev rest : List Event
  rest = End ∷ events (sequence (sequence_at s) is)

  abbrev outside : List Event
  outside = outer_events s (reverse os)

  begins : v ≡ into (second_events s o.second rest ++ outside)
  begins =
      sym now ∙ ap (λ js. walk_events s js (reverse os)) first
      ∙ ap (λ es. es ++ outside) (front s i (sequence (sequence_at s) is) ∙ ap (λ x. front_events s i x (events (sequence (sequence_at s) is))) opens)
      ∙ ap (λ es. Begin o.construct o.of ∷ es) (append_assoc (events (sequence_at s o.first)) (second_events s o.second rest) outside)

  goes_on : outer_events s (reverse os1) ≡ rest ++ outside
  goes_on = rw (last_first os os1 outer added, rest_is, behind) refl

  listed : (os' : List Outer) → walk_events s list (reverse os') ≡ events (sequence_at s o.first) ++ outer_events s (reverse os')
  listed os' = ap (λ t. events t ++ outer_events s (reverse os')) (sym (lists 0))

  pub block_next : o.second ≡ None → v ≡ Begin o.construct o.of ∷ walk_events s list (reverse os1)
  block_next none = begins ∙ ap (λ x. into (second_events s x rest ++ outside)) none ∙ ap into (sym goes_on) ∙ ap (λ es. Begin o.construct o.of ∷ es) (sym (listed os1))

  pub if_next : (n : ℕ) (arm : List Instr) (os2 : List Outer) (second : Outer) → o.second ≡ Some n → IsList s n arm → os2 ≡ os1 ++ second ∷ [] → second.rest.now ≡ arm → second.ends ≡ 0 → v ≡ Begin o.construct o.of ∷ walk_events s list (reverse os2)
  if_next n arm os2 second some l p r t =
      let comes : outer_events s (reverse os2) ≡ second_events s (Some n) (outer_events s (reverse os1)) = rw (last_first os1 os2 second p, r, t, ← l 0) refl in
      begins ∙ ap (λ x. into (second_events s x rest ++ outside)) some
      ∙ ap (λ es. into (Else (is_empty (sequence_at s n)) ∷ es)) (append_assoc (events (sequence_at s n)) rest outside)
      ∙ ap (λ es. into (second_events s (Some n) es)) (sym goes_on) ∙ ap into (sym comes) ∙ ap (λ es. Begin o.construct o.of ∷ es) (sym (listed os2))

front_some : (F : ℕ → Sequence) (i : Instr) (rest : Sequence) → is_empty (in_front F i rest) ≡ false
front_some F (instr.Block of body) rest = refl
front_some F _ rest = refl

pub empty_list : (F : ℕ → Sequence) (is : List Instr) → is_empty (sequence F is) ≡ (length is == 0)
empty_list F [] = refl
empty_list F (i ∷ is) = front_some F i (sequence F is) ∙ sym (eqb-suc-zero (length is))

pub none_left : (is : List Instr) → length is ≡ 0 → is ≡ []
none_left [] h = refl
none_left (i ∷ is) h = absurd (omega arith)

-- a list is at its end
pub end_next : (v : List Event) (s : Sequence) (all : List Instr) (os os' : List Outer) (o : Outer) → walk_events s all (reverse os) ≡ v → length all ≡ 0 → os ≡ os' ++ o ∷ [] →
    v ≡ end_event o.ends (sequence (sequence_at s) o.rest.now) ∷ walk_events s o.rest.now (reverse os')
end_next v s all os os' o w a p = sym w ∙ ap (λ js. walk_events s js (reverse os)) (none_left all a) ∙ ap (walk_events s []) (last_first os' os o p)

-- no instruction comes at the end of a list
pub none_plain : (s : Sequence) (os : List Outer) → first_plain (walk_events s [] os) ≡ None
none_plain s [] = refl
none_plain s (o ∷ os) = ends o.ends where
  ends : (n : ℕ) → first_plain (end_event n (sequence (sequence_at s) o.rest.now) ∷ walk_events s o.rest.now os) ≡ None
  ends zero = refl
  ends (suc n) = refl
