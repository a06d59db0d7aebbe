-- Reading the parts of the binary format takes just what is spelled so.
use Rattle.std.proofs.Common.{◌≡◌, inl, inr, ℕ, zero, suc, ◌==◌, Bool, true, false, cond, List, [], ◌∷◌, ◌++◌, length, take, drop, Option, Some, None, Result, Ok, Err, refl, sym, ◌∙◌, ap, subst, arith, append_assoc, nat_lt, eq-eqb, eqb-true, ltb-false, le-ltb, length-append}
use Rattle.std.proofs.lemmas.List.{take-append-drop, append-nil, length-take-le}
use Rattle.std.proofs.Math.Seq.{take-append_seam, drop-append_seam}
use Rattle.std.proofs.lemmas.Option.{same_Some}
use Rattle.std.specs.Option.{option_and_then}
use Rattle.std.specs.Result.{result_ok}
use Rattle.std.specs.Str.{is_utf8}
use Rattle.std.proofs.lemmas.Str.{IsUtf8-from_is_utf8, is_utf8-from_IsUtf8}
use Rattle.byte_cursor.specs.declared.leb.CursorFault.{CursorFault}
use Rattle.byte_cursor.specs.Integers.{BeginsWith, Spells, SpellsSigned, unsigned_last, unsigned_joined, signed_last, signed_joined}
use Rattle.byte_cursor.specs.ReadNumbers.{number_at, unsigned_at, signed_at}
use Rattle.byte_cursor.proofs.Laws.{chosen, number_takes, number_again}
use Rattle.wasm_ast.specs.Spelling.{Joined, Behind, SpellsU32, SpellsEach, SpellsVec, SpellsBytes, SpellsName, Sized}
use Rattle.wasm_reading.specs.ReadValues.{and_then, mapped, pair_at, next_at, behind_at, u32_at, i32_at, i64_at, many_at, with_item, counted_at, vec_at, span_at, bytes_at, name_at, if_ended, all_of, with_rest, byte_as, sized_at, IsExact}

-- a test that chose
pub chose_some : {A : Type 0} (b : Bool) (x : Option A) (z : A) → cond b x None ≡ Some z → (b ≡ true) × (x ≡ Some z)
chose_some true x z e = (refl, e)
chose_some false x z e = cc

pub chose_other : {A : Type 0} (b : Bool) (y : Option A) (z : A) → cond b None y ≡ Some z → (b ≡ false) × (y ≡ Some z)
chose_other true y z e = cc
chose_other false y z e = (refl, e)

-- reading that gave something gave something before
pub read_first : {X Y : Type 0} (o : Option (X × List ℕ)) (f : X → List ℕ → Option Y) (y : Y) → and_then o f ≡ Some y →
    (x : X) × (mid : List ℕ) × (o ≡ Some (x, mid)) × (f x mid ≡ Some y)
read_first None f y e = cc
read_first (Some x) f y e = (x.0, x.1, refl, e)

pub so_some : {X Y : Type 0} (f : X → Option Y) (o : Option X) (y : Y) → option_and_then f o ≡ Some y → (x : X) × (o ≡ Some x) × (f x ≡ Some y)
so_some f None y h = cc
so_some f (Some x) y h = (x, refl, h)

-- what begins so, and then goes on so
pub begins_joined : {A B : Type 0} (P : List ℕ → A → Type 0) (Q : List ℕ → B → Type 0) (bytes mid rest : List ℕ) (a : A) (b : B) →
    BeginsWith P bytes a mid → BeginsWith Q mid b rest →
    (front : List ℕ) × Joined (λ f. P f a) (λ g. Q g b) front × (bytes ≡ front ++ rest)
begins_joined P Q bytes mid rest a b p q = (
  p.0 ++ q.0,
  record { front = p.0; back = q.0; parts = refl; first = p.1; second = q.1 },
  p.2 ∙ ap (λ m. p.0 ++ m) q.2 ∙ sym (append_assoc p.0 q.0 rest),
)

-- the same in front of the same rest
pub begins_as : {X : Type 0} (S : List ℕ → X → Type 0) {bytes mid rest : List ℕ} {x y : X} → BeginsWith S bytes x mid → ◌≡◌ {A = Option (X × List ℕ)} (Some (x, mid)) (Some (y, rest)) → BeginsWith S bytes y rest
begins_as {X} S {bytes} b e = subst (λ (z : X × List ℕ). BeginsWith S bytes z.0 z.1) (same_Some _ _ e) b

-- reading two parts of bytes that are joined of them
pub joined_again : {X Y : Type 0} (P Q : List ℕ → Type 0) (bytes rest : List ℕ) (r : List ℕ → Option (X × List ℕ)) (k : X → List ℕ → Option Y) (x : X) (y : Y) →
    Joined P Q bytes → ((front more : List ℕ) → P front → r (front ++ more) ≡ Some (x, more)) →
    ((back : List ℕ) → Q back → k x (back ++ rest) ≡ Some y) → and_then (r (bytes ++ rest)) k ≡ Some y
joined_again P Q bytes rest r k x y j first second =
    ap (λ b. and_then (r (b ++ rest)) k) j.parts
    ∙ ap (λ b. and_then (r b) k) (append_assoc j.front j.back rest)
    ∙ ap (λ o. and_then o k) (first j.front (j.back ++ rest) j.first)
    ∙ second j.back j.second

-- what is read as something else
pub mapped_exact : {X Y : Type 0} {S : List ℕ → X → Type 0} {r : List ℕ → Option (X × List ℕ)} (T : List ℕ → Y → Type 0) (f : X → Y) →
    IsExact S r → ((bytes : List ℕ) (x : X) → S bytes x → T bytes (f x)) →
    ((bytes : List ℕ) (y : Y) → T bytes y → (x : X) × S bytes x × (f x ≡ y)) → IsExact T (mapped f r)
mapped_exact {X} {Y} {S} {r} T f e to from = record {
  takes = λ bytes y rest h.
      let p = read_first (r bytes) (λ x rest. Some (f x, rest)) (y, rest) h in
      let t = e.takes bytes p.0 p.1 p.2 in
      begins_as T (t.0, to t.0 p.0 t.1, t.2) p.3;
  again = λ front rest y h.
      let p = from front y h in
      ap (λ o. and_then o (λ x rest. Some (f x, rest))) (e.again front rest p.0 p.1) ∙ ap (λ z. Some (z, rest)) p.2;
}

-- the same in other words
pub exact_as : {X : Type 0} {S : List ℕ → X → Type 0} {r : List ℕ → Option (X × List ℕ)} (T : List ℕ → X → Type 0) →
    ((bytes : List ℕ) (x : X) → S bytes x → T bytes x) → ((bytes : List ℕ) (x : X) → T bytes x → S bytes x) → IsExact S r → IsExact T r
exact_as {X} {S} {r} T to from e = record {
  takes = λ bytes x rest h. let t = e.takes bytes x rest h in (t.0, to t.0 x t.1, t.2);
  again = λ front rest x h. e.again front rest x (from front x h);
}

-- other properties of the two parts
pub parts_as : {P Q R T : List ℕ → Type 0} {bytes : List ℕ} → Joined P Q bytes → ((b : List ℕ) → P b → R b) → ((b : List ℕ) → Q b → T b) → Joined R T bytes
parts_as j f g = record { front = j.front; back = j.back; parts = j.parts; first = f j.front j.first; second = g j.back j.second }

-- one thing, and then another that depends on it
both_exact : {X Y : Type 0} {A : List ℕ → X → Type 0} {r : List ℕ → Option (X × List ℕ)} (B : X → List ℕ → Y → Type 0) (s : X → List ℕ → Option (Y × List ℕ)) →
    IsExact A r → ((x : X) → IsExact (B x) (s x)) → IsExact (λ bytes y. (x : X) × Joined (λ a. A a x) (λ b. B x b y) bytes) (λ bytes. and_then (r bytes) s)
both_exact {X} {Y} {A} {r} B s e f = record {
  takes = λ bytes y rest h.
      let u = read_first (r bytes) s (y, rest) h in
      let j = begins_joined A (B u.0) bytes u.1 rest u.0 y (e.takes bytes u.0 u.1 u.2) ((f u.0).takes u.1 y rest u.3) in
      (j.0, (u.0, j.1), j.2);
  again = λ front rest y h. joined_again (λ a. A a h.0) (λ b. B h.0 b y) front rest r s h.0 (y, rest) h.1 (λ g more q. e.again g more h.0 q) (λ g q. (f h.0).again g rest y q);
}

-- two things, one after the other
pub pair_exact : {X Y : Type 0} {A : List ℕ → X → Type 0} {B : List ℕ → Y → Type 0} {r : List ℕ → Option (X × List ℕ)} {s : List ℕ → Option (Y × List ℕ)} →
    IsExact A r → IsExact B s → IsExact (λ bytes p. Joined (λ a. A a p.0) (λ b. B b p.1) bytes) (pair_at r s)
pair_exact {X} {Y} {A} {B} {r} {s} e f =
    exact_as (λ bytes p. Joined (λ a. A a p.0) (λ b. B b p.1) bytes)
    (λ bytes p h. subst (λ x. Joined (λ a. A a x) (λ b. B b p.1) bytes) (sym h.1.second.1) (parts_as h.1 (λ a t. t) (λ b t. t.0))) (λ bytes p j. (p.0, parts_as j (λ a t. t) (λ b t. (t, refl))))
    (both_exact (λ x b p. B b p.1 × (p.0 ≡ x)) (λ x. mapped (λ y. (x, y)) s) e
    (λ x. mapped_exact (λ b p. B b p.1 × (p.0 ≡ x)) (λ y. (x, y)) f (λ bytes y t. (t, refl)) (λ bytes p t. (p.1, t.0, ap (λ z. (z, p.1)) (sym t.1)))))

-- a byte in front
pub behind_exact : {X : Type 0} {S : List ℕ → X → Type 0} {r : List ℕ → Option (X × List ℕ)} (b : ℕ) → IsExact S r → IsExact (λ bytes x. Behind b (λ a. S a x) bytes) (behind_at b r)
behind_exact {X} {S} {r} b e = record { takes = takes; again = again } where
  takes : (bytes : List ℕ) (x : X) (rest : List ℕ) → behind_at b r bytes ≡ Some (x, rest) → BeginsWith (λ bytes x. Behind b (λ a. S a x) bytes) bytes x rest
  takes [] x rest h = cc
  takes (c ∷ bytes) x rest h =
      let p = chose_some (c == b) (r bytes) (x, rest) h in
      let t = e.takes bytes x rest p.1 in
      (c ∷ t.0, (eqb-true c b p.0, t.1), ap (λ m. c ∷ m) t.2)

  again : (front rest : List ℕ) (x : X) → Behind b (λ a. S a x) front → behind_at b r (front ++ rest) ≡ Some (x, rest)
  again [] rest x h = absurd h
  again (c ∷ front) rest x h = ap (λ t. cond t (r (front ++ rest)) None) (eq-eqb c b h.0) ∙ e.again front rest x h.1

-- ---- a byte that says what is behind it

-- what is read behind each byte is spelled so with the byte
abbrev pub AreSpelled : {Y : Type 0} → (List ℕ → Y → Type 0) → (ℕ → List ℕ → Option (Y × List ℕ)) → Type 0
AreSpelled {Y} T g = (b : ℕ) (bytes : List ℕ) (y : Y) (rest : List ℕ) → g b bytes ≡ Some (y, rest) → BeginsWith T (b ∷ bytes) y rest

pub no_tag : {Y : Type 0} (T : List ℕ → Y → Type 0) → AreSpelled T (λ b bytes. None)
no_tag T b bytes y rest h = cc

pub tag_takes : {X Y : Type 0} {S : List ℕ → X → Type 0} {r : List ℕ → Option (X × List ℕ)} {T : List ℕ → Y → Type 0} {g : ℕ → List ℕ → Option (Y × List ℕ)} (c : ℕ) (f : X → Y) →
    IsExact S r → ((front : List ℕ) (x : X) → S front x → T (c ∷ front) (f x)) → AreSpelled T g → AreSpelled T (λ b bytes. cond (b == c) (mapped f r bytes) (g b bytes))
tag_takes {X} {Y} {S} {r} {T} {g} c f e to others b bytes y rest h =
    elim (chosen (b == c) _ _ (Some (y, rest)) h) [
      | inl w ↦
          let u = read_first (r bytes) (λ x rest. Some (f x, rest)) (y, rest) w.1 in
          let t = e.takes bytes u.0 u.1 u.2 in
          begins_as T (b ∷ t.0, subst (λ d. T (d ∷ t.0) (f u.0)) (sym (eqb-true b c w.0)) (to t.0 u.0 t.1), ap (λ m. b ∷ m) t.2) u.3
      | inr w ↦ others b bytes y rest w.1
    ]

pub tagged_takes : {Y : Type 0} {T : List ℕ → Y → Type 0} {g : ℕ → List ℕ → Option (Y × List ℕ)} → AreSpelled T g → (bytes : List ℕ) (y : Y) (rest : List ℕ) → and_then (next_at bytes) g ≡ Some (y, rest) → BeginsWith T bytes y rest
tagged_takes are [] y rest h = cc
tagged_takes are (b ∷ bytes) y rest h = are b bytes y rest h

-- what is spelled with a byte in front is read so
pub tag_again : {X Y : Type 0} {S : List ℕ → X → Type 0} {r : List ℕ → Option (X × List ℕ)} (q : List ℕ → Option (Y × List ℕ)) (c : ℕ) (f : X → Y) →
    IsExact S r → ((bytes : List ℕ) → q (c ∷ bytes) ≡ mapped f r bytes) → (front rest : List ℕ) (x : X) → Behind c (λ a. S a x) front → q (front ++ rest) ≡ Some (f x, rest)
tag_again q c f e is [] rest x h = absurd h
tag_again q c f e is (b ∷ front) rest x h =
    ap (λ d. q (d ∷ (front ++ rest))) h.0 ∙ is (front ++ rest) ∙ ap (λ o. and_then o (λ x rest. Some (f x, rest))) (e.again front rest x h.1)

-- ---- numbers, vectors, bytes and names

ok_of : {X : Type 0} (r : Result X CursorFault) (x : X) → result_ok r ≡ Some x → r ≡ Ok x
ok_of (Ok y) x h = ap (λ z. Ok z) (same_Some y x h)
ok_of (Err e) x h = cc

number_exact : {N : Type 0} (last : ℕ → ℕ → Option N) (joined : ℕ → N → N) (bits : ℕ) → IsExact (Spells last joined bits) (λ bytes. result_ok (number_at last joined bits bytes))
number_exact last joined bits = record {
  takes = λ bytes x rest h. number_takes last joined bits bytes x rest (ok_of _ _ h);
  again = λ front rest x h. ap result_ok (number_again last joined bits front x rest h);
}

pub u32_exact : IsExact SpellsU32 u32_at
unfolding u32_at unsigned_at
u32_exact = number_exact unsigned_last unsigned_joined 32

pub i32_exact : IsExact (SpellsSigned 32) i32_at
unfolding i32_at signed_at
i32_exact = number_exact signed_last signed_joined 32

pub i64_exact : IsExact (SpellsSigned 64) i64_at
unfolding i64_at signed_at
i64_exact = number_exact signed_last signed_joined 64

-- what things give that are added one after another
abbrev pub added_all : {S X : Type 0} → (S → X → Option S) → S → List X → Option S
added_all add s [] = Some s
added_all add s (x ∷ xs) = option_and_then (λ t. added_all add t xs) (add s x)

-- so many things
module _ {S X : Type 0} {spells : List ℕ → X → Type 0} {r : List ℕ → Option (X × List ℕ)} (add : S → X → Option S) (e : IsExact spells r) where
  abbrev Many : ℕ → S → List ℕ → S → Type 0
  Many n first bytes t = (xs : List X) × (length xs ≡ n) × SpellsEach spells bytes xs × (added_all add first xs ≡ Some t)

  abbrev behind : ℕ → S → X → List ℕ → Option (S × List ℕ)
  behind n s x rest = option_and_then (λ t. many_at add r n t rest) (add s x)

  many_takes : (n : ℕ) (first t : S) (bytes rest : List ℕ) → many_at add r n first bytes ≡ Some (t, rest) → BeginsWith (Many n first) bytes t rest
  many_takes zero first t bytes rest h = begins_as (Many 0 first) ([], ([], refl, refl, refl), refl) h
  many_takes (suc n) first t bytes rest h =
      let u = read_first (r bytes) (behind n first) (t, rest) h in
      let v = so_some (λ s. many_at add r n s u.1) (add first u.0) (t, rest) u.3 in
      let m = many_takes n v.0 t u.1 rest v.2 in
      let j = begins_joined spells (SpellsEach spells) bytes u.1 rest u.0 m.1.0 (e.takes bytes u.0 u.1 u.2) (m.0, m.1.2, m.2) in
      (j.0, (u.0 ∷ m.1.0, ap suc m.1.1, j.1, ap (option_and_then (λ s. added_all add s m.1.0)) v.1 ∙ m.1.3), j.2)

  many_again : (xs : List X) (first t : S) (front rest : List ℕ) → SpellsEach spells front xs → added_all add first xs ≡ Some t → many_at add r (length xs) first (front ++ rest) ≡ Some (t, rest)
  many_again [] first t front rest h k = ap (λ b. Some (first, b ++ rest)) h ∙ ap (λ s. Some (s, rest)) (same_Some first t k)
  many_again (x ∷ xs) first t front rest h k =
      let v = so_some (λ s. added_all add s xs) (add first x) t k in
      joined_again (λ a. spells a x) (λ b. SpellsEach spells b xs) front rest r (behind (length xs) first) x (t, rest) h (λ g more q. e.again g more x q)
      (λ g q. ap (option_and_then (λ s. many_at add r (length xs) s (g ++ rest))) v.1 ∙ many_again xs v.0 t g rest q v.2)

  -- how many there are, and the things
  pub counted_exact : (first : S) → IsExact (λ bytes t. (xs : List X) × SpellsVec spells bytes xs × (added_all add first xs ≡ Some t)) (counted_at add r first)
  counted_exact first =
      exact_as (λ bytes t. (xs : List X) × SpellsVec spells bytes xs × (added_all add first xs ≡ Some t))
      (λ bytes t h.
      let j = h.1 in
      let m = j.second in
      (m.0, record { front = j.front; back = j.back; parts = j.parts; first = subst (λ n. SpellsU32 j.front n) (sym m.1) j.first; second = m.2 }, m.3))
      (λ bytes t v. (length v.0, parts_as v.1 (λ a q. q) (λ b q. (v.0, refl, q, v.2))))
      (both_exact (λ n. Many n first) (λ n. many_at add r n first) u32_exact (λ n. record {
        takes = λ bytes t rest h. many_takes n first t bytes rest h;
        again = λ front rest t m. subst (λ k. many_at add r k first (front ++ rest) ≡ Some (t, rest)) m.1 (many_again m.0 first t front rest m.2 m.3);
      }))

with_items : {X : Type 0} (ys xs : List X) → added_all with_item xs ys ≡ Some (xs ++ ys)
with_items [] xs = ap (λ z. Some z) (sym (append-nil xs))
with_items (y ∷ ys) xs = with_items ys (xs ++ y ∷ []) ∙ ap (λ z. Some z) (append_assoc xs (y ∷ []) ys)

pub vec_exact : {X : Type 0} {S : List ℕ → X → Type 0} {r : List ℕ → Option (X × List ℕ)} → IsExact S r → IsExact (SpellsVec S) (vec_at r)
vec_exact {X} {S} {r} e =
    exact_as (SpellsVec S) (λ bytes xs v. subst (λ ys. SpellsVec S bytes ys) (same_Some v.0 xs (sym (with_items v.0 []) ∙ v.2)) v.1) (λ bytes xs j. (xs, j, with_items xs []))
    (counted_exact with_item e [])

pub floats_exact : (n : ℕ) → IsExact (λ bytes xs. (length bytes ≡ n) × (bytes ≡ xs)) (span_at n)
floats_exact n = record {
  takes = λ bytes xs rest h.
      let w = chose_other (nat_lt (length bytes) n) (Some (take n bytes, drop n bytes)) (xs, rest) h in
      begins_as (λ bytes xs. (length bytes ≡ n) × (bytes ≡ xs)) (take n bytes, (length-take-le n bytes (ltb-false (length bytes) n w.0), refl), sym (take-append-drop n bytes)) w.1;
  again = λ front rest xs h.
      let t : nat_lt (length (front ++ rest)) (length front) ≡ false = le-ltb _ _ (omega (arith, length-append front rest)) in
      subst (λ m. span_at m (front ++ rest) ≡ Some (xs, rest)) h.0 (rw (t, take-append_seam front rest, drop-append_seam front rest) (ap (λ z. Some (z, rest)) h.1));
}

pub bytes_exact : IsExact SpellsBytes bytes_at
bytes_exact =
    exact_as SpellsBytes
    (λ bytes xs h.
    let e = h.1.second in
    subst (λ n. Joined (λ a. SpellsU32 a n) (λ b. b ≡ xs) bytes) (sym e.0 ∙ ap length e.1) (parts_as h.1 (λ a t. t) (λ b t. t.1)))
    (λ bytes xs j. (length xs, parts_as j (λ a t. t) (λ b t. (ap length t, t))))
    (both_exact (λ n b xs. (length b ≡ n) × (b ≡ xs)) span_at u32_exact floats_exact)

pub name_exact : IsExact SpellsName name_at
name_exact = record {
  takes = λ bytes name rest h.
      let u = read_first (bytes_at bytes) (λ name rest. cond (is_utf8 name) (Some (name, rest)) None) (name, rest) h in
      let p = chose_some (is_utf8 u.0) (Some (u.0, u.1)) (name, rest) u.3 in
      let t = bytes_exact.takes bytes u.0 u.1 u.2 in
      subst (λ (z : List ℕ × List ℕ). BeginsWith SpellsName bytes z.0 z.1) (same_Some _ _ p.1) (t.0, (t.1, IsUtf8-from_is_utf8 u.0 p.0), t.2);
  again = λ front rest name h.
      ap (λ o. and_then o (λ name rest. cond (is_utf8 name) (Some (name, rest)) None)) (bytes_exact.again front rest name h.0)
      ∙ ap (λ b. cond b (Some (name, rest)) None) (is_utf8-from_IsUtf8 name h.1);
}

ended_takes : {X : Type 0} (left : List ℕ) (x y : X) → if_ended left (Some x) ≡ Some y → (left ≡ []) × (x ≡ y)
ended_takes [] x y h = (refl, same_Some x y h)
ended_takes (b ∷ left) x y h = cc

pub all_takes : {X : Type 0} (o : Option (X × List ℕ)) (x : X) → all_of o ≡ Some x → o ≡ Some (x, [])
all_takes None x h = cc
all_takes (Some p) x h = let e = ended_takes p.1 p.0 x h in ap (λ z. Some (p.0, z)) e.0 ∙ ap (λ z. Some (z, [])) e.1

pub with_takes : {X : Type 0} (more : List ℕ) (o : Option X) (x : X) (rest : List ℕ) → with_rest more o ≡ Some (x, rest) → (o ≡ Some x) × (more ≡ rest)
with_takes more None x rest h = cc
with_takes more (Some y) x rest h = let p = same_Some _ _ h in (ap (λ z. Some z.0) p, ap (λ z. z.1) p)

-- all the bytes are spelled so where they are read to their end
pub all_spelled : {X : Type 0} {S : List ℕ → X → Type 0} {r : List ℕ → Option (X × List ℕ)} → IsExact S r → (bytes : List ℕ) (x : X) → all_of (r bytes) ≡ Some x → S bytes x
all_spelled {X} {S} {r} e bytes x h =
    let t = e.takes bytes x [] (all_takes (r bytes) x h) in
    subst (λ b. S b x) (sym (t.2 ∙ append-nil t.0)) t.1

pub all_again : {X : Type 0} {S : List ℕ → X → Type 0} {r : List ℕ → Option (X × List ℕ)} → IsExact S r → (bytes : List ℕ) (x : X) → S bytes x → all_of (r bytes) ≡ Some x
all_again {X} {S} {r} e bytes x h = ap (λ b. all_of (r b)) (sym (append-nil bytes)) ∙ ap all_of (e.again bytes [] x h)

pub sized_exact : {X : Type 0} {S : List ℕ → X → Type 0} {r : List ℕ → Option (X × List ℕ)} → IsExact S r → IsExact (λ bytes x. Sized (λ c. S c x) bytes) (sized_at r)
sized_exact {X} {S} {r} e = record {
  takes = λ bytes x rest h.
      let u = read_first (bytes_at bytes) (λ content rest. with_rest rest (all_of (r content))) (x, rest) h in
      let w = with_takes u.1 (all_of (r u.0)) x rest u.3 in
      let t = bytes_exact.takes bytes u.0 u.1 u.2 in
      (t.0, (u.0, t.1, all_spelled e u.0 x w.0), t.2 ∙ ap (λ m. t.0 ++ m) w.1);
  again = λ front rest x h.
      ap (λ o. and_then o (λ content rest. with_rest rest (all_of (r content)))) (bytes_exact.again front rest h.0 h.1)
      ∙ ap (λ o. with_rest rest o) (all_again e h.0 x h.2);
}

-- a byte that stands for a value
pub byte_exact : {X : Type 0} (of : ℕ → Option X) (code : X → ℕ) → ((b : ℕ) (x : X) → of b ≡ Some x → b ≡ code x) → ((x : X) → of (code x) ≡ Some x) →
    IsExact (λ bytes x. bytes ≡ code x ∷ []) (byte_as of)
byte_exact {X} of code to from = record { takes = takes; again = again } where
  takes : (bytes : List ℕ) (x : X) (rest : List ℕ) → byte_as of bytes ≡ Some (x, rest) → BeginsWith (λ bytes x. bytes ≡ code x ∷ []) bytes x rest
  takes [] x rest h = cc
  takes (b ∷ bytes) x rest h =
      let p = with_takes bytes (of b) x rest h in
      (b ∷ [], ap (λ c. c ∷ []) (to b x p.0), ap (λ m. b ∷ m) p.1)

  again : (front rest : List ℕ) (x : X) → front ≡ code x ∷ [] → byte_as of (front ++ rest) ≡ Some (x, rest)
  again front rest x h = ap (λ b. byte_as of (b ++ rest)) h ∙ ap (λ o. with_rest rest o) (from x)
