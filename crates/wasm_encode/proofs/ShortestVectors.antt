-- What is written of parts is spelled and no longer, where that of each part is.
use Rattle.std.proofs.Common.{◌≡◌, ℕ, ◌≤◌, List, [], ◌∷◌, ◌++◌, length, refl, sym, ap, subst, arith, length-append, append_assoc}
use Rattle.std.specs.List.{flat_map}
use Rattle.wasm_ast.specs.Shortest.{shortest_unsigned, canon_vec}
use Rattle.wasm_ast.specs.Canon.{canon_bytes}
use Rattle.wasm_ast.specs.Spelling.{Joined, Behind, SpellsU32, SpellsEach, SpellsVec, SpellsBytes, SpellsName, Sized}
use Rattle.wasm_encode.proofs.ShortestNumbers.{AreBytes, bytes_split, NoLonger, u32_shortest}

-- each thing is written so that it is spelled, in no more bytes than any that spell it
abbrev pub IsShortest : {X : Type 0} → (List ℕ → X → Type 0) → (X → List ℕ) → Type 0
IsShortest {X} S written = (bytes : List ℕ) (x : X) → AreBytes bytes → S bytes x → NoLonger (λ a. S a x) bytes (written x)

pub u32_is : IsShortest SpellsU32 shortest_unsigned
u32_is bytes n a s = u32_shortest bytes n n a s (omega arith)

-- one fixed form
pub fixed : (bytes w : List ℕ) → bytes ≡ w → NoLonger (λ a. a ≡ w) bytes w
fixed bytes w e = record { spells = refl; shorter = omega (arith, ap length e) }

pub joined_shortest : {P Q R T : List ℕ → Type 0} (bytes v w : List ℕ) → AreBytes bytes → (j : Joined P Q bytes) → (AreBytes j.front → NoLonger R j.front v) → (AreBytes j.back → NoLonger T j.back w) → NoLonger (Joined R T) bytes (v ++ w)
joined_shortest {R = R} {T = T} bytes v w a j f g =
    let b = bytes_split j.front j.back (subst AreBytes j.parts a) in
    let p : NoLonger R j.front v = f b.0 in
    let q : NoLonger T j.back w = g b.1 in
    record {
      spells = record { front = v; back = w; parts = refl; first = p.spells; second = q.spells };
      shorter = omega (arith, p.shorter, q.shorter, ap length j.parts, length-append j.front j.back, length-append v w);
    }

pub behind_shortest : {P : List ℕ → Type 0} (b : ℕ) (bytes w : List ℕ) → AreBytes bytes → Behind b P bytes → ((rest : List ℕ) → AreBytes rest → P rest → NoLonger P rest w) → NoLonger (Behind b P) bytes (b ∷ w)
behind_shortest {P} b [] w a s f = absurd s
behind_shortest {P} b (c ∷ bytes) w a s f =
    let p : NoLonger P bytes w = f bytes a.1 s.1 in
    record { spells = (refl, p.spells); shorter = omega (arith, p.shorter) }

-- a thing of two parts, and one of three
module _ {X Y Z : Type 0} {S : List ℕ → Y → Type 0} {T : List ℕ → Z → Type 0} {f : Y → List ℕ} {g : Z → List ℕ} (p : X → Y) (q : X → Z) (d : IsShortest S f) (e : IsShortest T g) where
  pub pair_shortest : IsShortest (λ bytes x. Joined (λ a. S a (p x)) (λ b. T b (q x)) bytes) (λ x. f (p x) ++ g (q x))
  pair_shortest bytes x a s = joined_shortest bytes (f (p x)) (g (q x)) a s (λ b. d s.front (p x) b s.first) (λ b. e s.back (q x) b s.second)

  pub triple_shortest : {W : Type 0} {U : List ℕ → W → Type 0} {h : W → List ℕ} (r : X → W) → IsShortest U h →
      IsShortest (λ bytes x. Joined (λ a. U a (r x)) (Joined (λ a. S a (p x)) (λ b. T b (q x))) bytes) (λ x. h (r x) ++ f (p x) ++ g (q x))
  triple_shortest {W} {U} {h} r u bytes x a s =
      subst (λ w. NoLonger (Joined (λ a. U a (r x)) (Joined (λ a. S a (p x)) (λ b. T b (q x)))) bytes w) (sym (append_assoc (h (r x)) (f (p x)) (g (q x))))
      (joined_shortest bytes (h (r x)) (f (p x) ++ g (q x)) a s (λ b. u s.front (r x) b s.first) (λ b. pair_shortest s.back x b s.second))

module _ {X : Type 0} {S : List ℕ → X → Type 0} {written : X → List ℕ} (e : IsShortest S written) where
  pub each_shortest : IsShortest (SpellsEach S) (flat_map written)
  each_shortest bytes [] a s = fixed bytes [] s
  each_shortest bytes (x ∷ xs) a s = joined_shortest bytes (written x) (flat_map written xs) a s (λ b. e s.front x b s.first) (λ b. each_shortest s.back xs b s.second)

  pub vec_shortest : IsShortest (SpellsVec S) (canon_vec written)
  vec_shortest = pair_shortest (λ xs. length xs) (λ xs. xs) u32_is each_shortest

pub bytes_shortest : IsShortest SpellsBytes canon_bytes
bytes_shortest = pair_shortest (λ c. length c) (λ c. c) u32_is (λ bytes content a s. fixed bytes content s)

pub name_shortest : IsShortest SpellsName canon_bytes
name_shortest bytes name a s = let p = bytes_shortest bytes name a s.0 in record { spells = (p.spells, s.1); shorter = p.shorter }

-- a content that is no longer has no longer size
pub content_shortest : (bytes content v : List ℕ) → AreBytes bytes → SpellsBytes bytes content → length v ≤ length content → NoLonger (λ a. SpellsBytes a v) bytes (canon_bytes v)
content_shortest bytes content v a s l =
    let b = bytes_split s.front s.back (subst AreBytes s.parts a) in
    let p = u32_shortest s.front (length content) (length v) b.0 s.first l in
    record {
      spells = record { front = shortest_unsigned (length v); back = v; parts = refl; first = p.spells; second = refl };
      shorter = omega (arith, l, p.shorter, ap length s.parts, ap length s.second, length-append s.front s.back, length-append (shortest_unsigned (length v)) v);
    }

-- the content of bytes are bytes
pub content_bytes : (bytes content : List ℕ) → AreBytes bytes → SpellsBytes bytes content → AreBytes content
content_bytes bytes content a s = subst AreBytes s.second (bytes_split s.front s.back (subst AreBytes s.parts a)).1

pub sized_shortest : {P : List ℕ → Type 0} (bytes v : List ℕ) → AreBytes bytes → Sized P bytes → ((content : List ℕ) → AreBytes content → P content → NoLonger P content v) → NoLonger (Sized P) bytes (canon_bytes v)
sized_shortest {P} bytes v a s f =
    let p : NoLonger P s.0 v = f s.0 (content_bytes bytes s.0 a s.1) s.2 in
    let q = content_shortest bytes s.0 v a s.1 p.shorter in
    record { spells = (v, q.spells, p.spells); shorter = q.shorter }
