-- What stands next in an image: what is read is what was written, and what was written is read again.
use Rattle.std.proofs.Common.{◌≡◌, ℕ, ◌+◌, ◌^◌, ◌<◌, ◌≤◌, false, cond, ltb, List, ◌++◌, length, take, drop, Result, Ok, Err, refl, sym, ap, ◌∙◌, append_assoc, arith, inl, inr, zero, suc, [], ◌∷◌, subst}
use Rattle.std.specs.Int.{Width, w16, w32, byte_len, from_le_bytes, to_le_bytes}
use Rattle.std.proofs.lemmas.Bool.{cases_lt, ltb-false, le-ltb}
use Rattle.std.proofs.lemmas.List.{take_at, drop_at, take-append-drop, length-append, length-take, get_or-append-add, get_or-take, get_or_past, append_cancel_left}
use Rattle.std.proofs.lemmas.Nat.{le_bytes_2, le_bytes_4, from_le_bytes-to_le_bytes_2, from_le_bytes-to_le_bytes_4}
use Rattle.std.specs.List.{flat_map, AllByRecursion}
use Rattle.std.proofs.lemmas.List.Concat.{flat_map-cons}
use Rattle.byte_cursor.specs.declared.leb.CursorFault.TheVariants.{End}
use Rattle.byte_cursor.specs.ReadNumbers.{fixed_at, span_at, and_then}
use Rattle.byte_cursor.specs.declared.leb.CursorFault.{CursorFault}
use Rattle.byte_cursor.proofs.Laws.{chosen}
use Rattle.boot_image.specs.Prelude.{sized_at, Next, Last, One, Other, directory_at, file_at, next_at, IsBytes, Entry, Content, Directory, File, path_bytes, file_bytes, entry_bytes, entries_bytes, Fits, magic, Spells}

abbrev done : {A : Type 0} → A → Result A CursorFault
done x = Ok x

ok_is : {A : Type 0} (x y : A) → done x ≡ done y → x ≡ y
ok_is x y e = cc

-- what is read behind something was read behind that
then_ok : {X Y : Type 0} (r : Result X CursorFault) (f : X → Result Y CursorFault) (y : Y) → and_then r f ≡ Ok y → (x : X) × (r ≡ Ok x) × (f x ≡ Ok y)
then_ok (Ok x) f y e = (x, refl, e)
then_ok (Err d) f y e = absurd cc

pub IsBytes-behind : (bytes front rest : List ℕ) → bytes ≡ front ++ rest → IsBytes bytes → IsBytes rest
IsBytes-behind bytes front rest e h i = rw (← get_or-append-add front rest i 0, ← e) (h (length front + i))

IsBytes-take : (n : ℕ) (bytes : List ℕ) → IsBytes bytes → IsBytes (take n bytes)
IsBytes-take n bytes h i =
    elim (cases_lt i n) [
      | inl lt ↦ rw (get_or-take n bytes i 0 lt) (h i)
      | inr le ↦ rw (get_or_past (take n bytes) i 0 (omega (arith, length-take n bytes))) (omega arith)
    ]

-- a front that was long enough, what it was read as, and the bytes behind it
fronted : {A : Type 0} (f : List ℕ → A) (n : ℕ) (bytes : List ℕ) (y : A × List ℕ) → cond (ltb (length bytes) n) (Err End) (Ok (f (take n bytes), drop n bytes)) ≡ Ok y → (n ≤ length bytes) × (f (take n bytes) ≡ y.0) × (drop n bytes ≡ y.1)
fronted f n bytes y e =
    elim (chosen (ltb (length bytes) n) (Err End) (Ok (f (take n bytes), drop n bytes)) (Ok y) e) [
      | inl t ↦ absurd (let fault = t.1 in let never : ⊥ = cc in never)
      | inr t ↦ let is = t.1 in (ltb-false (length bytes) n t.0, cc, cc)
    ]

-- a width and the numbers that it has
pub record IsWide (w : Width) (limit : ℕ) : Type 0 where
  pub len : (n : ℕ) → length (to_le_bytes w n) ≡ byte_len w
  pub back : (bytes : List ℕ) → length bytes ≡ byte_len w → IsBytes bytes → to_le_bytes w (from_le_bytes w bytes) ≡ bytes
  pub again : (n : ℕ) → n < limit → from_le_bytes w (to_le_bytes w n) ≡ n
  pub below : (bytes : List ℕ) → IsBytes bytes → from_le_bytes w bytes < limit

pub wide16 : IsWide w16 (2 ^ 16)
wide16 = record {
  len = λ n. refl;
  back = λ bytes len fits. le_bytes_2 bytes _ len fits refl;
  again = λ n lt. from_le_bytes-to_le_bytes_2 n lt;
  below = λ bytes fits. omega (arith, fits 0, fits 1);
}

pub wide32 : IsWide w32 (2 ^ 32)
wide32 = record {
  len = λ n. refl;
  back = λ bytes len fits. le_bytes_4 bytes _ len fits refl;
  again = λ n lt. from_le_bytes-to_le_bytes_4 n lt;
  below = λ bytes fits. omega (arith, fits 0, fits 1, fits 2, fits 3);
}

module _ (w : Width) (limit : ℕ) (wide : IsWide w limit) where
  pub sized_takes : (bytes text rest : List ℕ) → IsBytes bytes → sized_at w bytes ≡ Ok (text, rest) → (bytes ≡ (to_le_bytes w (length text) ++ text) ++ rest) × (length text < limit)
  unfolding sized_at
  sized_takes bytes text rest fits e =
      let b = then_ok (fixed_at w bytes) (λ n. span_at n.0 n.1) (text, rest) e in
      let front : List ℕ = take (byte_len w) bytes in
      let g = fronted (from_le_bytes w) (byte_len w) bytes b.0 b.1 in
      let h = fronted (λ l. l) b.0.0 b.0.1 (text, rest) b.2 in
      let fits_front = IsBytes-take (byte_len w) bytes fits in
      let len : length text ≡ from_le_bytes w front = rw (← h.1) (omega (arith, length-take b.0.0 b.0.1, g.1)) in
      let number : front ≡ to_le_bytes w (length text) = sym (ap (to_le_bytes w) len ∙ wide.back front (omega (arith, length-take (byte_len w) bytes)) fits_front) in
      let tail : drop (byte_len w) bytes ≡ text ++ rest = g.2 ∙ sym (take-append-drop b.0.0 b.0.1) ∙ (λ i. h.1 i ++ h.2 i) in
      (sym (take-append-drop (byte_len w) bytes) ∙ (λ i. number i ++ tail i) ∙ sym (append_assoc (to_le_bytes w (length text)) text rest), rw len (wide.below front fits_front))

  pub sized_again : (text rest : List ℕ) → length text < limit → sized_at w ((to_le_bytes w (length text) ++ text) ++ rest) ≡ Ok (text, rest)
  unfolding sized_at
  sized_again text rest lt =
      let n : List ℕ = to_le_bytes w (length text) in
      let len = wide.len (length text) in
      let wide_enough : ltb (length (n ++ (text ++ rest))) (byte_len w) ≡ false = le-ltb _ _ (omega (arith, length-append n (text ++ rest))) in
      let long : ltb (length (text ++ rest)) (length text) ≡ false = le-ltb _ _ (omega (arith, length-append text rest)) in
      ap (sized_at w) (append_assoc n text rest)
      ∙ rw (wide_enough, take_at n (text ++ rest) (byte_len w) len, drop_at n (text ++ rest) (byte_len w) len, wide.again (length text) lt, long, take_at text rest (length text) refl, drop_at text rest (length text) refl) refl

-- what the bytes are where this stands next
abbrev pub Stands : Next → List ℕ → List ℕ → Type 0
Stands Last bytes rest = bytes ≡ 0 ∷ rest
Stands (One entry) bytes rest = (bytes ≡ entry_bytes entry ++ rest) × Fits entry
Stands Other bytes rest = Unit {0}

directory_takes : (bytes : List ℕ) (x : Next × List ℕ) → IsBytes bytes → directory_at bytes ≡ Ok x → Stands x.0 (1 ∷ bytes) x.1
unfolding directory_at
directory_takes bytes x fits e =
    let a = then_ok (sized_at w16 bytes) (λ path. Ok (One (record { path = path.0; content = Directory }), path.1)) x e in
    let t = sized_takes w16 (2 ^ 16) wide16 bytes a.0.0 a.0.1 fits a.1 in
    subst (λ (y : Next × List ℕ). Stands y.0 (1 ∷ bytes) y.1) (ok_is (One (record { path = a.0.0; content = Directory }), a.0.1) x a.2) (ap (λ (b : List ℕ). 1 ∷ b) t.0, record { path = t.1; content = tt })

file_takes : (bytes : List ℕ) (x : Next × List ℕ) → IsBytes bytes → file_at bytes ≡ Ok x → Stands x.0 (2 ∷ bytes) x.1
unfolding file_at
file_takes bytes x fits e =
    let a = then_ok (sized_at w16 bytes) (λ path. and_then (sized_at w32 path.1) (λ file. Ok (One (record { path = path.0; content = File file.0 }), file.1))) x e in
    let b = then_ok (sized_at w32 a.0.1) (λ file. Ok (One (record { path = a.0.0; content = File file.0 }), file.1)) x a.2 in
    let t = sized_takes w16 (2 ^ 16) wide16 bytes a.0.0 a.0.1 fits a.1 in
    let u = sized_takes w32 (2 ^ 32) wide32 a.0.1 b.0.0 b.0.1 (IsBytes-behind bytes (path_bytes a.0.0) a.0.1 t.0 fits) b.1 in
    subst (λ (y : Next × List ℕ). Stands y.0 (2 ∷ bytes) y.1) (ok_is (One (record { path = a.0.0; content = File b.0.0 }), b.0.1) x b.2) (
      ap (λ (b : List ℕ). 2 ∷ b) (t.0 ∙ ap (λ (l : List ℕ). path_bytes a.0.0 ++ l) u.0) ∙ ap (λ (b : List ℕ). 2 ∷ b) (sym (append_assoc (path_bytes a.0.0) (file_bytes b.0.0) b.0.1)),
      record { path = t.1; content = u.1 },
    )

-- what is read stands there
pub next_takes : (bytes : List ℕ) (x : Next × List ℕ) → IsBytes bytes → next_at bytes ≡ Ok x → Stands x.0 bytes x.1
unfolding next_at
next_takes [] x fits e = absurd cc
next_takes (zero ∷ bytes) x fits e = subst (λ (y : Next × List ℕ). Stands y.0 (0 ∷ bytes) y.1) (ok_is (Last, bytes) x e) refl
next_takes (suc zero ∷ bytes) x fits e = directory_takes bytes x (IsBytes-behind (1 ∷ bytes) (1 ∷ []) bytes refl fits) e
next_takes (suc (suc zero) ∷ bytes) x fits e = file_takes bytes x (IsBytes-behind (2 ∷ bytes) (2 ∷ []) bytes refl fits) e
next_takes (suc (suc (suc b)) ∷ bytes) x fits e = subst (λ (y : Next × List ℕ). Stands y.0 (suc (suc (suc b)) ∷ bytes) y.1) (ok_is (Other, bytes) x e) tt

again : (path : List ℕ) (content : Content) (rest : List ℕ) → Fits (record { path = path; content = content }) → next_at (entry_bytes (record { path = path; content = content }) ++ rest) ≡ Ok (One (record { path = path; content = content }), rest)
unfolding next_at directory_at file_at
again path Directory rest fits = rw (sized_again w16 (2 ^ 16) wide16 path rest fits.path) refl
again path (File bytes) rest fits =
    ap (λ (b : List ℕ). next_at (2 ∷ b)) (append_assoc (path_bytes path) (file_bytes bytes) rest)
    ∙ rw (sized_again w16 (2 ^ 16) wide16 path (file_bytes bytes ++ rest) fits.path, sized_again w32 (2 ^ 32) wide32 bytes rest fits.content) refl

pub behind_first : (entry : Entry) (entries : List Entry) → entries_bytes (entry ∷ entries) ≡ entry_bytes entry ++ entries_bytes entries
behind_first entry entries = ap (λ (b : List ℕ). b ++ 0 ∷ []) (flat_map-cons entry_bytes entry entries) ∙ append_assoc (entry_bytes entry) (flat_map entry_bytes entries) (0 ∷ [])

-- the first of the entries, and what is left behind it
abbrev pub first_of : List Entry → Next × List ℕ
first_of [] = (Last, [])
first_of (entry ∷ entries) = (One entry, entries_bytes entries)

-- entries that were written are read again
pub next_again : (entries : List Entry) → AllByRecursion Fits entries → next_at (entries_bytes entries) ≡ Ok (first_of entries)
unfolding next_at
next_again [] fit = refl
next_again (entry ∷ entries) fit = ap next_at (behind_first entry entries) ∙ again entry.path entry.content (entries_bytes entries) (record { path = fit.0.path; content = fit.0.content })

-- ---- bytes spell one list of entries

entries_once : (a b : List Entry) → AllByRecursion Fits a → AllByRecursion Fits b → entries_bytes a ≡ entries_bytes b → a ≡ b
entries_once a b p q e = by a b p q (ok_is (first_of a) (first_of b) (sym (next_again a p) ∙ ap next_at e ∙ next_again b q))
  where
    by : (a b : List Entry) → AllByRecursion Fits a → AllByRecursion Fits b → first_of a ≡ first_of b → a ≡ b
    by [] [] p q same = refl
    by [] (y ∷ b) p q same = absurd (let next = ap (λ (n : Next × List ℕ). n.0) same in let never : ⊥ = cc in never)
    by (x ∷ a) [] p q same = absurd (let next = ap (λ (n : Next × List ℕ). n.0) same in let never : ⊥ = cc in never)
    by (x ∷ a) (y ∷ b) p q same =
        let first : x ≡ y = let next = ap (λ (n : Next × List ℕ). n.0) same in cc in
        let rest = by a b p.1 q.1 (ok_is (first_of a) (first_of b) (sym (next_again a p.1) ∙ ap (λ (n : Next × List ℕ). next_at n.1) same ∙ next_again b q.1)) in
        λ i. first i ∷ rest i

pub one_list : (bytes : List ℕ) (a b : List Entry) → Spells bytes a → Spells bytes b → a ≡ b
one_list bytes a b p q = entries_once a b p.fit q.fit (append_cancel_left magic (entries_bytes a) (entries_bytes b) (sym p.are ∙ q.are))
