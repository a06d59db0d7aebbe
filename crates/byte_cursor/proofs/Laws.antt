-- Reading a number from a list and the grammar of numbers say the same.
use Rattle.std.proofs.Common.{◌≡◌, ◌⊎◌, ℕ, ◌+◌, ◌-◌, ◌*◌, ◌<◌, ◌≤◌, Bool, true, false, cond, List, [], ◌∷◌, ◌++◌, length, get_or, take, drop, Option, Some, None, Result, Ok, Err, refl, sym, ap, subst, ◌∙◌, arith, inl, inr}
use Rattle.std.specs.List.{AllByRecursion}
use Rattle.std.proofs.lemmas.Bool.{cases_lt, lt-ltb, le-ltb}
use Rattle.std.proofs.lemmas.List.{append_cancel_right, take_all}
use Rattle.byte_cursor.specs.declared.leb.CursorFault.{CursorFault}
use Rattle.byte_cursor.specs.declared.leb.CursorFault.TheVariants.{End, TooLong}
use Rattle.byte_cursor.specs.Integers.{Spells, BeginsWith, RunsOut, IsTooLong}
use Rattle.byte_cursor.specs.ReadNumbers.{Gives, and_then, last_at, number_at}
use Rattle.std.specs.Prelude.{IfOk, ◌↔◌}

-- which way a test went
pub chosen : {A : Type 0} (b : Bool) (x y z : A) → cond b x y ≡ z → ((b ≡ true) × (x ≡ z)) ⊎ ((b ≡ false) × (y ≡ z))
chosen true x y z e = inl (refl, e)
chosen false x y z e = inr (refl, e)

abbrev done : {A : Type 0} → A → Result A CursorFault
done x = Ok x

ok_is : {A : Type 0} (x y : A) → done x ≡ done y → x ≡ y
ok_is x y e = cc

-- the fault that reading gives is the one that was answered
fault_of : {N : Type 0} (r : Result N CursorFault) (old new : List ℕ) (read : Result (N × List ℕ) CursorFault) (d : CursorFault) → Gives (λ n. n) r old new read → (r ≡ Err d → read ≡ Err d) × (read ≡ Err d → r ≡ Err d)
fault_of (Ok m) old new read d h = (λ e. absurd cc, λ e. absurd (let f : done (m, new) ≡ Err d = sym h ∙ e in cc))
fault_of (Err a) old new read d h = (λ e. let p : a ≡ d = cc in h.0 ∙ ap Err p, λ e. let f : Err a ≡ Err d = sym h.0 ∙ e in cc)

abbrev nothing : List ℕ
nothing = []

module _ {N : Type 0} (last : ℕ → ℕ → Option N) (joined : ℕ → N → N) where
  -- a byte that goes on in front of a number
  goes_on : (bits b : ℕ) (bytes : List ℕ) (m : N) → 128 ≤ b → 7 < bits → Spells last joined (bits - 7) bytes m → Spells last joined bits (b ∷ bytes) (joined b m)
  goes_on bits b [] m high more s = absurd s
  goes_on bits b (c ∷ bytes) m high more s = (high, more, m, s, refl)

  -- the first byte is wrong
  here : (bits b : ℕ) (bytes : List ℕ) → 0 < bits → ((128 ≤ b) × (bits ≤ 7)) ⊎ ((b < 128) × (last bits b ≡ None)) → IsTooLong last bits (b ∷ bytes)
  here bits b bytes pos wrong =
      let all : bits ≡ bits - 7 * length nothing = omega arith in
      record {
        before = nothing;
        byte = b;
        rest = bytes;
        parts = refl;
        go_on = tt;
        allowed = omega arith;
        wrong = elim wrong [ inl w ↦ inl (w.0, omega (arith, w.1)) | inr w ↦ inr (w.0, subst (λ (k : ℕ). last k b ≡ None) all w.1) ];
      }

  -- one byte that goes on stands in front of the wrong one
  longer : (bits b : ℕ) (bytes : List ℕ) → 128 ≤ b → 7 < bits → IsTooLong last (bits - 7) bytes → IsTooLong last bits (b ∷ bytes)
  longer bits b bytes high more h =
      let allowed : 7 * length h.before < bits - 7 = h.allowed in
      let left : bits - 7 - 7 * length h.before ≡ bits - 7 * length (b ∷ h.before) = omega arith in
      record {
        before = b ∷ h.before;
        byte = h.byte;
        rest = h.rest;
        parts = ap (λ (x : List ℕ). b ∷ x) h.parts;
        go_on = (high, h.go_on);
        allowed = omega arith;
        wrong = elim h.wrong [
          | inl w ↦ let le : bits - 7 ≤ 7 * length h.before + 7 = w.1 in inl (w.0, omega arith)
          | inr w ↦ inr (w.0, subst (λ (k : ℕ). last k h.byte ≡ None) left w.1)
        ];
      }

  -- what the grammar says of bytes, by what is read from them
  abbrev Told : ℕ → List ℕ → Result (N × List ℕ) CursorFault → Type 0
  Told bits bytes (Ok x) = BeginsWith (Spells last joined bits) bytes x.0 x.1
  Told bits bytes (Err End) = 0 < bits → RunsOut bits bytes
  Told bits bytes (Err TooLong) = 0 < bits → IsTooLong last bits bytes

  at_last : (bits b : ℕ) (bytes : List ℕ) → b < 128 → (o : Option N) → last bits b ≡ o → Told bits (b ∷ bytes) (last_at o bytes)
  at_last bits b bytes low (Some n) e = (b ∷ [], (low, e), refl)
  at_last bits b bytes low None e = λ pos. here bits b bytes pos (inr (low, e))

  further : (bits b : ℕ) (bytes : List ℕ) → 128 ≤ b → 7 < bits → (r : Result (N × List ℕ) CursorFault) → Told (bits - 7) bytes r → Told bits (b ∷ bytes) (and_then r (λ m. Ok (joined b m.0, m.1)))
  further bits b bytes high more (Ok m) h = (b ∷ h.0, goes_on bits b h.0 m.0 high more h.1, ap (λ (x : List ℕ). b ∷ x) h.2)
  further bits b bytes high more (Err End) h = λ pos. let runs : RunsOut (bits - 7) bytes = h (omega arith) in (omega (arith, runs.0), (high, runs.1))
  further bits b bytes high more (Err TooLong) h = λ pos. longer bits b bytes high more (h (omega arith))

  told : (bits : ℕ) (bytes : List ℕ) → Told bits bytes (number_at last joined bits bytes)
  told bits [] = λ pos. (omega arith, tt)
  told bits (b ∷ bytes) = elim (cases_lt b 128) [
    | inl low ↦ rw (lt-ltb b 128 low) (at_last bits b bytes low (last bits b) refl)
    | inr high ↦ elim (cases_lt 7 bits) [
      | inl more ↦ rw (le-ltb b 128 high, lt-ltb 7 bits more) (further bits b bytes high more (number_at last joined (bits - 7) bytes) (told (bits - 7) bytes))
      | inr few ↦ rw (le-ltb b 128 high, le-ltb 7 bits few) (λ pos. here bits b bytes pos (inl (high, few)))
    ]
  ]

  -- what is read is spelled at the front
  pub number_takes : (bits : ℕ) (bytes : List ℕ) (n : N) (rest : List ℕ) → number_at last joined bits bytes ≡ Ok (n, rest) → BeginsWith (Spells last joined bits) bytes n rest
  number_takes bits bytes n rest e = subst (Told bits bytes) e (told bits bytes)

  -- what is spelled is read, whatever follows
  pub number_again : (bits : ℕ) (front : List ℕ) (n : N) (rest : List ℕ) → Spells last joined bits front n → number_at last joined bits (front ++ rest) ≡ Ok (n, rest)
  number_again bits [] n rest s = absurd s
  number_again bits (b ∷ []) n rest s = rw (lt-ltb b 128 s.0, s.1) refl
  number_again bits (b ∷ c ∷ bytes) n rest s =
      rw (le-ltb b 128 s.0, lt-ltb 7 bits s.1, number_again (bits - 7) (c ∷ bytes) s.2 rest s.3) (ap (λ (v : N). done (v, rest)) (sym s.4))

  pub one_form : (bits : ℕ) (a b x y : List ℕ) (m n : N) → Spells last joined bits a m → Spells last joined bits b n → a ++ x ≡ b ++ y → (a ≡ b) × (m ≡ n)
  one_form bits a b x y m n p q e =
      let same = ok_is (m, x) (n, y) (sym (number_again bits a m x p) ∙ (ap (number_at last joined bits) e ∙ number_again bits b n y q)) in
      let rests : x ≡ y = ap (λ (v : N × List ℕ). v.1) same in
      (append_cancel_right a b y (subst (λ (r : List ℕ). a ++ r ≡ b ++ y) rests e), ap (λ (v : N × List ℕ). v.0) same)

  -- a number that goes on from the first byte
  pub reads_on : (bits : ℕ) (bytes : List ℕ) (m : N) (rest : List ℕ) → 1 ≤ length bytes → 128 ≤ get_or bytes 0 0 → 7 < bits
      → number_at last joined (bits - 7) (take (length bytes - 1) (drop 1 bytes)) ≡ Ok (m, rest) → number_at last joined bits bytes ≡ Ok (joined (get_or bytes 0 0) m, rest)
  reads_on bits [] m rest some high more e = absurd (omega arith)
  reads_on bits (b ∷ bytes) m rest some high more e =
      let whole : take (length (b ∷ bytes) - 1) (drop 1 (b ∷ bytes)) ≡ bytes = take_all (length (b ∷ bytes) - 1) bytes (omega arith) in
      let h : number_at last joined (bits - 7) bytes ≡ Ok (m, rest) = subst (λ (x : List ℕ). number_at last joined (bits - 7) x ≡ done (m, rest)) whole e in
      rw (le-ltb b 128 high, lt-ltb 7 bits more, h) refl

  end_again : (bits : ℕ) (bytes : List ℕ) → RunsOut bits bytes → number_at last joined bits bytes ≡ Err End
  end_again bits [] r = refl
  end_again bits (b ∷ bytes) r =
      let few : 7 * length (b ∷ bytes) < bits = r.0 in
      rw (le-ltb b 128 r.1.0, lt-ltb 7 bits (omega arith), end_again (bits - 7) bytes (omega arith, r.1.1)) refl

  too_long_at : (bits : ℕ) (before : List ℕ) (b : ℕ) (rest : List ℕ) → AllByRecursion (λ b. 128 ≤ b) before → 7 * length before < bits
      → ((128 ≤ b) × (bits ≤ 7 * length before + 7)) ⊎ ((b < 128) × (last (bits - 7 * length before) b ≡ None)) → number_at last joined bits (before ++ b ∷ rest) ≡ Err TooLong
  too_long_at bits [] b rest go_on allowed wrong =
      elim wrong [
        | inl w ↦ rw (le-ltb b 128 w.0, le-ltb 7 bits w.1) refl
        | inr w ↦
            let all : bits - 7 * length nothing ≡ bits = omega arith in
            rw (lt-ltb b 128 w.0, subst (λ (k : ℕ). last k b ≡ None) all w.1) refl
      ]
  too_long_at bits (a ∷ before) b rest go_on allowed wrong =
      let few : 7 * length before + 7 < bits = omega arith in
      let left : bits - 7 * length (a ∷ before) ≡ bits - 7 - 7 * length before = omega arith in
      let ih = too_long_at (bits - 7) before b rest go_on.1 (omega arith) (elim wrong [
        | inl w ↦ inl (w.0, omega (arith, w.1))
        | inr w ↦ inr (w.0, subst (λ (k : ℕ). last k b ≡ None) left w.1)
      ]) in
      rw (le-ltb a 128 go_on.0, lt-ltb 7 bits (omega arith), ih) refl

  number_of : (bits : ℕ) (r : Result N CursorFault) (old new : List ℕ) → Gives (λ n. n) r old new (number_at last joined bits old) → IfOk r (λ n. BeginsWith (Spells last joined bits) old n new)
  number_of bits (Ok n) old new h = number_takes bits old n new h
  number_of bits (Err e) old new h = tt

  only_of : (bits : ℕ) (r : Result N CursorFault) (old new : List ℕ) → Gives (λ n. n) r old new (number_at last joined bits old) → (n : N) (rest : List ℕ) → BeginsWith (Spells last joined bits) old n rest → (r ≡ Ok n) × (new ≡ rest)
  only_of bits (Ok m) old new h n rest b =
      let p = ok_is (m, new) (n, rest) (sym h ∙ (ap (number_at last joined bits) b.2 ∙ number_again bits b.0 n rest b.1)) in
      (ap (λ (x : N × List ℕ). Ok x.0) p, ap (λ (x : N × List ℕ). x.1) p)
  only_of bits (Err e) old new h n rest b =
      absurd (let f : Err e ≡ done (n, rest) = sym h.0 ∙ (ap (number_at last joined bits) b.2 ∙ number_again bits b.0 n rest b.1) in cc)

  -- what a read that gives what the list gives has answered
  pub read_of : (bits : ℕ) (r : Result N CursorFault) (old new : List ℕ) → 0 < bits → Gives (λ n. n) r old new (number_at last joined bits old) →
      IfOk r (λ n. BeginsWith (Spells last joined bits) old n new)
      × ((n : N) (rest : List ℕ) → BeginsWith (Spells last joined bits) old n rest → (r ≡ Ok n) × (new ≡ rest))
      × ((r ≡ Err End) ↔ RunsOut bits old)
      × ((r ≡ Err TooLong) ↔ IsTooLong last bits old)
  read_of bits r old new pos h =
      let f = λ (d : CursorFault). fault_of r old new (number_at last joined bits old) d h in (
        number_of bits r old new h,
        only_of bits r old new h,
        (λ e. subst (Told bits old) ((f End).0 e) (told bits old) pos, λ runs. (f End).1 (end_again bits old runs)),
        (
          λ e. subst (Told bits old) ((f TooLong).0 e) (told bits old) pos,
          λ long. (f TooLong).1 (ap (number_at last joined bits) long.parts ∙ too_long_at bits long.before long.byte long.rest long.go_on long.allowed long.wrong),
        ),
      )
