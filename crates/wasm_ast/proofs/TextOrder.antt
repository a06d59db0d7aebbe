-- The lists of a sequence that are numbered in the order of the text.
use Rattle.std.proofs.Common.{◌≡◌, ℕ, zero, suc, ◌+◌, ◌<◌, ◌≤◌, List, [], ◌∷◌, ◌++◌, length, map, get_or, drop, slice_get, Option, Some, None, refl, sym, ◌∙◌, ap, subst, arith, ⊎_elim, length-append, append_assoc}
use Rattle.std.proofs.Math.ListN.{get_or-map}
use Rattle.std.proofs.lemmas.List.{append-nil, map-append, get_or-append_right, drop_more, drop_all}
use Rattle.std.proofs.lemmas.Option.{slice_get_within, get_or_from_slice_get, slice_get-get_or}
use Rattle.std.proofs.lemmas.Bool.{cases_lt}
use Rattle.wasm_ast.specs.declared.types.ValType.{ValType}
use Rattle.wasm_ast.specs.declared.instr.{Instr.Instr, BlockKind.BlockKind}
use Rattle.wasm_ast.specs.declared.instr.Instr.TheVariants as instr
use Rattle.wasm_ast.specs.declared.instr.BlockKind.TheVariants as kind
use Rattle.wasm_ast.specs.Sequence.{Sequence, Empty, Plain, Block, If}
use Rattle.wasm_ast.specs.Numbering.{list_at, InstrNames, ListNames, in_front, sequence, within, nested, count, block_instr, own_list, inner_lists, lists_of}
use Rattle.wasm_ast.specs.Built.{NamesNone}
use Rattle.wasm_ast.specs.Position.{inner_sequences, sequence_at, behind, IsInstrAt, IsList}
use Rattle.wasm_ast.proofs.NumberingLemmas.{sequence-agree, list_names, past_end}

-- each instruction that stands without inner instructions names no list
abbrev pub AllPlain : Sequence → Type 0
AllPlain Empty = Unit {0}
AllPlain (Plain i rest) = NamesNone i × AllPlain rest
AllPlain (Block k of body rest) = AllPlain body × AllPlain rest
AllPlain (If of then otherwise rest) = AllPlain then × AllPlain otherwise × AllPlain rest

front_plain : (F : ℕ → Sequence) (i : Instr) (s : Sequence) → ((n : ℕ) → AllPlain (F n)) → AllPlain s → AllPlain (in_front F i s)
front_plain F (instr.Block of body) s h k = (h body, k)
front_plain F (instr.Loop of body) s h k = (h body, k)
front_plain F (instr.If of then otherwise) s h k = (h then, h otherwise, k)
front_plain F _ s h k = (tt, k)

pub sequence_plain : (F : ℕ → Sequence) (is : List Instr) → ((n : ℕ) → AllPlain (F n)) → AllPlain (sequence F is)
sequence_plain F [] h = tt
sequence_plain F (i ∷ is) h = front_plain F i (sequence F is) h (sequence_plain F is h)

within_plain : (lists : List (List Instr)) (d n : ℕ) → AllPlain (within lists d n)
unfolding within
within_plain lists zero n = tt
within_plain lists (suc d) n = sequence_plain (within lists d) (list_at lists n) (within_plain lists d)

pub nested_plain : (lists : List (List Instr)) (n : ℕ) → AllPlain (nested lists n)
unfolding nested
nested_plain lists n = within_plain lists (length lists) n

-- how many there are
pub length-inner_lists : (n : ℕ) (s : Sequence) → length (inner_lists n s) ≡ count s
length-inner_lists n Empty = refl
length-inner_lists n (Plain i rest) = length-inner_lists n rest
length-inner_lists n (Block k of body rest) =
    omega (arith, length-append (inner_lists (n + 1) body) (inner_lists (n + (1 + count body)) rest), length-inner_lists (n + 1) body, length-inner_lists (n + (1 + count body)) rest)
length-inner_lists n (If of then otherwise rest) =
    let a = length-inner_lists (n + 1) then in
    let b = length-inner_lists (n + (2 + count then)) otherwise in
    let c = length-inner_lists (n + (2 + count then + count otherwise)) rest in
    simp length-append (omega arith)

pub length-inner_sequences : (s : Sequence) → length (inner_sequences s) ≡ count s
length-inner_sequences Empty = refl
length-inner_sequences (Plain i rest) = length-inner_sequences rest
length-inner_sequences (Block k of body rest) = omega (arith, length-append (inner_sequences body) (inner_sequences rest), length-inner_sequences body, length-inner_sequences rest)
length-inner_sequences (If of then otherwise rest) =
    let a = length-inner_sequences then in
    let b = length-inner_sequences otherwise in
    let c = length-inner_sequences rest in
    simp length-append (omega arith)

-- F is the sequence of each of the inner lists, which are numbered from n on
abbrev pub Agrees : (ℕ → Sequence) → ℕ → Sequence → Type 0
Agrees F n Empty = Unit {0}
Agrees F n (Plain i rest) = Agrees F n rest
Agrees F n (Block k of body rest) = (F n ≡ body) × Agrees F (n + 1) body × Agrees F (n + (1 + count body)) rest
Agrees F n (If of then otherwise rest) =
    (F n ≡ then) × Agrees F (n + 1) then × (F (n + (1 + count then)) ≡ otherwise) × Agrees F (n + (2 + count then)) otherwise × Agrees F (n + (2 + count then + count otherwise)) rest

pub in_front_plain : (F : ℕ → Sequence) (i : Instr) (s : Sequence) → NamesNone i → in_front F i s ≡ Plain i s
in_front_plain F (instr.Block of body) s h = absurd h
in_front_plain F (instr.Loop of body) s h = absurd h
in_front_plain F (instr.If of then otherwise) s h = absurd h
in_front_plain F _ s h = refl

block_front : (F : ℕ → Sequence) (k : BlockKind) (of : Option ValType) (n : ℕ) (s : Sequence) → in_front F (block_instr k of n) s ≡ Block k of (F n) s
block_front F kind.Block of n s = refl
block_front F kind.Loop of n s = refl

-- the sequence of a sequence's own list is that sequence
pub own-sequence : (F : ℕ → Sequence) (n : ℕ) (s : Sequence) → AllPlain s → Agrees F n s → sequence F (own_list n s) ≡ s
own-sequence F n Empty p a = refl
own-sequence F n (Plain i rest) p a = in_front_plain F i (sequence F (own_list n rest)) p.0 ∙ ap (λ r. Plain i r) (own-sequence F n rest p.1 a)
own-sequence F n (Block k of body rest) p a =
    block_front F k of n (sequence F (own_list (n + (1 + count body)) rest)) ∙ ap (λ b. Block k of b (sequence F (own_list (n + (1 + count body)) rest))) a.0 ∙ ap (λ r. Block k of body r) (own-sequence F (n + (1 + count body)) rest p.1 a.2)
own-sequence F n (If of then otherwise rest) p a = let e = own-sequence F (n + (2 + count then + count otherwise)) rest p.2 a.4 in let f = a.0 in let g = a.2 in cc

-- those of its inner lists are its inner sequences
pub inner-sequences : (F : ℕ → Sequence) (n : ℕ) (s : Sequence) → AllPlain s → Agrees F n s → map (sequence F) (inner_lists n s) ≡ inner_sequences s
inner-sequences F n Empty p a = refl
inner-sequences F n (Plain i rest) p a = inner-sequences F n rest p.1 a
inner-sequences F n (Block k of body rest) p a =
    rw (map-append, own-sequence F (n + 1) body p.0 a.1, inner-sequences F (n + 1) body p.0 a.1, inner-sequences F (n + (1 + count body)) rest p.1 a.2) refl
inner-sequences F n (If of then otherwise rest) p a =
    let m = n + (2 + count then) in
    let first = inner-sequences F (n + 1) then p.0 a.1 in
    let second = inner-sequences F m otherwise p.1 a.3 in
    rw (map-append, map-append, own-sequence F (n + 1) then p.0 a.1, first, own-sequence F m otherwise p.1 a.3, second, inner-sequences F (n + (2 + count then + count otherwise)) rest p.2 a.4) refl

at_front : (front back : List Sequence) (s : Sequence) (n : ℕ) → length front ≡ n → get_or (front ++ s ∷ back) n Empty ≡ s
at_front front back s n h = get_or-append_right front (s ∷ back) n n Empty h (omega arith) ∙ ap (λ k. get_or (s ∷ back) k Empty) {y = 0} (omega arith)

-- the sequences of a list that holds these inner ones from n on
pub holds-agrees : (front back : List Sequence) (n : ℕ) (s : Sequence) (xs : List Sequence) → length front ≡ n → xs ≡ front ++ (inner_sequences s ++ back) → Agrees (λ m. get_or xs m Empty) n s
holds-agrees front back n Empty xs h e = tt
holds-agrees front back n (Plain i rest) xs h e = holds-agrees front back n rest xs h e
holds-agrees front back n (Block k of body rest) xs h e =
    let first = front ++ body ∷ [] in
    let second = first ++ inner_sequences body in (
      ap (λ ys. get_or ys n Empty) e ∙ at_front front ((inner_sequences body ++ inner_sequences rest) ++ back) body n h,
      holds-agrees first (inner_sequences rest ++ back) (n + 1) body xs (simp length-append (omega arith)) (e ∙ simp append_assoc),
      holds-agrees second back (n + (1 + count body)) rest xs (simp (length-append, length-inner_sequences) (omega arith)) (e ∙ simp append_assoc),
    )
holds-agrees front back n (If of then otherwise rest) xs h e =
    let first = front ++ then ∷ [] in
    let second = first ++ inner_sequences then in
    let third = second ++ otherwise ∷ [] in
    let fourth = third ++ inner_sequences otherwise in
    let long : length second ≡ n + (1 + count then) = simp (length-append, length-inner_sequences) (omega arith) in
    let parts : xs ≡ second ++ otherwise ∷ ((inner_sequences otherwise ++ inner_sequences rest) ++ back) = e ∙ simp append_assoc in (
      ap (λ ys. get_or ys n Empty) e ∙ at_front front ((inner_sequences then ++ (otherwise ∷ inner_sequences otherwise ++ inner_sequences rest)) ++ back) then n h,
      holds-agrees first ((otherwise ∷ inner_sequences otherwise ++ inner_sequences rest) ++ back) (n + 1) then xs (simp length-append (omega arith)) (e ∙ simp append_assoc),
      ap (λ ys. get_or ys (n + (1 + count then)) Empty) parts ∙ at_front second ((inner_sequences otherwise ++ inner_sequences rest) ++ back) otherwise (n + (1 + count then)) long,
      holds-agrees third (inner_sequences rest ++ back) (n + (2 + count then)) otherwise xs (simp (length-append, length-inner_sequences) (omega arith)) (e ∙ simp append_assoc),
      holds-agrees fourth back (n + (2 + count then + count otherwise)) rest xs (simp (length-append, length-inner_sequences) (omega arith)) (e ∙ simp append_assoc),
    )

-- by its number, the sequence of a list is that of its instructions
pub list-sequence : (s : Sequence) → AllPlain s → (n : ℕ) → sequence (λ m. get_or (inner_sequences s) m Empty) (list_at (inner_lists 0 s) n) ≡ get_or (inner_sequences s) n Empty
list-sequence s p n =
    let all = inner_sequences s in
    sym (get_or-map (sequence (λ m. get_or all m Empty)) (inner_lists 0 s) n [])
    ∙ ap (λ xs. get_or xs n Empty) (inner-sequences (λ m. get_or all m Empty) 0 s p (holds-agrees [] [] 0 s all refl (sym (append-nil all))))

-- the same with the sequence itself as number 0
pub lists-sequence : (s : Sequence) → AllPlain s → (n : ℕ) → sequence (sequence_at s) (list_at (lists_of s) n) ≡ sequence_at s n
lists-sequence s p n =
    let F = λ (xs : List Sequence) (m : ℕ). get_or (s ∷ xs) m Empty in
    let same = ap F (append-nil (inner_sequences s)) in
    ap (λ (G : ℕ → Sequence). sequence G (list_at (lists_of s) n)) (sym same) ∙ ap (λ ls. sequence (F (inner_sequences s ++ [])) (list_at (own_list 1 s ∷ ls) n)) (sym (append-nil (inner_lists 1 s)))
    ∙ list-sequence (Block kind.Block None s Empty) (p, tt) n ∙ ap (λ (G : ℕ → Sequence). G n) same

-- Inner lists have greater numbers.
abbrev pub Within : ℕ → ℕ → ℕ → Type 0
Within low high m = (low < m) × (m < high)

-- the lists, which are numbered from n on, name lists behind themselves and before top
abbrev pub InnerNames : ℕ → ℕ → List (List Instr) → Type 0
InnerNames top n [] = Unit {0}
InnerNames top n (is ∷ lists) = ListNames (Within n top) is × InnerNames top (n + 1) lists

plain_names : (P : ℕ → Type 0) (i : Instr) → NamesNone i → InstrNames P i
plain_names P (instr.Block of m) h = absurd h
plain_names P (instr.Loop of m) h = absurd h
plain_names P (instr.If of m n) h = absurd h
plain_names P _ h = tt

block_names : (P : ℕ → Type 0) (k : BlockKind) (of : Option ValType) (n : ℕ) → P n → InstrNames P (block_instr k of n)
block_names P kind.Block of n h = h
block_names P kind.Loop of n h = h

own_names : (low top n : ℕ) (s : Sequence) → AllPlain s → low < n → n + count s ≤ top → ListNames (Within low top) (own_list n s)
own_names low top n Empty p l h = tt
own_names low top n (Plain i rest) p l h = (plain_names (Within low top) i p.0, own_names low top n rest p.1 l h)
own_names low top n (Block k of body rest) p l h = (block_names (Within low top) k of n (l, omega arith), own_names low top (n + (1 + count body)) rest p.1 (omega arith) (omega arith))
own_names low top n (If of then otherwise rest) p l h =
    (((l, omega arith), (omega arith, omega arith)), own_names low top (n + (2 + count then + count otherwise)) rest p.2 (omega arith) (omega arith))

names_append : (top n m : ℕ) (xs ys : List (List Instr)) → n + length xs ≡ m → InnerNames top n xs → InnerNames top m ys → InnerNames top n (xs ++ ys)
names_append top n m [] ys e h k = subst (λ x. InnerNames top x ys) (omega arith) k
names_append top n m (x ∷ xs) ys e h k = (h.0, names_append top (n + 1) m xs ys (omega arith) h.1 k)

inner_names : (top n : ℕ) (s : Sequence) → AllPlain s → n + count s ≤ top → InnerNames top n (inner_lists n s)
inner_names top n Empty p h = tt
inner_names top n (Plain i rest) p h = inner_names top n rest p.1 h
inner_names top n (Block k of body rest) p h =
    let m = n + (1 + count body) in
    let l = length-inner_lists (n + 1) body in
    (own_names n top (n + 1) body p.0 (omega arith) (omega arith), names_append top (n + 1) m (inner_lists (n + 1) body) (inner_lists m rest) (omega arith) (inner_names top (n + 1) body p.0 (omega arith)) (inner_names top m rest p.1 (omega arith)))
inner_names top n (If of then otherwise rest) p h =
    let m = n + (2 + count then) in
    let k = n + (2 + count then + count otherwise) in
    let l = length-inner_lists (n + 1) then in
    let j = length-inner_lists m otherwise in (
      own_names n top (n + 1) then p.0 (omega arith) (omega arith),
      names_append top (n + 1) (n + (1 + count then)) (inner_lists (n + 1) then) (own_list m otherwise ∷ inner_lists m otherwise ++ inner_lists k rest) (omega arith) (inner_names top (n + 1) then p.0 (omega arith)) (
        own_names (n + (1 + count then)) top m otherwise p.1 (omega arith) (omega arith),
        names_append top ((n + (1 + count then)) + 1) k (inner_lists m otherwise) (inner_lists k rest) (omega arith)
            (subst (λ x. InnerNames top x (inner_lists m otherwise)) (omega arith) (inner_names top m otherwise p.1 (omega arith)))
            (inner_names top k rest p.2 (omega arith)),
      ),
    )

names_at : (top n : ℕ) (lists : List (List Instr)) → InnerNames top n lists → (j : ℕ) → ListNames (Within (n + j) top) (list_at lists j)
names_at top n [] h j = tt
names_at top n (is ∷ lists) h zero = list_names (Within n top) (Within (n + 0) top) is (λ m p. (omega (arith, p.0), p.1)) h.0
names_at top n (is ∷ lists) h (suc j) = list_names (Within ((n + 1) + j) top) (Within (n + suc j) top) (list_at lists j) (λ m p. (omega (arith, p.0), p.1)) (names_at top (n + 1) lists h.1 j)

-- each number that an instruction names is that of a later list
abbrev pub Later : List (List Instr) → Type 0
Later lists = (n : ℕ) → ListNames (Within n (length lists)) (list_at lists n)

pub inner_later : (s : Sequence) → AllPlain s → Later (inner_lists 0 s)
inner_later s p n =
    let l = length-inner_lists 0 s in
    list_names (Within (0 + n) (count s)) (Within n (length (inner_lists 0 s))) (list_at (inner_lists 0 s) n) (λ m q. (omega (arith, q.0), omega (arith, q.1, l))) (names_at (count s) 0 (inner_lists 0 s) (inner_names (count s) 0 s p (omega arith)) n)

-- what fits each list is the sequence of each
module _ (lists : List (List Instr)) (F : ℕ → Sequence) (later : Later lists) (fits : (n : ℕ) → sequence F (list_at lists n) ≡ F n) where
  within_is : (d n : ℕ) → length lists ≤ d + n → within lists d n ≡ F n
  unfolding within
  within_is zero n h = ap (sequence F) (sym (past_end lists n (omega arith))) ∙ fits n
  within_is (suc d) n h =
      sequence-agree (within lists d) F (list_at lists n)
      (list_names (Within n (length lists)) (λ m. within lists d m ≡ F m) (list_at lists n) (λ m p. within_is d m (omega (arith, p.0))) (later n))
      ∙ fits n

  pub nested_is : (n : ℕ) → nested lists n ≡ F n
  unfolding nested
  nested_is n = within_is (length lists) n (omega arith)

pub nested-inner_lists : (s : Sequence) → AllPlain s → (n : ℕ) → nested (inner_lists 0 s) n ≡ get_or (inner_sequences s) n Empty
nested-inner_lists s p n = nested_is (inner_lists 0 s) (λ m. get_or (inner_sequences s) m Empty) (inner_later s p) (list-sequence s p) n

-- without the instructions at its front
front_behind : (F : ℕ → Sequence) (i : Instr) (s : Sequence) (n : ℕ) → behind (suc n) (in_front F i s) ≡ behind n s
front_behind F (instr.Block of m) s n = refl
front_behind F _ s n = refl

behind-sequence : (F : ℕ → Sequence) (n : ℕ) (is : List Instr) → behind n (sequence F is) ≡ sequence F (drop n is)
behind-sequence F zero is = refl
behind-sequence F (suc n) [] = refl
behind-sequence F (suc n) (i ∷ is) = front_behind F i (sequence F is) n ∙ behind-sequence F n is

pub is_list : (s : Sequence) (lists : List (List Instr)) (n : ℕ) → AllPlain s → lists ≡ lists_of s → IsList s n (list_at lists n)
is_list s lists n p e k =
    ap (behind k) (sym (lists-sequence s p n)) ∙ behind-sequence (sequence_at s) k (list_at (lists_of s) n) ∙ ap (λ (ls : List (List Instr)). sequence (sequence_at s) (drop k (list_at ls n))) (sym e)

-- a place in a list
module _ (s : Sequence) (n k : ℕ) (is : List Instr) (list : IsList s n is) where
  pub instr_at_some : (i : Instr) → slice_get is k ≡ Some i → IsInstrAt s (record { list = n; index = k }) (Some i)
  instr_at_some i h =
      list k ∙ ap (sequence (sequence_at s)) (drop_more is k i (slice_get_within is k i h) ∙ ap (λ j. j ∷ drop (k + 1) is) (get_or_from_slice_get is k i i h))
      ∙ ap (in_front (sequence_at s) i) (sym (list (k + 1)))

  none_drops : (is : List Instr) → slice_get is k ≡ None → drop k is ≡ []
  none_drops [] h = drop_all k [] (omega arith)
  none_drops (i ∷ is) h = ⊎_elim (λ l. absurd (let q = slice_get-get_or (i ∷ is) k i l in cc)) (λ l. drop_all k (i ∷ is) l) (cases_lt k (length (i ∷ is)))

  pub instr_at : IsInstrAt s (record { list = n; index = k }) (slice_get is k)
  instr_at = at (slice_get is k) refl where
    at : (o : Option Instr) → slice_get is k ≡ o → IsInstrAt s (record { list = n; index = k }) o
    at None h = list k ∙ ap (sequence (sequence_at s)) (none_drops is h)
    at (Some i) h = instr_at_some i h
