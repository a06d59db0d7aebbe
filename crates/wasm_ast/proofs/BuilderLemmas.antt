-- A body that is being built lies in its lists in the order of the text.
use Rattle.std.proofs.Common.{◌≡◌, ℕ, suc, ◌+◌, ◌-◌, ◌<◌, ◌≤◌, List, [], ◌∷◌, ◌++◌, length, map, reverse, take, get_or, slice_get, slice_index_or, slice_set, Option, Some, refl, sym, ◌∙◌, ap, subst, arith, length-append, append_assoc, true, Result, Ok, Err, OnOk, OnErr}
use Rattle.std.proofs.lemmas.Bool.{false≢true}
use Rattle.std.proofs.lemmas.Grind.{common_steps}
use Rattle.std.proofs.lemmas.Option.{gets}
use Rattle.std.proofs.Math.ListN.{set}
use Rattle.std.proofs.Math.Seq.{set-append_seam, get_or-append_seam, take-length, take-suc}
use Rattle.std.proofs.lemmas.List.{append-nil, reverse-append, length-take-le, take-append-le}
use Rattle.wasm_ast.specs.declared.types.ValType.{ValType}
use Rattle.wasm_ast.specs.declared.instr.{Instr.Instr, Construct.Construct}
use Rattle.wasm_ast.specs.declared.instr.Instr.TheVariants as instr
use Rattle.wasm_ast.specs.declared.instr.Construct.TheVariants as construct
use Rattle.wasm_ast.specs.declared.builder.Frame.{Frame}
use Rattle.wasm_ast.specs.declared.builder.Frame.TheVariants as frame
use Rattle.wasm_ast.specs.Sequence.{Sequence, Empty, Plain, Block, If}
use Rattle.wasm_ast.specs.Numbering.{list_at, nested, count, block_instr, own_list, inner_lists, lists_of}
use Rattle.wasm_ast.specs.Position.{inner_sequences}
use Rattle.wasm_ast.specs.Built.{Open, Inside, Else, Built, append, NamesNone, with_plain, with_open, takes_else, with_else, with_end, ended}
use Rattle.wasm_ast.specs.Building.{inner, opened, text, frames_of, open_of, built_of, IsBuilt}
use Rattle.wasm_ast.specs.Wrapping.{outer_of, Wraps}
use Rattle.wasm_ast.proofs.TextOrder.{AllPlain, nested_plain, length-inner_lists, length-inner_sequences, nested-inner_lists}

-- one sequence behind another
plain_append : (s t : Sequence) → AllPlain s → AllPlain t → AllPlain (append s t)
plain_append Empty t h k = k
plain_append (Plain i rest) t h k = (h.0, plain_append rest t h.1 k)
plain_append (Block b of body rest) t h k = (h.0, plain_append rest t h.1 k)
plain_append (If of then otherwise rest) t h k = (h.0, h.1, plain_append rest t h.2 k)

sequences-append : (s t : Sequence) → inner_sequences (append s t) ≡ inner_sequences s ++ inner_sequences t
sequences-append Empty t = refl
sequences-append (Plain i rest) t = sequences-append rest t
sequences-append (Block k of body rest) t = ap (λ ss. body ∷ inner_sequences body ++ ss) (sequences-append rest t) ∙ simp append_assoc
sequences-append (If of then otherwise rest) t =
    ap (λ ss. then ∷ inner_sequences then ++ (otherwise ∷ inner_sequences otherwise ++ ss)) (sequences-append rest t) ∙ simp append_assoc

pub count-append : (s t : Sequence) → count (append s t) ≡ count s + count t
count-append s t =
    let e = ap length (sequences-append s t) ∙ length-append (inner_sequences s) (inner_sequences t) in
    omega (arith, length-inner_sequences (append s t), length-inner_sequences s, length-inner_sequences t)

own-append : (n : ℕ) (s t : Sequence) → own_list n (append s t) ≡ own_list n s ++ own_list (n + count s) t
own-append n Empty t = ap (λ m. own_list m t) (omega arith)
own-append n (Plain i rest) t = ap (λ is. i ∷ is) (own-append n rest t)
own-append n (Block k of body rest) t =
    let m : n + (1 + count body) + count rest ≡ n + (1 + count body + count rest) = omega arith in rw (own-append (n + (1 + count body)) rest t, m) refl
own-append n (If of then otherwise rest) t =
    let m : n + (2 + count then + count otherwise) + count rest ≡ n + (2 + count then + count otherwise + count rest) = omega arith in
    rw (own-append (n + (2 + count then + count otherwise)) rest t, m) refl

inner-append : (n : ℕ) (s t : Sequence) → inner_lists n (append s t) ≡ inner_lists n s ++ inner_lists (n + count s) t
inner-append n Empty t = ap (λ m. inner_lists m t) (omega arith)
inner-append n (Plain i rest) t = inner-append n rest t
inner-append n (Block k of body rest) t =
    let m : n + (1 + count body) + count rest ≡ n + (1 + count body + count rest) = omega arith in
    let e = inner-append (n + (1 + count body)) rest t in
    rw (e, m) (simp append_assoc)
inner-append n (If of then otherwise rest) t =
    let l = n + (2 + count then + count otherwise) in
    let m : l + count rest ≡ n + (2 + count then + count otherwise + count rest) = omega arith in
    let e = inner-append l rest t in
    rw (e, m) (simp append_assoc)

-- The builder's state is the view of its lists.
found : (front u : Sequence) (back xs : List Sequence) → xs ≡ inner_sequences (append front (inner u)) ++ back → get_or xs (count front) Empty ≡ u
found front u back xs e =
    rw (e, sequences-append front (inner u), append_assoc (inner_sequences front) (inner_sequences (inner u)) back, ← length-inner_sequences front)
    (get_or-append_seam (inner_sequences front) u ((inner_sequences u ++ []) ++ back) Empty)

behind_one : (front u : Sequence) (back xs : List Sequence) → xs ≡ inner_sequences (append front (inner u)) ++ back → xs ≡ inner_sequences front ++ (inner_sequences (inner u) ++ back)
behind_one front u back xs e = e ∙ ap (λ ys. ys ++ back) (sequences-append front (inner u)) ∙ append_assoc (inner_sequences front) (inner_sequences (inner u)) back

module _ (lists : List (List Instr)) (xs : List Sequence) (numbered : (n : ℕ) → nested lists n ≡ get_or xs n Empty) where
  opens_are : (os : List Open) (back : List Sequence) → xs ≡ inner_sequences (opened os) ++ back → map (open_of lists) (frames_of os) ≡ os
  opens_are [] back e = refl
  opens_are (Inside c of u ∷ os) back e =
      let p = numbered (count (opened os)) ∙ found (opened os) u back xs e in
      let q = opens_are os (inner_sequences (inner u) ++ back) (behind_one (opened os) u back xs e) in
      cc
  opens_are (Else of t u ∷ os) back e =
      let front = append (opened os) (inner u) in
      let f = behind_one front t back xs e in
      let p = numbered (count front) ∙ found front t back xs e in
      let q = numbered (count (opened os)) ∙ found (opened os) u (inner_sequences (inner t) ++ back) xs f in
      let r = opens_are os (inner_sequences (inner u) ++ (inner_sequences (inner t) ++ back)) (behind_one (opened os) u (inner_sequences (inner t) ++ back) xs f) in
      cc

pub made : (lists : List (List Instr)) (fs : List Frame) (n : ℕ) (v : Built) → AllPlain (text v) → IsBuilt lists fs n v → (built_of lists fs n ≡ v) × IsBuilt lists fs n (built_of lists fs n)
made lists fs n v p b = (same, subst (λ w. IsBuilt lists fs n w) (sym same) b) where
  numbered : (m : ℕ) → nested lists m ≡ get_or (inner_sequences (text v)) m Empty
  numbered m = ap (λ ls. nested ls m) b.lists_are ∙ nested-inner_lists (text v) p m

  same : built_of lists fs n ≡ v
  same =
      let xs = inner_sequences (text v) in
      let all = sym (append-nil xs) in
      let o = ap (map (open_of lists)) b.frames_are ∙ opens_are lists xs numbered v.opens (inner_sequences (inner v.before) ++ []) (behind_one (opened v.opens) v.before [] xs all) in
      let s = ap (nested lists) b.list_is ∙ numbered (count (opened v.opens)) ∙ found (opened v.opens) v.before [] xs all in
      ap (λ os. record { opens = os; before = nested lists n }) o ∙ ap (λ t. record { opens = v.opens; before = t }) s

opened_plain : (lists : List (List Instr)) (fs : List Frame) → AllPlain (opened (map (open_of lists) fs))
opened_plain lists [] = tt
opened_plain lists (frame.Inside c of outer ∷ fs) = plain_append (opened (map (open_of lists) fs)) (inner (nested lists outer)) (opened_plain lists fs) (nested_plain lists outer, tt)
opened_plain lists (frame.Else of then outer ∷ fs) =
    plain_append (append (opened (map (open_of lists) fs)) (inner (nested lists outer))) (inner (nested lists then))
    (plain_append (opened (map (open_of lists) fs)) (inner (nested lists outer)) (opened_plain lists fs) (nested_plain lists outer, tt)) (nested_plain lists then, tt)

-- what a builder keeps
abbrev pub IsKept : List (List Instr) → List Frame → ℕ → Type 0
IsKept lists fs n = IsBuilt lists fs n (built_of lists fs n)

-- what a builder is after a call
abbrev pub Becomes : List (List Instr) → List Frame → ℕ → Built → Type 0
Becomes lists fs n v = (built_of lists fs n ≡ v) × IsKept lists fs n

-- a list more is that of an empty sequence
new_list : (s : Sequence) (lists lists' : List (List Instr)) → lists ≡ inner_lists 0 s → lists' ≡ lists ++ [] ∷ [] → lists' ≡ inner_lists 0 (append s (inner Empty))
new_list s lists lists' p q = q ∙ ap (λ ls. ls ++ [] ∷ []) p ∙ sym (inner-append 0 s (inner Empty))

list_count : (s : Sequence) (lists : List (List Instr)) → lists ≡ inner_lists 0 s → length lists ≡ count s
list_count s lists p = ap length p ∙ length-inner_lists 0 s

pub first_made : (lists : List (List Instr)) (items : List Frame) → lists ≡ [] ∷ [] → items ≡ [] → Becomes lists (reverse items) 0 (record { opens = []; before = Empty })
first_made lists items p q = made lists (reverse items) 0 (record { opens = []; before = Empty }) (tt, tt) (record { lists_are = p; frames_are = ap reverse q; list_is = refl })

last_first : (fs items : List Frame) (f : Frame) → items ≡ fs ++ f ∷ [] → reverse items ≡ f ∷ reverse fs
last_first fs items f p = ap reverse p ∙ reverse-append fs (f ∷ [])

module _ (lists : List (List Instr)) (fs : List Frame) (n : ℕ) (kept : IsKept lists fs n) where
  abbrev here : Built
  here = built_of lists fs n

  here_plain : AllPlain (text here)
  here_plain = plain_append (opened here.opens) (inner here.before) (opened_plain lists fs) (nested_plain lists n, tt)

  pub open_made : (lists' : List (List Instr)) (n' : ℕ) (c : Construct) (of : Option ValType) → lists' ≡ lists ++ [] ∷ [] → n' ≡ length lists → Becomes lists' (frame.Inside c of n ∷ fs) n' (with_open c of here)
  open_made lists' n' c of p q =
      made lists' (frame.Inside c of n ∷ fs) n' (with_open c of here) (plain_append (text here) (inner Empty) here_plain (tt, tt)) (record {
        lists_are = new_list (text here) lists lists' kept.lists_are p;
        frames_are = let e = kept.frames_are in let l = kept.list_is in cc;
        list_is = q ∙ list_count (text here) lists kept.lists_are;
      })

-- An instruction that is added to a list, with the inner lists behind all others.
module _ (front u w : Sequence) (i : Instr) where
  abbrev place : ℕ
  place = count (append front (inner u))

  added : own_list place w ≡ i ∷ [] → (lists : List (List Instr)) → lists ≡ inner_lists 0 (append front (inner u)) ++ inner_lists place w →
      set lists (count front) (list_at lists (count front) ++ i ∷ []) ≡ inner_lists 0 (append front (inner (append u w)))
  added o lists p =
      let m = count front in
      let before = inner_lists 0 front in
      let l = length-inner_lists 0 front in
      let c = count-append front (inner u) in
      let list = own_list (m + 1) u in
      let behind = (inner_lists (m + 1) u ++ []) ++ inner_lists place w in
      let parts : lists ≡ before ++ list ∷ behind =
      p ∙ ap (λ ls. ls ++ inner_lists place w) (inner-append 0 front (inner u) ∙ ap (λ k. before ++ inner_lists k (inner u)) {x = 0 + m} {y = m} (omega arith)) ∙ append_assoc before (inner_lists m (inner u)) (inner_lists place w) in
      let seam : list_at (before ++ list ∷ behind) m ≡ list = ap (λ k. list_at (before ++ list ∷ behind) k) (sym l) ∙ get_or-append_seam before list behind [] in
      let set_at : set (before ++ list ∷ behind) m (list ++ i ∷ []) ≡ before ++ (list ++ i ∷ []) ∷ behind = ap (λ k. set (before ++ list ∷ behind) k (list ++ i ∷ [])) (sym l) ∙ set-append_seam before list behind (list ++ i ∷ []) in
      let at : (m + 1) + count u ≡ place = omega arith in
      let zero : 0 + m ≡ m = omega arith in
      rw (parts, seam, set_at, inner-append 0 front (inner (append u w)), zero, own-append (m + 1) u w, inner-append (m + 1) u w, at, o)
      (simp append-nil (ap (λ ls. before ++ (list ++ i ∷ []) ∷ ls) (sym (append-nil (inner_lists (m + 1) u ++ inner_lists place w)))))

-- an instruction is added to the list that is filled
pub plain_made : (lists : List (List Instr)) (fs : List Frame) (n : ℕ) (lists' : List (List Instr)) (i : Instr) → IsKept lists fs n → NamesNone i → lists' ≡ set lists n (list_at lists n ++ i ∷ []) →
    Becomes lists' fs n (with_plain i (built_of lists fs n))
plain_made lists fs n lists' i kept none p =
    let v = built_of lists fs n in
    let front = opened v.opens in
    made lists' fs n (with_plain i v) (plain_append front (inner (append v.before (Plain i Empty))) (opened_plain lists fs) (plain_append v.before (Plain i Empty) (nested_plain lists n) (none, tt), tt)) (record {
      lists_are =
          p ∙ ap (λ k. set lists k (list_at lists k ++ i ∷ [])) kept.list_is
          ∙ added front v.before (Plain i Empty) i refl lists (kept.lists_are ∙ sym (append-nil (inner_lists 0 (text v))));
      frames_are = kept.frames_are;
      list_is = kept.list_is;
    })

pub kept_either : {T E : Type 0} (r : Result T E) (lists lists' : List (List Instr)) (fs : List Frame) (n : ℕ) (i : Instr) → IsKept lists fs n → NamesNone i →
    OnOk r (lists' ≡ set lists n (list_at lists n ++ i ∷ [])) → OnErr r (lists' ≡ lists) → IsKept lists' fs n × OnOk r (built_of lists' fs n ≡ with_plain i (built_of lists fs n))
kept_either (Ok x) lists lists' fs n i kept none p q = let b = plain_made lists fs n lists' i kept none p in (b.1, b.0)
kept_either (Err e) lists lists' fs n i kept none p q = (subst (λ ls. IsKept ls fs n) (sym q) kept, tt)

pub inside_lists : (lists : List (List Instr)) (fs : List Frame) (n : ℕ) → IsKept lists fs n → n < length lists
inside_lists lists fs n kept =
    let v = built_of lists fs n in
    omega (arith, kept.list_is, list_count (text v) lists kept.lists_are, count-append (opened v.opens) (inner v.before))

-- the second arm of an if begins
pub else_made : (lists : List (List Instr)) (fs : List Frame) (n : ℕ) (c : Construct) (of : Option ValType) (outer : ℕ) (lists' : List (List Instr)) (n' : ℕ) → IsKept lists (frame.Inside c of outer ∷ fs) n →
    takes_else (built_of lists (frame.Inside c of outer ∷ fs) n).opens ≡ true → lists' ≡ lists ++ [] ∷ [] → n' ≡ length lists →
    Becomes lists' (frame.Else of n outer ∷ fs) n' (with_else (built_of lists (frame.Inside c of outer ∷ fs) n))
else_made lists fs n (construct.Block k) of outer lists' n' kept t p q = absurd (false≢true t)
else_made lists fs n construct.If of outer lists' n' kept t p q =
    let all = frame.Inside construct.If of outer ∷ fs in
    let v = built_of lists all n in
    made lists' (frame.Else of n outer ∷ fs) n' (with_else v) (plain_append (text v) (inner Empty) (here_plain lists all n kept) (tt, tt)) (record {
      lists_are = new_list (text v) lists lists' kept.lists_are p;
      frames_are = let e = kept.frames_are in let l = kept.list_is in cc;
      list_is = q ∙ list_count (text v) lists kept.lists_are;
    })

-- The innermost construct ends: its instruction is added to the list round it.
module _ (lists : List (List Instr)) (f : Frame) (fs : List Frame) (n : ℕ) (kept : IsKept lists (f ∷ fs) n) where
  abbrev outside : List Open
  outside = map (open_of lists) fs

  abbrev last : Sequence
  last = nested lists n

  -- what stands in front, and the construct itself
  module _ (u w : Sequence) (lists1 lists2 : List (List Instr)) (outer : ℕ) (i : Instr) where
    closed_made : AllPlain u → AllPlain w → outer ≡ count (opened outside) → fs ≡ frames_of outside → own_list (count (append (opened outside) (inner u))) w ≡ i ∷ [] →
        lists1 ≡ inner_lists 0 (append (opened outside) (inner u)) ++ inner_lists (count (append (opened outside) (inner u))) w →
        lists2 ≡ set lists1 outer (list_at lists1 outer ++ i ∷ []) → Becomes lists2 fs outer (record { opens = outside; before = append u w })
    closed_made p q o e own l s =
        made lists2 fs outer (record { opens = outside; before = append u w }) (plain_append (opened outside) (inner (append u w)) (opened_plain lists fs) (plain_append u w p q, tt)) (record {
          lists_are = s ∙ ap (λ k. set lists1 k (list_at lists1 k ++ i ∷ [])) o ∙ added (opened outside) u w i own lists1 l;
          frames_are = e;
          list_is = o;
        })

  zero_front : (s t : Sequence) → inner_lists 0 (append s t) ≡ inner_lists 0 s ++ inner_lists (count s) t
  zero_front s t = inner-append 0 s t ∙ ap (λ k. inner_lists 0 s ++ inner_lists k t) (omega arith)

  longer : (g : Frame) (lists1 : List (List Instr)) (i : Instr) → Wraps g n lists i lists1 → length lists ≤ length lists1
  longer (frame.Inside (construct.Block k) of outer) lists1 i w = omega (arith, ap length w.1)
  longer (frame.Inside construct.If of outer) lists1 i w = omega (arith, ap length w.1, length-append lists ([] ∷ []))
  longer (frame.Else of then outer) lists1 i w = omega (arith, ap length w.1)

  outer_first : (g : Frame) → IsKept lists (g ∷ fs) n → outer_of g < length lists
  outer_first (frame.Inside c of outer) k =
      let v = built_of lists (frame.Inside c of outer ∷ fs) n in
      let o : outer ≡ count (opened outside) = let e = k.frames_are in cc in
      omega (arith, list_count (text v) lists k.lists_are, count-append (opened v.opens) (inner last), count-append (opened outside) (inner (nested lists outer)))
  outer_first (frame.Else of then outer) k =
      let v = built_of lists (frame.Else of then outer ∷ fs) n in
      let o : outer ≡ count (opened outside) = let e = k.frames_are in cc in
      omega (arith, list_count (text v) lists k.lists_are, count-append (opened v.opens) (inner last), count-append (append (opened outside) (inner (nested lists outer))) (inner (nested lists then)), count-append (opened outside) (inner (nested lists outer)))

  pub outer_inside : (lists1 : List (List Instr)) (i : Instr) → Wraps f n lists i lists1 → outer_of f < length lists1
  outer_inside lists1 i w = omega (arith, longer f lists1 i w, outer_first f kept)

  pub end_made : (lists1 lists2 : List (List Instr)) (i : Instr) → Wraps f n lists i lists1 → lists2 ≡ set lists1 (outer_of f) (list_at lists1 (outer_of f) ++ i ∷ []) →
      Becomes lists2 fs (outer_of f) (ended (open_of lists f ∷ outside) last)
  end_made lists1 lists2 i w s = by_frame f kept w s where
    by_frame : (g : Frame) → IsKept lists (g ∷ fs) n → Wraps g n lists i lists1 → lists2 ≡ set lists1 (outer_of g) (list_at lists1 (outer_of g) ++ i ∷ []) →
        Becomes lists2 fs (outer_of g) (ended (open_of lists g ∷ outside) last)
    by_frame (frame.Inside (construct.Block k) of outer) kept w s =
        let u = nested lists outer in
        let front = append (opened outside) (inner u) in
        let o : outer ≡ count (opened outside) = let e = kept.frames_are in cc in
        let fs_are : fs ≡ frames_of outside = let e = kept.frames_are in cc in
        closed_made u (Block k of last Empty) lists1 lists2 outer i (nested_plain lists outer) (nested_plain lists n, tt) o fs_are
        (ap (λ m. block_instr k of m ∷ []) (sym kept.list_is) ∙ ap (λ j. j ∷ []) (sym w.0))
        (w.1 ∙ kept.lists_are ∙ zero_front front (inner last)) s
    by_frame (frame.Inside construct.If of outer) kept w s =
        let u = nested lists outer in
        let front = append (opened outside) (inner u) in
        let here = built_of lists (frame.Inside construct.If of outer ∷ fs) n in
        let o : outer ≡ count (opened outside) = let e = kept.frames_are in cc in
        let fs_are : fs ≡ frames_of outside = let e = kept.frames_are in cc in
        let m = count front in
        let second : length lists ≡ m + (1 + count last) = omega (arith, list_count (text here) lists kept.lists_are, count-append front (inner last)) in
        closed_made u (If of last Empty Empty) lists1 lists2 outer i (nested_plain lists outer) (nested_plain lists n, tt, tt) o fs_are
        (ap (λ k. instr.If of k (m + (1 + count last)) ∷ []) (sym kept.list_is) ∙ ap (λ k. instr.If of n k ∷ []) (sym second) ∙ ap (λ j. j ∷ []) (sym w.0))
        (w.1 ∙ ap (λ ls. ls ++ [] ∷ []) (kept.lists_are ∙ zero_front front (inner last))
        ∙ append_assoc (inner_lists 0 front) (inner_lists m (inner last)) ([] ∷ [])
        ∙ ap (λ ls. inner_lists 0 front ++ ((own_list (m + 1) last ∷ ls) ++ [] ∷ [])) (append-nil (inner_lists (m + 1) last))) s
    by_frame (frame.Else of then outer) kept w s =
        let u = nested lists outer in
        let t = nested lists then in
        let front = append (opened outside) (inner u) in
        let both = append front (inner t) in
        let o : outer ≡ count (opened outside) = let e = kept.frames_are in cc in
        let first : then ≡ count front = let e = kept.frames_are in cc in
        let fs_are : fs ≡ frames_of outside = let e = kept.frames_are in cc in
        let m = count front in
        let c : count both ≡ m + (1 + count t) = omega (arith, count-append front (inner t)) in
        closed_made u (If of t last Empty) lists1 lists2 outer i (nested_plain lists outer) (nested_plain lists then, nested_plain lists n, tt) o fs_are
        (ap (λ k. instr.If of k (m + (1 + count t)) ∷ []) (sym first) ∙ ap (λ k. instr.If of then k ∷ []) (sym c ∙ sym kept.list_is) ∙ ap (λ j. j ∷ []) (sym w.0))
        (w.1 ∙ kept.lists_are ∙ zero_front both (inner last)
        ∙ ap (λ ls. ls ++ inner_lists (count both) (inner last)) (zero_front front (inner t))
        ∙ ap (λ k. (inner_lists 0 front ++ inner_lists m (inner t)) ++ (own_list k last ∷ (inner_lists k last ++ []))) {x = count both + 1} {y = m + (2 + count t)} (omega arith)
        ∙ append_assoc (inner_lists 0 front) (inner_lists m (inner t)) (own_list (m + (2 + count t)) last ∷ (inner_lists (m + (2 + count t)) last ++ []))
        ∙ ap (λ ls. inner_lists 0 front ++ ((own_list (m + 1) t ∷ ls) ++ (own_list (m + (2 + count t)) last ∷ (inner_lists (m + (2 + count t)) last ++ [])))) (append-nil (inner_lists (m + 1) t))
        ) s

-- the body is complete
pub finish_made : (lists : List (List Instr)) (fs : List Frame) (n : ℕ) → map (open_of lists) fs ≡ [] → IsKept lists fs n → (lists ≡ lists_of (nested lists 0)) × (nested lists 0 ≡ nested lists n)
finish_made lists (f ∷ fs) n none kept = absurd (let e = none in cc)
finish_made lists [] n none kept =
    let same : nested lists 0 ≡ nested lists n = ap (nested lists) (sym kept.list_is) in
    (kept.lists_are ∙ ap (λ ls. own_list 1 (nested lists n) ∷ ls) (append-nil (inner_lists 1 (nested lists n))) ∙ ap lists_of (sym same), same)

-- the innermost construct lies last
pub pushed : (lists : List (List Instr)) (items items' : List Frame) (f : Frame) (n : ℕ) (v : Built) → items' ≡ items ++ f ∷ [] → Becomes lists (f ∷ reverse items) n v → Becomes lists (reverse items') n v
pushed lists items items' f n v p b = subst (λ fs. Becomes lists fs n v) (sym (last_first items items' f p)) b

pub popped : (lists : List (List Instr)) (items items' : List Frame) (f : Frame) (n : ℕ) → items ≡ items' ++ f ∷ [] → IsKept lists (reverse items) n → IsKept lists (f ∷ reverse items') n
popped lists items items' f n p kept = subst (λ fs. IsKept lists fs n) (last_first items' items f p) kept

pub end_by : (lists lists1 lists2 : List (List Instr)) (items items' : List Frame) (f : Frame) (n outer : ℕ) (i : Instr) (v : Built) → IsKept lists (reverse items) n → built_of lists (reverse items) n ≡ v →
    items ≡ items' ++ f ∷ [] → Wraps f n lists i lists1 → outer ≡ outer_of f → lists2 ≡ set lists1 outer (list_at lists1 outer ++ i ∷ []) → Becomes lists2 (reverse items') outer (with_end v)
end_by lists lists1 lists2 items items' f n outer i v kept view p w o s =
    let ready = end_made lists f (reverse items') n (popped lists items items' f n p kept) lists1 lists2 i w (s ∙ ap (λ k. set lists1 k (list_at lists1 k ++ i ∷ [])) o) in
    let was : built_of lists (f ∷ reverse items') n ≡ v = ap (λ fs. built_of lists fs n) (sym (last_first items' items f p)) ∙ view in
    subst (λ k. Becomes lists2 (reverse items') k (with_end v)) (sym o) (subst (λ x. Becomes lists2 (reverse items') (outer_of f) (with_end x)) was ready)

-- the last of some items, and another in its place
pub lasts : {X : Type 0} (os : List X) (o other : X) (m : ℕ) → m ≡ length os → 0 < m → o ≡ slice_index_or os (m - 1) o → (front : List X) × (os ≡ front ++ o ∷ []) × (slice_set os (m - 1) other ≡ front ++ other ∷ [])
lasts os o other m q h e =
    let front = take (m - 1) os in
    let same : os ≡ front ++ o ∷ [] = sym (take-length os) ∙ ap (λ k. take k os) {y = suc (m - 1)} (omega arith) ∙ take-suc os (m - 1) o (omega arith) ∙ ap (λ x. front ++ x ∷ []) (sym e) in
    let size : m - 1 ≡ length front = sym (length-take-le (m - 1) os (omega arith)) in
    (front, same, ap (λ xs. slice_set xs (m - 1) other) same ∙ ap (λ k. slice_set (front ++ o ∷ []) k other) size ∙ set-append_seam front o [] other)

pub last_of : {X : Type 0} (os : List X) (o : X) → Some o ≡ slice_get os (length os - 1) → os ≡ take (length os - 1) os ++ o ∷ []
last_of [] o h = cc
last_of (x ∷ os) o h = grind (arith, common_steps, gets)

-- a call that wants memory leaves the lists as they were
pub unchanged : (lists lists' : List (List Instr)) (fs : List Frame) (n : ℕ) (v : Built) → IsKept lists fs n → built_of lists fs n ≡ v → lists' ≡ lists → Becomes lists' fs n v
unchanged lists lists' fs n v kept view p = subst (λ ls. Becomes ls fs n v) (sym p) (view, kept)

pub always_err : {T E P : Type 0} (r : Result T E) → P → OnErr r P
always_err (Ok x) p = tt
always_err (Err e) p = p

-- the lists that a construct's instruction has added are taken away again
pub taken_back : (f : Frame) (lists lists1 : List (List Instr)) (n : ℕ) (i : Instr) → Wraps f n lists i lists1 → take (length lists) lists1 ≡ lists
taken_back (frame.Inside (construct.Block k) of outer) lists lists1 n i w = ap (take (length lists)) w.1 ∙ take-length lists
taken_back (frame.Inside construct.If of outer) lists lists1 n i w = ap (take (length lists)) w.1 ∙ take-append-le (length lists) lists ([] ∷ []) (omega arith) ∙ take-length lists
taken_back (frame.Else of then outer) lists lists1 n i w = ap (take (length lists)) w.1 ∙ take-length lists

pub end_within : (lists lists1 : List (List Instr)) (items items' : List Frame) (f : Frame) (n outer : ℕ) (i : Instr) → IsKept lists (reverse items) n → items ≡ items' ++ f ∷ [] → Wraps f n lists i lists1 → outer ≡ outer_of f → outer < length lists1
end_within lists lists1 items items' f n outer i kept p w o = omega (arith, outer_inside lists f (reverse items') n (popped lists items items' f n p kept) lists1 i w)

pub else_by : (lists lists' : List (List Instr)) (items items1 items2 : List Frame) (f : Frame) (n n' : ℕ) (c : Construct) (of : Option ValType) (outer : ℕ) (v : Built) → IsKept lists (reverse items) n → built_of lists (reverse items) n ≡ v →
    takes_else v.opens ≡ true → items ≡ items1 ++ f ∷ [] → f ≡ frame.Inside c of outer → items2 ≡ items1 ++ frame.Else of n outer ∷ [] → lists' ≡ lists ++ [] ∷ [] → n' ≡ length lists → Becomes lists' (reverse items2) n' (with_else v)
else_by lists lists' items items1 items2 f n n' c of outer v kept view t p e p2 q r =
    let g = frame.Inside c of outer in
    let at : items ≡ items1 ++ g ∷ [] = p ∙ ap (λ h. items1 ++ h ∷ []) e in
    let was : built_of lists (g ∷ reverse items1) n ≡ v = ap (λ fs. built_of lists fs n) (sym (last_first items1 items g at)) ∙ view in
    pushed lists' items1 items2 (frame.Else of n outer) n' (with_else v) p2
    (subst (λ x. Becomes lists' (frame.Else of n outer ∷ reverse items1) n' (with_else x)) was
    (else_made lists (reverse items1) n c of outer lists' n' (popped lists items items1 g n at kept) (ap (λ (x : Built). takes_else x.opens) was ∙ t) q r))
