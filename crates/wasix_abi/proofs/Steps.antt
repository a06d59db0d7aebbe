-- A list of buffers, one entry after the other.
use Rattle.std.proofs.Common.{◌≡◌, ℕ, suc, true, false, ◌+◌, ◌-◌, ◌*◌, ◌<◌, ◌≤◌, List, [], ◌∷◌, ◌++◌, length, refl, ap, sym, ◌∙◌, arith}
use Rattle.std.proofs.lemmas.List.Sums.{sum_by-cons}
use Rattle.linear_memory.specs.LinearMemory.{range_of}
use Rattle.wasix_abi.specs.Buffers.{Buffer, word_at, buffer_at, buffers_at, all_within, total_len, gathered}

-- the buffers of a list of n entries from entry i on
unfoldable pub left_from : List ℕ → ℕ → ℕ → ℕ → List Buffer
left_from memory list n i = buffers_at memory (list + 8 * i) (n - i)

pub left_from-start : (memory : List ℕ) (list n : ℕ) → left_from memory list n 0 ≡ buffers_at memory list n
unfolding left_from
left_from-start memory list n =
    let at : list + 8 * 0 ≡ list = omega arith in let all : n - 0 ≡ n = omega arith in rw (at, all) refl

pub left_from-end : (memory : List ℕ) (list n : ℕ) → left_from memory list n n ≡ []
unfolding left_from
left_from-end memory list n = let none : n - n ≡ 0 = omega arith in rw none refl

pub left_from-next : (memory : List ℕ) (list n i : ℕ) → i < n → left_from memory list n i ≡ buffer_at memory (list + 8 * i) ∷ left_from memory list n (i + 1)
unfolding left_from
left_from-next memory list n i below =
    let more : n - i ≡ suc (n - (i + 1)) = omega arith in
    let at : list + 8 * (i + 1) ≡ list + 8 * i + 8 = omega arith in
    rw (more, at) refl

pub within_next : (memory : List ℕ) (list n i : ℕ) → i < n → word_at memory (list + 8 * i) + word_at memory (list + 8 * i + 4) ≤ length memory
    → all_within memory (left_from memory list n i) ≡ all_within memory (left_from memory list n (i + 1))
within_next memory list n i below within = rw (left_from-next memory list n i below) (grind arith)

pub not_within : (memory : List ℕ) (list n i : ℕ) → i < n → length memory < word_at memory (list + 8 * i) + word_at memory (list + 8 * i + 4)
    → all_within memory (left_from memory list n i) ≡ false
not_within memory list n i below outside = rw (left_from-next memory list n i below) (grind arith)

pub entry_within : (memory : List ℕ) (list n i : ℕ) → i < n → all_within memory (left_from memory list n i) ≡ true
    → word_at memory (list + 8 * i) + word_at memory (list + 8 * i + 4) ≤ length memory
entry_within memory list n i below all =
    let all' : all_within memory (buffer_at memory (list + 8 * i) ∷ left_from memory list n (i + 1)) ≡ true = ap (all_within memory) (sym (left_from-next memory list n i below)) ∙ all in
    grind arith

pub total_next : (memory : List ℕ) (list n i : ℕ) → i < n
    → total_len (left_from memory list n i) ≡ word_at memory (list + 8 * i + 4) + total_len (left_from memory list n (i + 1))
total_next memory list n i below = rw (left_from-next memory list n i below) (sum_by-cons {X = Buffer} (λ b. b.len) (buffer_at memory (list + 8 * i)) (left_from memory list n (i + 1)))

pub gathered_next : (memory : List ℕ) (list n i : ℕ) → i < n
    → gathered memory (left_from memory list n i) ≡ range_of memory (word_at memory (list + 8 * i)) (word_at memory (list + 8 * i + 4)) ++ gathered memory (left_from memory list n (i + 1))
gathered_next memory list n i below = rw (left_from-next memory list n i below) refl
