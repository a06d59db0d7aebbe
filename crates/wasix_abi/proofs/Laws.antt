-- What holds of each request of a write.
use Rattle.std.proofs.Common.{◌≡◌, ◌⊎◌, ℕ, Bool, true, false, cond, ◌&&◌, ◌==◌, ◌+◌, ◌*◌, ◌≤◌, nat_le, List, [], ◌∷◌, length, refl, lit≤, inl, inr, arith, length-append}
use Rattle.std.proofs.lemmas.List.Sums.{sum_by-cons}
use Rattle.std.proofs.lemmas.Grind.{common_steps}
use Rattle.std.specs.List.{slice_index}
use Rattle.linear_memory.specs.LinearMemory.{is_within, range_of}
use Rattle.wasix_abi.specs.Buffers.{Buffer, buffers_at, all_within, total_len, gathered}
use Rattle.wasix_abi.specs.Requests.{nine_words, list_refusal, WritesAtMost}

-- the error number, by whether all lies within the memory and whether the list is short enough
abbrev number_by : Bool → Bool → ℕ
number_by within short = cond within (cond short 0 28) 21

one_of_three : (within short : Bool) → (number_by within short ≡ 0) ⊎ (number_by within short ≡ 21) ⊎ (number_by within short ≡ 28)
one_of_three true true = inl refl
one_of_three true false = inr (inr refl)
one_of_three false short = inr (inl refl)

both : (within short : Bool) → number_by within short ≡ 0 → (within ≡ true) × (short ≡ true)
both true true e = (refl, refl)
both true false e = absurd (omega arith)
both false short e = absurd (omega arith)

-- a list is refused as a fault or as inval, or isn't refused
pub refusal_of : (memory : List ℕ) (list n count : ℕ) → (list_refusal memory list n count ≡ 0) ⊎ (list_refusal memory list n count ≡ 21) ⊎ (list_refusal memory list n count ≡ 28)
unfolding list_refusal
refusal_of memory list n count =
    one_of_three (is_within memory list (8 * n) && all_within memory (buffers_at memory list n) && is_within memory count 4)
    (nat_le n 1024 && nat_le (total_len (buffers_at memory list n)) 16777216)

-- a list that isn't refused has its count within the memory, and at most 16 MiB
pub good_list : (memory : List ℕ) (list n count : ℕ) → list_refusal memory list n count ≡ 0 → (count + 4 ≤ length memory) × (total_len (buffers_at memory list n) ≤ 16777216)
unfolding list_refusal
good_list memory list n count good =
    let parts = both (is_within memory list (8 * n) && all_within memory (buffers_at memory list n) && is_within memory count 4)
    (nat_le n 1024 && nat_le (total_len (buffers_at memory list n)) 16777216) good in
    (grind (arith, parts.0), grind (arith, parts.1))

-- a range has no more bytes than were asked for
pub length-range_of : (memory : List ℕ) (at len : ℕ) → length (range_of memory at len) ≤ len
length-range_of memory at len = grind (arith, common_steps)

-- the buffers hold no more than their lengths in sum
pub length-gathered : (memory : List ℕ) (buffers : List Buffer) → length (gathered memory buffers) ≤ total_len buffers
length-gathered memory [] = omega arith
length-gathered memory (b ∷ rest) =
    omega (arith, length-append (range_of memory b.address b.len) (gathered memory rest), length-range_of memory b.address b.len, length-gathered memory rest, sum_by-cons {X = Buffer} (λ c. c.len) b rest)

length-if : (good : Bool) (bytes : List ℕ) → (good ≡ true → length bytes ≤ 16777216) → length (cond good bytes []) ≤ 16777216
length-if true bytes bound = bound refl
length-if false bytes bound = lit≤ tt

-- a request of a write has at most 16 MiB
pub length-one : (memory : List ℕ) (list n count : ℕ) → length (cond (list_refusal memory list n count == 0) (gathered memory (buffers_at memory list n)) []) ≤ 16777216
length-one memory list n count =
    length-if (list_refusal memory list n count == 0) (gathered memory (buffers_at memory list n))
    (λ test. let good : list_refusal memory list n count ≡ 0 = grind (arith, test) in omega (arith, length-gathered memory (buffers_at memory list n), (good_list memory list n count good).1))

-- no request has more
pub at_most : WritesAtMost
at_most memory arguments call =
    let words = nine_words arguments in
    let most = length-one memory (slice_index words 1) (slice_index words 2) (slice_index words 3) in
    grind (arith, most)
