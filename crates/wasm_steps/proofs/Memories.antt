-- Accesses of a memory leave a memory, and give numbers of their width.
use Rattle.std.proofs.Common.{◌≡◌, ℕ, zero, suc, ◌+◌, ◌*◌, ◌/◌, ◌%◌, ◌^◌, ◌<◌, ◌≤◌, min, Bool, true, false, cond, eqb, leb, List, [], ◌∷◌, ◌++◌, length, take, drop, Result, Ok, Err, refl, sym, ap, subst, ◌∙◌, arith}
use Rattle.std.specs.List.{All}
use Rattle.std.proofs.Math.Nat.{mod-lt, mul-suc}
use Rattle.std.proofs.lemmas.Bool.{leb-true}
use Rattle.std.proofs.lemmas.List.{length-append, length-drop, length-replicate, length-take}
use Rattle.std.proofs.lemmas.List.Elements.{All-append, All-cons, All-drop, All-head, All-nil, All-replicate, All-tail, All-take}
use Rattle.std.proofs.lemmas.Nat.{pow-add, pow_pos}
use Rattle.int_ops.specs.declared.trap.Cause.{Cause}
use Rattle.int_ops.specs.declared.trap.Cause.TheVariants.{Misaligned, OutOfBounds}
use Rattle.linear_memory.specs.LinearMemory.{LinearMemory, grown, page_count, with_bytes, zero_pages}
use Rattle.linear_memory.specs.Accesses.{accessed, accessed_atomically, number_at, with_number}
use Rattle.linear_memory.specs.Storage.{bytes_of, number_of}
use Rattle.linear_memory.proofs.StorageLaws.{length-bytes_of}
use Rattle.wasm_steps.specs.Kept.{IsMemory}

abbrev IsByte : ℕ → Type 0
IsByte byte = byte < 256

number_of_below : (width : ℕ) (bytes : List ℕ) → All IsByte bytes → number_of (take width bytes) < 2 ^ (8 * width)
unfolding number_of
number_of_below zero bytes all = omega arith
number_of_below (suc width) [] all = pow_pos (8 * suc width)
number_of_below (suc width) (byte ∷ bytes) all =
    let first : byte < 256 = All-head IsByte byte bytes all in
    let others = number_of_below width bytes (All-tail IsByte byte bytes all) in
    let e : 2 ^ (8 * suc width) ≡ 256 * 2 ^ (8 * width) = ap (λ n. 2 ^ n) (omega (arith, mul-suc 8 width)) ∙ pow-add 2 8 (8 * width) in
    omega arith

-- the number at an address has no more bits than its width
pub number_at_below : (memory : LinearMemory) (at width : ℕ) → IsMemory memory → number_at memory.bytes at width < 2 ^ (8 * width)
number_at_below memory at width is = number_of_below width (drop at memory.bytes) (All-drop IsByte at memory.bytes is.bytes)

bytes_of_bytes : (width number : ℕ) → All IsByte (bytes_of width number)
unfolding bytes_of
bytes_of_bytes zero number = All-nil IsByte
bytes_of_bytes (suc width) number = All-cons IsByte (number % 256) (bytes_of width (number / 256)) (mod-lt number (omega arith)) (bytes_of_bytes width (number / 256))

length-with_bytes : (bytes new : List ℕ) (at width : ℕ) → length new ≡ width → at + width ≤ length bytes → length (with_bytes bytes at new) ≡ length bytes
length-with_bytes bytes new at width e h =
    length-append (take at bytes ++ new) (drop (at + length new) bytes)
    ∙ omega (arith, length-append (take at bytes) new, length-take at bytes, length-drop (at + length new) bytes)

-- a number that is written within a memory leaves a memory
pub with_number_is : (memory : LinearMemory) (at width number : ℕ) → IsMemory memory → at + width ≤ length memory.bytes → IsMemory (with_number memory at width number)
with_number_is memory at width number is within =
    let new = bytes_of width number in
    let e : length (with_bytes memory.bytes at new) ≡ length memory.bytes = length-with_bytes memory.bytes new at width (length-bytes_of width number) within in
    record {
      bytes = All-append IsByte (take at memory.bytes ++ new) (drop (at + length new) memory.bytes) (All-append IsByte (take at memory.bytes) new (All-take IsByte at memory.bytes is.bytes) (bytes_of_bytes width number)) (All-drop IsByte (at + length new) memory.bytes is.bytes);
      pages = subst (λ n. n / 65536 ≤ 65536) (sym e) is.pages;
    }

-- what holds of an access that is within the memory, and of each trap, holds of what it comes to
pub access_either : {X : Type 0} (P : Result X Cause → Type 0) (memory : LinearMemory) (at width : ℕ) (outcome : X) → (at + width ≤ length memory.bytes → P (Ok outcome)) → ((cause : Cause) → P (Err cause))
    → P (accessed memory at width outcome)
access_either P memory at width outcome ok err = by (leb (at + width) (length memory.bytes)) (λ e. leb-true _ _ e) where
  by : (b : Bool) → (b ≡ true → at + width ≤ length memory.bytes) → P (cond b (Ok outcome) (Err OutOfBounds))
  by true h = ok (h refl)
  by false h = err OutOfBounds

pub atomic_either : {X : Type 0} (P : Result X Cause → Type 0) (memory : LinearMemory) (at width : ℕ) (outcome : X) → (at + width ≤ length memory.bytes → P (Ok outcome)) → ((cause : Cause) → P (Err cause))
    → P (accessed_atomically memory at width outcome)
atomic_either P memory at width outcome ok err = by (eqb (at % width) 0) where
  by : (b : Bool) → P (cond b (accessed memory at width outcome) (Err Misaligned))
  by true = access_either P memory at width outcome ok err
  by false = err Misaligned

length-zero_pages : (pages : ℕ) → length (zero_pages pages) ≡ 65536 * pages
unfolding zero_pages
length-zero_pages pages = length-replicate (65536 * pages) 0

zero_pages_bytes : (pages : ℕ) → All IsByte (zero_pages pages)
unfolding zero_pages
zero_pages_bytes pages = All-replicate IsByte (65536 * pages) 0 (omega arith)

-- memory.grow gives an i32, and leaves a memory
pub grown_is : (memory : LinearMemory) (pages : ℕ) → IsMemory memory → ((grown memory pages).0 < 2 ^ 32) × IsMemory (grown memory pages).1
grown_is memory pages is = by (leb (page_count memory + pages) (min memory.maximum 256)) (λ e. leb-true _ _ e) where
  longer : LinearMemory
  longer = record memory { bytes = memory.bytes ++ zero_pages pages }

  is_longer : page_count memory + pages ≤ min memory.maximum 256 → IsMemory longer
  is_longer h =
      let e : length (memory.bytes ++ zero_pages pages) ≡ length memory.bytes + 65536 * pages = length-append memory.bytes (zero_pages pages) ∙ ap (λ n. length memory.bytes + n) (length-zero_pages pages) in
      let few : page_count memory + pages ≤ 65536 = omega arith in
      record {
        bytes = All-append IsByte memory.bytes (zero_pages pages) is.bytes (zero_pages_bytes pages);
        pages = subst (λ n. n / 65536 ≤ 65536) (sym e) (omega arith);
      }

  by : (b : Bool) → (b ≡ true → page_count memory + pages ≤ min memory.maximum 256)
      → ((cond {A = ℕ × LinearMemory} b (page_count memory, longer) (4294967295, memory)).0 < 2 ^ 32) × IsMemory (cond {A = ℕ × LinearMemory} b (page_count memory, longer) (4294967295, memory)).1
  by true h = let few = is.pages in (omega arith, is_longer (h refl))
  by false h = (omega arith, is)
