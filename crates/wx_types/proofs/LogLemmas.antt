-- Laws of the files that a log holds at its spots.
use Rattle.std.proofs.Common.{◌≡◌, ◌≤◌, ◌+◌, ◌-◌, ℕ, suc, List, [], ◌∷◌, ◌++◌, refl, sym, ap, ◌∙◌, arith, length, length-append, length-drop, take, drop, All}
use Rattle.std.proofs.lemmas.List.{take-append-le, drop-append-le, drop_at, take_all, take_at, map_push, append_assoc}
use Rattle.std.specs.List.{slice_range}
use Rattle.wx_types.specs.ShelfLog.{IsWithin, file_at, files_at}
use Rattle.wx_types.specs.declared.memory_shelf.Spot.{Spot}

-- a part of the front stays where more is put behind
pub slice_range-append : (xs ys : List ℕ) (a b : ℕ) → a ≤ b → b ≤ length xs → slice_range (xs ++ ys) a b ≡ slice_range xs a b
slice_range-append xs ys a b order within =
    let start : a ≤ length xs = omega arith in
    let whole : b - a ≤ length (drop a xs) = omega (arith, length-drop a xs) in
    ap (take (b - a)) (drop-append-le a xs ys start) ∙ take-append-le (b - a) (drop a xs) ys whole

-- the part that was put behind xs
pub slice_range-behind : (xs part ys : List ℕ) (a b : ℕ) → a ≡ length xs → b ≡ length xs + length part → slice_range (xs ++ (part ++ ys)) a b ≡ part
slice_range-behind xs part ys a b at to =
    let size : length part ≡ b - a = omega arith in
    ap (take (b - a)) (drop_at xs (part ++ ys) a (sym at)) ∙ take_at part ys (b - a) size

-- the part at the end
pub slice_range-last : (xs part : List ℕ) (a b : ℕ) → a ≡ length xs → b ≡ length xs + length part → slice_range (xs ++ part) a b ≡ part
slice_range-last xs part a b at to =
    let size : length part ≤ b - a = omega arith in
    ap (take (b - a)) (drop_at xs part a (sym at)) ∙ take_all (b - a) part size

-- the file at a spot stays where more is put behind
file_at-append : (log more : List ℕ) (spot : Spot) → IsWithin (length log) spot → file_at (log ++ more) spot ≡ file_at log spot
file_at-append log more spot within =
    let all : spot.middle ≤ length log = omega (arith, within.content, within.whole) in
    rw (slice_range-append log more spot.start spot.middle within.name all, slice_range-append log more spot.middle spot.end within.content within.whole)

pub files_at-append : (log more : List ℕ) (spots : List Spot) → All (IsWithin (length log)) spots → files_at (log ++ more) spots ≡ files_at log spots
files_at-append log more [] within = refl
files_at-append log more (spot ∷ spots) within =
    let first : file_at (log ++ more) spot ≡ file_at log spot = file_at-append log more spot (within 0 spot (omega arith)) in
    let rest : files_at (log ++ more) spots ≡ files_at log spots = files_at-append log more spots (λ k d h. within (suc k) d (omega arith)) in
    cc

-- a name and a content behind the log, and their spot behind the spots, are one more file
pub files_at-push : (log name content : List ℕ) (spots : List Spot) (spot : Spot)
    → spot.start ≡ length log → spot.middle ≡ length log + length name → spot.end ≡ length log + length name + length content
    → All (IsWithin (length log)) spots
    → files_at (log ++ name ++ content) (spots ++ spot ∷ []) ≡ files_at log spots ++ (name, content) ∷ []
files_at-push log name content spots spot start middle end within =
    let whole : log ++ name ++ content ≡ log ++ (name ++ content) = append_assoc log name content in
    let front : files_at (log ++ name ++ content) spots ≡ files_at log spots = rw whole (files_at-append log (name ++ content) spots within) in
    let named : slice_range (log ++ name ++ content) spot.start spot.middle ≡ name = rw whole (slice_range-behind log name content spot.start spot.middle start middle) in
    let seam : spot.middle ≡ length (log ++ name) = omega (arith, length-append log name) in
    let last : spot.end ≡ length (log ++ name) + length content = omega (arith, length-append log name) in
    let filled : slice_range (log ++ name ++ content) spot.middle spot.end ≡ content = slice_range-last (log ++ name) content spot.middle spot.end seam last in
    map_push (file_at (log ++ name ++ content)) spots spot ∙ cc
