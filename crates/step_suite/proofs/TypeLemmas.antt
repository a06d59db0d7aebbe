-- Values of types, and what an answer takes.
use Rattle.std.proofs.Common.{ℕ, zero, suc, ◌<◌, ◌≤◌, List, [], ◌∷◌, drop, get_or, length, arith}
use Rattle.wasm_ast.specs.declared.types.ValType.{ValType}
use Rattle.guest_state.specs.Fits.{HaveTypes}
use Rattle.guest_state.specs.GuestThread.{Frame, GuestThread}
use Rattle.guest_state.specs.Steps.{frames_taken, taken_count}

pub have_next : (i : ℕ) (ts : List ValType) (vs : List ℕ) (t : ValType) (v : ℕ) → i < length ts → i < length vs
    → HaveTypes (get_or ts i t ∷ []) (get_or vs i v ∷ []) → HaveTypes (drop (suc i) ts) (drop (suc i) vs) → HaveTypes (drop i ts) (drop i vs)
have_next i [] vs t v a b here rest = absurd (omega arith)
have_next i (x ∷ ts) [] t v a b here rest = absurd (omega arith)
have_next zero (x ∷ ts) (y ∷ vs) t v a b here rest = (here.0, rest)
have_next (suc i) (x ∷ ts) (y ∷ vs) t v a b here rest = have_next i ts vs t v (omega arith) (omega arith) here rest

-- what is taken has the arguments in it
pub taken_more : (t : GuestThread) (count : ℕ) → count ≤ taken_count t count
taken_more t count = by_frames t.frames where
  by_frames : (fs : List Frame) → count ≤ frames_taken fs count
  by_frames [] = omega arith
  by_frames (f ∷ fs) = omega arith
