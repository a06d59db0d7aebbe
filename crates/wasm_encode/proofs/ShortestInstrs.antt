-- Instructions that have no inner instructions are written so that they are spelled, in the fewest bytes.
use Rattle.std.proofs.Common.{◌≡◌, inl, inr, ℕ, List, [], ◌∷◌, ◌++◌, length, refl, sym, ap, subst, arith}
use Rattle.wasm_ast.specs.declared.instr.Instr.TheVariants as instr
use Rattle.wasm_ast.specs.declared.instr.MemArg.{MemArg}
use Rattle.wasm_ast.specs.Spelling.{Joined}
use Rattle.wasm_ast.specs.Immediates.{Immediates, Nothing, Index, Labels, IndexAndZero, Argument, Zero, Signed32, Signed64, Raw, Never, Spells, shortest}
use Rattle.wasm_ast.specs.Opcodes.{encoding}
use Rattle.wasm_ast.specs.SpelledInstr.{SpellsFloat, SpellsPlain}
use Rattle.wasm_ast.specs.CanonInstr.{canon_plain}
use Rattle.wasm_encode.proofs.ShortestNumbers.{NoLonger, i32_shortest, i64_shortest}
use Rattle.wasm_encode.proofs.ShortestVectors.{IsShortest, u32_is, fixed, joined_shortest, pair_shortest, vec_shortest}

value_shortest : (of : Immediates) → IsShortest (Spells of) (shortest of)
value_shortest Nothing = λ bytes v a s. fixed bytes [] s
value_shortest Index = u32_is
value_shortest Labels = pair_shortest (λ v. v.0) (λ v. v.1) (vec_shortest u32_is) u32_is
value_shortest IndexAndZero = pair_shortest (λ v. v) (λ v. tt {0}) u32_is (λ bytes z a s. fixed bytes (0x00 ∷ []) s)
value_shortest Argument = pair_shortest (λ (v : MemArg). v.align) (λ (v : MemArg). v.offset) u32_is u32_is
value_shortest Zero = λ bytes v a s. fixed bytes (0x00 ∷ []) s
value_shortest Signed32 = i32_shortest
value_shortest Signed64 = i64_shortest
value_shortest (Raw size) = λ bytes v a s. record { spells = (subst (λ b. length b ≡ size) s.1 s.0, refl); shorter = omega (arith, ap length s.1) }
value_shortest Never = λ bytes v a s. absurd s

-- an instruction on floats has an opcode, and the byte of f32.eq is one
float_shortest : (bytes : List ℕ) → SpellsFloat bytes → NoLonger (λ a. SpellsPlain a instr.Float) bytes (0x5B ∷ [])
float_shortest [] s = absurd s
float_shortest (b ∷ bytes) s = record { spells = inr (refl, (tt, refl)); shorter = omega arith }

pub plain_shortest : IsShortest SpellsPlain canon_plain
plain_shortest bytes i a (inr h) = subst (λ z. NoLonger (λ a. SpellsPlain a z) bytes (canon_plain z)) (sym h.0) (float_shortest bytes h.1)
plain_shortest bytes instr.Float a (inl j) = absurd j.second
plain_shortest bytes i a (inl j) =
    let e = encoding i in
    let p : NoLonger (Joined (λ a. a ≡ e.opcode) (λ b. Spells e.immediates b e.value)) bytes (e.opcode ++ shortest e.immediates e.value) =
    joined_shortest bytes e.opcode (shortest e.immediates e.value) a j (λ b. fixed j.front e.opcode j.first) (λ b. value_shortest e.immediates j.back e.value b j.second) in
    record { spells = inl p.spells; shorter = p.shorter }
