-- Types are written so that they are spelled, in the fewest bytes.
use Rattle.std.proofs.Common.{ℕ, Bool, true, false, List, [], ◌∷◌, ◌++◌, Option, Some, None, sym, subst}
use Rattle.wasm_ast.specs.declared.types.{ValType.ValType, FuncType.FuncType}
use Rattle.wasm_ast.specs.Spelling.{Joined, SpellsU32}
use Rattle.wasm_ast.specs.Shortest.{shortest_unsigned, canon_vec}
use Rattle.wasm_ast.specs.CanonInstr.{block_type_byte}
use Rattle.wasm_ast.specs.Canon.{canon_val_type, canon_func_type, canon_limits_of, canon_memory, canon_table, canon_global_type}
use Rattle.wasm_ast.specs.SpelledTypes.{valtype_byte, SpellsValType, SpellsBlockType, SpellsFuncType, LimitsForm, SpellsMemory, SpellsTable, SpellsGlobalType}
use Rattle.wasm_encode.proofs.ShortestNumbers.{AreBytes, NoLonger}
use Rattle.wasm_encode.proofs.ShortestVectors.{IsShortest, u32_is, fixed, pair_shortest, behind_shortest, vec_shortest}

pub valtype_shortest : IsShortest SpellsValType canon_val_type
valtype_shortest bytes of a s = fixed bytes (valtype_byte of ∷ []) s

pub blocktype_shortest : IsShortest SpellsBlockType (λ of. block_type_byte of ∷ [])
blocktype_shortest bytes None a s = fixed bytes (0x40 ∷ []) s
blocktype_shortest bytes (Some of) a s = fixed bytes (valtype_byte of ∷ []) s

pub functype_shortest : IsShortest SpellsFuncType canon_func_type
functype_shortest bytes f a s =
    behind_shortest 0x60 bytes (canon_vec canon_val_type f.params ++ canon_vec canon_val_type f.results) a s
    (λ rest b j. pair_shortest (λ (f : FuncType). f.params) (λ (f : FuncType). f.results) (vec_shortest valtype_shortest) (vec_shortest valtype_shortest) rest f b j)

-- two limits
two_shortest : IsShortest (λ bytes (l : ℕ × ℕ). Joined (λ a. SpellsU32 a l.0) (λ b. SpellsU32 b l.1) bytes) (λ l. shortest_unsigned l.0 ++ shortest_unsigned l.1)
two_shortest = pair_shortest (λ (l : ℕ × ℕ). l.0) (λ (l : ℕ × ℕ). l.1) u32_is u32_is

limits_shortest : (min : ℕ) (max : Option ℕ) (shared : Bool) (bytes : List ℕ) → AreBytes bytes → LimitsForm min max shared bytes → NoLonger (LimitsForm min max shared) bytes (canon_limits_of min max shared)
limits_shortest min None true bytes a s = absurd s
limits_shortest min None false bytes a s = behind_shortest 0x00 bytes (shortest_unsigned min) a s (λ rest b t. u32_is rest min b t)
limits_shortest min (Some max) false bytes a s = behind_shortest 0x01 bytes (shortest_unsigned min ++ shortest_unsigned max) a s (λ rest b j. two_shortest rest (min, max) b j)
limits_shortest min (Some max) true bytes a s = behind_shortest 0x03 bytes (shortest_unsigned min ++ shortest_unsigned max) a s (λ rest b j. two_shortest rest (min, max) b j)

pub memory_shortest : IsShortest SpellsMemory canon_memory
memory_shortest bytes l a s = limits_shortest l.min l.max l.shared bytes a s

pub table_shortest : IsShortest SpellsTable canon_table
table_shortest bytes l a s =
    let p = behind_shortest 0x70 bytes (canon_limits_of l.min l.max false) a s.1 (λ rest b t. limits_shortest l.min l.max false rest b t) in
    subst (λ w. NoLonger (λ a. SpellsTable a l) bytes (0x70 ∷ canon_limits_of l.min l.max w)) (sym s.0) (record { spells = (s.0, p.spells); shorter = p.shorter })

pub globaltype_shortest : IsShortest (λ bytes (g : ValType × Bool). SpellsGlobalType bytes g.0 g.1) (λ g. canon_global_type g.0 g.1)
globaltype_shortest bytes g a s = fixed bytes (canon_global_type g.0 g.1) s
