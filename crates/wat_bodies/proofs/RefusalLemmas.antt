-- Turns that are refused.
use Rattle.std.proofs.Common.{◌≡◌, ℕ, true, List, Some, None, refl}
use Rattle.std.specs.Prelude.{Err}
use Rattle.wat_tokens.specs.Tokens.{Token}
use Rattle.wat_names.specs.Named.{named_by}
use Rattle.wat_names.specs.declared.named.Named.{Named}
use Rattle.wat_fields.specs.Items.{Items, Empty, Word, Group}
use Rattle.wat_syntax.specs.declared.parsed.Refusal.{Refusal}
use Rattle.wat_immediates.specs.InstructionForms.{Part, part_of}
use Rattle.wat_syntax.specs.Immediates.{is_empty}
use Rattle.wat_immediates.specs.Rows.{immediates, seen_part, ReadsFront}
use Rattle.wat_syntax.specs.Flat.{FlatStep}
use Rattle.wat_bodies.specs.Nesting.{Frame, Begins, PutsPart, Turns}
use Rattle.wat_bodies.proofs.TurnLemmas.{misplaced_word, formless_word}
use Rattle.wat_bodies.proofs.GroupLemmas.{formless_group}
use Rattle.wat_syntax.specs.declared.parsed.Refusal.TheVariants as refusal

pub word_misput : (tokens : List Token) (E E' : List FlatStep) (fs fs' : List Frame) (word : List ℕ) (rest : Items) (n : Named) (p : Part) (why : Refusal) → named_by word ≡ Some n →
    part_of n (immediates rest) ≡ Some p → PutsPart E E' fs fs' p (Err why) → Turns tokens E E' fs fs' (Word word rest) (Err why)
word_misput tokens E E' fs fs' word rest n p refusal.Form e h m = misplaced_word fs word rest n p e h m
word_misput tokens E E' fs fs' word rest n p refusal.Memory e h m = tt

pub word_refused : (tokens : List Token) (E E' : List FlatStep) (fs fs' : List Frame) (word : List ℕ) (rest : Items) (n : Named) (why : Refusal) → named_by word ≡ Some n →
    ReadsFront seen_part tokens rest (Err why) (part_of n (immediates rest)) → Turns tokens E E' fs fs' (Word word rest) (Err why)
word_refused tokens E E' fs fs' word rest n refusal.Form e h = formless_word fs word rest n e h
word_refused tokens E E' fs fs' word rest n refusal.Memory e h = tt

pub fold_refused : (tokens : List Token) (E E' : List FlatStep) (fs fs' : List Frame) (line : ℕ) (keyword : List ℕ) (inside rest : Items) (n : Named) (why : Refusal) → Begins keyword n →
    ReadsFront seen_part tokens inside (Err why) (part_of n (immediates inside)) → Turns tokens E E' fs fs' (Group line (Word keyword inside) rest) (Err why)
fold_refused tokens E E' fs fs' line keyword inside rest n refusal.Form b h = formless_group fs line keyword inside rest n None b h (λ q. refl)
fold_refused tokens E E' fs fs' line keyword inside rest n refusal.Memory b h = tt

pub empty_is : (items : Items) → is_empty items ≡ true → items ≡ Empty
empty_is Empty e = refl
empty_is items e = cc
