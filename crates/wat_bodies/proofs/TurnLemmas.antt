-- A turn over a word or a group.
use Rattle.std.proofs.Common.{◌≡◌, ℕ, ◌<◌, ◌≤◌, Bool, true, false, cond, List, [], ◌∷◌, ◌++◌, Option, Some, None, refl, sym, ◌∙◌, ap, subst, arith}
use Rattle.std.specs.Prelude.{codes}
use Rattle.std.specs.Option.{is_none, option_map, option_and_then}
use Rattle.std.specs.Str.{bytes_eq}
use Rattle.wasm_ast.specs.declared.types.ValType.{ValType}
use Rattle.wat_names.specs.Named.{named_by}
use Rattle.wat_names.specs.declared.named.Named.{Named}
use Rattle.wat_fields.specs.Items.{Items, Empty, Word, Group}
use Rattle.wat_syntax.specs.Parsed.{Identifier, Plain, Instructions}
use Rattle.wat_immediates.specs.InstructionForms.{append, Part, Folded, Level, in_front, levels, only_level, nested, operands, arms, Row, row, row_of, parts_alone, part_of, with_word, with_part, folded, folded_open, first_arm, named_group, is_immediate}
use Rattle.wat_immediates.specs.Rows.{immediates, past, parts_of}
use Rattle.wat_syntax.specs.Flat.{FlatStep, flat}
use Rattle.wat_bodies.specs.Nesting.{Frame, ahead, after, second_part, last_level, levels_in, under, held, to_come, stands_in, is_else, size, frames_size, left, Puts, Moves}
use Rattle.wat_bodies.proofs.RowLemmas.{behind_these, row_is}
use Rattle.wat_bodies.proofs.NestingLemmas.{three, flat_append, under_front, then_come}
use Rattle.wat_names.specs.declared.named.Named.TheVariants as named
use Rattle.wat_bodies.specs.declared.nesting.Stands.TheVariants as stands
use Rattle.wat_syntax.specs.Flat as step
use Rattle.wat_bodies.specs.Nesting as frame

-- ---- how much is left

past_word : (word : List ℕ) (rest : Items) (b : Bool) → size (past rest) ≤ size rest → size (cond b (past rest) (Word word rest)) ≤ size (Word word rest)
unfolding size
past_word word rest true h = omega arith
past_word word rest false h = omega arith

past_group : (line : ℕ) (inside rest : Items) (b : Bool) → size (past rest) ≤ size rest → size (cond b (past rest) (Group line inside rest)) ≤ size (Group line inside rest)
unfolding size
past_group line inside rest true h = omega arith
past_group line inside rest false h = omega arith

pub past_size : (items : Items) → size (past items) ≤ size items
past_size (Word word rest) = past_word word rest (is_none (named_by word)) (past_size rest)
past_size (Group line (Word keyword inside) rest) = past_group line (Word keyword inside) rest (is_immediate keyword) (past_size rest)
past_size items = omega arith

-- ---- words

-- a part in front of others
abbrev pub led_by : Option (List Part) → Option Part → Option (List Part)
led_by ps p = option_and_then (λ x. option_map (λ xs. x ∷ xs) ps) p

led_word : (ps : List Part) (p : Option Part) → option_and_then parts_alone (option_map (λ x. row Empty (x ∷ ps)) p) ≡ led_by (Some ps) p
led_word ps None = refl
led_word ps (Some p) = refl

led_none : (p : Option Part) → led_by None p ≡ None
led_none None = refl
led_none (Some p) = refl

named_parts : (word : List ℕ) (n : Named) (items : Items) (ps : Option (List Part)) →
    option_and_then parts_alone (option_and_then (λ x. with_word word x (Some n)) (behind_these items ps)) ≡ led_by ps (part_of n items)
named_parts word n items None = sym (led_none (part_of n items))
named_parts word n items (Some ps) = led_word ps (part_of n items)

pub word_parts : (word : List ℕ) (rest : Items) (n : Named) (p : Option Part) → named_by word ≡ Some n → part_of n (immediates rest) ≡ p →
    parts_of (Word word rest) ≡ led_by (parts_of (past rest)) p
word_parts word rest n p e h =
    ap (λ m. option_and_then parts_alone (option_and_then (λ r. with_word word r m) (row_of rest))) e
    ∙ ap (λ r. option_and_then parts_alone (option_and_then (λ x. with_word word x (Some n)) r)) (row_is rest)
    ∙ named_parts word n (immediates rest) (parts_of (past rest)) ∙ ap (led_by (parts_of (past rest))) h

unnamed_parts : (word : List ℕ) (r : Option Row) → option_and_then parts_alone (option_and_then (λ x. with_word word x None) r) ≡ None
unnamed_parts word None = refl
unnamed_parts word (Some r) = refl

pub no_parts : (fs : List Frame) (items : Items) → parts_of items ≡ None → to_come fs items ≡ None
unfolding to_come
no_parts fs items e = ap (option_and_then (λ ps. held fs ps)) e

pub unnamed_word : (fs : List Frame) (word : List ℕ) (rest : Items) → named_by word ≡ None → to_come fs (Word word rest) ≡ None
unnamed_word fs word rest e =
    no_parts fs (Word word rest) (ap (λ m. option_and_then parts_alone (option_and_then (λ r. with_word word r m) (row_of rest))) e ∙ unnamed_parts word (row_of rest))

pub formless_word : (fs : List Frame) (word : List ℕ) (rest : Items) (n : Named) → named_by word ≡ Some n → part_of n (immediates rest) ≡ None → to_come fs (Word word rest) ≡ None
formless_word fs word rest n e h = no_parts fs (Word word rest) (word_parts word rest n None e h)

misplaced : (fs : List Frame) (p : Part) (ps : Option (List Part)) → ((xs : List Part) → held fs (p ∷ xs) ≡ None) → option_and_then (λ xs. held fs xs) (led_by ps (Some p)) ≡ None
misplaced fs p None h = refl
misplaced fs p (Some ps) h = h ps

pub misplaced_word : (fs : List Frame) (word : List ℕ) (rest : Items) (n : Named) (p : Part) → named_by word ≡ Some n → part_of n (immediates rest) ≡ Some p →
    ((ps : List Part) → held fs (p ∷ ps) ≡ None) → to_come fs (Word word rest) ≡ None
unfolding to_come
misplaced_word fs word rest n p e h m =
    ap (option_and_then (λ ps. held fs ps)) (word_parts word rest n (Some p) e h) ∙ misplaced fs p (parts_of (past rest)) m

placed : (E E' : List FlatStep) (fs fs' : List Frame) (p : Part) (ps : Option (List Part)) → ((xs : List Part) → ahead E (held fs (p ∷ xs)) ≡ ahead E' (held fs' xs)) →
    ahead E (option_and_then (λ xs. held fs xs) (led_by ps (Some p))) ≡ ahead E' (option_and_then (λ xs. held fs' xs) ps)
placed E E' fs fs' p None h = refl
placed E E' fs fs' p (Some ps) h = h ps

placed_word : (E E' : List FlatStep) (fs fs' : List Frame) (word : List ℕ) (rest : Items) (n : Named) (p : Part) → named_by word ≡ Some n → part_of n (immediates rest) ≡ Some p →
    Puts E E' fs fs' p → ahead E (to_come fs (Word word rest)) ≡ ahead E' (to_come fs' (past rest))
unfolding to_come
placed_word E E' fs fs' word rest n p e h put =
    ap (λ x. ahead E (option_and_then (λ ps. held fs ps) x)) (word_parts word rest n (Some p) e h) ∙ placed E E' fs fs' p (parts_of (past rest)) put.same

less_word : (fs fs' : List Frame) (word : List ℕ) (rest : Items) → frames_size fs' ≡ frames_size fs → left fs' (past rest) < left fs (Word word rest)
unfolding size
less_word fs fs' word rest e = omega (arith, past_size rest)

pub word_moves : (E E' : List FlatStep) (fs fs' : List Frame) (word : List ℕ) (rest at : Items) (n : Named) (p : Part) → named_by word ≡ Some n → part_of n (immediates rest) ≡ Some p →
    at ≡ past rest → Puts E E' fs fs' p → Moves E E' fs fs' (Word word rest) at
word_moves E E' fs fs' word rest at n p e h a put =
    subst (λ x. Moves E E' fs fs' (Word word rest) x) (sym a)
    (record { same = placed_word E E' fs fs' word rest n p e h put; less = less_word fs fs' word rest put.size; nested = put.nested })

-- ---- groups

led_group : (p : Part) (ps : Option (List Part)) → option_and_then parts_alone (option_map (λ x. row Empty (p ∷ x)) ps) ≡ option_map (λ xs. p ∷ xs) ps
led_group p None = refl
led_group p (Some ps) = refl

grouped : (b : Bool) (o : Row → Option Row) (r : Option Row) (p : Option Part) → b ≡ false →
    option_and_then parts_alone (option_and_then (λ x. cond b (o x) (option_and_then (with_part x) p)) r) ≡ led_by (option_and_then parts_alone r) p
grouped true o r p e = cc
grouped false o None p e = sym (led_none p)
grouped false o (Some r) None e = refl
grouped false o (Some r) (Some p) e = led_group p (parts_alone r)

pub group_parts : (line : ℕ) (keyword : List ℕ) (inside rest : Items) (p : Option Part) → is_immediate keyword ≡ false → option_and_then (folded keyword) (row_of inside) ≡ p →
    parts_of (Group line (Word keyword inside) rest) ≡ led_by (parts_of rest) p
group_parts line keyword inside rest p e h =
    grouped (is_immediate keyword) (λ r. Some (row (Group line (Word keyword inside) r.immediates) r.parts)) (row_of rest) (option_and_then (folded keyword) (row_of inside)) e
    ∙ ap (led_by (parts_of rest)) h

immediate_parts : (line : ℕ) (inner : Items) (b : Bool) (o : Row → Option Row) (r : Option Row) → b ≡ true →
    option_and_then parts_alone (option_and_then (λ x. cond b (Some (row (Group line inner x.immediates) x.parts)) (o x)) r) ≡ None
immediate_parts line inner true o None e = refl
immediate_parts line inner true o (Some r) e = refl
immediate_parts line inner false o r e = cc

-- an immediate that stands behind no instruction
pub immediate_group : (fs : List Frame) (line : ℕ) (keyword : List ℕ) (inside rest : Items) → is_immediate keyword ≡ true → to_come fs (Group line (Word keyword inside) rest) ≡ None
immediate_group fs line keyword inside rest e =
    no_parts fs (Group line (Word keyword inside) rest)
    (immediate_parts line (Word keyword inside) (is_immediate keyword) (λ r. option_and_then (with_part r) (option_and_then (folded keyword) (row_of inside))) (row_of rest) e)

formless_by : (keyword : List ℕ) (r : Option Row) → bytes_eq keyword (codes "then") ≡ false → named_by keyword ≡ None → option_and_then (folded keyword) r ≡ None
formless_by keyword None e h = refl
formless_by keyword (Some r) e h = ap (λ b. cond b (first_arm r) (option_and_then (named_group r) (named_by keyword))) e ∙ ap (option_and_then (named_group r)) h

-- a group whose keyword names nothing
pub unnamed_group : (fs : List Frame) (line : ℕ) (keyword : List ℕ) (inside rest : Items) → is_immediate keyword ≡ false → bytes_eq keyword (codes "then") ≡ false → named_by keyword ≡ None →
    to_come fs (Group line (Word keyword inside) rest) ≡ None
unnamed_group fs line keyword inside rest i e h =
    no_parts fs (Group line (Word keyword inside) rest) (group_parts line keyword inside rest None i (formless_by keyword (row_of inside) e h))

named_plain : (n : Named) (r : Row) → is_else n ≡ false → named_group r n ≡ folded_open r.parts (part_of n r.immediates)
named_plain named.Else r e = cc
named_plain n r e = refl

folded_row : (keyword : List ℕ) (n : Named) (r : Row) → bytes_eq keyword (codes "then") ≡ false → named_by keyword ≡ Some n → is_else n ≡ false →
    folded keyword r ≡ folded_open r.parts (part_of n r.immediates)
folded_row keyword n r e h k =
    ap (λ b. cond b (first_arm r) (option_and_then (named_group r) (named_by keyword))) e ∙ ap (option_and_then (named_group r)) h ∙ named_plain n r k

folded_rows : (keyword : List ℕ) (n : Named) (items : Items) (qs : Option (List Part)) (p : Option Part) → bytes_eq keyword (codes "then") ≡ false → named_by keyword ≡ Some n → is_else n ≡ false →
    part_of n items ≡ p → option_and_then (folded keyword) (behind_these items qs) ≡ option_and_then (λ q. folded_open q p) qs
folded_rows keyword n items None p e h k o = refl
folded_rows keyword n items (Some qs) p e h k o = folded_row keyword n (row items qs) e h k ∙ ap (folded_open qs) o

-- a group of a folded instruction, by its part
pub folded_parts : (line : ℕ) (keyword : List ℕ) (inside rest : Items) (n : Named) (p : Option Part) → is_immediate keyword ≡ false → bytes_eq keyword (codes "then") ≡ false →
    named_by keyword ≡ Some n → is_else n ≡ false → part_of n (immediates inside) ≡ p →
    parts_of (Group line (Word keyword inside) rest) ≡ led_by (parts_of rest) (option_and_then (λ q. folded_open q p) (parts_of (past inside)))
folded_parts line keyword inside rest n p i e h k o =
    group_parts line keyword inside rest (option_and_then (λ q. folded_open q p) (parts_of (past inside))) i
    (ap (option_and_then (folded keyword)) (row_is inside) ∙ folded_rows keyword n (immediates inside) (parts_of (past inside)) p e h k o)

-- ---- folded instructions

last_folded : (is : Instructions) (o : Option Instructions) → option_map last_level (option_map (append is) o) ≡ option_and_then (in_front (append is)) (option_map last_level o)
last_folded is None = refl
last_folded is (Some o) = refl

levels_folded : (fs : List Frame) (is : Instructions) (ps : List Part) → (stands_in fs ≡ stands.Second → ⊥) →
    levels_in fs (Folded is ∷ ps) ≡ option_and_then (in_front (append is)) (levels_in fs ps)
levels_folded (frame.Operands i behind ∷ fs) is ps h = last_folded is (operands ps)
levels_folded (frame.Tests label of behind ∷ fs) is ps h = last_folded is (arms label of ps)
levels_folded (frame.Second behind ∷ fs) is ps h = absurd (h refl)
levels_folded fs is ps h = refl

folded_levels : (fs : List Frame) (is : Instructions) (ls : Option (List Level)) →
    option_and_then (λ ms. under fs ms) (option_and_then (in_front (append is)) ls) ≡ ahead (flat is) (option_and_then (λ ms. under fs ms) ls)
folded_levels fs is None = refl
folded_levels fs is (Some ls) = under_front (append is) (flat is) (flat_append is) fs ls

folded_held : (fs : List Frame) (is : Instructions) (ps : List Part) → (stands_in fs ≡ stands.Second → ⊥) → held fs (Folded is ∷ ps) ≡ ahead (flat is) (held fs ps)
unfolding held
folded_held fs is ps h = ap (option_and_then (λ ms. under fs ms)) (levels_folded fs is ps h) ∙ folded_levels fs is (levels_in fs ps)

-- a folded instruction in front of parts, by the steps in front of its inner ones and behind them
folded_front : (fs : List Frame) (f : Instructions → Instructions) (s t : List FlatStep) (x : Option Instructions) (ps : Option (List Part)) → ((is : Instructions) → flat (f is) ≡ s ++ (flat is ++ t)) →
    (stands_in fs ≡ stands.Second → ⊥) →
    option_and_then (λ xs. held fs xs) (led_by ps (option_map (λ is. Folded (f is)) x)) ≡ ahead s (after x t (option_and_then (λ xs. held fs xs) ps))
folded_front fs f s t (Some is) (Some ps) h k = folded_held fs (f is) ps k ∙ ap (λ x. ahead x (held fs ps)) (h is) ∙ sym (three s (flat is) t (held fs ps))
folded_front fs f s t x ps h k = refl

pub folded_steps : (fs : List Frame) (g : Frame) (f : Instructions → Instructions) (s t : List FlatStep) (x : List Part → Option Instructions) (qs ps : Option (List Part)) →
    ((is : Instructions) → flat (f is) ≡ s ++ (flat is ++ t)) → (stands_in fs ≡ stands.Second → ⊥) →
    ((q : List Part) → held (g ∷ fs) q ≡ after (x q) t (option_and_then (λ xs. held fs xs) ps)) →
    option_and_then (λ xs. held fs xs) (led_by ps (option_and_then (λ q. option_map (λ is. Folded (f is)) (x q)) qs)) ≡ ahead s (option_and_then (λ q. held (g ∷ fs) q) qs)
folded_steps fs g f s t x None ps h k u = refl
folded_steps fs g f s t x (Some qs) ps h k u = folded_front fs f s t (x qs) ps h k ∙ ap (ahead s) (sym (u qs))

last_after : (g : List Level → Option (List FlatStep)) (t : List FlatStep) (m : Option (List FlatStep)) (x : Option Instructions) → ((is : Instructions) → g (last_level is) ≡ after (Some is) t m) →
    option_and_then g (option_map last_level x) ≡ after x t m
last_after g t m None h = refl
last_after g t m (Some is) h = h is

pub operands_held : (fs : List Frame) (i : Plain) (behind : Items) (q : List Part) →
    held (frame.Operands i behind ∷ fs) q ≡ after (operands q) (step.One i ∷ []) (option_and_then (λ xs. held fs xs) (parts_of behind))
unfolding held under
operands_held fs i behind q = last_after (λ ms. under (frame.Operands i behind ∷ fs) ms) (step.One i ∷ []) (then_come fs behind) (operands q) (λ is. refl)

pub tests_held : (fs : List Frame) (label : Identifier) (of : Option ValType) (behind : Items) (q : List Part) →
    held (frame.Tests label of behind ∷ fs) q ≡ after (arms label of q) [] (option_and_then (λ xs. held fs xs) (parts_of behind))
unfolding held under
tests_held fs label of behind q = last_after (λ ms. under (frame.Tests label of behind ∷ fs) ms) [] (then_come fs behind) (arms label of q) (λ is. refl)

pub second_held : (fs : List Frame) (behind : Items) (q : List Part) →
    held (frame.Second behind ∷ fs) q ≡ after (second_part q) (step.End None ∷ []) (option_and_then (λ xs. held fs xs) (parts_of behind))
unfolding held under
second_held fs behind q = last_after (λ ms. under (frame.Second behind ∷ fs) ms) (step.End None ∷ []) (then_come fs behind) (second_part q) (λ is. refl)

nested_after : (t : List FlatStep) (m : Option (List FlatStep)) (ls : Option (List Level)) → option_and_then (λ ms. after (only_level ms) t m) ls ≡ after (option_and_then only_level ls) t m
nested_after t m None = refl
nested_after t m (Some ls) = refl

pub body_held : (fs : List Frame) (behind : Items) (q : List Part) →
    held (frame.Body behind ∷ fs) q ≡ after (nested q) (step.End None ∷ []) (option_and_then (λ xs. held fs xs) (parts_of behind))
unfolding held under
body_held fs behind q = nested_after (step.End None ∷ []) (then_come fs behind) (levels q)

pub first_held : (fs : List Frame) (others behind : Items) (q : List Part) →
    held (frame.First others behind ∷ fs) q
    ≡ after (nested q) (step.Else None ∷ []) (after (option_and_then second_part (parts_of others)) (step.End None ∷ []) (option_and_then (λ xs. held fs xs) (parts_of behind)))
unfolding held under
first_held fs others behind q =
    nested_after (step.Else None ∷ []) (after (option_and_then second_part (parts_of others)) (step.End None ∷ []) (then_come fs behind)) (levels q)
