-- What is read is formed: a block's label is repeated at its own `else` and `end` alone.
use Rattle.std.proofs.Common.{◌≡◌, ℕ, Bool, true, false, cond, List, [], ◌∷◌, codes, Option, Some, None, subst}
use Rattle.std.specs.List.{AllByRecursion}
use Rattle.std.specs.Option.{option_map, option_and_then}
use Rattle.std.specs.Str.{bytes_eq}
use Rattle.wasm_ast.specs.declared.types.ValType.{ValType}
use Rattle.wasm_ast.specs.declared.instr.Construct.{Construct}
use Rattle.wat_names.specs.declared.named.Named.{Named}
use Rattle.wat_names.specs.Named.{named_by}
use Rattle.wat_fields.specs.Items.{Items, Empty, Word, Group}
use Rattle.wat_syntax.specs.Parsed.{Identifier, Instructions, Done, Then, Block, If}
use Rattle.wat_syntax.specs.Immediates.{is_empty, whole, identifier_front, result_front}
use Rattle.wat_immediates.specs.PlainForms.{plain_of}
use Rattle.wat_immediates.specs.InstructionForms.{append, Part, One, Opens, Elses, Ends, Folded, FirstArm, SecondArm, Ending, Last, AtEnd, AtElse, Level, level, in_front, arm_ending, block_of, if_last, before_else, before_open, before, levels, only_level, nested, Row, row, parts_alone, alone, opens, part_of, operands, arms, folded_open, first_arm, named_group, folded, with_word, with_part, is_immediate, with_group, row_of, instructions_of}
use Rattle.wat_syntax.specs.Formed.{IsFormed}
use Rattle.wasm_ast.specs.declared.instr.Construct.TheVariants as construct
use Rattle.wat_names.specs.declared.named.Named.TheVariants as named

-- what is there has the property
abbrev Holds : {A : Type 0} → (A → Type 0) → Option A → Type 0
Holds P None = Unit {0}
Holds P (Some a) = P a

holds_map : {A B : Type 0} (P : A → Type 0) (Q : B → Type 0) (f : A → B) (o : Option A) → ((a : A) → P a → Q (f a)) → Holds P o → Holds Q (option_map f o)
holds_map P Q f None h k = tt
holds_map P Q f (Some a) h k = h a k

holds_then : {A B : Type 0} (P : A → Type 0) (Q : B → Type 0) (f : A → Option B) (o : Option A) → ((a : A) → P a → Holds Q (f a)) → Holds P o → Holds Q (option_and_then f o)
holds_then P Q f None h k = tt
holds_then P Q f (Some a) h k = h a k

-- whatever is there
holds_any : {A B : Type 0} (Q : B → Type 0) (f : A → B) (o : Option A) → ((a : A) → Q (f a)) → Holds Q (option_map f o)
holds_any Q f None h = tt
holds_any Q f (Some a) h = h a

holds_each : {A B : Type 0} (Q : B → Type 0) (f : A → Option B) (o : Option A) → ((a : A) → Holds Q (f a)) → Holds Q (option_and_then f o)
holds_each Q f None h = tt
holds_each Q f (Some a) h = h a

holds_if : {A : Type 0} (P : A → Type 0) (b : Bool) (x y : Option A) → Holds P x → Holds P y → Holds P (cond b x y)
holds_if P true x y h k = h
holds_if P false x y h k = k

-- ---- parts and levels

abbrev IsFormedPart : Part → Type 0
IsFormedPart (Folded is) = IsFormed is
IsFormedPart (FirstArm is) = IsFormed is
IsFormedPart (SecondArm is) = IsFormed is
IsFormedPart p = Unit {0}

abbrev IsFormedEnding : Ending → Type 0
IsFormedEnding (AtElse label second end_label) = IsFormed second
IsFormedEnding e = Unit {0}

abbrev IsFormedLevel : Level → Type 0
IsFormedLevel l = IsFormed l.instructions × IsFormedEnding l.ending

abbrev AreLevels : List Level → Type 0
AreLevels ls = AllByRecursion IsFormedLevel ls

abbrev AreParts : List Part → Type 0
AreParts ps = AllByRecursion IsFormedPart ps

append_formed : (is js : Instructions) → IsFormed is → IsFormed js → IsFormed (append is js)
append_formed Done js h k = k
append_formed (Then i rest) js h k = append_formed rest js h k
append_formed (Block kind label repeated of body rest) js h k = (h.0, h.1, append_formed rest js h.2 k)
append_formed (If label repeated of first second rest) js h k = (h.0, h.1, h.2, append_formed rest js h.3 k)

front_formed : (f : Instructions → Instructions) → ((is : Instructions) → IsFormed is → IsFormed (f is)) → (ls : List Level) → AreLevels ls → Holds AreLevels (in_front f ls)
front_formed f h [] k = tt
front_formed f h (l ∷ ls) k = ((h l.instructions k.0.0, k.0.1), k.1)

block_formed : (c : Construct) (label : Identifier) (of : Option ValType) (body : Instructions) (e : Ending) (rest : Instructions) → IsFormed body → IsFormedEnding e → IsFormed rest → Holds IsFormed (block_of c label of body e rest)
block_formed (construct.Block k) label of body (AtEnd l) rest h e r = (tt, h, r)
block_formed construct.If label of body (AtEnd l) rest h e r = (tt, h, tt, r)
block_formed construct.If label of body (AtElse l second m) rest h e r = (tt, h, e, r)
block_formed c label of body e rest h k r = tt

open_formed : (c : Construct) (label : Identifier) (of : Option ValType) (ls : List Level) → AreLevels ls → Holds AreLevels (before_open c label of ls)
open_formed c label of (body ∷ behind ∷ ls) k =
    holds_map IsFormed AreLevels (λ is. level is behind.ending ∷ ls) (block_of c label of body.instructions body.ending behind.instructions) (λ is h. ((h, k.1.0.1), k.1.1))
    (block_formed c label of body.instructions body.ending behind.instructions k.0.0 k.0.1 k.1.0.0)
open_formed c label of ls k = tt

arm_formed : (label : Identifier) (second : Instructions) (e : Ending) → IsFormed second → Holds IsFormedEnding (arm_ending label second e)
arm_formed label second (AtEnd l) h = h
arm_formed label second e h = tt

else_formed : (label : Identifier) (ls : List Level) → AreLevels ls → Holds AreLevels (before_else label ls)
else_formed label [] k = tt
else_formed label (l ∷ ls) k = holds_map IsFormedEnding AreLevels (λ ending. level Done ending ∷ ls) (arm_ending label l.instructions l.ending) (λ e h. ((tt, h), k.1)) (arm_formed label l.instructions l.ending k.0.0)

before_formed : (p : Part) (ls : List Level) → IsFormedPart p → AreLevels ls → Holds AreLevels (before p ls)
before_formed (One i) ls h k = front_formed (Then i) (λ is f. f) ls k
before_formed (Opens c label of) ls h k = open_formed c label of ls k
before_formed (Elses label) ls h k = else_formed label ls k
before_formed (Ends label) ls h k = ((tt, tt), k)
before_formed (Folded is) ls h k = front_formed (append is) (λ js f. append_formed is js h f) ls k
before_formed p ls h k = tt

levels_formed : (ps : List Part) → AreParts ps → Holds AreLevels (levels ps)
levels_formed [] h = ((tt, tt), tt)
levels_formed (p ∷ ps) h = holds_then AreLevels AreLevels (before p) (levels ps) (λ ls k. before_formed p ls h.0 k) (levels_formed ps h.1)

last_formed : (e : Ending) (is : Instructions) → IsFormed is → Holds IsFormed (if_last e is)
last_formed Last is h = h
last_formed e is h = tt

only_formed : (ls : List Level) → AreLevels ls → Holds IsFormed (only_level ls)
only_formed (l ∷ []) k = last_formed l.ending l.instructions k.0.0
only_formed ls k = tt

nested_formed : (ps : List Part) → AreParts ps → Holds IsFormed (nested ps)
nested_formed ps h = holds_then AreLevels IsFormed only_level (levels ps) only_formed (levels_formed ps h)

-- ---- rows

alone_formed : (r : Row) → AreParts r.parts → Holds IsFormed (alone r)
alone_formed r h = holds_then AreParts IsFormed nested (parts_alone r) nested_formed (holds_if AreParts (is_empty r.immediates) (Some r.parts) None h tt)

operands_formed : (ps : List Part) → AreParts ps → Holds IsFormed (operands ps)
operands_formed (Folded is ∷ ps) h = holds_map IsFormed IsFormed (append is) (operands ps) (λ js k. append_formed is js h.0 k) (operands_formed ps h.1)
operands_formed ps h = tt

arms_formed : (label : Identifier) (of : Option ValType) (ps : List Part) → AreParts ps → Holds IsFormed (arms label of ps)
arms_formed label of (Folded is ∷ ps) h = holds_map IsFormed IsFormed (append is) (arms label of ps) (λ js k. append_formed is js h.0 k) (arms_formed label of ps h.1)
arms_formed label of (FirstArm is ∷ []) h = (tt, h.0, tt, tt)
arms_formed label of (FirstArm is ∷ SecondArm js ∷ []) h = (tt, h.0, h.1.0, tt)
arms_formed label of ps h = tt

open_case : (ps : List Part) → AreParts ps → (p : Option Part) → Holds IsFormedPart (folded_open ps p)
open_case ps h (Some (One i)) = holds_map IsFormed IsFormedPart (λ is. Folded (append is (Then i Done))) (operands ps) (λ is f. append_formed is (Then i Done) f tt) (operands_formed ps h)
open_case ps h (Some (Opens (construct.Block b) label of)) = holds_map IsFormed IsFormedPart (λ body. Folded (Block b label [] of body Done)) (nested ps) (λ body f. (tt, f, tt)) (nested_formed ps h)
open_case ps h (Some (Opens construct.If label of)) = holds_map IsFormed IsFormedPart Folded (arms label of ps) (λ is f. f) (arms_formed label of ps h)
open_case ps h p = tt

opens_formed : (c : Construct) (items : Items) → Holds IsFormedPart (opens c items)
opens_formed c items = holds_any IsFormedPart (Opens c (identifier_front items).value) (option_and_then whole (result_front (identifier_front items).rest)) (λ x. tt)

part_formed : (n : Named) (items : Items) → Holds IsFormedPart (part_of n items)
part_formed named.Block items = opens_formed _ items
part_formed named.Loop items = opens_formed _ items
part_formed named.If items = opens_formed _ items
part_formed named.Else items = holds_any IsFormedPart Elses (whole (identifier_front items)) (λ x. tt)
part_formed named.End items = holds_any IsFormedPart Ends (whole (identifier_front items)) (λ x. tt)
part_formed n items = holds_any IsFormedPart One (plain_of n items) (λ x. tt)

group_formed : (r : Row) (n : Named) → AreParts r.parts → Holds IsFormedPart (named_group r n)
group_formed r named.Else h = holds_map IsFormed IsFormedPart SecondArm (alone r) (λ is f. f) (alone_formed r h)
group_formed r n h = open_case r.parts h (part_of n r.immediates)

folded_formed : (keyword : List ℕ) (r : Row) → AreParts r.parts → Holds IsFormedPart (folded keyword r)
folded_formed keyword r h =
    holds_if IsFormedPart (bytes_eq keyword (codes "then")) (first_arm r) (option_and_then (named_group r) (named_by keyword))
    (holds_map IsFormed IsFormedPart FirstArm (alone r) (λ is f. f) (alone_formed r h))
    (holds_each IsFormedPart (named_group r) (named_by keyword) (λ n. group_formed r n h))

abbrev IsFormedRow : Row → Type 0
IsFormedRow r = AreParts r.parts

word_formed : (word : List ℕ) (r : Row) (n : Option Named) → IsFormedRow r → Holds IsFormedRow (with_word word r n)
word_formed word r None h = h
word_formed word r (Some n) h = holds_map IsFormedPart IsFormedRow (λ p. row Empty (p ∷ r.parts)) (part_of n r.immediates) (λ p f. (f, h)) (part_formed n r.immediates)

with_part_formed : (r : Row) (p : Part) → IsFormedRow r → IsFormedPart p → Holds IsFormedRow (with_part r p)
with_part_formed r p h k = holds_map AreParts IsFormedRow (λ ps. row Empty (p ∷ ps)) (parts_alone r) (λ ps f. (k, f)) (holds_if AreParts (is_empty r.immediates) (Some r.parts) None h tt)

with_group_formed : (line : ℕ) (keyword : List ℕ) (inside : Items) (behind : Option Row) (r : Row) → Holds IsFormedRow behind → IsFormedRow r → Holds IsFormedRow (with_group line keyword inside behind r)
with_group_formed line keyword inside behind r b h =
    holds_if IsFormedRow (is_immediate keyword) (Some (row (Group line (Word keyword inside) r.immediates) r.parts)) (option_and_then (with_part r) (option_and_then (folded keyword) behind)) h
    (holds_then IsFormedPart IsFormedRow (with_part r) (option_and_then (folded keyword) behind) (λ p k. with_part_formed r p h k) (holds_then IsFormedRow IsFormedPart (folded keyword) behind (folded_formed keyword) b))

row_formed : (items : Items) → Holds IsFormedRow (row_of items)
row_formed (Word word rest) = holds_then IsFormedRow IsFormedRow (λ r. with_word word r (named_by word)) (row_of rest) (λ r h. word_formed word r (named_by word) h) (row_formed rest)
row_formed (Group line (Word keyword inside) rest) =
    holds_then IsFormedRow IsFormedRow (with_group line keyword inside (row_of inside)) (row_of rest) (λ r h. with_group_formed line keyword inside (row_of inside) r (row_formed inside) h) (row_formed rest)
row_formed items = tt

-- the instructions that items are
pub instructions_formed : (items : Items) (is : Instructions) → instructions_of items ≡ Some is → IsFormed is
instructions_formed items is e = subst (Holds IsFormed) e (holds_then IsFormedRow IsFormed alone (row_of items) alone_formed (row_formed items))
