-- The trees that what is left of an image gives.
use Rattle.std.proofs.Common.{◌≡◌, ℕ, ◌<◌, true, false, eqb, List, [], ◌∷◌, ◌++◌, length, drop, Some, Result, Ok, Err, refl, sym, ap, subst, ◌∙◌, arith, length-append}
use Rattle.std.specs.List.{AllByRecursion}
use Rattle.std.proofs.lemmas.Bool.{eqb-true, eqb-false}
use Rattle.std.proofs.lemmas.List.{nil_from_length}
use Rattle.std.specs.Option.{option_and_then}
use Rattle.byte_cursor.specs.declared.leb.CursorFault.{CursorFault}
use Rattle.boot_image.specs.Prelude.{FileTree, only_root, Entry, Content, Directory, File, magic, bytes_of, entry_bytes, Fits, Next, Last, One, Other, next_at, Progress, ImageFault, NotImage, Memory, Means, Image, Remains, with_entry, with_entries, IsBytes, Goes, Makes}
use Rattle.boot_image.specs.declared.read.Progress.TheVariants.{Entry as EntryRead, Last as EndRead}
use Rattle.boot_image.proofs.Items.{IsBytes-behind, Stands, next_takes, next_again, first_of, behind_first}
use Rattle.finite_maps.proofs.Options.{chained_from}

-- what leads from one tree to another, where this stands next
abbrev Follows : Next → List ℕ → FileTree → FileTree → Type 0
Follows Last rest before after = (rest ≡ []) × (before ≡ after)
Follows (One entry) rest before after = (between : FileTree) × (with_entry before entry ≡ Some between) × Remains rest between after
Follows Other rest before after = ⊥

abbrev pub FollowsRead : Result (Next × List ℕ) CursorFault → FileTree → FileTree → Type 0
FollowsRead (Ok next) before after = Follows next.0 next.1 before after
FollowsRead (Err fault) before after = ⊥

pub follows : (bytes : List ℕ) (read : Result (Next × List ℕ) CursorFault) (before after : FileTree) → next_at bytes ≡ read → Remains bytes before after → FollowsRead read before after
unfolding with_entries
follows bytes read before after is remains =
    subst (λ r. FollowsRead r before after) (sym (next_again remains.entries remains.fit) ∙ ap next_at (sym remains.are) ∙ is) (by remains.entries remains.fit remains.gives)
  where
    by : (entries : List Entry) → AllByRecursion Fits entries → with_entries before entries ≡ Some after → FollowsRead (Ok (first_of entries)) before after
    by [] fit gives = (refl, cc)
    by (entry ∷ entries) fit gives =
        let first = chained_from (λ next. with_entries next entries) (with_entry before entry) after gives in
        (first.0, first.1, record { entries = entries; fit = fit.1; are = refl; gives = first.2 })

followed : (next : Next) (bytes rest : List ℕ) (before after : FileTree) → Stands next bytes rest → Follows next rest before after → Remains bytes before after
unfolding with_entries
followed Last bytes rest before after is f = record { entries = []; fit = tt; are = is ∙ ap (λ (b : List ℕ). 0 ∷ b) f.0; gives = ap (λ t. Some t) f.1 }
followed (One entry) bytes rest before after is f =
    let more = f.2 in
    record {
      entries = entry ∷ more.entries;
      fit = (is.1, more.fit);
      are = is.0 ∙ ap (λ (b : List ℕ). entry_bytes entry ++ b) more.are ∙ sym (behind_first entry more.entries);
      gives = ap (option_and_then (λ next. with_entries next more.entries)) f.1 ∙ more.gives;
    }
followed Other bytes rest before after is f = absurd f

shorter : (bytes rest : List ℕ) (entry : Entry) → bytes ≡ entry_bytes entry ++ rest → length rest < length bytes
shorter bytes rest entry parts = rw parts (omega (arith, length-append (entry_bytes entry) rest, some entry.path entry.content))
  where
    some : (path : List ℕ) (content : Content) → 0 < length (bytes_of path content)
    some path Directory = omega arith
    some path (File bytes) = omega arith

-- ---- a step

pub goes : (bytes rest : List ℕ) (before after : FileTree) (item : Next) (answer : Result Progress ImageFault) → IsBytes bytes → next_at bytes ≡ Ok (item, rest) → Makes item answer before after → Goes answer bytes before rest after
goes bytes rest before after Last (Ok EndRead) fits e made = (next_takes bytes (Last, rest) fits e, made)
goes bytes rest before after Last (Ok EntryRead) fits e made = absurd made
goes bytes rest before after Last (Err fault) fits e made = absurd made
goes bytes rest before after (One entry) (Ok EntryRead) fits e made =
    let is = next_takes bytes (One entry, rest) fits e in
    record {
      bytes = IsBytes-behind bytes (entry_bytes entry) rest is.0 fits;
      fewer = shorter bytes rest entry is.0;
      to = λ tree remains.
          let f = follows bytes (Ok (One entry, rest)) before tree e remains in
          let same : f.0 ≡ after = cc (f.1, made) in
          subst (λ t. Remains rest t tree) same f.2;
      from = λ tree remains. followed (One entry) bytes rest before tree is (after, made, remains);
    }
goes bytes rest before after (One entry) (Ok EndRead) fits e made = absurd made
goes bytes rest before after (One entry) (Err NotImage) fits e made = λ tree remains. let f = follows bytes (Ok (One entry, rest)) before tree e remains in cc (f.1, made)
goes bytes rest before after (One entry) (Err Memory) fits e made = tt
goes bytes rest before after Other (Ok step) fits e made = absurd made
goes bytes rest before after Other (Err NotImage) fits e made = λ tree remains. follows bytes (Ok (Other, rest)) before tree e remains
goes bytes rest before after Other (Err Memory) fits e made = absurd made

pub none_where_fault : (bytes rest : List ℕ) (before after : FileTree) (fault : CursorFault) (answer : ImageFault) → next_at bytes ≡ Err fault → answer ≡ NotImage → Goes (Err answer) bytes before rest after
none_where_fault bytes rest before after fault NotImage e is = λ tree remains. follows bytes (Err fault) before tree e remains
none_where_fault bytes rest before after fault Memory e is = tt

-- ---- the whole

module _ (whole : List ℕ) (first : FileTree) (bytes : List ℕ) (before : FileTree) (to : (tree : FileTree) → Remains whole first tree → Remains bytes before tree) (from : (tree : FileTree) → Remains bytes before tree → Remains whole first tree) where
  pub fault_means : (fault : ImageFault) (rest : List ℕ) (after : FileTree) → Goes (Err fault) bytes before rest after → Means (Remains whole first) (Err fault)
  fault_means NotImage rest after goes = λ tree remains. goes tree (to tree remains)
  fault_means Memory rest after goes = tt

  pub last_means : (step : Progress) (rest : List ℕ) (after : FileTree) → step ≡ EndRead → Goes (Ok step) bytes before rest after → eqb (length rest) 0 ≡ true → Remains whole first after
  last_means EndRead rest after is last none = from after (followed Last bytes rest before after last.0 (nil_from_length rest (eqb-true (length rest) 0 none), sym last.1))
  last_means EntryRead rest after is last none = absurd (let never : ⊥ = cc in never)

  pub more_means : (step : Progress) (rest : List ℕ) (after : FileTree) → step ≡ EndRead → Goes (Ok step) bytes before rest after → eqb (length rest) 0 ≡ false → Means (Remains whole first) (Err NotImage)
  unfolding next_at
  more_means EndRead rest after is last more = λ tree remains. eqb-false (length rest) 0 more (ap (λ (b : List ℕ). length b) (follows bytes (Ok (Last, rest)) before tree (ap next_at last.0) (to tree remains)).0)
  more_means EntryRead rest after is last more = absurd (let never : ⊥ = cc in never)

-- the bytes behind the magic
pub image_means : (bytes rest : List ℕ) (tree : FileTree) (answer : Result FileTree ImageFault) → bytes ≡ magic ++ rest → tree ≡ only_root → Means (Remains rest tree) answer → Means (Image bytes) answer
image_means bytes rest tree (Ok after) is root means =
    record { entries = means.entries; spelled = record { fit = means.fit; are = is ∙ ap (λ (b : List ℕ). magic ++ b) means.are }; gives = ap (λ t. with_entries t means.entries) (sym root) ∙ means.gives }
image_means bytes rest tree (Err NotImage) is root means =
    λ after image. means after (record { entries = image.entries; fit = image.spelled.fit; are = ap (drop 4) (sym is ∙ image.spelled.are); gives = ap (λ t. with_entries t image.entries) root ∙ image.gives })
image_means bytes rest tree (Err Memory) is root means = tt
