-- What a change of one node does to the finite map and to the bytes of all files.
use Rattle.std.proofs.Common.{◌≡◌, ℕ, ◌+◌, ◌≤◌, Bool, true, List, Option, Some, None, refl, sym, ap, subst, ◌∙◌, arith, MutBor, IsSome, Result, Ok, Err, OnOk, OnErr}
use Rattle.std.specs.BTreeMap.{BTreeMap, get_by, is_at, WritesThrough, insert_entry}
use Rattle.std.proofs.lemmas.Bool.{false≢true}
use Rattle.std.specs.List.Sorted.{IsStrictlySortedBy}
use Rattle.std.proofs.lemmas.Map.Entries.{sum_by-set_value, sum_by-remove_entry, sum_by-insert_entry}
use Rattle.std.specs.Map.{set_value, remove_entry}
use Rattle.finite_maps.proofs.Maps.{get, insert, remove, from_entries, lookup, keys_of, nat_cmp, nat_cmp_total, nat_list_cmp_total, nat_cmp-IsAntisymmetric, nat_list_cmp-IsAntisymmetric, get-lookup, from_entries-insert, entries_of_sorted, get-insert_same, insert_same, insert-insert, remove-insert, remove_absent, unwrap_or-option_map, total, total-insert, total-remove}
use Rattle.finite_maps.proofs.Options.{none_from}
use Rattle.std.specs.Option.{option_copied_mut}
use Rattle.tree_nodes.specs.Prelude.{NodeMap, sizes, size_of, size_found, size_of_node, bytes_of_all, changed, replaced, naming, forgetting, most_bytes, Fits, FitsAfter, named, forgotten, is_free, lacks_name, lacks_name_at, with_change, Content, File, Dir, Node}

-- ---- the bytes of all files, after a change of one entry

pub sizes_set : (test : ℕ → Bool) (es : List (ℕ × Node)) (v w : Node) → lookup test es ≡ Some v → sizes (set_value test es w) + size_of v.content ≡ sizes es + size_of w.content
sizes_set = sum_by-set_value size_of_node

pub sizes_removed : (test : ℕ → Bool) (es : List (ℕ × Node)) → sizes (remove_entry test es) + size_found (lookup test es) ≡ sizes es
sizes_removed test es = omega (arith, sum_by-remove_entry size_of_node test es, unwrap_or-option_map size_of_node (lookup test es))

pub sizes_inserted : (k : ℕ) (v : Node) (es : List (ℕ × Node)) → IsStrictlySortedBy nat_cmp (keys_of es) → sizes (insert_entry nat_cmp es k v) + size_found (lookup (is_at (nat_cmp k)) es) ≡ sizes es + size_of v.content
sizes_inserted k v es sorted = omega (arith, sum_by-insert_entry size_of_node nat_cmp_total es k v sorted, unwrap_or-option_map size_of_node (lookup (is_at (nat_cmp k)) es))

-- a file's size is within them
pub size_found_le : (test : ℕ → Bool) (es : List (ℕ × Node)) → size_found (lookup test es) ≤ sizes es
size_found_le test es = omega (arith, sizes_removed test es)

pub size_le : (test : ℕ → Bool) (es : List (ℕ × Node)) (v : Node) → lookup test es ≡ Some v → size_of v.content ≤ sizes es
size_le test es v h = omega (arith, size_found_le test es, ap size_found h)

-- the bytes of all files, from the entries in order
pub sizes_all : (es : List (ℕ × Node)) → IsStrictlySortedBy nat_cmp (keys_of es) → sizes es ≡ bytes_of_all (from_entries {R = nat_cmp} es)
sizes_all es sorted = sym (ap sizes (entries_of_sorted nat_cmp_total es sorted))

-- a node that is there is changed, and one that isn't is not
pub changed_there : (nodes : NodeMap) (number : ℕ) (change : Node → Node) (node : Node) → get nodes number ≡ Some node → changed nodes number change ≡ insert nodes number (change node)
changed_there nodes number change node h = ap (replaced nodes number change) h

pub changed_missing : (nodes : NodeMap) (number : ℕ) (change : Node → Node) → get nodes number ≡ None → changed nodes number change ≡ nodes
changed_missing nodes number change h = ap (replaced nodes number change) h

-- what is lent, as the finite map has it
pub lent : (number : ℕ) (m : BTreeMap ℕ Node) (o : Option (MutBor Node)) (x : MutBor Node) → option_copied_mut o ≡ get_by (nat_cmp number) m → o ≡ Some x → get_by (nat_cmp number) m ≡ Some x.now
lent number m o x value is = sym value ∙ ap option_copied_mut is

-- a node written through what was lent is changed
pub written_node : (number : ℕ) (m n : BTreeMap ℕ Node) (v w : Node) (change : Node → Node) → get_by (nat_cmp number) m ≡ Some v → WritesThrough nat_cmp (nat_cmp number) m w n → w ≡ change v → from_entries {R = nat_cmp} n.entries ≡ changed (from_entries m.entries) number change
written_node number m n v w change found through same =
    let there : get (from_entries {R = nat_cmp} m.entries) number ≡ Some v = get-lookup nat_cmp_total m.entries number ∙ found in
    from_entries-insert nat_cmp_total nat_cmp-IsAntisymmetric m.entries n.entries number w ((through.3 (subst IsSome (sym found) refl)).0)
    ∙ ap (insert (from_entries m.entries) number) same
    ∙ sym (changed_there (from_entries m.entries) number change v there)

pub not_lent : (number : ℕ) (m n : BTreeMap ℕ Node) (o : Option (MutBor Node)) (change : Node → Node) → option_copied_mut o ≡ get_by (nat_cmp number) m → o ≡ None → n ≡ m → from_entries {R = nat_cmp} n.entries ≡ changed (from_entries m.entries) number change
not_lent number m n o change value is same =
    ap (λ (k : BTreeMap ℕ Node). from_entries {R = nat_cmp} k.entries) same
    ∙ sym (changed_missing (from_entries m.entries) number change (get-lookup nat_cmp_total m.entries number ∙ sym value ∙ ap option_copied_mut is))

pub on_ok : {T E A B : Type 0} (r : Result T E) → (A → B) → OnOk r A → OnOk r B
on_ok (Ok x) f h = f h
on_ok (Err e) f h = h

pub on_err : {T E A B : Type 0} (r : Result T E) → (A → B) → OnErr r A → OnErr r B
on_err (Ok x) f h = h
on_err (Err e) f h = f h

pub size_naming : (name : List ℕ) (number : ℕ) (content : Content) → size_of (naming name number content) ≡ size_of content
size_naming name number (File bytes) = refl
size_naming name number (Dir names) = refl

pub size_forgetting : (name : List ℕ) (content : Content) → size_of (forgetting name content) ≡ size_of content
size_forgetting name (File bytes) = refl
size_forgetting name (Dir names) = refl

-- a content that is changed or not has the size that it had, where a change keeps it
pub size_either : {T E : Type 0} (r : Result T E) (old new : Content) (change : Content → Content) → size_of (change old) ≡ size_of old → OnOk r (new ≡ change old) → OnErr r (new ≡ old) → size_of new ≡ size_of old
size_either (Ok x) old new change same ok err = ap size_of ok ∙ same
size_either (Err e) old new change same ok err = ap size_of err

pub fits_after : (nodes : NodeMap) (number : ℕ) (change : Content → Content) (node : Node) → get nodes number ≡ Some node → Fits nodes number change → bytes_of_all nodes + size_of (change node.content) ≤ most_bytes + size_of node.content
fits_after nodes number change node there fits = subst (FitsAfter (bytes_of_all nodes) change) there fits

pub fits_either : {T E : Type 0} (r : Result T E) (old new : Content) (change : Content → Content) (total : ℕ) → total ≤ most_bytes → total + size_of (change old) ≤ most_bytes + size_of old → OnOk r (new ≡ change old) → OnErr r (new ≡ old) → total + size_of new ≤ most_bytes + size_of old
fits_either (Ok x) old new change total within fits ok err = subst (λ content. total + size_of content ≤ most_bytes + size_of old) (sym ok) fits
fits_either (Err e) old new change total within fits ok err = omega (arith, ap size_of err)

pub written_same : (number : ℕ) (m n : BTreeMap ℕ Node) (v w : Node) → get_by (nat_cmp number) m ≡ Some v → WritesThrough nat_cmp (nat_cmp number) m w n → w ≡ v → from_entries {R = nat_cmp} n.entries ≡ from_entries m.entries
written_same number m n v w found through same =
    let there : get (from_entries {R = nat_cmp} m.entries) number ≡ Some v = get-lookup nat_cmp_total m.entries number ∙ found in
    written_node number m n v w (λ _. v) found through same
    ∙ changed_there (from_entries m.entries) number (λ _. v) v there
    ∙ insert_same nat_cmp_total nat_cmp-IsAntisymmetric (from_entries m.entries) number v there

-- a new name in a directory that lacks it, forgotten again, leaves the node as it was
renamed_back : (name : List ℕ) (number : ℕ) (content : Content) → lacks_name name content ≡ true → forgetting name (naming name number content) ≡ content
renamed_back name number (File bytes) lacks = refl
renamed_back name number (Dir names) lacks =
    ap Dir (remove-insert nat_list_cmp_total nat_list_cmp-IsAntisymmetric names name number ∙ remove_absent nat_list_cmp_total nat_list_cmp-IsAntisymmetric names name (none_from (get names name) lacks))

undone_at : (nodes : NodeMap) (dir : ℕ) (name : List ℕ) (number : ℕ) (o : Option Node) → get nodes dir ≡ o → lacks_name_at name o ≡ true → forgotten (named nodes dir name number) dir name ≡ nodes
undone_at nodes dir name number None there lacks = absurd (false≢true lacks)
undone_at nodes dir name number (Some node) there lacks =
    let new = with_change (naming name number) node in
    let now = changed_there nodes dir (with_change (naming name number)) node there in
    ap (λ m. forgotten m dir name) now
    ∙ changed_there (insert nodes dir new) dir (with_change (forgetting name)) new (get-insert_same nat_cmp_total nodes dir new)
    ∙ insert-insert nat_cmp_total nat_cmp-IsAntisymmetric nodes dir new (with_change (forgetting name) new)
    ∙ ap (λ content. insert nodes dir (with_change (λ _. content) node)) (renamed_back name number node.content lacks)
    ∙ insert_same nat_cmp_total nat_cmp-IsAntisymmetric nodes dir node there

pub undone : (nodes : NodeMap) (dir : ℕ) (name : List ℕ) (number : ℕ) → is_free nodes dir name ≡ true → forgotten (named nodes dir name number) dir name ≡ nodes
undone nodes dir name number free = undone_at nodes dir name number (get nodes dir) refl free

-- ---- the bytes of all files

-- a node put in, in place of another or not
pub bytes_put : (nodes : NodeMap) (k : ℕ) (v : Node) → bytes_of_all (insert nodes k v) + size_found (get nodes k) ≡ bytes_of_all nodes + size_of v.content
unfolding total
bytes_put = total-insert size_of_node nat_cmp_total

pub bytes_taken : (nodes : NodeMap) (k : ℕ) (v : Node) → get nodes k ≡ Some v → bytes_of_all (remove nodes k) + size_of v.content ≡ bytes_of_all nodes
unfolding total
bytes_taken nodes k v there = omega (arith, total-remove size_of_node nat_cmp_total nat_cmp-IsAntisymmetric nodes k, ap size_found there)
