-- The image that is written of a tree is read as a tree with the same paths, kinds and contents, just where no path is too long.
use Rattle.std.proofs.Common.{◌≡◌, ℕ, ◌+◌, ◌≤◌, List, [], ◌∷◌, length, Some, refl, sym, ap, ◌∙◌, inl, inr, arith, append_assoc, ◌*◌, ◌<◌, ◌++◌, map, Option, None, Less, nat_cmp, option_map, option_and_then, subst, ◌⊎◌, length-append, append-nil, Result, Ok, Err, MatchResult}
use Rattle.std.specs.List.{AllByRecursion}
use Rattle.std.specs.List.Sorted.{IsStrictlySortedBy}
use Rattle.std.specs.Ordering.{ordering_then, ordering_reverse}
use Rattle.std.proofs.lemmas.Bool.{false≢true}
use Rattle.std.proofs.lemmas.List.{nil_from_length, length-map}
use Rattle.tree_nodes.specs.Nodes.{NodeMap, bytes_of_all, size_found, size_of, sizes}
use Rattle.boot_image.specs.Prelude.{Node, NameMap, FileTree, root, new_node, only_root, most_nodes, most_bytes, last_number, target, target_of, target_in, node_under, IsName, IsTree, Content, Directory, Fits, FitsContent, Entry, joined, with_entry, with_entries, Image, content_of, paths_of, entry_of, entries_of, image_of, content_under, SameContents, ShortPaths, ReadsBack, Means, ImageFault, NotImage, Memory}
use Rattle.finite_maps.proofs.Maps.{get-remove_other, len-remove_there, len-insert_new, entries_rise, nat_cmp_total, tied_itself, get, remove, len, nat_cmp-IsAntisymmetric, empty, entries, get-empty, len-empty, len-entries, slice_cmp, nat_list_cmp_total, keys_of}
use Rattle.finite_maps.proofs.Options.{chained_from}
use Rattle.std.proofs.lemmas.Option.{same_Some}
use Rattle.tree_nodes.proofs.NodeLemmas.{bytes_taken, bytes_put}
use Rattle.tree_nodes.specs.declared.node.Content.{Content as NodeContent}
use Rattle.tree_nodes.specs.declared.node.Content.TheVariants.{File as FileNode, Dir}
use Rattle.file_tree.proofs.TreeLemmas.{there, root_tree}
use Rattle.boot_image.proofs.PathsOf.{Among, map_among, member_above, Path, path_leads, leads_path}
use Rattle.boot_image.proofs.Growing.{content_found, content_kind, content_is, size_is, root_content, root_alone, leads_dir, last_good, Spot, Growth, grown, grows, entry_made, entry_led}
use Rattle.boot_image.proofs.PlainPaths.{joined_then, joined_once}
use Rattle.boot_image.proofs.Under.{none, some, ending, under_last, under_then, under_good, under_once, under_linked}
use Rattle.boot_image.proofs.Items.{one_list}

-- ---- different nodes are no more than all nodes, and their files have no more bytes

abbrev pub Distinct : List ℕ → Type 0
Distinct [] = Unit {0}
Distinct (n ∷ ns) = (Among n ns → ⊥) × Distinct ns

-- the bytes of the files among these nodes
abbrev pub bytes_among : NodeMap → List ℕ → ℕ
bytes_among nodes [] = 0
bytes_among nodes (n ∷ ns) = size_found (get nodes n) + bytes_among nodes ns

abbrev pub AreThere : NodeMap → List ℕ → Type 0
AreThere nodes ns = (n : ℕ) → Among n ns → (v : Node) × (get nodes n ≡ Some v)

pub counted : (ns : List ℕ) (nodes : NodeMap) → Distinct ns → AreThere nodes ns → (length ns ≤ len nodes) × (bytes_among nodes ns ≤ bytes_of_all nodes)
counted [] nodes apart all = (omega arith, omega arith)
counted (n ∷ ns) nodes apart all =
    let v = all n (inl refl) in
    let off : (m : ℕ) → Among m ns → get (remove nodes n) m ≡ get nodes m = λ m h. get-remove_other nat_cmp_total nat_cmp-IsAntisymmetric nodes n m (λ e. apart.0 (moved ns m e h)) in
    let rest = counted ns (remove nodes n) apart.1 (λ m h. let w = all m (inr h) in (w.0, off m h ∙ w.1)) in
    let same : bytes_among (remove nodes n) ns ≡ bytes_among nodes ns = sums ns off in (
      omega (arith, rest.0, len-remove_there nat_cmp_total nodes n v.0 v.1),
      omega (arith, rest.1, same, bytes_taken nodes n v.0 v.1, ap size_found v.1),
    )
  where
    moved : (xs : List ℕ) (m : ℕ) → m ≡ n → Among m xs → Among n xs
    moved [] m e h = h
    moved (x ∷ xs) m e (inl is) = inl (sym e ∙ is)
    moved (x ∷ xs) m e (inr h) = inr (moved xs m e h)

    sums : (xs : List ℕ) → ((m : ℕ) → Among m xs → get (remove nodes n) m ≡ get nodes m) → bytes_among (remove nodes n) xs ≡ bytes_among nodes xs
    sums [] h = refl
    sums (x ∷ xs) h = λ i. size_found (h x (inl refl) i) + sums xs (λ m g. h m (inr g)) i

-- ---- paths in the order of their bytes

-- bytes come before those that go on behind them
front_less : (a : List ℕ) (b : ℕ) (c : List ℕ) → slice_cmp nat_cmp a (a ++ b ∷ c) ≡ Less
front_less [] b c = refl
front_less (x ∷ a) b c = ap (λ r. ordering_then r (slice_cmp nat_cmp a (a ++ b ∷ c))) (tied_itself nat_cmp_total x) ∙ front_less a b c

joined_more : (front : List (List ℕ)) (last : List ℕ) → joined (front ++ last ∷ []) ≡ joined front ++ 47 ∷ last
joined_more [] last = joined_then last [] ∙ ap (λ l. 47 ∷ l) (append-nil last)
joined_more (x ∷ front) last =
    joined_then x (front ++ last ∷ []) ∙ ap (λ l. 47 ∷ (x ++ l)) (joined_more front last)
    ∙ ap (λ l. 47 ∷ l) (sym (append_assoc x (joined front) (47 ∷ last))) ∙ ap (λ l. l ++ 47 ∷ last) (sym (joined_then x front))

parent_less : (front : List (List ℕ)) (last : List ℕ) → slice_cmp nat_cmp (joined front) (joined (front ++ last ∷ [])) ≡ Less
parent_less front last = ap (slice_cmp nat_cmp (joined front)) (joined_more front last) ∙ front_less (joined front) 47 last

-- names are not empty, so that a path has at most half as many names as bytes
some_byte : (name : List ℕ) → IsName name → 0 < length name
some_byte [] good = absurd (false≢true good.component.taken)
some_byte (b ∷ name) good = omega arith

few_names : (names : List (List ℕ)) → AllByRecursion IsName names → 2 * length names ≤ length (joined names)
few_names [] all = omega arith
few_names (name ∷ names) all = omega (arith, some_byte name all.0, few_names names all.1, ap length (joined_then name names), length-append name (joined names))

both_less : (a b : List ℕ) → slice_cmp nat_cmp a b ≡ Less → slice_cmp nat_cmp b a ≡ Less → ⊥
both_less a b x y = let turned = nat_list_cmp_total.antisymm a b ∙ ap ordering_reverse y in let never : ⊥ = cc in never

less_same : (a b : List ℕ) → slice_cmp nat_cmp a b ≡ Less → a ≡ b → ⊥
less_same a b x e = let itself = ap (slice_cmp nat_cmp a) (sym e) ∙ tied_itself nat_list_cmp_total a in let never : ⊥ = cc in never

-- ---- where the next path can be put

there_under : (tree : FileTree) (names : List (List ℕ)) (content : Content) → content_under tree names ≡ Some content → (n : ℕ) × (node_under tree.nodes root names ≡ Some n) × (content_of tree n ≡ content)
there_under tree names content e = by (node_under tree.nodes root names) refl e
  where
    by : (o : Option ℕ) → node_under tree.nodes root names ≡ o → option_map (content_of tree) o ≡ Some content → (n : ℕ) × (node_under tree.nodes root names ≡ Some n) × (content_of tree n ≡ content)
    by None is e = absurd (let never : ⊥ = cc in never)
    by (Some n) is e = (n, is, cc)

spot_of : (tree : FileTree) (front : List (List ℕ)) (last : List ℕ) → IsTree tree.nodes tree.next → content_under tree front ≡ Some Directory → ((n : ℕ) → node_under tree.nodes root (front ++ last ∷ []) ≡ Some n → ⊥) → len tree.nodes < most_nodes → tree.next ≤ last_number → Spot tree front last
spot_of tree front last ok dir missing room number =
    let d = there_under tree front Directory dir in
    let up = under_linked tree.nodes tree.next ok root root d.0 front ok.links.top d.1 in
    let v = there tree.nodes d.0 up.0 up.1 in
    let names = dir_names v.0.content (sym (ap content_found v.1) ∙ sym (content_is tree d.0) ∙ d.2) in
    record {
      dir = d.0;
      up = up.0;
      under = d.1;
      leads = record { node = v.0; names = names.0; there = v.1; content = names.1; leads = nothing d.0 names.0 d.1 (ap (λ o. target_of o last) v.1 ∙ ap (λ c. target_in c last) names.1) (get names.0 last) refl };
      linked = up.1;
      room = room;
      number = number;
    }
  where
    dir_names : (content : NodeContent) → content_kind content ≡ Directory → (names : NameMap) × (content ≡ Dir names)
    dir_names (FileNode bytes) e = absurd (let never : ⊥ = cc in never)
    dir_names (Dir names) e = (names, refl)

    nothing : (d : ℕ) (names : NameMap) → node_under tree.nodes root front ≡ Some d → target tree.nodes d last ≡ get names last → (o : Option ℕ) → get names last ≡ o → o ≡ None
    nothing d names under leads None e = refl
    nothing d names under leads (Some n) e = absurd (missing n (under_then tree.nodes root d n front last under (leads ∙ e)))

module _ (tree : FileTree) (ok : IsTree tree.nodes tree.next) (within : bytes_of_all tree.nodes ≤ most_bytes) (short : ShortPaths tree) where
  all_good : (n : ℕ) (names : List (List ℕ)) → node_under tree.nodes root names ≡ Some n → AllByRecursion IsName names
  all_good = under_good tree.nodes tree.next ok root

  -- names that lead to a node are those of a path of this node
  path_of_names : (n : ℕ) (name : List ℕ) (names : List (List ℕ)) → node_under tree.nodes root (name ∷ names) ≡ Some n → Among (joined (name ∷ names), n) (entries (paths_of tree))
  path_of_names n name names e =
      let good = all_good n (name ∷ names) e in
      let p = leads_path tree n name names (omega (arith, few_names (name ∷ names) good, short (name ∷ names) n e)) e in
      let q = path_leads tree (joined (name ∷ names), p.0) p.1 in
      let same = joined_once (name ∷ names) (q.name ∷ q.names) good (all_good p.0 (q.name ∷ q.names) q.leads) q.is in
      let node : p.0 ≡ n = same_Some p.0 n (sym q.leads ∙ ap (node_under tree.nodes root) (sym same) ∙ e) in
      subst (λ k. Among (joined (name ∷ names), k) (entries (paths_of tree))) node p.1

  -- ---- a tree that has all paths but those that are left

  record Left (now : FileTree) (rest : List (List ℕ × ℕ)) : Type 0 where
    is : IsTree now.nodes now.next
    part : (names : List (List ℕ)) (content : Content) → content_under now names ≡ Some content → (content_under tree names ≡ Some content) × ((x : List ℕ × ℕ) → Among x rest → slice_cmp nat_cmp (joined names) x.0 ≡ Less)
    full : (names : List (List ℕ)) (n : ℕ) → node_under tree.nodes root names ≡ Some n → (content_under now names ≡ Some (content_of tree n)) ⊎ (Among (joined names, n) rest)
    only : (x : List ℕ × ℕ) → Among x rest → Path tree root [] x.0 x.1
    rises : IsStrictlySortedBy (slice_cmp nat_cmp) (keys_of rest)
    nodes : len now.nodes + length rest ≤ most_nodes
    next : now.next ≡ len now.nodes + 1
    bytes : bytes_of_all now.nodes + bytes_among tree.nodes (map (λ (x : List ℕ × ℕ). x.1) rest) ≤ most_bytes

  module _ (now : FileTree) (x : List ℕ × ℕ) (rest : List (List ℕ × ℕ)) (left : Left now (x ∷ rest)) (front : List (List ℕ)) (last : List ℕ) (is : x.0 ≡ joined (front ++ last ∷ [])) (leads : node_under tree.nodes root (front ++ last ∷ []) ≡ Some x.1) where
    -- a directory's path comes before those in it
    dir_there : content_under now front ≡ Some Directory
    unfolding IsStrictlySortedBy
    dir_there =
        let u = under_last tree.nodes root x.1 front last leads in
        let below : slice_cmp nat_cmp (joined front) x.0 ≡ Less = ap (slice_cmp nat_cmp (joined front)) is ∙ parent_less front last in
        elim (left.full front u.0 u.1) [
          | inl e ↦ e ∙ ap Some (leads_dir tree u.0 x.1 last u.2)
          | inr m ↦ absurd (elim m [ inl e ↦ less_same (joined front) x.0 below (ap (λ (p : List ℕ × ℕ). p.0) e) | inr h ↦ both_less (joined front) x.0 below (member_above x.0 rest (joined front, u.0) left.rises.0 h) ])
        ]

    missing : (n : ℕ) → node_under now.nodes root (front ++ last ∷ []) ≡ Some n → ⊥
    missing n e = less_same (joined (front ++ last ∷ [])) x.0 ((left.part (front ++ last ∷ []) (content_of now n) (ap (option_map (content_of now)) e)).1 x (inl refl)) (sym is)

    spot : Spot now front last
    spot = spot_of now front last left.is dir_there missing (omega (arith, left.nodes)) (omega (arith, left.nodes, left.next))

    good : AllByRecursion IsName (front ++ last ∷ [])
    good = all_good x.1 (front ++ last ∷ []) leads

    step : Growth now (grown now spot.dir last (content_of tree x.1)) (front ++ last ∷ []) (content_of tree x.1)
    step = grows now left.is front last spot (last_good front last good) (content_of tree x.1)

    gives : with_entry now (entry_of tree x) ≡ Some (grown now spot.dir last (content_of tree x.1))
    gives =
        ap (λ p. with_entry now (record { path = p; content = content_of tree x.1 })) is
        ∙ entry_made now left.is front last spot (content_of tree x.1) good (short (front ++ last ∷ []) x.1 leads) (omega (arith, left.bytes, size_is tree x.1))

    -- what these names lead to now
    put_there : (names : List (List ℕ)) → names ≡ front ++ last ∷ [] → content_under (grown now spot.dir last (content_of tree x.1)) names ≡ content_under tree names
    put_there names same = ap (content_under (grown now spot.dir last (content_of tree x.1))) same ∙ step.at ∙ sym (ap (option_map (content_of tree)) (ap (node_under tree.nodes root) same ∙ leads))

    left_more : Left (grown now spot.dir last (content_of tree x.1)) rest
    unfolding IsStrictlySortedBy
    left_more = record {
      is = step.is;
      part = λ names content e.
          elim (step.others names) [
            | inl same ↦ (sym (put_there names same) ∙ e, λ y h. ap (λ p. slice_cmp nat_cmp p y.0) (ap joined same ∙ sym is) ∙ member_above x.0 rest y left.rises.0 h)
            | inr old ↦ let had = left.part names content (sym old ∙ e) in (had.0, λ y h. had.1 y (inr h))
          ];
      full = λ names n e.
          elim (left.full names n e) [
            | inl has ↦ inl (elim (step.others names) [ inl same ↦ put_there names same ∙ ap (option_map (content_of tree)) e | inr old ↦ old ∙ has ])
            | inr m ↦ elim m [
              | inl first ↦ inl (put_there names (under_once tree.nodes tree.next ok names (front ++ last ∷ []) x.1 (e ∙ ap (λ (p : List ℕ × ℕ). Some p.1) first) leads) ∙ ap (option_map (content_of tree)) e)
              | inr h ↦ inr h
            ]
          ];
      only = λ y h. left.only y (inr h);
      rises = left.rises.1;
      nodes = omega (arith, left.nodes, step.len);
      next = omega (arith, left.next, step.len);
      bytes = omega (arith, left.bytes, step.bytes, size_is tree x.1);
    }

  all_put : (rest : List (List ℕ × ℕ)) (now : FileTree) → Left now rest → (after : FileTree) × (with_entries now (map (entry_of tree) rest) ≡ Some after) × (Left after [])
  unfolding with_entries
  all_put [] now left = (now, refl, left)
  all_put (x ∷ rest) now left = by (left.only x (inl refl)) (all_put rest)
    where
      put : (front : List (List ℕ)) (last : List ℕ) → x.0 ≡ joined (front ++ last ∷ []) → node_under tree.nodes root (front ++ last ∷ []) ≡ Some x.1
          → ((now : FileTree) → Left now rest → (after : FileTree) × (with_entries now (map (entry_of tree) rest) ≡ Some after) × (Left after [])) → (after : FileTree) × (with_entries now (map (entry_of tree) (x ∷ rest)) ≡ Some after) × (Left after [])
      put front last is leads more =
          let after = more (grown now (spot now x rest left front last is leads).dir last (content_of tree x.1)) (left_more now x rest left front last is leads) in
          (after.0, ap (option_and_then (λ t. with_entries t (map (entry_of tree) rest))) (gives now x rest left front last is leads) ∙ after.1, after.2)

      by : Path tree root [] x.0 x.1 → ((now : FileTree) → Left now rest → (after : FileTree) × (with_entries now (map (entry_of tree) rest) ≡ Some after) × (Left after [])) → (after : FileTree) × (with_entries now (map (entry_of tree) (x ∷ rest)) ≡ Some after) × (Left after [])
      by p more =
          elim (ending (p.name ∷ p.names)) [
            | none e ↦ absurd (let never : ⊥ = cc in never)
            | some front last e ↦ put front last (p.is ∙ ap joined e) (sym (ap (node_under tree.nodes root) e) ∙ p.leads) more
          ]

  -- where no path is left, the trees have the same paths, kinds and contents
  same_all : (now : FileTree) → Left now [] → SameContents tree now
  same_all now left names = by (node_under tree.nodes root names) refl (content_under now names) refl
    where
      by : (o : Option ℕ) → node_under tree.nodes root names ≡ o → (c : Option Content) → content_under now names ≡ c → content_under tree names ≡ content_under now names
      by (Some n) e c f = ap (option_map (content_of tree)) e ∙ elim (left.full names n e) [ inl has ↦ sym has | inr h ↦ absurd h ]
      by None e None f = ap (option_map (content_of tree)) e ∙ sym f
      by None e (Some content) f = (left.part names content f).0 ∙ sym f

  -- ---- the nodes of the paths

  distinct : (rest : List (List ℕ × ℕ)) → ((x : List ℕ × ℕ) → Among x rest → Among x (entries (paths_of tree))) → IsStrictlySortedBy (slice_cmp nat_cmp) (keys_of rest) → Distinct (map (λ (x : List ℕ × ℕ). x.1) rest)
  unfolding IsStrictlySortedBy
  distinct [] only rises = tt
  distinct (x ∷ rest) only rises = (λ h. twice h, distinct rest (λ y h. only y (inr h)) rises.1)
    where
      twice : Among x.1 (map (λ (x : List ℕ × ℕ). x.1) rest) → ⊥
      twice h =
          let y = map_among (λ (x : List ℕ × ℕ). x.1) x.1 rest h in
          let p = path_leads tree x (only x (inl refl)) in
          let q = path_leads tree y.0 (only y.0 (inr y.1)) in
          let same = under_once tree.nodes tree.next ok (p.name ∷ p.names) (q.name ∷ q.names) x.1 p.leads (q.leads ∙ ap Some (sym y.2)) in
          less_same x.0 y.0.0 (member_above x.0 rest y.0 rises.0 y.1) (p.is ∙ ap joined same ∙ sym q.is)

  root_apart : Among root (map (λ (x : List ℕ × ℕ). x.1) (entries (paths_of tree))) → ⊥
  root_apart h =
      let y = map_among (λ (x : List ℕ × ℕ). x.1) root (entries (paths_of tree)) h in
      let q = path_leads tree y.0 y.1 in
      let same = under_once tree.nodes tree.next ok [] (q.name ∷ q.names) root refl (q.leads ∙ ap Some (sym y.2)) in
      let never : ⊥ = cc in never

  all_there : AreThere tree.nodes (root ∷ map (λ (x : List ℕ × ℕ). x.1) (entries (paths_of tree)))
  all_there n h = by h
    where
      by : Among n (root ∷ map (λ (x : List ℕ × ℕ). x.1) (entries (paths_of tree))) → (v : Node) × (get tree.nodes n ≡ Some v)
      by (inl e) = let v = there tree.nodes root root ok.links.top in (v.0, ap (get tree.nodes) e ∙ v.1)
      by (inr h) =
          let y = map_among (λ (x : List ℕ × ℕ). x.1) n (entries (paths_of tree)) h in
          let q = path_leads tree y.0 y.1 in
          let u = under_linked tree.nodes tree.next ok root root y.0.1 (q.name ∷ q.names) ok.links.top q.leads in
          let v = there tree.nodes y.0.1 u.0 u.1 in
          (v.0, ap (get tree.nodes) y.2 ∙ v.1)

  counts : (length (root ∷ map (λ (x : List ℕ × ℕ). x.1) (entries (paths_of tree))) ≤ len tree.nodes) × (bytes_among tree.nodes (root ∷ map (λ (x : List ℕ × ℕ). x.1) (entries (paths_of tree))) ≤ bytes_of_all tree.nodes)
  counts = counted (root ∷ map (λ (x : List ℕ × ℕ). x.1) (entries (paths_of tree))) tree.nodes (root_apart, distinct (entries (paths_of tree)) (λ x h. h) (entries_rise (slice_cmp nat_cmp) (paths_of tree))) all_there

  -- ---- the bytes of the image

  fits_found : (o : Option Node) → size_found o ≤ most_bytes → FitsContent (content_found o)
  fits_found None le = tt
  fits_found (Some v) le = by v.content le
    where
      by : (c : NodeContent) → size_of c ≤ most_bytes → FitsContent (content_kind c)
      by (FileNode bytes) le = omega (arith, le)
      by (Dir names) le = tt

  fits_one : (x : List ℕ × ℕ) → Among x (entries (paths_of tree)) → Fits (entry_of tree x)
  fits_one x h =
      let p = path_leads tree x h in
      let u = under_linked tree.nodes tree.next ok root root x.1 (p.name ∷ p.names) ok.links.top p.leads in
      let v = there tree.nodes x.1 u.0 u.1 in
      let size : size_found (get tree.nodes x.1) ≤ most_bytes = omega (arith, ap size_found v.1, bytes_taken tree.nodes x.1 v.0 v.1, within) in
      record {
        path = omega (arith, short (p.name ∷ p.names) x.1 p.leads, ap length p.is);
        content = subst FitsContent (sym (content_is tree x.1)) (fits_found (get tree.nodes x.1) size);
      }

  fits_all : (xs : List (List ℕ × ℕ)) → ((x : List ℕ × ℕ) → Among x xs → Among x (entries (paths_of tree))) → AllByRecursion Fits (map (entry_of tree) xs)
  fits_all [] only = tt
  fits_all (x ∷ xs) only = (fits_one x (only x (inl refl)), fits_all xs (λ y h. only y (inr h)))

  -- ---- the root alone

  no_entries : entries (empty {X = Node} {R = nat_cmp}) ≡ []
  no_entries = nil_from_length (entries (empty {X = Node} {R = nat_cmp})) (sym (len-entries (empty {X = Node} {R = nat_cmp})) ∙ len-empty nat_cmp Node)

  left_all : Left only_root (entries (paths_of tree))
  left_all =
      let v : Node = new_node root (Dir empty) in
      record {
        is = root_tree;
        part = λ names content e.
            let alone = root_alone names content e in
            let top : content_under only_root names ≡ Some Directory = ap (content_under only_root) alone ∙ root_content only_root root_tree in
            (ap (content_under tree) alone ∙ root_content tree ok ∙ sym top ∙ e, λ x h. let p = path_leads tree x h in (λ i. slice_cmp nat_cmp (joined (alone i)) ((p.is ∙ joined_then p.name p.names) i)));
        full = full;
        only = path_leads tree;
        rises = entries_rise (slice_cmp nat_cmp) (paths_of tree);
        nodes = omega (arith, counts.0, length-map (entries (paths_of tree)) (λ (x : List ℕ × ℕ). x.1), ok.most, len-insert_new nat_cmp_total empty root v (get-empty nat_cmp root), len-empty nat_cmp Node);
        next = omega (arith, len-insert_new nat_cmp_total empty root v (get-empty nat_cmp root), len-empty nat_cmp Node);
        bytes = omega (arith, counts.1, within, bytes_put empty root v, ap sizes no_entries);
      }
    where
      full : (names : List (List ℕ)) (n : ℕ) → node_under tree.nodes root names ≡ Some n → (content_under only_root names ≡ Some (content_of tree n)) ⊎ (Among (joined names, n) (entries (paths_of tree)))
      full [] n e = inl (root_content only_root root_tree ∙ sym (root_content tree ok) ∙ ap (option_map (content_of tree)) e)
      full (name ∷ names) n e = inr (path_of_names n name names e)

  pub reads_back : ReadsBack (image_of tree) tree
  unfolding image_of entries_of
  reads_back =
      let all = all_put (entries (paths_of tree)) only_root left_all in
      record {
        read = all.0;
        image = record {
          entries = map (entry_of tree) (entries (paths_of tree));
          spelled = record { fit = fits_all (entries (paths_of tree)) (λ x h. h); are = refl };
          gives = all.1;
        };
        same = same_all all.0 all.2;
      }

-- ---- a tree that is read of an image has no path of more than 1,024 bytes

record Short (tree : FileTree) : Type 0 where
  is : IsTree tree.nodes tree.next
  short : (names : List (List ℕ)) (content : Content) → content_under tree names ≡ Some content → length (joined names) ≤ 1024

entry_short : (tree after : FileTree) (entry : Entry) → Short tree → with_entry tree entry ≡ Some after → Short after
entry_short tree after entry short e =
    let led = entry_led tree after entry.path entry.content short.is e in
    let step = grows tree short.is led.front led.last led.spot (last_good led.front led.last led.good) entry.content in
    subst Short led.is (record {
      is = step.is;
      short = λ names content has.
          elim (step.others names) [
            | inl same ↦ omega (arith, led.short, ap (λ l. length (joined l)) same)
            | inr old ↦ short.short names content (sym old ∙ has)
          ];
    })

entries_short : (entries : List Entry) (tree after : FileTree) → Short tree → with_entries tree entries ≡ Some after → Short after
unfolding with_entries
entries_short [] tree after short e = let same : tree ≡ after = cc in subst Short same short
entries_short (entry ∷ entries) tree after short e =
    let n = chained_from (λ next. with_entries next entries) (with_entry tree entry) after e in
    entries_short entries n.0 after (entry_short tree n.0 entry short n.1) n.2

root_short : Short only_root
root_short = record { is = root_tree; short = λ names content e. by names (root_alone names content e) }
  where
    by : (names : List (List ℕ)) → names ≡ [] → length (joined names) ≤ 1024
    by names is = omega (arith, ap (λ l. length (joined l)) is)

-- a tree of which the bytes are an image has no longer path
pub short_where_read : (bytes : List ℕ) (tree : FileTree) → ReadsBack bytes tree → ShortPaths tree
short_where_read bytes tree reads names n e = (entries_short reads.image.entries only_root reads.read root_short reads.image.gives).short names (content_of tree n) (sym (reads.same names) ∙ ap (option_map (content_of tree)) e)

-- ---- what is read of what is written

pub one_tree : (bytes : List ℕ) (a b : FileTree) → Image bytes a → Image bytes b → a ≡ b
one_tree bytes a b p q =
    let same = one_list bytes p.entries q.entries p.spelled q.spelled in
    let both = sym p.gives ∙ ap (with_entries only_root) same ∙ q.gives in cc

-- what is read of what is written
pub read_back : (tree : FileTree) → IsTree tree.nodes tree.next → bytes_of_all tree.nodes ≤ most_bytes → ShortPaths tree → (read : Result FileTree ImageFault) → Means (Image (image_of tree)) read → MatchResult read (λ after. SameContents tree after) (λ fault. fault ≡ Memory)
read_back tree ok within short (Ok after) means =
    let back = reads_back tree ok within short in
    subst (SameContents tree) (one_tree (image_of tree) back.read after back.image means) back.same
read_back tree ok within short (Err NotImage) means = let back = reads_back tree ok within short in absurd (means back.read back.image)
read_back tree ok within short (Err Memory) means = refl
