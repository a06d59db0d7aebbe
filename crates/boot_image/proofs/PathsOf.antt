-- The paths of a tree, found one after another, are those of the nodes that names lead to.
use Rattle.std.proofs.Common.{◌≡◌, ℕ, zero, suc, ◌+◌, ◌-◌, ◌<◌, List, [], ◌∷◌, ◌++◌, length, drop, get_or, refl, sym, ap, ◌∙◌, drop-cons, add-one, arith, Ok, Err, ◌≤◌, Some, cond, nat_cmp, map, Ordering, Less, Equal, Greater, is_eq, Result, flat_map, option_and_then, subst, ◌⊎◌, inl, inr, append_assoc, append-nil}
use Rattle.std.proofs.Math.ListN.{drop_of_length-le}
use Rattle.std.proofs.lemmas.List.{nil_from_length}
use Rattle.std.specs.Result.{result_unwrap_or}
use Rattle.std.specs.List.{flat_map, AllByRecursion}
use Rattle.std.proofs.lemmas.List.Concat.{flat_map-cons}
use Rattle.std.specs.BTreeMap.{is_at}
use Rattle.std.specs.List.Sorted.{IsStrictlySortedBy}
use Rattle.std.specs.Option.{ok_or}
use Rattle.boot_image.specs.Prelude.{Errno, Noent, NameMap, list, listed, FileTree, root, Listed, and_then, names_at, names_of, target, target_of, target_in, node_under, below, with_paths, path_in, names_in, paths_of, joined}
use Rattle.finite_maps.proofs.Maps.{from_entries-insert, entries_of_sorted, get-insert_same, get-insert_other, entries_rise, nat_list_cmp-IsAntisymmetric, slice_cmp, nat_list_cmp_total, insert, entries, from_entries, find, get, empty, get-entries, get-empty, lookup, keys_of, tied_itself}
use Rattle.finite_maps.proofs.Options.{chained_from}
use Rattle.std.proofs.lemmas.Option.{same_Some}
use Rattle.file_tree.proofs.Links.{same_name}
use Rattle.file_tree.proofs.TreeLemmas.{leads_to}
use Rattle.file_tree.proofs.Ends.{dir_found}
use Rattle.boot_image.proofs.PlainPaths.{joined_then}

with_paths-append : (paths : NameMap) (a b : List (List ℕ × ℕ)) → with_paths paths (a ++ b) ≡ with_paths (with_paths paths a) b
unfolding with_paths
with_paths-append paths [] b = refl
with_paths-append paths (found ∷ a) b = with_paths-append (insert paths found.0 found.1) a b

-- a name's path, and those below it
abbrev pub here : ℕ → FileTree → List ℕ → Listed → List (List ℕ × ℕ)
here levels tree path listed = (path_in path listed.name, listed.node) ∷ below levels tree (path_in path listed.name) listed.node

pub below_is : (levels : ℕ) (tree : FileTree) (path : List ℕ) (dir : ℕ) → 0 < levels → below levels tree path dir ≡ flat_map (here (levels - 1) tree path) (names_in tree dir)
unfolding below
below_is zero tree path dir some = absurd (omega arith)
below_is (suc levels) tree path dir some = let e : levels ≡ suc levels - 1 = omega arith in ap (λ n. flat_map (here n tree path) (names_in tree dir)) e

-- a name's path and those below it were put to the others
pub one_found : (levels : ℕ) (tree : FileTree) (path : List ℕ) (listing : List Listed) (i : ℕ) (listed : Listed) (child inside : List ℕ) (paths with_child after all : NameMap) → i < length listing → listed ≡ get_or listing i listed
    → child ≡ path_in path listed.name → inside ≡ path_in path listed.name → with_child ≡ insert paths child listed.node → after ≡ with_paths with_child (below levels tree inside listed.node)
    → with_paths paths (flat_map (here levels tree path) (drop i listing)) ≡ all → with_paths after (flat_map (here levels tree path) (drop (i + 1) listing)) ≡ all
unfolding with_paths
one_found levels tree path listing i listed child inside paths with_child after all lt is child-is inside-is put found so_far =
    let rest : List Listed = drop (i + 1) listing in
    let next : drop i listing ≡ listed ∷ rest = drop-cons listing i listed lt ∙ ap (λ (l : Listed). l ∷ drop (suc i) listing) (sym is) ∙ ap (λ k. listed ∷ drop k listing) (sym (add-one i)) in
    let parts = flat_map-cons (here levels tree path) listed rest in
    let two = with_paths-append paths (here levels tree path listed) (flat_map (here levels tree path) rest) in
    cc

module _ (levels : ℕ) (tree : FileTree) (path : List ℕ) (dir : ℕ) (found : NameMap) (some : 0 < levels) where
  -- where all names of a directory were gone through
  pub all_found : (listing items : List Listed) (i : ℕ) (now : NameMap) → list tree dir ≡ Ok listing → items ≡ listing → length items ≤ i
      → with_paths now (flat_map (here (levels - 1) tree path) (drop i items)) ≡ with_paths found (flat_map (here (levels - 1) tree path) items) → now ≡ with_paths found (below levels tree path dir)
  unfolding with_paths
  all_found listing items i now e is past so_far =
      sym (ap (λ (l : List Listed). with_paths now (flat_map (here (levels - 1) tree path) l)) (drop_of_length-le items past))
      ∙ so_far
      ∙ sym (ap (with_paths found) (below_is levels tree path dir some ∙ ap (λ r. flat_map (here (levels - 1) tree path) (result_unwrap_or r [])) e ∙ ap (flat_map (here (levels - 1) tree path)) (sym is)))

-- ---- paths as a map's entries

pub path_put : (es fs : List (List ℕ × ℕ)) (path : List ℕ) (node : ℕ) → ((q : List ℕ) → lookup (is_at (slice_cmp nat_cmp q)) fs ≡ cond (is_at (slice_cmp nat_cmp path) q) (Some node) (lookup (is_at (slice_cmp nat_cmp q)) es)) → from_entries {R = slice_cmp nat_cmp} fs ≡ insert (from_entries es) path node
path_put = from_entries-insert nat_list_cmp_total nat_list_cmp-IsAntisymmetric

pub paths_sorted : (es : List (List ℕ × ℕ)) → IsStrictlySortedBy (slice_cmp nat_cmp) (keys_of es) → entries (from_entries {R = slice_cmp nat_cmp} es) ≡ es
paths_sorted = entries_of_sorted nat_list_cmp_total

pub no_paths : (es : List (List ℕ × ℕ)) (n : ℕ) → IsStrictlySortedBy (slice_cmp nat_cmp) (keys_of es) → n ≡ length es → n ≡ 0 → entries (from_entries {R = slice_cmp nat_cmp} es) ≡ []
no_paths es n sorted len none = paths_sorted es sorted ∙ nil_from_length es (sym len ∙ none)

-- ---- what stands in a list

abbrev pub Among : {A : Type 0} → A → List A → Type 0
Among x [] = ⊥
Among x (y ∷ ys) = (x ≡ y) ⊎ Among x ys

among_map : {A B : Type 0} (f : A → B) (x : A) (xs : List A) → Among x xs → Among (f x) (map f xs)
among_map f x [] h = h
among_map f x (y ∷ ys) (inl e) = inl (ap f e)
among_map f x (y ∷ ys) (inr h) = inr (among_map f x ys h)

pub map_among : {A B : Type 0} (f : A → B) (b : B) (xs : List A) → Among b (map f xs) → (a : A) × (Among a xs) × (b ≡ f a)
map_among f b [] h = absurd h
map_among f b (y ∷ ys) (inl e) = (y, inl refl, e)
map_among f b (y ∷ ys) (inr h) = let r = map_among f b ys h in (r.0, inr r.1, r.2)

among_front : {A : Type 0} (x : A) (xs ys : List A) → Among x xs → Among x (xs ++ ys)
among_front x [] ys h = absurd h
among_front x (y ∷ xs) ys (inl e) = inl e
among_front x (y ∷ xs) ys (inr h) = inr (among_front x xs ys h)

among_back : {A : Type 0} (x : A) (xs ys : List A) → Among x ys → Among x (xs ++ ys)
among_back x [] ys h = h
among_back x (y ∷ xs) ys h = inr (among_back x xs ys h)

among_either : {A : Type 0} (x : A) (xs ys : List A) → Among x (xs ++ ys) → (Among x xs) ⊎ (Among x ys)
among_either x [] ys h = inr h
among_either x (y ∷ xs) ys (inl e) = inl (inl e)
among_either x (y ∷ xs) ys (inr h) = elim (among_either x xs ys h) [ inl a ↦ inl (inr a) | inr b ↦ inr b ]

among_flat : {A B : Type 0} (f : A → List B) (a : A) (b : B) (xs : List A) → Among a xs → Among b (f a) → Among b (flat_map f xs)
among_flat f a b [] h g = absurd h
among_flat f a b (y ∷ ys) (inl e) g = subst (Among b) (sym (flat_map-cons f y ys)) (among_front b (f y) (flat_map f ys) (subst (λ x. Among b (f x)) e g))
among_flat f a b (y ∷ ys) (inr h) g = subst (Among b) (sym (flat_map-cons f y ys)) (among_back b (f y) (flat_map f ys) (among_flat f a b ys h g))

flat_among : {A B : Type 0} (f : A → List B) (b : B) (xs : List A) → Among b (flat_map f xs) → (a : A) × (Among a xs) × (Among b (f a))
flat_among f b [] h = absurd h
flat_among f b (y ∷ ys) h =
    elim (among_either b (f y) (flat_map f ys) (subst (Among b) (flat_map-cons f y ys) h)) [
      | inl g ↦ (y, inl refl, g)
      | inr g ↦ let r = flat_among f b ys g in (r.0, inr r.1, r.2)
    ]

-- ---- the entries of a map of names

exact : (a b : List ℕ) → slice_cmp nat_cmp a b ≡ Equal → a ≡ b
exact = nat_list_cmp-IsAntisymmetric

found_among : (es : List (List ℕ × ℕ)) (name : List ℕ) (n : ℕ) → find (slice_cmp nat_cmp) name es ≡ Some n → Among (name, n) es
found_among [] name n e = absurd (let never : ⊥ = cc in never)
found_among (x ∷ es) name n e =
    elim (slice_cmp nat_cmp name x.0) as (λ r. slice_cmp nat_cmp name x.0 ≡ r → cond (is_eq r) (Some x.1) (find (slice_cmp nat_cmp) name es) ≡ Some n → ((name, n) ≡ x) ⊎ Among (name, n) es) [
      | Less ↦ λ r f. inr (found_among es name n f)
      | Equal ↦ λ r f. let same = exact name x.0 r in let value = same_Some x.1 n f in inl (λ i. (same i, sym value i))
      | Greater ↦ λ r f. inr (found_among es name n f)
    ] refl e

pub member_above : (key : List ℕ) (es : List (List ℕ × ℕ)) (x : List ℕ × ℕ) → AllByRecursion (λ k. slice_cmp nat_cmp key k ≡ Less) (keys_of es) → Among x es → slice_cmp nat_cmp key x.0 ≡ Less
member_above key [] x all h = absurd h
member_above key (e ∷ es) x all (inl is) = ap (λ (p : List ℕ × ℕ). slice_cmp nat_cmp key p.0) is ∙ all.0
member_above key (e ∷ es) x all (inr h) = member_above key es x all.1 h

among_found : (es : List (List ℕ × ℕ)) (x : List ℕ × ℕ) → IsStrictlySortedBy (slice_cmp nat_cmp) (keys_of es) → Among x es → find (slice_cmp nat_cmp) x.0 es ≡ Some x.1
unfolding IsStrictlySortedBy
among_found [] x sorted h = absurd h
among_found (e ∷ es) x sorted (inl is) =
    let itself : slice_cmp nat_cmp x.0 e.0 ≡ Equal = ap (λ (p : List ℕ × ℕ). slice_cmp nat_cmp x.0 p.0) (sym is) ∙ tied_itself nat_list_cmp_total x.0 in
    ap (λ r. cond (is_eq r) (Some e.1) (find (slice_cmp nat_cmp) x.0 es)) itself ∙ ap (λ (p : List ℕ × ℕ). Some p.1) (sym is)
among_found (e ∷ es) x sorted (inr h) =
    skip (slice_cmp nat_cmp x.0 e.0) refl ∙ among_found es x sorted.1 h
  where
    skip : (r : Ordering) → slice_cmp nat_cmp x.0 e.0 ≡ r → find (slice_cmp nat_cmp) x.0 (e ∷ es) ≡ find (slice_cmp nat_cmp) x.0 es
    skip Less is = ap (λ r. cond (is_eq r) (Some e.1) (find (slice_cmp nat_cmp) x.0 es)) is
    skip Equal is =
        let below : slice_cmp nat_cmp e.0 x.0 ≡ Less = member_above e.0 es x sorted.0 h in
        let same : slice_cmp nat_cmp e.0 x.0 ≡ Equal = ap (slice_cmp nat_cmp e.0) (exact x.0 e.0 is) ∙ tied_itself nat_list_cmp_total e.0 in
        absurd (let never : ⊥ = cc in never)
    skip Greater is = ap (λ r. cond (is_eq r) (Some e.1) (find (slice_cmp nat_cmp) x.0 es)) is

pub get_among : (m : NameMap) (name : List ℕ) (n : ℕ) → get m name ≡ Some n → Among (name, n) (entries m)
get_among m name n e = found_among (entries m) name n (sym (get-entries m name) ∙ e)

pub among_get : (m : NameMap) (x : List ℕ × ℕ) → Among x (entries m) → get m x.0 ≡ Some x.1
among_get m x h = get-entries m x.0 ∙ among_found (entries m) x (entries_rise (slice_cmp nat_cmp) m) h

-- ---- a map with more entries

origin : (more : List (List ℕ × ℕ)) (m : NameMap) (path : List ℕ) (n : ℕ) → get (with_paths m more) path ≡ Some n → (get m path ≡ Some n) ⊎ Among (path, n) more
unfolding with_paths
origin [] m path n e = inl e
origin (x ∷ more) m path n e =
    elim (origin more (insert m x.0 x.1) path n e) [
      | inr h ↦ inr (inr h)
      | inl f ↦
          elim (same_name path x.0) [
            | inl is ↦
                let value = same_Some x.1 n (sym (get-insert_same nat_list_cmp_total m x.0 x.1) ∙ ap (get (insert m x.0 x.1)) (sym is) ∙ f) in
                inr (inl (λ i. (is i, sym value i)))
            | inr other ↦ inl (sym (get-insert_other nat_list_cmp_total exact m x.0 x.1 path other) ∙ f)
          ]
    ]

stays : (more : List (List ℕ × ℕ)) (m : NameMap) (path : List ℕ) (n : ℕ) → get m path ≡ Some n → (k : ℕ) × (get (with_paths m more) path ≡ Some k)
unfolding with_paths
stays [] m path n e = (n, e)
stays (x ∷ more) m path n e =
    elim (same_name path x.0) [
      | inl is ↦ stays more (insert m x.0 x.1) path x.1 (ap (get (insert m x.0 x.1)) is ∙ get-insert_same nat_list_cmp_total m x.0 x.1)
      | inr other ↦ stays more (insert m x.0 x.1) path n (get-insert_other nat_list_cmp_total exact m x.0 x.1 path other ∙ e)
    ]

put_there : (more : List (List ℕ × ℕ)) (m : NameMap) (path : List ℕ) (n : ℕ) → Among (path, n) more → (k : ℕ) × (get (with_paths m more) path ≡ Some k)
unfolding with_paths
put_there [] m path n h = absurd h
put_there (x ∷ more) m path n (inl is) =
    stays more (insert m x.0 x.1) path x.1 (ap (λ (p : List ℕ × ℕ). get (insert m x.0 x.1) p.0) is ∙ get-insert_same nat_list_cmp_total m x.0 x.1)
put_there (x ∷ more) m path n (inr h) = put_there more (insert m x.0 x.1) path n h

-- ---- the names of a directory

module _ (tree : FileTree) where
  listed_leads : (dir : ℕ) (l : Listed) → Among l (names_in tree dir) → target tree.nodes dir l.name ≡ Some l.node
  listed_leads dir l h = by (names_at tree.nodes dir) refl h
    where
      by : (r : Result NameMap Errno) → names_at tree.nodes dir ≡ r → Among l (result_unwrap_or (and_then r (λ names. Ok (map (listed tree.nodes) (entries names)))) []) → target tree.nodes dir l.name ≡ Some l.node
      by (Err error) is h = absurd h
      by (Ok names) is h =
          let v = dir_found tree.nodes dir names is in
          let e = map_among (listed tree.nodes) l (entries names) h in
          let name : l.name ≡ e.0.0 = ap (λ (x : Listed). x.name) e.2 in
          let node : l.node ≡ e.0.1 = ap (λ (x : Listed). x.node) e.2 in
          ap (λ o. target_of o l.name) v.1 ∙ ap (λ c. target_in c l.name) v.2 ∙ ap (get names) name ∙ among_get names e.0 e.1 ∙ ap Some (sym node)

  leads_listed : (dir d : ℕ) (name : List ℕ) → target tree.nodes dir name ≡ Some d → Among (listed tree.nodes (name, d)) (names_in tree dir)
  leads_listed dir d name e =
      let leads = leads_to tree.nodes dir d name e in
      let is : names_at tree.nodes dir ≡ Ok leads.names = ap (λ o. and_then (and_then (ok_or o Noent) (λ node. Ok node.content)) names_of) leads.there ∙ ap names_of leads.content in
      subst (λ r. Among (listed tree.nodes (name, d)) (result_unwrap_or (and_then r (λ names. Ok (map (listed tree.nodes) (entries names)))) [])) (sym is)
      (among_map (listed tree.nodes) (name, d) (entries leads.names) (get_among leads.names name d leads.leads))

  -- a path below a directory, by its names
  pub record Path (dir : ℕ) (front path : List ℕ) (n : ℕ) : Type 0 where
    pub name : List ℕ
    pub names : List (List ℕ)
    pub is : path ≡ front ++ joined (name ∷ names)
    pub leads : node_under tree.nodes dir (name ∷ names) ≡ Some n

  joined_more : (front name : List ℕ) (names : List (List ℕ)) → path_in front name ++ joined names ≡ front ++ joined (name ∷ names)
  joined_more front name names = append_assoc front (47 ∷ name) (joined names) ∙ ap (λ l. front ++ l) (sym (joined_then name names))

  joined_one : (front name : List ℕ) → path_in front name ≡ front ++ joined (name ∷ [])
  joined_one front name = sym (append-nil (path_in front name)) ∙ joined_more front name []

  below_leads : (levels : ℕ) (front : List ℕ) (dir : ℕ) (x : List ℕ × ℕ) → Among x (below levels tree front dir) → Path dir front x.0 x.1
  unfolding below
  below_leads zero front dir x h = absurd h
  below_leads (suc levels) front dir x h =
      let l = flat_among (here levels tree front) x (names_in tree dir) h in
      let t = listed_leads dir l.0 l.1 in
      elim l.2 [
        | inl is ↦ record {
          name = l.0.name;
          names = [];
          is = ap (λ (p : List ℕ × ℕ). p.0) is ∙ joined_one front l.0.name;
          leads = ap (option_and_then (λ (n : ℕ). Some n)) t ∙ ap (λ (p : List ℕ × ℕ). Some p.1) (sym is);
        }
        | inr h ↦
            let p = below_leads levels (path_in front l.0.name) l.0.node x h in
            record {
              name = l.0.name;
              names = p.name ∷ p.names;
              is = p.is ∙ joined_more front l.0.name (p.name ∷ p.names);
              leads = ap (option_and_then (λ d. node_under tree.nodes d (p.name ∷ p.names))) t ∙ p.leads;
            }
      ]

  leads_below : (levels : ℕ) (front : List ℕ) (dir n : ℕ) (name : List ℕ) (names : List (List ℕ)) → length (name ∷ names) ≤ levels → node_under tree.nodes dir (name ∷ names) ≡ Some n → Among (front ++ joined (name ∷ names), n) (below levels tree front dir)
  unfolding below
  leads_below zero front dir n name names le e = absurd (omega (arith, le))
  leads_below (suc levels) front dir n name [] le e =
      let t = chained_from (λ (d : ℕ). Some d) (target tree.nodes dir name) n e in
      let d : t.0 ≡ n = same_Some t.0 n t.2 in
      among_flat (here levels tree front) (listed tree.nodes (name, t.0)) (front ++ joined (name ∷ []), n) (names_in tree dir) (leads_listed dir t.0 name t.1) (inl (λ i. (sym (joined_one front name) i, sym d i)))
  leads_below (suc levels) front dir n name (next ∷ names) le e =
      let t = chained_from (λ d. node_under tree.nodes d (next ∷ names)) (target tree.nodes dir name) n e in
      let rest = leads_below levels (path_in front name) t.0 n next names (omega (arith, le)) t.2 in
      among_flat (here levels tree front) (listed tree.nodes (name, t.0)) (front ++ joined (name ∷ next ∷ names), n) (names_in tree dir) (leads_listed dir t.0 name t.1)
      (inr (subst (λ p. Among (p, n) (below levels tree (path_in front name) t.0)) (joined_more front name (next ∷ names)) rest))

  -- each path of the tree is that of names
  pub path_leads : (x : List ℕ × ℕ) → Among x (entries (paths_of tree)) → Path root [] x.0 x.1
  unfolding paths_of
  path_leads x h =
      elim (origin (below 512 tree [] root) empty x.0 x.1 (among_get (paths_of tree) x h)) [
        | inl e ↦ absurd (let none = get-empty {X = ℕ} (slice_cmp nat_cmp) x.0 in let never : ⊥ = cc in never)
        | inr g ↦ below_leads 512 [] root x g
      ]

  -- names that lead to a node, at most 512, are those of a path
  pub leads_path : (n : ℕ) (name : List ℕ) (names : List (List ℕ)) → length (name ∷ names) ≤ 512 → node_under tree.nodes root (name ∷ names) ≡ Some n → (k : ℕ) × (Among (joined (name ∷ names), k) (entries (paths_of tree)))
  unfolding paths_of
  leads_path n name names le e =
      let p = put_there (below 512 tree [] root) empty (joined (name ∷ names)) n (leads_below 512 [] root n name names le e) in
      (p.0, get_among (paths_of tree) (joined (name ∷ names)) p.0 p.1)
