-- What an entry gives a tree: a new file or directory, where its path leads to a spot for one.
use Rattle.std.proofs.Common.{◌≡◌, ℕ, ◌+◌, ◌<◌, ◌≤◌, true, false, List, [], ◌∷◌, ◌++◌, length, take, drop, nat_cmp, Option, Some, None, is_none, ok_or, Ok, option_map, option_and_then, refl, sym, ap, subst, ◌∙◌, ◌⊎◌, inl, inr, arith, take_all, Bool, cond, not, eqb, ltb, leb, le-ltb, ltb-false, leb-false, ne_eqb, max, is_some, Result, Err, unwrap_or, append-nil}
use Rattle.std.specs.List.{AllByRecursion, last_or}
use Rattle.std.specs.Option.{option_map_or}
use Rattle.std.specs.Result.{result_unwrap_or, result_ok}
use Rattle.std.proofs.lemmas.Bool.{false≢true, or_from, or_parts, lt-leb}
use Rattle.std.proofs.Math.ListN.{drop_of_length-le}
use Rattle.boot_image.specs.Prelude.{Noent, Exist, Nospc, Fbig, Errno, bytes_of_all, size_of, kind_of, size_found, lacks_name, lacks_name_at, naming, with_change, parent_of_node, is_linked, is_linked_node, written, Node, NameMap, is_dot_dot, FileTree, root, only_root, new_node, named, parent_of, most_nodes, last_number, NodeMap, most_bytes, changed, writing, with_nodes, added, is_dir, made_at, is_full, Leads, target, target_of, target_in, node_under, is_dir_node, IsName, IsTree, stat_of, Stat, write_at, bytes_at, fitted, room_for, Place, Content, Directory, File, content_of, content_of_kind, content_under, joined, plain_parts, made, with_entry}
use Rattle.tree_nodes.specs.declared.node.Content.{Content as NodeContent}
use Rattle.tree_nodes.specs.declared.node.Content.TheVariants.{File as FileNode, Dir}
use Rattle.finite_maps.proofs.Maps.{get-insert_same, get-insert_other, len-insert_new, insert-insert, nat_cmp_total, slice_cmp, get, insert, empty, len, get-empty, nat_cmp-IsAntisymmetric}
use Rattle.finite_maps.proofs.Options.{none_never, chained_from}
use Rattle.tree_nodes.proofs.NodeLemmas.{changed_there, bytes_put}
use Rattle.file_tree.specs.Walk.{and_then, bytes_of, names_at, names_of, place_itself, step, walk_on, last_name}
use Rattle.file_tree.proofs.Links.{same_number, IsPlace}
use Rattle.file_tree.proofs.TreeLemmas.{NameSet, leads_is, leads_to, named_set, tree_with_new, there, linked_up}
use Rattle.file_tree.proofs.Ends.{dir_found}
use Rattle.boot_image.proofs.Under.{under_linked, under_once, under_new, under_old, Ending, none, some, ending}
use Rattle.boot_image.proofs.PlainPaths.{Plain, plain_of, parts_for, plain_joined}

-- ---- what stands under a node

abbrev pub content_kind : NodeContent → Content
content_kind (FileNode bytes) = File bytes
content_kind (Dir names) = Directory

abbrev pub content_found : Option Node → Content
content_found None = Directory
content_found (Some node) = content_kind node.content

abbrev pub node_content : Content → NodeContent
node_content Directory = Dir empty
node_content (File bytes) = FileNode bytes

kind_is : (tree : FileTree) (n : ℕ) (v : Node) (content : NodeContent) → get tree.nodes n ≡ Some v → v.content ≡ content → content_of_kind tree n (size_of content) (kind_of content) ≡ content_kind content
kind_is tree n v (FileNode bytes) e is =
    ap (λ o. File (result_unwrap_or (and_then (and_then (and_then (ok_or o Noent) (λ node. Ok node.content)) bytes_of) (λ all. Ok (take (length bytes) (drop 0 all)))) [])) e
    ∙ ap (λ c. File (result_unwrap_or (and_then (bytes_of c) (λ all. Ok (take (length bytes) (drop 0 all)))) [])) is
    ∙ ap File (take_all (length bytes) bytes (omega arith))
kind_is tree n v (Dir names) e is = refl

pub content_is : (tree : FileTree) (n : ℕ) → content_of tree n ≡ content_found (get tree.nodes n)
unfolding content_of
content_is tree n = by (get tree.nodes n) refl
  where
    by : (o : Option Node) → get tree.nodes n ≡ o → option_map_or (λ (known : Stat). content_of_kind tree n known.size known.kind) (option_map stat_of (get tree.nodes n)) Directory ≡ content_found o
    by None e = ap (λ o. option_map_or (λ (known : Stat). content_of_kind tree n known.size known.kind) (option_map stat_of o) Directory) e
    by (Some v) e = ap (λ o. option_map_or (λ (known : Stat). content_of_kind tree n known.size known.kind) (option_map stat_of o) Directory) e ∙ kind_is tree n v v.content e refl

pub size_is : (tree : FileTree) (n : ℕ) → size_of (node_content (content_of tree n)) ≡ size_found (get tree.nodes n)
size_is tree n = ap (λ c. size_of (node_content c)) (content_is tree n) ∙ by (get tree.nodes n)
  where
    kind : (c : NodeContent) → size_of (node_content (content_kind c)) ≡ size_of c
    kind (FileNode bytes) = refl
    kind (Dir names) = refl

    by : (o : Option Node) → size_of (node_content (content_found o)) ≡ size_found o
    by None = refl
    by (Some v) = kind v.content

-- the root is a directory, and so is what a name leads on from
pub root_content : (tree : FileTree) → IsTree tree.nodes tree.next → content_under tree [] ≡ Some Directory
root_content tree ok = ap Some (content_is tree root ∙ by (get tree.nodes root) ok.top)
  where
    kind : (c : NodeContent) → is_dir c ≡ true → content_kind c ≡ Directory
    kind (FileNode bytes) e = absurd (false≢true e)
    kind (Dir names) e = refl

    by : (o : Option Node) → is_dir_node o ≡ true → content_found o ≡ Directory
    by None e = absurd (false≢true e)
    by (Some v) e = kind v.content e

pub leads_dir : (tree : FileTree) (d n : ℕ) (name : List ℕ) → target tree.nodes d name ≡ Some n → content_of tree d ≡ Directory
leads_dir tree d n name e = let l = leads_to tree.nodes d n name e in content_is tree d ∙ ap content_found l.there ∙ ap content_kind l.content

-- ---- one path more

-- where a new name can be put
pub record Spot (tree : FileTree) (front : List (List ℕ)) (last : List ℕ) : Type 0 where
  pub dir : ℕ
  pub up : ℕ
  pub under : node_under tree.nodes root front ≡ Some dir
  pub leads : Leads tree.nodes dir last None
  pub linked : parent_of tree.nodes dir ≡ Some up
  pub room : len tree.nodes < most_nodes
  pub number : tree.next ≤ last_number

-- a tree with one path more
pub record Growth (tree after : FileTree) (names : List (List ℕ)) (content : Content) : Type 0 where
  pub is : IsTree after.nodes after.next
  pub at : content_under after names ≡ Some content
  pub others : (ns : List (List ℕ)) → (ns ≡ names) ⊎ (content_under after ns ≡ content_under tree ns)
  pub len : len after.nodes ≡ len tree.nodes + 1
  pub next : after.next ≡ tree.next + 1
  pub bytes : bytes_of_all after.nodes ≡ bytes_of_all tree.nodes + size_of (node_content content)

abbrev pub grown : FileTree → ℕ → List ℕ → Content → FileTree
grown tree dir name content = (added tree dir name (node_content content)).1

module _ (tree : FileTree) (ok : IsTree tree.nodes tree.next) (front : List (List ℕ)) (last : List ℕ) (spot : Spot tree front last) where
  mid : NameSet tree.nodes (named tree.nodes spot.dir last tree.next) spot.dir last (Some tree.next)
  mid = named_set tree.nodes spot.dir last None tree.next spot.leads

  fresh : get tree.nodes tree.next ≡ None
  fresh = ok.unused tree.next (omega arith)

  is_mid : named tree.nodes spot.dir last tree.next ≡ insert tree.nodes spot.dir (with_change (naming last tree.next) spot.leads.node)
  is_mid = changed_there tree.nodes spot.dir (with_change (naming last tree.next)) spot.leads.node spot.leads.there

  pub new_bytes : (content : NodeContent) → bytes_of_all (added tree spot.dir last content).1.nodes ≡ bytes_of_all tree.nodes + size_of content
  new_bytes content =
      let v = with_change (naming last tree.next) spot.leads.node in
      let old : size_found (get tree.nodes spot.dir) ≡ 0 = ap size_found spot.leads.there ∙ ap size_of spot.leads.content in
      let new : size_of v.content ≡ 0 = ap (λ c. size_of (naming last tree.next c)) spot.leads.content in
      omega (arith, bytes_put (named tree.nodes spot.dir last tree.next) tree.next (new_node spot.dir content), ap size_found (mid.unused tree.next fresh), bytes_put tree.nodes spot.dir v, old, new, ap bytes_of_all is_mid)

  pub new_at : (content : NodeContent) → get (added tree spot.dir last content).1.nodes tree.next ≡ Some (new_node spot.dir content)
  new_at content = get-insert_same nat_cmp_total (named tree.nodes spot.dir last tree.next) tree.next (new_node spot.dir content)

  module _ (good : IsName last) (content : Content) where
    new_off : (q : ℕ) → (q ≡ tree.next → ⊥) → get (grown tree spot.dir last content).nodes q ≡ get (named tree.nodes spot.dir last tree.next) q
    new_off = get-insert_other nat_cmp_total nat_cmp-IsAntisymmetric (named tree.nodes spot.dir last tree.next) tree.next (new_node spot.dir (node_content content))

    -- a new node has no names
    no_names : (n : List ℕ) → target_in (node_content content) n ≡ None
    no_names n = elim content as (λ c. target_in (node_content c) n ≡ None) [ Directory ↦ get-empty (slice_cmp nat_cmp) n | File bytes ↦ refl ]

    leads_same : (d : ℕ) (n : List ℕ) → target (grown tree spot.dir last content).nodes d n ≡ target (named tree.nodes spot.dir last tree.next) d n
    leads_same d n =
        elim (same_number d tree.next) [
          | inl is ↦ ap (λ x. target (grown tree spot.dir last content).nodes x n) is ∙ ap (λ x. target_of x n) (new_at (node_content content)) ∙ no_names n ∙ sym (ap (λ x. target (named tree.nodes spot.dir last tree.next) x n) is ∙ ap (λ x. target_of x n) (mid.unused tree.next fresh))
          | inr other ↦ ap (λ x. target_of x n) (new_off d other)
        ]

    -- the other nodes have the contents that they had
    old_content : (q : ℕ) → (q ≡ tree.next → ⊥) → content_of (grown tree spot.dir last content) q ≡ content_of tree q
    old_content q other =
        content_is (grown tree spot.dir last content) q ∙ ap content_found (new_off q other) ∙ ap (λ m. content_found (get m q)) is_mid
        ∙ elim (same_number q spot.dir) [
          | inl e ↦
              ap (λ x. content_found (get (insert tree.nodes spot.dir (with_change (naming last tree.next) spot.leads.node)) x)) e
              ∙ ap content_found (get-insert_same nat_cmp_total tree.nodes spot.dir (with_change (naming last tree.next) spot.leads.node))
              ∙ ap (λ c. content_kind (naming last tree.next c)) spot.leads.content
              ∙ sym (ap (λ x. content_found (get tree.nodes x)) e ∙ ap content_found spot.leads.there ∙ ap content_kind spot.leads.content)
          | inr apart ↦ ap content_found (get-insert_other nat_cmp_total nat_cmp-IsAntisymmetric tree.nodes spot.dir (with_change (naming last tree.next) spot.leads.node) q apart)
        ]
        ∙ sym (content_is tree q)

    new_content : content_of (grown tree spot.dir last content) tree.next ≡ content
    new_content =
        content_is (grown tree spot.dir last content) tree.next ∙ ap content_found (new_at (node_content content))
        ∙ elim content as (λ c. content_kind (node_content c) ≡ c) [ Directory ↦ refl | File bytes ↦ refl ]

    same_under : (ns : List (List ℕ)) → node_under (grown tree spot.dir last content).nodes root ns ≡ node_under tree.nodes root ns → content_under (grown tree spot.dir last content) ns ≡ content_under tree ns
    same_under ns same = ap (option_map (content_of (grown tree spot.dir last content))) same ∙ by (node_under tree.nodes root ns) refl
      where
        by : (o : Option ℕ) → node_under tree.nodes root ns ≡ o → option_map (content_of (grown tree spot.dir last content)) o ≡ option_map (content_of tree) o
        by None e = refl
        by (Some n) e =
            let u = under_linked tree.nodes tree.next ok root root n ns ok.links.top e in
            ap Some (old_content n (λ is. none_never (parent_of tree.nodes tree.next) u.0 (ap parent_of_node fresh) (ap (parent_of tree.nodes) (sym is) ∙ u.1)))

    pub grows : Growth tree (grown tree spot.dir last content) (front ++ last ∷ []) content
    grows =
        let free = leads_is tree.nodes spot.dir last None spot.leads in
        let at : target (grown tree spot.dir last content).nodes spot.dir last ≡ Some tree.next = leads_same spot.dir last ∙ mid.at in
        let off : (d : ℕ) (n : List ℕ) → (IsPlace spot.dir last d n → ⊥) → target (grown tree spot.dir last content).nodes d n ≡ target tree.nodes d n = λ d n other. leads_same d n ∙ mid.off d n other in
        let none : (n : List ℕ) → target (grown tree spot.dir last content).nodes tree.next n ≡ None = λ n. ap (λ o. target_of o n) (new_at (node_content content)) ∙ no_names n in
        record {
          is = tree_with_new tree.nodes tree.next spot.dir spot.up last (node_content content) ok spot.linked (ap (lacks_name_at last) spot.leads.there ∙ ap (lacks_name last) spot.leads.content ∙ ap is_none spot.leads.leads) good no_names spot.room spot.number;
          at = ap (option_map (content_of (grown tree spot.dir last content))) (under_new tree.nodes (grown tree spot.dir last content).nodes tree.next spot.dir last free at off none root front spot.under) ∙ ap Some new_content;
          others = λ ns.
              elim (under_old tree.nodes (grown tree spot.dir last content).nodes tree.next spot.dir last free at off none root ns) [
                | inl f ↦ inl (f.1 ∙ ap (λ l. l ++ last ∷ []) (under_once tree.nodes tree.next ok f.0 front spot.dir f.2 spot.under))
                | inr same ↦ inr (same_under ns same)
              ];
          len = len-insert_new nat_cmp_total (named tree.nodes spot.dir last tree.next) tree.next (new_node spot.dir (node_content content)) (mid.unused tree.next fresh) ∙ ap (λ n. n + 1) mid.len;
          next = refl;
          bytes = new_bytes (node_content content);
        }

-- ---- the root alone

pub root_alone : (names : List (List ℕ)) (content : Content) → content_under only_root names ≡ Some content → names ≡ []
root_alone [] content e = refl
root_alone (name ∷ names) content e =
    let at : get only_root.nodes root ≡ Some (new_node root (Dir empty)) = get-insert_same nat_cmp_total empty root (new_node root (Dir empty)) in
    let missing : target only_root.nodes root name ≡ None = ap (λ o. target_of o name) at ∙ get-empty (slice_cmp nat_cmp) name in
    absurd (let f = sym (ap (λ o. option_map (content_of only_root) (option_and_then (λ d. node_under only_root.nodes d names) o)) missing) ∙ e in let never : ⊥ = cc in never)

pub last_good : (front : List (List ℕ)) (last : List ℕ) → AllByRecursion IsName (front ++ last ∷ []) → IsName last
last_good [] last all = all.0
last_good (x ∷ front) last all = last_good front last all.1

-- ---- the walk to a name

assoc : {A B C : Type 0} (f : B → Option C) (g : A → Option B) (o : Option A) → option_and_then f (option_and_then g o) ≡ option_and_then (λ x. option_and_then f (g x)) o
assoc f g None = refl
assoc f g (Some x) = refl

abbrev at_name : ℕ → List ℕ → NameMap → Place
at_name dir name names = record { dir = dir; node = get names name }

step_is : (nodes : NodeMap) (dir : ℕ) (name : List ℕ) → is_dot_dot name ≡ false → step nodes dir name ≡ and_then (names_at nodes dir) (λ names. Ok (at_name dir name names))
step_is nodes dir name plain = ap (λ b. and_then (names_at nodes dir) (λ names. cond b (and_then (ok_or (parent_of nodes dir) Noent) (λ parent. Ok (place_itself parent))) (Ok (at_name dir name names)))) plain

module _ (nodes : NodeMap) (last : List ℕ) where
  -- the last name, looked up in a directory
  abbrev last_in : ℕ → Option Place
  last_in dir = option_map (at_name dir last) (result_ok (names_at nodes dir))

  one_step : (dir : ℕ) → is_dot_dot last ≡ false → result_ok (and_then (step nodes dir last) (λ next. Ok next)) ≡ last_in dir
  one_step dir plain = ap (λ r. result_ok (and_then r (λ next. Ok next))) (step_is nodes dir last plain) ∙ by (names_at nodes dir)
    where
      by : (r : Result NameMap Errno) → result_ok (and_then (and_then r (λ names. Ok (at_name dir last names))) (λ next. Ok next)) ≡ option_map (at_name dir last) (result_ok r)
      by (Ok names) = refl
      by (Err error) = refl

  more_steps : (dir : ℕ) (x : List ℕ) (front : List (List ℕ)) → is_dot_dot x ≡ false → ((place : Place) → result_ok (walk_on nodes place (front ++ last ∷ [])) ≡ option_and_then (λ s. option_and_then last_in (node_under nodes s front)) place.node)
      → result_ok (and_then (step nodes dir x) (λ next. walk_on nodes next (front ++ last ∷ []))) ≡ option_and_then last_in (option_and_then (λ m. node_under nodes m front) (target nodes dir x))
  more_steps dir x front plain more = ap (λ r. result_ok (and_then r (λ next. walk_on nodes next (front ++ last ∷ [])))) (step_is nodes dir x plain) ∙ by (get nodes dir)
    where
      in_content : (content : NodeContent) → result_ok (and_then (and_then (names_of content) (λ names. Ok (at_name dir x names))) (λ next. walk_on nodes next (front ++ last ∷ []))) ≡ option_and_then last_in (option_and_then (λ m. node_under nodes m front) (target_of (Some (new_node 0 content)) x))
      in_content (FileNode bytes) = refl
      in_content (Dir names) = more (at_name dir x names) ∙ sym (assoc last_in (λ m. node_under nodes m front) (get names x))

      by : (o : Option Node) → result_ok (and_then (and_then (and_then (and_then (ok_or o Noent) (λ node. Ok node.content)) names_of) (λ names. Ok (at_name dir x names))) (λ next. walk_on nodes next (front ++ last ∷ []))) ≡ option_and_then last_in (option_and_then (λ m. node_under nodes m front) (target_of o x))
      by None = refl
      by (Some v) = in_content v.content

  walk_found : (front : List (List ℕ)) → AllByRecursion IsName (front ++ last ∷ []) → (place : Place) → result_ok (walk_on nodes place (front ++ last ∷ [])) ≡ option_and_then (λ s. option_and_then last_in (node_under nodes s front)) place.node
  walk_found [] all place =
      elim place.node as (λ o. result_ok (and_then (ok_or o Noent) (λ dir. and_then (step nodes dir last) (λ next. Ok next))) ≡ option_and_then last_in o) [
        | None ↦ refl
        | Some dir ↦ one_step dir all.0.plain
      ]
  walk_found (x ∷ front) all place =
      elim place.node as (λ o. result_ok (and_then (ok_or o Noent) (λ dir. and_then (step nodes dir x) (λ next. walk_on nodes next (front ++ last ∷ [])))) ≡ option_and_then (λ s. option_and_then last_in (node_under nodes s (x ∷ front))) o) [
        | None ↦ refl
        | Some dir ↦ more_steps dir x front all.0.plain (λ place. walk_found front all.1 place)
      ]

last_is : (o : Option (List ℕ)) (front : List (List ℕ)) (name : List ℕ) → unwrap_or (last_or o (front ++ name ∷ [])) [] ≡ name
last_is o [] name = refl
last_is o (x ∷ front) name = last_is (Some x) front name

-- ---- what is made there

abbrev first : Content → NodeContent
first Directory = Dir empty
first (File bytes) = FileNode []

abbrev finish : Content → ℕ × FileTree → Result FileTree Errno
finish Directory new = Ok new.1
finish (File bytes) new = write_at new.1 new.0 0 bytes

module _ (tree : FileTree) (front : List (List ℕ)) (last : List ℕ) (all : AllByRecursion IsName (front ++ last ∷ [])) (short : length (joined (front ++ last ∷ [])) ≤ 1024) (content : Content) where
  abbrev put : Place → Option FileTree
  put place = result_ok (and_then (made_at tree (parts_for (front ++ last ∷ [])) (first content) false place) (finish content))

  made_is : result_ok (made tree (parts_for (front ++ last ∷ [])) content) ≡ option_and_then put (result_ok (walk_on tree.nodes (place_itself root) (front ++ last ∷ [])))
  made_is =
      elim content as (λ c. result_ok (made tree (parts_for (front ++ last ∷ [])) c) ≡ option_and_then (λ place. result_ok (and_then (made_at tree (parts_for (front ++ last ∷ [])) (first c) false place) (finish c))) (result_ok (walk_on tree.nodes (place_itself root) (front ++ last ∷ [])))) [
        | Directory ↦ through (walk_on tree.nodes (place_itself root) (front ++ last ∷ [])) (made_at tree (parts_for (front ++ last ∷ [])) (Dir empty) false) (finish Directory)
        | File bytes ↦ through (walk_on tree.nodes (place_itself root) (front ++ last ∷ [])) (made_at tree (parts_for (front ++ last ∷ [])) (FileNode []) false) (finish (File bytes))
      ]
    where
      through : (r : Result Place Errno) (f : Place → Result (ℕ × FileTree) Errno) (g : ℕ × FileTree → Result FileTree Errno) → result_ok (and_then (and_then (and_then r (λ place. Ok place)) f) g) ≡ option_and_then (λ place. result_ok (and_then (f place) g)) (result_ok r)
      through (Ok place) f g = refl
      through (Err error) f g = refl

  entry_is : with_entry tree (record { path = joined (front ++ last ∷ []); content = content }) ≡ option_and_then (λ d. option_and_then put (last_in tree.nodes last d)) (node_under tree.nodes root front)
  unfolding with_entry
  entry_is =
      ap (option_and_then (λ parts. result_ok (made tree parts content))) (plain_joined (front ++ last ∷ []) (last_some front) all short) ∙ made_is
      ∙ ap (option_and_then put) (walk_found tree.nodes last front all (place_itself root)) ∙ assoc put (last_in tree.nodes last) (node_under tree.nodes root front)
    where
      last_some : (front : List (List ℕ)) → 0 < length (front ++ last ∷ [])
      last_some [] = omega arith
      last_some (x ∷ front) = omega arith

-- ---- a file's bytes

module _ (tree : FileTree) (ok : IsTree tree.nodes tree.next) (front : List (List ℕ)) (last : List ℕ) (spot : Spot tree front last) where
  abbrev start : FileTree
  start = (added tree spot.dir last (FileNode [])).1

  abbrev room_of : List ℕ → Result Bool Errno
  room_of [] = Ok true
  room_of (byte ∷ bytes) = room_for start.nodes (length {A = ℕ} []) (0 + length (byte ∷ bytes)) (max (length {A = ℕ} []) (0 + length (byte ∷ bytes)))

  empty_there : bytes_at start.nodes tree.next ≡ Ok []
  empty_there = ap (λ o. and_then (and_then (ok_or o Noent) (λ node. Ok node.content)) bytes_of) (new_at tree ok front last spot (FileNode []))

  written_is : (bytes : List ℕ) → write_at start tree.next 0 bytes ≡ and_then (room_of bytes) (λ _. Ok (grown tree spot.dir last (File bytes)))
  written_is [] = ap (λ r. and_then r (λ (old : List ℕ). Ok start)) empty_there
  written_is (byte ∷ bytes) =
      let some : eqb (length (byte ∷ bytes)) 0 ≡ false = ne_eqb (length (byte ∷ bytes)) 0 (λ e. absurd (let never : ⊥ = omega (arith, e) in never)) in
      let all : written [] 0 (byte ∷ bytes) ≡ byte ∷ bytes = ap (λ l. (byte ∷ bytes) ++ l) (drop_of_length-le [] {i = 0 + length (byte ∷ bytes)} (omega arith)) ∙ append-nil (byte ∷ bytes) in
      let filled : changed start.nodes tree.next (with_change (writing 0 (byte ∷ bytes))) ≡ (grown tree spot.dir last (File (byte ∷ bytes))).nodes =
      changed_there start.nodes tree.next (with_change (writing 0 (byte ∷ bytes))) (new_node spot.dir (FileNode [])) (new_at tree ok front last spot (FileNode []))
      ∙ insert-insert nat_cmp_total nat_cmp-IsAntisymmetric (named tree.nodes spot.dir last tree.next) tree.next (new_node spot.dir (FileNode [])) (new_node spot.dir (FileNode (written [] 0 (byte ∷ bytes))))
      ∙ ap (λ (l : List ℕ). (grown tree spot.dir last (File l)).nodes) all in
      ap (λ r. and_then r (λ old. cond (eqb (length (byte ∷ bytes)) 0) (Ok start) (fitted start tree.next (writing 0 (byte ∷ bytes)) (length old) (0 + length (byte ∷ bytes)) (max (length old) (0 + length (byte ∷ bytes)))))) empty_there
      ∙ ap (λ b. cond b (Ok start) (fitted start tree.next (writing 0 (byte ∷ bytes)) (length {A = ℕ} []) (0 + length (byte ∷ bytes)) (max (length {A = ℕ} []) (0 + length (byte ∷ bytes))))) some
      ∙ ap (λ m. and_then (room_of (byte ∷ bytes)) (λ _. Ok (with_nodes start m))) filled

  has_room : (bytes : List ℕ) → bytes_of_all tree.nodes + length bytes ≤ most_bytes → room_of bytes ≡ Ok true
  has_room [] fits = refl
  has_room (byte ∷ bytes) fits =
      let end : ltb most_bytes (0 + length (byte ∷ bytes)) ≡ false = le-ltb most_bytes (0 + length (byte ∷ bytes)) (omega (arith, fits)) in
      let sum : ltb (most_bytes + length {A = ℕ} []) (bytes_of_all start.nodes + max (length {A = ℕ} []) (0 + length (byte ∷ bytes))) ≡ false =
      le-ltb (most_bytes + length {A = ℕ} []) (bytes_of_all start.nodes + max (length {A = ℕ} []) (0 + length (byte ∷ bytes))) (omega (arith, fits, new_bytes tree ok front last spot (FileNode []))) in
      λ i. cond (end i) (Err Fbig) (cond (sum i) (Err Nospc) (Ok true))

  finished : (content : Content) → bytes_of_all tree.nodes + size_of (node_content content) ≤ most_bytes → finish content (added tree spot.dir last (first content)) ≡ Ok (grown tree spot.dir last content)
  finished Directory fits = refl
  finished (File bytes) fits = written_is bytes ∙ ap (λ r. and_then r (λ _. Ok (grown tree spot.dir last (File bytes)))) (has_room bytes fits)

  finishes : (content : Content) (after : FileTree) → result_ok (finish content (added tree spot.dir last (first content))) ≡ Some after → grown tree spot.dir last content ≡ after
  finishes Directory after e = cc
  finishes (File bytes) after e = by (room_of bytes) (sym (ap result_ok (written_is bytes)) ∙ e)
    where
      by : (r : Result Bool Errno) → result_ok (and_then r (λ _. Ok (grown tree spot.dir last (File bytes)))) ≡ Some after → grown tree spot.dir last (File bytes) ≡ after
      by (Ok b) e = cc
      by (Err error) e = absurd (let never : ⊥ = cc in never)

  -- the entry of a path that leads to the spot
  pub entry_made : (content : Content) → AllByRecursion IsName (front ++ last ∷ []) → length (joined (front ++ last ∷ [])) ≤ 1024 → bytes_of_all tree.nodes + size_of (node_content content) ≤ most_bytes
      → with_entry tree (record { path = joined (front ++ last ∷ []); content = content }) ≡ Some (grown tree spot.dir last content)
  entry_made content all short fits =
      let names : names_at tree.nodes spot.dir ≡ Ok spot.leads.names = ap (λ o. and_then (and_then (ok_or o Noent) (λ node. Ok node.content)) names_of) spot.leads.there ∙ ap names_of spot.leads.content in
      let linked : is_linked tree.nodes spot.dir ≡ true = let v = there tree.nodes spot.dir spot.up spot.linked in ap is_linked_node v.1 ∙ ap is_some v.2 in
      let room : is_full tree ≡ false = or_from (leb most_nodes (len tree.nodes)) (ltb last_number tree.next) (lt-leb most_nodes (len tree.nodes) spot.room) (le-ltb last_number tree.next spot.number) in
      let to : List ℕ → Result (ℕ × FileTree) Errno = λ name. Ok (added tree spot.dir name (first content)) in
      entry_is tree front last all short content
      ∙ ap (option_and_then (λ d. option_and_then (put tree front last all short content) (last_in tree.nodes last d))) spot.under
      ∙ ap (λ r. option_and_then (put tree front last all short content) (option_map (at_name spot.dir last) (result_ok r))) names
      ∙ ap (λ n. put tree front last all short content (record { dir = spot.dir; node = n })) spot.leads.leads
      ∙ (λ i. result_ok (and_then (cond (not (linked i)) (Err Noent) (cond (room i) (Err Nospc) (to (last_is None front last i)))) (finish content)))
      ∙ ap result_ok (finished content fits)

-- where an entry's path led
pub record Led (tree : FileTree) (path : List ℕ) (content : Content) (after : FileTree) : Type 0 where
  pub front : List (List ℕ)
  pub last : List ℕ
  pub good : AllByRecursion IsName (front ++ last ∷ [])
  pub short : length (joined (front ++ last ∷ [])) ≤ 1024
  pub spot : Spot tree front last
  pub is : grown tree spot.dir last content ≡ after

pub entry_led : (tree after : FileTree) (path : List ℕ) (content : Content) → IsTree tree.nodes tree.next → with_entry tree (record { path = path; content = content }) ≡ Some after → Led tree path content after
unfolding with_entry
entry_led tree after path content ok e =
    let p = chained_from (λ parts. result_ok (made tree parts content)) (plain_parts path) after e in
    let plain = plain_of path p.0 p.1 in
    by plain (ending plain.names)
  where
    made_there : (front : List (List ℕ)) (last : List ℕ) (all : AllByRecursion IsName (front ++ last ∷ [])) (short : length (joined (front ++ last ∷ [])) ≤ 1024) (d : ℕ) (names : NameMap) (v : Node) → node_under tree.nodes root front ≡ Some d → get tree.nodes d ≡ Some v → v.content ≡ Dir names
        → (o : Option ℕ) → get names last ≡ o → (l : Bool) → is_linked tree.nodes d ≡ l → (f : Bool) → is_full tree ≡ f
        → result_ok (and_then (cond (is_some o) (Err Exist) (cond (not l) (Err Noent) (cond f (Err Nospc) (Ok (added tree d (last_name (parts_for (front ++ last ∷ []))) (first content)))))) (finish content)) ≡ Some after → Led tree path content after
    made_there front last all short d names v under at is (Some n) has l li f fi e = absurd (let never : ⊥ = cc in never)
    made_there front last all short d names v under at is None has false li f fi e = absurd (let never : ⊥ = cc in never)
    made_there front last all short d names v under at is None has true li true fi e = absurd (let never : ⊥ = cc in never)
    made_there front last all short d names v under at is None has true li false fi e =
        let up = linked_up tree.nodes d li in
        let room = or_parts (leb most_nodes (len tree.nodes)) (ltb last_number tree.next) fi in
        let spot : Spot tree front last = record {
          dir = d;
          up = up.0;
          under = under;
          leads = record { node = v; names = names; there = at; content = is; leads = has };
          linked = up.1;
          room = leb-false most_nodes (len tree.nodes) room.0;
          number = ltb-false last_number tree.next room.1;
        } in
        record { front = front; last = last; good = all; short = short; spot = spot; is = finishes tree ok front last spot content after (sym (ap (λ name. result_ok (finish content (added tree d name (first content)))) (last_is None front last)) ∙ e) }

    found : (front : List (List ℕ)) (last : List ℕ) (all : AllByRecursion IsName (front ++ last ∷ [])) (short : length (joined (front ++ last ∷ [])) ≤ 1024) (d : ℕ) → node_under tree.nodes root front ≡ Some d → (r : Result NameMap Errno) → names_at tree.nodes d ≡ r
        → option_and_then (put tree front last all short content) (option_map (at_name d last) (result_ok r)) ≡ Some after → Led tree path content after
    found front last all short d under (Err error) is e = absurd (let never : ⊥ = cc in never)
    found front last all short d under (Ok names) is e =
        let v = dir_found tree.nodes d names is in
        made_there front last all short d names v.0 under v.1 v.2 (get names last) refl (is_linked tree.nodes d) refl (is_full tree) refl e

    by : (plain : Plain path) → Ending plain.names → Led tree path content after
    by plain (none is) = absurd (let never : ⊥ = omega (arith, plain.some, ap (λ (l : List (List ℕ)). length l) is) in never)
    by plain (some front last is) =
        let all : AllByRecursion IsName (front ++ last ∷ []) = subst (AllByRecursion IsName) is plain.good in
        let short : length (joined (front ++ last ∷ [])) ≤ 1024 = omega (arith, plain.short, ap length plain.is, ap (λ l. length (joined l)) is) in
        let led = sym (entry_is tree front last all short content) ∙ ap (λ p. with_entry tree (record { path = p; content = content })) (ap joined (sym is) ∙ sym plain.is) ∙ e in
        let d = chained_from (λ d. option_and_then (put tree front last all short content) (last_in tree.nodes last d)) (node_under tree.nodes root front) after led in
        found front last all short d.0 d.1 (names_at tree.nodes d.0) refl d.2
