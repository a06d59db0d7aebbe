-- What the calls leave of a tree.
use Rattle.std.proofs.Common.{◌≡◌, ℕ, zero, ◌+◌, ◌-◌, ◌<◌, ◌≤◌, true, false, cond, eqb, List, Option, Some, None, is_some, nat_cmp, refl, sym, ap, subst, ◌∙◌, inl, inr, arith, eqb-true}
use Rattle.finite_maps.proofs.Maps.{get, insert, remove, len, empty, empty_of_len, get-empty, len-empty, slice_cmp, nat_cmp_total, nat_cmp-IsAntisymmetric, nat_list_cmp_total, nat_list_cmp-IsAntisymmetric, get-insert_same, get-insert_other, get-remove_same, get-remove_other, len-insert_there, len-insert_new, len-remove_there}
use Rattle.finite_maps.proofs.Options.{none_never, same_found, some_from, none_from, not_some}
use Rattle.std.proofs.lemmas.Bool.{false≢true}
use Rattle.file_tree.specs.Prelude.{NodeMap, root, new_node, parent_of, most_nodes, last_number, changed, settled, unlinked, let_go, with_change, named, forgotten, is_dir, has_no_names, removed, Leads, target, target_of, target_in, is_dir_node, IsName, IsTree, NameMap, Content, File, Dir, Node}
use Rattle.file_tree.proofs.Links.{same_number, IsPlace, same_links, unlinked_empty, with_new, without_name}
use Rattle.tree_nodes.proofs.NodeLemmas.{changed_there}
use Rattle.tree_nodes.specs.Nodes.{is_linked, is_linked_node, resizing, writing, replaced, kept, kept_if_there, parent_of_node, is_free, lacks_name, lacks_name_at, naming, forgetting}

-- ---- one node of the map

node_at : (nodes : NodeMap) (k : ℕ) (v : Node) → get (insert nodes k v) k ≡ Some v
node_at = get-insert_same nat_cmp_total

node_off : (nodes : NodeMap) (k : ℕ) (v : Node) (q : ℕ) → (q ≡ k → ⊥) → get (insert nodes k v) q ≡ get nodes q
node_off = get-insert_other nat_cmp_total nat_cmp-IsAntisymmetric

name_at : (names : NameMap) (k : List ℕ) (v : ℕ) → get (insert names k v) k ≡ Some v
name_at = get-insert_same nat_list_cmp_total

name_off : (names : NameMap) (k : List ℕ) (v : ℕ) (q : List ℕ) → (q ≡ k → ⊥) → get (insert names k v) q ≡ get names q
name_off = get-insert_other nat_list_cmp_total nat_list_cmp-IsAntisymmetric

-- a node that has a parent is there
pub there : (nodes : NodeMap) (k dir : ℕ) → parent_of nodes k ≡ Some dir → (v : Node) × (get nodes k ≡ Some v) × (v.parent ≡ Some dir)
there nodes k dir e = found (get nodes k) refl e
  where
    found : (o : Option Node) → get nodes k ≡ o → parent_of_node o ≡ Some dir → (v : Node) × (get nodes k ≡ Some v) × (v.parent ≡ Some dir)
    found None is e = absurd (let never : ⊥ = cc in never)
    found (Some v) is e = (v, is, e)

leads_in : (nodes : NodeMap) (dir : ℕ) (name : List ℕ) (o : Option ℕ) (node : Node) (content : Content) → get nodes dir ≡ Some node → node.content ≡ content → is_dir content ≡ true → target_in content name ≡ o → Leads nodes dir name o
leads_in nodes dir name o node (File bytes) there is dirs e = absurd (false≢true dirs)
leads_in nodes dir name o node (Dir names) there is dirs e = record { node = node; names = names; there = there; content = is; leads = e }

pub leads_is : (nodes : NodeMap) (dir : ℕ) (name : List ℕ) (o : Option ℕ) → Leads nodes dir name o → target nodes dir name ≡ o
leads_is nodes dir name o leads = ap (λ x. target_of x name) leads.there ∙ ap (λ c. target_in c name) leads.content ∙ leads.leads

pub leads_to : (nodes : NodeMap) (dir number : ℕ) (name : List ℕ) → target nodes dir name ≡ Some number → Leads nodes dir name (Some number)
leads_to nodes dir number name e = found (get nodes dir) refl e
  where
    some : (content : Content) → target_in content name ≡ Some number → is_dir content ≡ true
    some (File bytes) e = absurd (let never : ⊥ = cc in never)
    some (Dir names) e = refl

    found : (o : Option Node) → get nodes dir ≡ o → target_of o name ≡ Some number → Leads nodes dir name (Some number)
    found None is e = absurd (let never : ⊥ = cc in never)
    found (Some node) is e = leads_in nodes dir name (Some number) node node.content is refl (some node.content e) e

pub leads_nowhere : (nodes : NodeMap) (dir : ℕ) (name : List ℕ) → is_free nodes dir name ≡ true → Leads nodes dir name None
leads_nowhere nodes dir name free = found (get nodes dir) refl free
  where
    some : (content : Content) → lacks_name name content ≡ true → (is_dir content ≡ true) × (target_in content name ≡ None)
    some (File bytes) e = absurd (false≢true e)
    some (Dir names) e = (refl, none_from (get names name) e)

    found : (o : Option Node) → get nodes dir ≡ o → lacks_name_at name o ≡ true → Leads nodes dir name None
    found None is e = absurd (false≢true e)
    found (Some node) is e = let s = some node.content e in leads_in nodes dir name None node node.content is refl s.0 s.1

-- ---- a name that leads elsewhere, and a node with another parent

-- the name leads there now, and nothing else has changed of the links
pub record NameSet (nodes new : NodeMap) (dir : ℕ) (name : List ℕ) (o : Option ℕ) : Type 0 where
  pub parent : (q : ℕ) → parent_of new q ≡ parent_of nodes q
  pub at : target new dir name ≡ o
  pub off : (d : ℕ) (n : List ℕ) → (IsPlace dir name d n → ⊥) → target new d n ≡ target nodes d n
  pub dirs : (q : ℕ) → is_dir_node (get new q) ≡ is_dir_node (get nodes q)
  pub len : len new ≡ len nodes
  pub unused : (q : ℕ) → get nodes q ≡ None → get new q ≡ None

-- the node has this parent now, and nothing else has changed of the links
pub record ParentSet (nodes new : NodeMap) (k : ℕ) (o : Option ℕ) : Type 0 where
  pub at : parent_of new k ≡ o
  pub off : (q : ℕ) → (q ≡ k → ⊥) → parent_of new q ≡ parent_of nodes q
  pub leads : (d : ℕ) (n : List ℕ) → target new d n ≡ target nodes d n
  pub dirs : (q : ℕ) → (q ≡ k → ⊥) → is_dir_node (get new q) ≡ is_dir_node (get nodes q)
  pub len : len new ≤ len nodes
  pub unused : (q : ℕ) → get nodes q ≡ None → get new q ≡ None

module _ (nodes : NodeMap) (dir : ℕ) (name : List ℕ) (was : Option ℕ) (leads : Leads nodes dir name was) (names : NameMap) (o : Option ℕ) (at : get names name ≡ o) (off : (n : List ℕ) → (n ≡ name → ⊥) → get names n ≡ get leads.names n)
    (v : Node) (parent : v.parent ≡ leads.node.parent) (content : v.content ≡ Dir names) where
  new_map : NodeMap
  new_map = insert nodes dir v

  set_parent_at : (q : ℕ) → parent_of (insert nodes dir v) q ≡ parent_of nodes q
  set_parent_at q =
      elim (same_number q dir) [
        | inl e ↦ ap (parent_of (insert nodes dir v)) e ∙ ap parent_of_node (node_at nodes dir v) ∙ parent ∙ sym (ap (parent_of nodes) e ∙ ap parent_of_node leads.there)
        | inr n ↦ ap parent_of_node (node_off nodes dir v q n)
      ]

  set_off : (d : ℕ) (n : List ℕ) → (IsPlace dir name d n → ⊥) → target (insert nodes dir v) d n ≡ target nodes d n
  set_off d n other =
      elim (same_number d dir) [
        | inl e ↦
            ap (λ x. target (insert nodes dir v) x n) e ∙ ap (λ x. target_of x n) (node_at nodes dir v) ∙ ap (λ c. target_in c n) content ∙ off n (λ is. other (e, is))
            ∙ sym (ap (λ x. target nodes x n) e ∙ ap (λ x. target_of x n) leads.there ∙ ap (λ c. target_in c n) leads.content)
        | inr m ↦ ap (λ x. target_of x n) (node_off nodes dir v d m)
      ]

  set_dirs : (q : ℕ) → is_dir_node (get (insert nodes dir v) q) ≡ is_dir_node (get nodes q)
  set_dirs q =
      elim (same_number q dir) [
        | inl e ↦
            ap (λ x. is_dir_node (get (insert nodes dir v) x)) e ∙ ap is_dir_node (node_at nodes dir v) ∙ ap is_dir content
            ∙ sym (ap (λ x. is_dir_node (get nodes x)) e ∙ ap is_dir_node leads.there ∙ ap is_dir leads.content)
        | inr n ↦ ap is_dir_node (node_off nodes dir v q n)
      ]

  pub set_name : NameSet nodes (insert nodes dir v) dir name o
  set_name = record {
    parent = set_parent_at;
    at = ap (λ x. target_of x name) (node_at nodes dir v) ∙ ap (λ c. target_in c name) content ∙ at;
    off = set_off;
    dirs = set_dirs;
    len = len-insert_there nat_cmp_total nodes dir v leads.node leads.there;
    unused = λ q none. node_off nodes dir v q (λ e. none_never (get nodes q) leads.node none (ap (get nodes) e ∙ leads.there)) ∙ none;
  }

-- the directory's name leads to the node
pub named_set : (nodes : NodeMap) (dir : ℕ) (name : List ℕ) (was : Option ℕ) (number : ℕ) → Leads nodes dir name was → NameSet nodes (named nodes dir name number) dir name (Some number)
named_set nodes dir name was number leads =
    subst (λ m. NameSet nodes m dir name (Some number)) (sym (changed_there nodes dir (with_change (naming name number)) leads.node leads.there))
    (set_name nodes dir name was leads (insert leads.names name number) (Some number) (name_at leads.names name number) (name_off leads.names name number)
    (with_change (naming name number) leads.node) refl (ap (naming name number) leads.content))

-- the directory's name is gone
pub forgotten_set : (nodes : NodeMap) (dir : ℕ) (name : List ℕ) (was : Option ℕ) → Leads nodes dir name was → NameSet nodes (forgotten nodes dir name) dir name None
forgotten_set nodes dir name was leads =
    subst (λ m. NameSet nodes m dir name None) (sym (changed_there nodes dir (with_change (forgetting name)) leads.node leads.there))
    (set_name nodes dir name was leads (remove leads.names name) None
    (get-remove_same nat_list_cmp_total leads.names name) (get-remove_other nat_list_cmp_total nat_list_cmp-IsAntisymmetric leads.names name)
    (with_change (forgetting name) leads.node) refl (ap (forgetting name) leads.content))

-- the node put back with the same names, under a parent
pub put_parent : (nodes : NodeMap) (k : ℕ) (old v : Node) → get nodes k ≡ Some old → ((n : List ℕ) → target_in v.content n ≡ target_in old.content n) → ParentSet nodes (insert nodes k v) k v.parent
put_parent nodes k old v is same = record {
  at = ap parent_of_node (node_at nodes k v);
  off = λ q n. ap parent_of_node (node_off nodes k v q n);
  leads = λ d n.
      elim (same_number d k) [
        | inl e ↦ ap (λ x. target (insert nodes k v) x n) e ∙ ap (λ x. target_of x n) (node_at nodes k v) ∙ same n ∙ sym (ap (λ x. target nodes x n) e ∙ ap (λ x. target_of x n) is)
        | inr m ↦ ap (λ x. target_of x n) (node_off nodes k v d m)
      ];
  dirs = λ q n. ap is_dir_node (node_off nodes k v q n);
  len = omega (arith, len-insert_there nat_cmp_total nodes k v old is);
  unused = λ q none. node_off nodes k v q (λ e. none_never (get nodes q) old none (ap (get nodes) e ∙ is)) ∙ none;
}

-- the node taken out, where it has no names
pub take_node : (nodes : NodeMap) (k : ℕ) (old : Node) → get nodes k ≡ Some old → ((n : List ℕ) → target nodes k n ≡ None) → ParentSet nodes (remove nodes k) k None
take_node nodes k old is empty =
    let at : get (remove nodes k) k ≡ None = get-remove_same nat_cmp_total nodes k in
    let off : (q : ℕ) → (q ≡ k → ⊥) → get (remove nodes k) q ≡ get nodes q = get-remove_other nat_cmp_total nat_cmp-IsAntisymmetric nodes k in
    record {
      at = ap parent_of_node at;
      off = λ q n. ap parent_of_node (off q n);
      leads = λ d n.
          elim (same_number d k) [
            | inl e ↦ ap (λ x. target (remove nodes k) x n) e ∙ ap (λ x. target_of x n) at ∙ sym (ap (λ x. target nodes x n) e ∙ empty n)
            | inr m ↦ ap (λ x. target_of x n) (off d m)
          ];
      dirs = λ q n. ap is_dir_node (off q n);
      len = omega (arith, len-remove_there nat_cmp_total nodes k old is);
      unused = λ q none.
          elim (same_number q k) [
            | inl e ↦ absurd (none_never (get nodes q) old none (ap (get nodes) e ∙ is))
            | inr n ↦ off q n ∙ none
          ];
    }

-- no directory names the node any more, and it may be gone
pub unlinked_set : (nodes : NodeMap) (k : ℕ) (old : Node) → get nodes k ≡ Some old → ((n : List ℕ) → target nodes k n ≡ None) → ParentSet nodes (settled nodes k unlinked) k None
unlinked_set nodes k old is empty =
    subst (λ o. ParentSet nodes (kept_if_there nodes k unlinked o) k None) (sym is)
    (elim (eqb old.holds 0) as (λ b. ParentSet nodes (cond b (remove nodes k) (insert nodes k (unlinked old))) k None) [
      | true ↦ take_node nodes k old is empty
      | false ↦ put_parent nodes k old (unlinked old) is (λ n. refl)
    ])

-- ---- calls that leave the links

-- the links are as they were
pub record SameLinks (nodes new : NodeMap) : Type 0 where
  pub parent : (q : ℕ) → parent_of new q ≡ parent_of nodes q
  pub leads : (d : ℕ) (n : List ℕ) → target new d n ≡ target nodes d n
  pub top : is_dir_node (get new root) ≡ is_dir_node (get nodes root)
  pub len : len new ≤ len nodes
  pub unused : (q : ℕ) → get nodes q ≡ None → get new q ≡ None

pub same_tree : (nodes new : NodeMap) (next : ℕ) → IsTree nodes next → SameLinks nodes new → IsTree new next
same_tree nodes new next tree same = record {
  links = same_links (parent_of nodes) (target nodes) tree.links (parent_of new) (target new) same.parent same.leads;
  top = same.top ∙ tree.top;
  most = omega (arith, tree.most, same.len);
  unused = λ q le. same.unused q (tree.unused q le);
  numbers = tree.numbers;
}

-- the node put back with its parent and its names
pub put_same : (nodes : NodeMap) (k : ℕ) (old v : Node) → get nodes k ≡ Some old → v.parent ≡ old.parent → ((n : List ℕ) → target_in v.content n ≡ target_in old.content n) → is_dir v.content ≡ is_dir old.content → SameLinks nodes (insert nodes k v)
put_same nodes k old v is parent same dirs =
    let set = put_parent nodes k old v is same in
    record {
      parent = λ q.
          elim (same_number q k) [
            | inl e ↦ ap (parent_of (insert nodes k v)) e ∙ set.at ∙ parent ∙ sym (ap (parent_of nodes) e ∙ ap parent_of_node is)
            | inr n ↦ set.off q n
          ];
      leads = set.leads;
      top =
          elim (same_number root k) [
            | inl e ↦ ap (λ x. is_dir_node (get (insert nodes k v) x)) e ∙ ap is_dir_node (node_at nodes k v) ∙ dirs ∙ sym (ap (λ x. is_dir_node (get nodes x)) e ∙ ap is_dir_node is)
            | inr n ↦ set.dirs root n
          ];
      len = set.len;
      unused = set.unused;
    }

pub same_itself : (nodes : NodeMap) → SameLinks nodes nodes
same_itself nodes = record { parent = λ q. refl; leads = λ d n. refl; top = refl; len = omega arith; unused = λ q none. none }

pub changed_same : (nodes : NodeMap) (k : ℕ) (change : Node → Node) → ((old : Node) → get nodes k ≡ Some old → (change old).parent ≡ old.parent) → ((old : Node) (n : List ℕ) → target_in (change old).content n ≡ target_in old.content n)
    → ((old : Node) → is_dir (change old).content ≡ is_dir old.content) → SameLinks nodes (changed nodes k change)
changed_same nodes k change parent same dirs =
    elim (get nodes k) as (λ o. get nodes k ≡ o → SameLinks nodes (replaced nodes k change o)) [
      | None ↦ λ is. same_itself nodes
      | Some old ↦ λ is. put_same nodes k old (change old) is (parent old is) (same old) (dirs old)
    ] refl

-- a node that nothing names and nothing holds goes
pub let_go_same : (nodes : NodeMap) (next k : ℕ) → IsTree nodes next → SameLinks nodes (settled nodes k let_go)
let_go_same nodes next k tree =
    elim (get nodes k) as (λ o. get nodes k ≡ o → SameLinks nodes (kept_if_there nodes k let_go o)) [
      | None ↦ λ is. same_itself nodes
      | Some old ↦ λ is. node old is
    ] refl
  where
    gone : (old : Node) → get nodes k ≡ Some old → old.parent ≡ None → SameLinks nodes (remove nodes k)
    gone old is none =
        let unnamed : parent_of nodes k ≡ None = ap parent_of_node is ∙ none in
        let set = take_node nodes k old is (λ n. unlinked_empty (parent_of nodes) (target nodes) tree.links k n unnamed) in
        record {
          parent = λ q. elim (same_number q k) [ inl e ↦ ap (parent_of (remove nodes k)) e ∙ set.at ∙ sym (ap (parent_of nodes) e ∙ unnamed) | inr n ↦ set.off q n ];
          leads = set.leads;
          top = set.dirs root (λ e. none_never (parent_of nodes k) root unnamed (ap (parent_of nodes) (sym e) ∙ tree.links.top));
          len = set.len;
          unused = set.unused;
        }

    stays : (old : Node) → get nodes k ≡ Some old → SameLinks nodes (insert nodes k (let_go old))
    stays old is = put_same nodes k old (let_go old) is refl (λ n. refl) refl

    node : (old : Node) → get nodes k ≡ Some old → SameLinks nodes (kept nodes k (let_go old))
    node old is =
        elim (is_some old.parent) as (λ b. is_some old.parent ≡ b → SameLinks nodes (cond b (insert nodes k (let_go old)) (cond (eqb (old.holds - 1) 0) (remove nodes k) (insert nodes k (let_go old))))) [
          | true ↦ λ e. stays old is
          | false ↦ λ e. elim (eqb (old.holds - 1) 0) as (λ b. SameLinks nodes (cond b (remove nodes k) (insert nodes k (let_go old)))) [ true ↦ gone old is (not_some old.parent e) | false ↦ stays old is ]
        ] refl

-- ---- a new node

pub tree_with_new : (nodes : NodeMap) (next dir up : ℕ) (name : List ℕ) (content : Content) → IsTree nodes next → parent_of nodes dir ≡ Some up → is_free nodes dir name ≡ true → IsName name → ((n : List ℕ) → target_in content n ≡ None) → len nodes < most_nodes → next ≤ last_number
    → IsTree (insert (named nodes dir name next) next (new_node dir content)) (next + 1)
tree_with_new nodes next dir up name content tree linked free good empty room number =
    let leads = leads_nowhere nodes dir name free in
    let mid = named nodes dir name next in
    let set = named_set nodes dir name None next leads in
    let new = insert mid next (new_node dir content) in
    let fresh : get nodes next ≡ None = tree.unused next (omega arith) in
    let fresh_mid : get mid next ≡ None = set.unused next fresh in
    let at : get new next ≡ Some (new_node dir content) = node_at mid next (new_node dir content) in
    let off : (q : ℕ) → (q ≡ next → ⊥) → get new q ≡ get mid q = node_off mid next (new_node dir content) in
    let leads_same : (d : ℕ) (n : List ℕ) → target new d n ≡ target mid d n = λ d n.
    elim (same_number d next) [
      | inl e ↦ ap (λ x. target new x n) e ∙ ap (λ x. target_of x n) at ∙ empty n ∙ sym (ap (λ x. target mid x n) e ∙ ap (λ x. target_of x n) fresh_mid)
      | inr m ↦ ap (λ x. target_of x n) (off d m)
    ] in
    let root_off : root ≡ next → ⊥ = λ e. none_never (parent_of nodes next) root (ap parent_of_node fresh) (ap (parent_of nodes) (sym e) ∙ tree.links.top) in
    record {
      links = with_new (parent_of nodes) (target nodes) tree.links next dir up name (ap parent_of_node fresh) linked good (leads_is nodes dir name None leads)
          (parent_of new) (target new) (ap parent_of_node at) (λ q n. ap parent_of_node (off q n) ∙ set.parent q) (leads_same dir name ∙ set.at) (λ d n other. leads_same d n ∙ set.off d n other);
      top = ap is_dir_node (off root root_off) ∙ set.dirs root ∙ tree.top;
      most = omega (arith, len-insert_new nat_cmp_total mid next (new_node dir content) fresh_mid, set.len, room);
      unused = λ q le. off q (λ e. above q le e) ∙ set.unused q (tree.unused q (omega (arith, le)));
      numbers = omega (arith, number);
    }
  where
    above : (q : ℕ) → next + 1 ≤ q → q ≡ next → ⊥
    above q le e = omega (arith, le, e)

-- ---- a name that goes

pub no_names_in : (content : Content) (n : List ℕ) → has_no_names content ≡ true → target_in content n ≡ None
no_names_in (File bytes) n e = refl
no_names_in (Dir names) n e = ap (λ m. get m n) (empty_of_len names (eqb-true (len names) 0 e)) ∙ get-empty (slice_cmp nat_cmp) n

-- what a name that goes leaves, of a node without names
pub record Gone (nodes new : NodeMap) (dir : ℕ) (name : List ℕ) (number : ℕ) : Type 0 where
  pub at : parent_of new number ≡ None
  pub off : (q : ℕ) → (q ≡ number → ⊥) → parent_of new q ≡ parent_of nodes q
  pub no_name : target new dir name ≡ None
  pub other_names : (d : ℕ) (n : List ℕ) → (IsPlace dir name d n → ⊥) → target new d n ≡ target nodes d n
  pub tree : (next : ℕ) → IsTree nodes next → IsTree new next

pub gone_of : (nodes : NodeMap) (dir : ℕ) (name : List ℕ) (number : ℕ) (old : Node) → target nodes dir name ≡ Some number → get nodes number ≡ Some old → has_no_names old.content ≡ true → Gone nodes (removed nodes dir name number) dir name number
gone_of nodes dir name number old leads-to is empty =
    let leads = leads_to nodes dir number name leads-to in
    let mid = forgotten nodes dir name in
    let set = forgotten_set nodes dir name (Some number) leads in
    let none : (n : List ℕ) → target nodes number n ≡ None = λ n. ap (λ x. target_of x n) is ∙ no_names_in old.content n empty in
    let none_mid : (n : List ℕ) → target mid number n ≡ None = λ n.
    set.off number n (λ place. none_never (target nodes dir name) number (sym (ap (target nodes dir) place.1) ∙ sym (ap (λ x. target nodes x n) place.0) ∙ none n) leads-to) ∙ none n in
    let apart : number ≡ dir → ⊥ = λ e. none_never (target nodes number name) number (none name) (ap (λ x. target nodes x name) e ∙ leads-to) in
    let is_mid : get mid number ≡ Some old =
    ap (λ m. get m number) (changed_there nodes dir (with_change (forgetting name)) leads.node leads.there) ∙ node_off nodes dir (with_change (forgetting name) leads.node) number apart ∙ is in
    let cut = unlinked_set mid number old is_mid none_mid in
    let new = removed nodes dir name number in
    let q_old : (q : ℕ) → (q ≡ number → ⊥) → parent_of new q ≡ parent_of nodes q = λ q n. cut.off q n ∙ set.parent q in
    let u_new : target new dir name ≡ None = cut.leads dir name ∙ set.at in
    let u_old : (d : ℕ) (n : List ℕ) → (IsPlace dir name d n → ⊥) → target new d n ≡ target nodes d n = λ d n other. cut.leads d n ∙ set.off d n other in
    record {
      at = cut.at;
      off = q_old;
      no_name = u_new;
      other_names = u_old;
      tree = λ next tree.
          let below = (tree.links.named dir number name leads-to).below in
          record {
            links = without_name (parent_of nodes) (target nodes) tree.links number dir name leads-to none (parent_of new) (target new) cut.at q_old u_new u_old;
            top = cut.dirs root (λ e. below (sym e)) ∙ set.dirs root ∙ tree.top;
            most = omega (arith, tree.most, cut.len, set.len);
            unused = λ q le. cut.unused q (set.unused q (tree.unused q le));
            numbers = tree.numbers;
          };
    }

-- ---- the root alone

pub root_tree : IsTree (insert empty root (new_node root (Dir empty))) 2
root_tree =
    let nodes : NodeMap = insert empty root (new_node root (Dir empty)) in
    let at : get nodes root ≡ Some (new_node root (Dir empty)) = node_at empty root (new_node root (Dir empty)) in
    let off : (q : ℕ) → (q ≡ root → ⊥) → get nodes q ≡ None = λ q n. node_off empty root (new_node root (Dir empty)) q n ∙ get-empty nat_cmp q in
    let no_names : (d : ℕ) (n : List ℕ) → target nodes d n ≡ None = λ d n.
    elim (same_number d root) [
      | inl e ↦ ap (λ x. target nodes x n) e ∙ ap (λ x. target_of x n) at ∙ get-empty (slice_cmp nat_cmp) n
      | inr o ↦ ap (λ x. target_of x n) (off d o)
    ] in
    let no_parent : (n d : ℕ) → parent_of nodes n ≡ Some d → (n ≡ root → ⊥) → ⊥ = λ n d e o. none_never (parent_of nodes n) d (ap parent_of_node (off n o)) e in
    record {
      links = record {
        top = ap parent_of_node at;
        named = λ d n m e. absurd (none_never (target nodes d m) n (no_names d m) e);
        once = λ d n a b e f. absurd (none_never (target nodes d a) n (no_names d a) e);
        name = λ n d e o. absurd (no_parent n d e o);
        climbs = λ n d e. elim (same_number n root) [ inl is ↦ (zero, is) | inr o ↦ absurd (no_parent n d e o) ];
      };
      top = ap is_dir_node at;
      most = omega (arith, len-insert_new nat_cmp_total empty root (new_node root (Dir empty)) (get-empty nat_cmp root), len-empty nat_cmp Node);
      unused = λ q le. off q (λ e. above q le e);
      numbers = omega arith;
    }
  where
    above : (q : ℕ) → 2 ≤ q → q ≡ 1 → ⊥
    above q le e = omega (arith, le, e)

-- ---- what the calls know

pub linked_up : (nodes : NodeMap) (k : ℕ) → is_linked nodes k ≡ true → (up : ℕ) × (parent_of nodes k ≡ Some up)
linked_up nodes k e = found (get nodes k) refl e
  where
    found : (o : Option Node) → get nodes k ≡ o → is_linked_node o ≡ true → (up : ℕ) × (parent_of nodes k ≡ Some up)
    found None is e = absurd (false≢true e)
    found (Some v) is e = let u = some_from v.parent e in (u.0, ap parent_of_node is ∙ u.1)

pub same_parent : (o : Option Node) (a b : Node) → o ≡ Some a → o ≡ Some b → a.parent ≡ b.parent
same_parent o a b x y = ap (λ (v : Node). v.parent) (same_found o a b x y)

pub file_has_none : (content : Content) → is_dir content ≡ false → has_no_names content ≡ true
file_has_none (File bytes) e = refl
file_has_none (Dir names) e = absurd (false≢true (sym e))

-- the bytes of a file may change
pub resized_same : (nodes : NodeMap) (k size : ℕ) → SameLinks nodes (changed nodes k (with_change (resizing size)))
resized_same nodes k size = changed_same nodes k (with_change (resizing size)) (λ old is. refl) (λ old n. names old.content n) (λ old. dirs old.content)
  where
    names : (content : Content) (n : List ℕ) → target_in (resizing size content) n ≡ target_in content n
    names (File bytes) n = refl
    names (Dir m) n = refl

    dirs : (content : Content) → is_dir (resizing size content) ≡ is_dir content
    dirs (File bytes) = refl
    dirs (Dir m) = refl

pub written_same : (nodes : NodeMap) (k offset : ℕ) (new : List ℕ) → SameLinks nodes (changed nodes k (with_change (writing offset new)))
written_same nodes k offset new = changed_same nodes k (with_change (writing offset new)) (λ old is. refl) (λ old n. names old.content n) (λ old. dirs old.content)
  where
    names : (content : Content) (n : List ℕ) → target_in (writing offset new content) n ≡ target_in content n
    names (File bytes) n = refl
    names (Dir m) n = refl

    dirs : (content : Content) → is_dir (writing offset new content) ≡ is_dir content
    dirs (File bytes) = refl
    dirs (Dir m) = refl
