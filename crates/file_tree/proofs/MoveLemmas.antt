-- What a move leaves of a tree.
use Rattle.std.proofs.Common.{◌≡◌, ℕ, zero, suc, ◌<◌, ◌≤◌, Bool, true, false, cond, not, ◌&&◌, eqb, List, Ok, Err, Option, Some, None, refl, sym, ap, subst, ◌∙◌, inl, inr, arith, eq-eqb}
use Rattle.finite_maps.proofs.Maps.{get, remove, len, nat_cmp_total, nat_cmp-IsAntisymmetric, get-remove_other, len_positive, len-remove_there}
use Rattle.finite_maps.proofs.Options.{none_never, same_found}
use Rattle.std.specs.List.{list_any}
use Rattle.std.proofs.lemmas.Bool.{false≢true, or_left, or_right}
use Rattle.file_tree.specs.Prelude.{NodeMap, root, parent_of, settled, linked_in, unlinked, named, forgotten, and_then, content_at, is_dir, is_node, may_replace, may_replace_at, has_no_names, removed, moved, replacing, up_from, above, is_within, Leads, target, target_of, is_dir_node, IsName, Climbs, AreLinks, IsTree, is_linked, parent_of_node, Notdir, Isdir, Notempty, Node}
use Rattle.file_tree.proofs.Links.{same_number, IsPlace, climbs_once, root_stays, with_moved, Ascends}
use Rattle.file_tree.proofs.Ends.{then_ok, content_found}
use Rattle.file_tree.proofs.TreeLemmas.{linked_up, there, leads_is, leads_to, named_set, forgotten_set, put_parent, unlinked_set, no_names_in, gone_of}
use Rattle.file_tree.proofs.WalkLemmas.{apart}
use Rattle.tree_nodes.proofs.NodeLemmas.{changed_there}

-- ---- a directory is not below a node

shift : (nodes : NodeMap) (n k : ℕ) → Climbs (parent_of nodes) k n → (j x : ℕ) → j < k → Climbs (parent_of nodes) j x → Climbs (parent_of (remove nodes n)) j x
shift nodes n k at zero x lt c = c
shift nodes n k at (suc j) x lt c =
    let other : x ≡ n → ⊥ = λ e. absurd (let same : suc j ≡ k = climbs_once (parent_of nodes) (suc j) k n (subst (Climbs (parent_of nodes) (suc j)) e c) at in let never : ⊥ = omega (arith, same, lt) in never) in
    (c.0, c.1, ap parent_of_node (get-remove_other nat_cmp_total nat_cmp-IsAntisymmetric nodes n x other) ∙ c.2, shift nodes n k at j c.1 (omega (arith, lt)) c.3)

-- fewer steps lead up to the root than there are nodes
depth : (k n : ℕ) (nodes : NodeMap) (top : Node) → get nodes root ≡ Some top → Climbs (parent_of nodes) k n → k < len nodes
depth zero n nodes top is c = len_positive nat_cmp_total nodes root top is
depth (suc k) n nodes top is c =
    let v = there nodes n c.1 c.2 in
    let top-stays : get (remove nodes n) root ≡ Some top = get-remove_other nat_cmp_total nat_cmp-IsAntisymmetric nodes n root (λ e. c.0 (sym e)) ∙ is in
    let rest = depth k c.1 (remove nodes n) top top-stays (shift nodes n (suc k) c k c.1 (omega arith) c.3) in
    omega (arith, rest, len-remove_there nat_cmp_total nodes n v.0 v.1)

module _ (nodes : NodeMap) (links : AreLinks (parent_of nodes) (target nodes)) (number : ℕ) (below : number ≡ root → ⊥) where
  found : (m k n j : ℕ) → Climbs (parent_of nodes) k n → k < m → Ascends (parent_of nodes) j n number → list_any (λ x. eqb x number) (up_from m nodes (Some n)) ≡ true
  found zero k n j c lt s = absurd (omega (arith, lt))
  found (suc m) zero n j c lt s = absurd (below (root_stays (parent_of nodes) (target nodes) links number j n c s))
  found (suc m) (suc k) n zero c lt s = or_left (eqb n number) _ (eq-eqb n number s)
  found (suc m) (suc k) n (suc j) c lt s =
      let up : above nodes n ≡ Some c.1 = ap (λ b. cond b None (parent_of nodes n)) (apart n root c.0) ∙ c.2 in
      let rest = found m k c.1 j c.3 (omega (arith, lt)) (subst (λ d. Ascends (parent_of nodes) j d number) (same_found (parent_of nodes n) s.0 c.1 s.1 c.2) s.2) in
      or_right (eqb n number) _ (subst (λ o. list_any (λ x. eqb x number) (up_from m nodes o) ≡ true) (sym up) rest)

  pub not_within : (dir up : ℕ) → parent_of nodes dir ≡ Some up → is_within nodes dir number ≡ false → (j : ℕ) → Ascends (parent_of nodes) j dir number → ⊥
  not_within dir up linked outside j s =
      let c = links.climbs dir up linked in
      let top = there nodes root root links.top in
      false≢true (sym outside ∙ found (len nodes) c.0 dir j c.1 (depth c.0 dir nodes top.0 top.1 c.1) s)

-- ---- a node that moves

-- the node has its new name and its new parent, and its old name is gone
pub record Moved (nodes new : NodeMap) (number dir : ℕ) (name : List ℕ) (new_dir : ℕ) (new_name : List ℕ) : Type 0 where
  pub at : parent_of new number ≡ Some new_dir
  pub off : (q : ℕ) → (q ≡ number → ⊥) → parent_of new q ≡ parent_of nodes q
  pub now : target new new_dir new_name ≡ Some number
  pub gone : target new dir name ≡ None
  pub others : (d : ℕ) (n : List ℕ) → (IsPlace dir name d n → ⊥) → (IsPlace new_dir new_name d n → ⊥) → target new d n ≡ target nodes d n
  pub dirs : (q : ℕ) → (q ≡ number → ⊥) → is_dir_node (get new q) ≡ is_dir_node (get nodes q)
  pub len : len new ≤ len nodes
  pub unused : (q : ℕ) → get nodes q ≡ None → get new q ≡ None

module _ (nodes : NodeMap) (number dir : ℕ) (name : List ℕ) (new_dir : ℕ) (new_name : List ℕ) (was : Option ℕ) (leads : Leads nodes new_dir new_name was) (at : target nodes dir name ≡ Some number) (linked : parent_of nodes number ≡ Some dir)
    (differ : IsPlace new_dir new_name dir name → ⊥) where
  pub moved_links : Moved nodes (moved nodes number dir name new_dir new_name) number dir name new_dir new_name
  moved_links =
      let a = named nodes new_dir new_name number in
      let set_a = named_set nodes new_dir new_name was number leads in
      let b = forgotten a dir name in
      let set_b = forgotten_set a dir name (Some number) (leads_to a dir number name (set_a.off dir name differ ∙ at)) in
      let v = there b number dir (set_b.parent number ∙ set_a.parent number ∙ linked) in
      let set_c = put_parent b number v.0 (linked_in new_dir v.0) v.1 (λ n. refl) in
      subst (λ m. Moved nodes m number dir name new_dir new_name) (sym (changed_there b number (linked_in new_dir) v.0 v.1)) (record {
        at = set_c.at;
        off = λ q n. set_c.off q n ∙ set_b.parent q ∙ set_a.parent q;
        now = set_c.leads new_dir new_name ∙ set_b.off new_dir new_name (λ place. differ (sym place.0, sym place.1)) ∙ set_a.at;
        gone = set_c.leads dir name ∙ set_b.at;
        others = λ d n old new. set_c.leads d n ∙ set_b.off d n old ∙ set_a.off d n new;
        dirs = λ q n. set_c.dirs q n ∙ set_b.dirs q ∙ set_a.dirs q;
        len = omega (arith, set_c.len, set_b.len, set_a.len);
        unused = λ q none. set_c.unused q (set_b.unused q (set_a.unused q none));
      })

pub tree_with_moved : (nodes : NodeMap) (next number dir : ℕ) (name : List ℕ) (new_dir up : ℕ) (new_name : List ℕ) → IsTree nodes next → target nodes dir name ≡ Some number → Leads nodes new_dir new_name None → parent_of nodes new_dir ≡ Some up → IsName new_name
    → is_within nodes new_dir number ≡ false → IsTree (moved nodes number dir name new_dir new_name) next
tree_with_moved nodes next number dir name new_dir up new_name tree at leads linked good outside =
    let named = tree.links.named dir number name at in
    let free : target nodes new_dir new_name ≡ None = leads_is nodes new_dir new_name None leads in
    let differ : IsPlace new_dir new_name dir name → ⊥ = λ place. none_never (target nodes new_dir new_name) number free (sym (ap (target nodes new_dir) place.1) ∙ sym (ap (λ x. target nodes x name) place.0) ∙ at) in
    let m = moved_links nodes number dir name new_dir new_name None leads at named.above differ in
    let new = moved nodes number dir name new_dir new_name in
    record {
      links = with_moved (parent_of nodes) (target nodes) tree.links number dir new_dir up name new_name at free linked good (not_within nodes tree.links number named.below new_dir up linked outside)
          (parent_of new) (target new) m.at m.off m.now m.gone m.others;
      top = m.dirs root (λ e. named.below (sym e)) ∙ tree.top;
      most = omega (arith, tree.most, m.len);
      unused = λ q le. m.unused q (tree.unused q le);
      numbers = tree.numbers;
    }

ascends_from : (p q : ℕ → Option ℕ) → ((n d : ℕ) → q n ≡ Some d → p n ≡ Some d) → (j a b : ℕ) → Ascends q j a b → Ascends p j a b
ascends_from p q h zero a b s = s
ascends_from p q h (suc j) a b s = (s.0, h a s.0 s.1, ascends_from p q h j s.0 b s.2)

-- the same where the new name led to another node, which has no names
pub tree_with_replaced : (nodes : NodeMap) (next number dir : ℕ) (name : List ℕ) (new_dir up : ℕ) (new_name : List ℕ) (other : ℕ) (old : Node) → IsTree nodes next → target nodes dir name ≡ Some number → Leads nodes new_dir new_name (Some other) → parent_of nodes new_dir ≡ Some up → IsName new_name
    → is_within nodes new_dir number ≡ false → (other ≡ number → ⊥) → get nodes other ≡ Some old → has_no_names old.content ≡ true → IsTree (replacing (moved nodes number dir name new_dir new_name) (Some other)) next
tree_with_replaced nodes next number dir name new_dir up new_name other old tree at leads linked good outside apart_from is empty =
    let named = tree.links.named dir number name at in
    let had : target nodes new_dir new_name ≡ Some other = leads_is nodes new_dir new_name (Some other) leads in
    let other_named = tree.links.named new_dir other new_name had in
    let none : (n : List ℕ) → target nodes other n ≡ None = λ n. no_names_at other old is empty n in
    let differ : IsPlace new_dir new_name dir name → ⊥ = λ place. apart_from (same_found (target nodes new_dir new_name) other number had (sym (ap (target nodes new_dir) place.1) ∙ sym (ap (λ x. target nodes x name) place.0) ∙ at)) in
    let m = moved_links nodes number dir name new_dir new_name (Some other) leads at named.above differ in
    let mid = moved nodes number dir name new_dir new_name in
    let g = gone_of nodes new_dir new_name other old had is empty in
    let less = removed nodes new_dir new_name other in
    let none_mid : (n : List ℕ) → target mid other n ≡ None = λ n.
    m.others other n
    (λ place. none_never (target nodes dir name) number (sym (ap (target nodes dir) place.1) ∙ sym (ap (λ x. target nodes x n) place.0) ∙ none n) at)
    (λ place. none_never (target nodes new_dir new_name) other (sym (ap (target nodes new_dir) place.1) ∙ sym (ap (λ x. target nodes x n) place.0) ∙ none n) had)
    ∙ none n in
    let v = there mid other new_dir (m.off other apart_from ∙ other_named.above) in
    let cut = unlinked_set mid other v.0 v.1 none_mid in
    let new = settled mid other unlinked in
    let kept_dir : new_dir ≡ other → ⊥ = λ e. none_never (target nodes other new_name) other (none new_name) (ap (λ x. target nodes x new_name) (sym e) ∙ had) in
    let q_old : (q : ℕ) → (q ≡ number → ⊥) → parent_of new q ≡ parent_of less q = λ q n.
    elim (same_number q other) [
      | inl e ↦ ap (parent_of new) e ∙ cut.at ∙ sym (ap (parent_of less) e ∙ g.at)
      | inr o ↦ cut.off q o ∙ m.off q n ∙ sym (g.off q o)
    ] in
    let up_from_less : (n d : ℕ) → parent_of less n ≡ Some d → parent_of nodes n ≡ Some d = λ n d e.
    elim (same_number n other) [
      | inl is ↦ absurd (none_never (parent_of less other) d g.at (sym (ap (parent_of less) is) ∙ e))
      | inr o ↦ sym (g.off n o) ∙ e
    ] in
    let fewer = g.tree next tree in
    record {
      links = with_moved (parent_of less) (target less) fewer.links number dir new_dir up name new_name (g.other_names dir name differ ∙ at) g.no_name (g.off new_dir kept_dir ∙ linked) good
          (λ j s. not_within nodes tree.links number named.below new_dir up linked outside j (ascends_from (parent_of nodes) (parent_of less) up_from_less j new_dir number s))
          (parent_of new) (target new) (cut.off number (λ e. apart_from (sym e)) ∙ m.at) q_old (cut.leads new_dir new_name ∙ m.now) (cut.leads dir name ∙ m.gone)
          (λ d n old_place new_place. cut.leads d n ∙ m.others d n old_place new_place ∙ sym (g.other_names d n new_place));
      top = cut.dirs root (λ e. other_named.below (sym e)) ∙ m.dirs root (λ e. named.below (sym e)) ∙ tree.top;
      most = omega (arith, tree.most, m.len, cut.len);
      unused = λ q le. cut.unused q (m.unused q (tree.unused q le));
      numbers = tree.numbers;
    }
  where
    no_names_at : (k : ℕ) (v : Node) → get nodes k ≡ Some v → has_no_names v.content ≡ true → (n : List ℕ) → target nodes k n ≡ None
    no_names_at k v is empty n = ap (λ x. target_of x n) is ∙ no_names_in v.content n empty

-- ---- a move, whatever the new name led to

replaced_node : (nodes : NodeMap) (number other : ℕ) (b : Bool) → may_replace_at nodes number (Some other) ≡ Ok b → (v : Node) × (get nodes other ≡ Some v) × (has_no_names v.content ≡ true)
replaced_node nodes number other b e =
    let old = then_ok (content_at nodes number) (λ old. and_then (content_at nodes other) (λ new. may_replace old new)) b e in
    let new = then_ok (content_at nodes other) (λ new. may_replace old.0 new) b old.2 in
    let v = content_found nodes other new.0 new.1 in
    (v.0, v.1, ap has_no_names v.2 ∙ no_names (is_dir old.0) (is_dir new.0) (has_no_names new.0) new.2)
  where
    no_names : (old new none : Bool) → cond (old && not new) (Err Notdir) (cond (not old && new) (Err Isdir) (cond (not none) (Err Notempty) (Ok true))) ≡ Ok b → none ≡ true
    no_names old new true e = refl
    no_names true true false e = absurd (let never : ⊥ = cc in never)
    no_names true false false e = absurd (let never : ⊥ = cc in never)
    no_names false true false e = absurd (let never : ⊥ = cc in never)
    no_names false false false e = absurd (let never : ⊥ = cc in never)

pub tree_with_renamed : (nodes : NodeMap) (next number dir : ℕ) (name : List ℕ) (new_dir : ℕ) (new_name : List ℕ) (was : Option ℕ) (b : Bool) → IsTree nodes next → target nodes dir name ≡ Some number → Leads nodes new_dir new_name was → is_linked nodes new_dir ≡ true → IsName new_name
    → is_within nodes new_dir number ≡ false → is_node was number ≡ false → may_replace_at nodes number was ≡ Ok b → IsTree (replacing (moved nodes number dir name new_dir new_name) was) next
tree_with_renamed nodes next number dir name new_dir new_name None b tree at leads linked good outside other may =
    let up = linked_up nodes new_dir linked in
    tree_with_moved nodes next number dir name new_dir up.0 new_name tree at leads up.1 good outside
tree_with_renamed nodes next number dir name new_dir new_name (Some replaced) b tree at leads linked good outside other may =
    let up = linked_up nodes new_dir linked in
    let v = replaced_node nodes number replaced b may in
    tree_with_replaced nodes next number dir name new_dir up.0 new_name replaced v.0 tree at leads up.1 good outside (λ e. false≢true (sym other ∙ eq-eqb replaced number e)) v.1 v.2
