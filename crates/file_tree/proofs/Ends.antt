-- Where a walk ends, and what its last component is.
use Rattle.std.proofs.Common.{◌≡◌, ℕ, Bool, true, false, cond, List, [], ◌∷◌, Option, Some, None, Result, Ok, Err, ok_or, unwrap_or, refl, sym, ap, subst, ◌∙◌, inl, inr}
use Rattle.std.specs.FinMap.{get}
use Rattle.finite_maps.proofs.Options.{ok_from}
use Rattle.std.specs.List.{last_or, AllByRecursion}
use Rattle.std.proofs.lemmas.Bool.{false≢true, or_right}
use Rattle.file_tree.specs.Prelude.{PathParts, AreParts, IsComponent, is_dot, is_dot_dot, is_dots, NodeMap, root, parent_of, is_dir, Leads, is_dir_node, IsName, IsTree, and_then, names_of, content_at, names_at, place_itself, step, walk_on, is_dir_or_missing, walk, last_name, is_nil, names_no_entry, Place, NameMap, Content, File, Dir, Node, Errno, Noent}
use Rattle.file_tree.proofs.Links.{same_number}
use Rattle.file_tree.proofs.TreeLemmas.{leads_to}

pub then_ok : {X Y : Type 0} (r : Result X Errno) (f : X → Result Y Errno) (y : Y) → and_then r f ≡ Ok y → (x : X) × (r ≡ Ok x) × (f x ≡ Ok y)
then_ok (Ok x) f y e = (x, refl, e)
then_ok (Err d) f y e = absurd (let never : ⊥ = cc in never)

-- a directory that is there, with its names
pub dir_found : (nodes : NodeMap) (dir : ℕ) (names : NameMap) → names_at nodes dir ≡ Ok names → (v : Node) × (get nodes dir ≡ Some v) × (v.content ≡ Dir names)
dir_found nodes dir names e = found (get nodes dir) refl e
  where
    is : (content : Content) → names_of content ≡ Ok names → content ≡ Dir names
    is (File bytes) e = absurd (let never : ⊥ = cc in never)
    is (Dir n) e = let same : n ≡ names = cc in ap Dir same

    found : (o : Option Node) → get nodes dir ≡ o → and_then (and_then (ok_or o Noent) (λ node. Ok node.content)) names_of ≡ Ok names → (v : Node) × (get nodes dir ≡ Some v) × (v.content ≡ Dir names)
    found None at e = absurd (let never : ⊥ = cc in never)
    found (Some v) at e = (v, at, is v.content e)

pub content_found : (nodes : NodeMap) (k : ℕ) (content : Content) → content_at nodes k ≡ Ok content → (v : Node) × (get nodes k ≡ Some v) × (v.content ≡ content)
content_found nodes k content e = found (get nodes k) refl e
  where
    found : (o : Option Node) → get nodes k ≡ o → and_then (ok_or o Noent) (λ node. Ok node.content) ≡ Ok content → (v : Node) × (get nodes k ≡ Some v) × (v.content ≡ content)
    found None at e = absurd (let never : ⊥ = cc in never)
    found (Some v) at e = (v, at, cc)

-- the components and, where the path must name a directory, the directory
pub walk_parts : (nodes : NodeMap) (dir : ℕ) (path : PathParts) (place : Place) → walk nodes dir path ≡ Ok place
    → (walk_on nodes (place_itself (cond path.absolute root dir)) path.names ≡ Ok place) × (path.must_dir ≡ true → is_dir_or_missing nodes place.node ≡ Ok true)
walk_parts nodes dir path place e =
    let p = then_ok (walk_on nodes (place_itself (cond path.absolute root dir)) path.names) (λ end. cond path.must_dir (and_then (is_dir_or_missing nodes end.node) (λ _. Ok end)) (Ok end)) place e in
    let t = told p.0 path.must_dir p.2 in
    (p.1 ∙ ap Ok t.0, λ must. subst (λ end. is_dir_or_missing nodes end.node ≡ Ok true) t.0 (t.1 must))
  where
    always : (o : Option ℕ) (b : Bool) → is_dir_or_missing nodes o ≡ Ok b → is_dir_or_missing nodes o ≡ Ok true
    always None b e = refl
    always (Some k) b e = let n = then_ok (names_at nodes k) (λ names. Ok true) b e in ap (λ r. and_then r (λ (names : NameMap). Ok true)) n.1

    told : (end : Place) (must : Bool) → cond must (and_then (is_dir_or_missing nodes end.node) (λ _. Ok end)) (Ok end) ≡ Ok place → (end ≡ place) × (must ≡ true → is_dir_or_missing nodes end.node ≡ Ok true)
    told end true e = let d = then_ok (is_dir_or_missing nodes end.node) (λ _. Ok end) place e in let same : end ≡ place = let f = d.2 in cc in (same, λ _. always end.node d.0 d.1)
    told end false e = let same : end ≡ place = cc in (same, λ f. absurd (false≢true f))

-- the last component is taken in a directory
pub last_step : (nodes : NodeMap) (place end : Place) (names : List (List ℕ)) → walk_on nodes place names ≡ Ok end → is_nil names ≡ false → (d : ℕ) × (step nodes d (unwrap_or (last_or None names) []) ≡ Ok end)
last_step nodes place end [] e some = absurd (false≢true (sym some))
last_step nodes place end (name ∷ []) e some =
    let d = then_ok (ok_or place.node Noent) (λ dir. and_then (step nodes dir name) (λ next. walk_on nodes next [])) end e in
    let n = then_ok (step nodes d.0 name) (λ next. walk_on nodes next []) end d.2 in
    (d.0, n.1 ∙ n.2)
last_step nodes place end (name ∷ next ∷ names) e some =
    let d = then_ok (ok_or place.node Noent) (λ dir. and_then (step nodes dir name) (λ then. walk_on nodes then (next ∷ names))) end e in
    let n = then_ok (step nodes d.0 name) (λ then. walk_on nodes then (next ∷ names)) end d.2 in
    last_step nodes n.0 end (next ∷ names) n.2 refl

-- what a component that isn't `..` leads to, and the parent that `..` leads to
pub step_ends : (nodes : NodeMap) (d : ℕ) (name : List ℕ) (end : Place) → step nodes d name ≡ Ok end → is_dot_dot name ≡ false → Leads nodes end.dir name end.node
step_ends nodes d name end e plain =
    let n = then_ok (names_at nodes d) (λ names. cond (is_dot_dot name) (and_then (ok_or (parent_of nodes d) Noent) (λ parent. Ok (place_itself parent))) (Ok (record { dir = d; node = get names name }))) end e in
    let v = dir_found nodes d n.0 n.1 in
    let at : Place = record { dir = d; node = get n.0 name } in
    let is : at ≡ end = let f = sym (ap (λ b. cond b (and_then (ok_or (parent_of nodes d) Noent) (λ parent. Ok (place_itself parent))) (Ok at)) plain) ∙ n.2 in cc in
    subst (λ p. Leads nodes p.dir name p.node) is (record { node = v.0; names = n.0; there = v.1; content = v.2; leads = refl })

pub step_up : (nodes : NodeMap) (d : ℕ) (name : List ℕ) (end : Place) → step nodes d name ≡ Ok end → is_dot_dot name ≡ true → (up : ℕ) × (parent_of nodes d ≡ Some up) × (end.node ≡ Some up)
step_up nodes d name end e dots =
    let n = then_ok (names_at nodes d) (λ names. cond (is_dot_dot name) (and_then (ok_or (parent_of nodes d) Noent) (λ parent. Ok (place_itself parent))) (Ok (record { dir = d; node = get names name }))) end e in
    let at : Place = record { dir = d; node = get n.0 name } in
    let f = sym (ap (λ b. cond b (and_then (ok_or (parent_of nodes d) Noent) (λ parent. Ok (place_itself parent))) (Ok at)) dots) ∙ n.2 in
    let p = then_ok (ok_or (parent_of nodes d) Noent) (λ parent. Ok (place_itself parent)) end f in
    let is : place_itself p.0 ≡ end = let g = p.2 in cc in
    (p.0, ok_from (parent_of nodes d) Noent p.0 p.1, sym (ap (λ (q : Place). q.node) is))

-- the last component is a name or `..`
pub last_component : (names : List (List ℕ)) → AllByRecursion IsComponent names → is_nil names ≡ false → IsComponent (unwrap_or (last_or None names) [])
last_component [] all some = absurd (false≢true (sym some))
last_component (name ∷ []) all some = all.0
last_component (name ∷ next ∷ names) all some = last_component (next ∷ names) all.1 refl

pub last_good : (path : PathParts) → AreParts path → is_nil path.names ≡ false → is_dot_dot (last_name path) ≡ false → IsName (last_name path)
last_good path parts some plain = record { component = last_component path.names parts.components some; plain = plain }

dots_of : (names : List (List ℕ)) → is_nil names ≡ false → is_dot_dot (unwrap_or (last_or None names) []) ≡ true → is_dots (last_or None names) ≡ true
dots_of [] some e = absurd (false≢true (sym some))
dots_of (name ∷ []) some e = or_right (is_dot name) (is_dot_dot name) e
dots_of (name ∷ next ∷ names) some e = dots_of (next ∷ names) refl e

either : (b : Bool) → (b ≡ true → ⊥) → b ≡ false
either true h = absurd (h refl)
either false h = refl

-- a path that names an entry has a last component, which isn't `..`
pub entry_named : (path : PathParts) → AreParts path → names_no_entry path ≡ false → (is_nil path.names ≡ false) × (is_dot_dot (last_name path) ≡ false)
entry_named path parts e = told path.last_dot refl e
  where
    told : (dot : Bool) → path.last_dot ≡ dot → cond dot true (is_nil path.names) ≡ false → (is_nil path.names ≡ false) × (is_dot_dot (last_name path) ≡ false)
    told true is e = absurd (false≢true (sym e))
    told false is e = (e, either (is_dot_dot (last_name path)) (λ dots. false≢true (sym is ∙ parts.dots (dots_of path.names e dots))))

-- where the last component isn't `..`, the walk ends at what that name leads to
pub walk_ends : (nodes : NodeMap) (dir : ℕ) (path : PathParts) (place : Place) → walk nodes dir path ≡ Ok place → is_nil path.names ≡ false → is_dot_dot (last_name path) ≡ false → Leads nodes place.dir (last_name path) place.node
walk_ends nodes dir path place e some plain =
    let p = walk_parts nodes dir path place e in
    let s = last_step nodes (place_itself (cond path.absolute root dir)) place path.names p.0 some in
    step_ends nodes s.0 (last_name path) place s.1 plain

-- a walk that ends at nothing ends with a name
pub walk_to_none : (nodes : NodeMap) (dir : ℕ) (path : PathParts) (place : Place) → walk nodes dir path ≡ Ok place → place.node ≡ None → (is_nil path.names ≡ false) × (is_dot_dot (last_name path) ≡ false)
walk_to_none nodes dir path place e none =
    let p = walk_parts nodes dir path place e in
    let some : is_nil path.names ≡ false = some_names path.names p.0 in
    let s = last_step nodes (place_itself (cond path.absolute root dir)) place path.names p.0 some in
    (some, either (is_dot_dot (last_name path)) (λ dots. let up = step_up nodes s.0 (last_name path) place s.1 dots in let n = up.2 in let never : ⊥ = cc in never))
  where
    some_names : (names : List (List ℕ)) → walk_on nodes (place_itself (cond path.absolute root dir)) names ≡ Ok place → is_nil names ≡ false
    some_names [] e = absurd (let itself : place_itself (cond path.absolute root dir) ≡ place = cc in let is = ap (λ (q : Place). q.node) itself in let never : ⊥ = cc in never)
    some_names (name ∷ names) e = refl

-- ---- a walk that ends at a file

-- a node that names another, or the root, is a directory
parent_is_dir : (nodes : NodeMap) (next n up : ℕ) → IsTree nodes next → parent_of nodes n ≡ Some up → is_dir_node (get nodes up) ≡ true
parent_is_dir nodes next n up tree e =
    elim (same_number n root) [
      | inl is ↦
          let top : Some up ≡ Some root = sym e ∙ ap (parent_of nodes) is ∙ tree.links.top in
          let same : up ≡ root = cc in
          ap (λ x. is_dir_node (get nodes x)) same ∙ tree.top
      | inr other ↦
          let m = tree.links.name n up e other in
          let l = leads_to nodes up n m.0 m.1 in
          ap is_dir_node l.there ∙ ap is_dir l.content
    ]

pub walk_to_file : (nodes : NodeMap) (next dir : ℕ) (path : PathParts) (place : Place) (number : ℕ) (content : Content) → IsTree nodes next → AreParts path → walk nodes dir path ≡ Ok place → place.node ≡ Some number → content_at nodes number ≡ Ok content → is_dir content ≡ false
    → Leads nodes place.dir (last_name path) (Some number)
walk_to_file nodes next dir path place number content tree parts e is at file =
    let p = walk_parts nodes dir path place e in
    let v = content_found nodes number content at in
    let no_dir : is_dir_node (get nodes number) ≡ true → ⊥ = λ d. false≢true (sym file ∙ sym (ap is_dir v.2) ∙ sym (ap is_dir_node v.1) ∙ d) in
    let some : is_nil path.names ≡ false = either (is_nil path.names) (λ none.
    let n = then_ok (names_at nodes number) (λ names. Ok true) true (ap (is_dir_or_missing nodes) (sym is) ∙ p.1 (parts.none (nil path.names none))) in
    let w = dir_found nodes number n.0 n.1 in
    no_dir (ap is_dir_node w.1 ∙ ap is_dir w.2)) in
    let s = last_step nodes (place_itself (cond path.absolute root dir)) place path.names p.0 some in
    let plain : is_dot_dot (last_name path) ≡ false = either (is_dot_dot (last_name path)) (λ dots.
    let up = step_up nodes s.0 (last_name path) place s.1 dots in
    let same : up.0 ≡ number = let f = sym up.2 ∙ is in cc in
    no_dir (ap (λ x. is_dir_node (get nodes x)) (sym same) ∙ parent_is_dir nodes next s.0 up.0 tree up.1)) in
    subst (λ o. Leads nodes place.dir (last_name path) o) is (step_ends nodes s.0 (last_name path) place s.1 plain)
  where
    nil : (names : List (List ℕ)) → is_nil names ≡ true → names ≡ []
    nil [] e = refl
    nil (name ∷ names) e = absurd (false≢true e)
