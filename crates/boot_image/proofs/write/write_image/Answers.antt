use Rattle.std.proofs.Common.{◌≡◌, ℕ, List, [], ◌∷◌, ◌++◌, map, sym, ap, subst, ◌∙◌, append-nil, append_assoc}
use Rattle.std.specs.List.{flat_map}
use Rattle.std.specs.FinMap.{entries}
use Rattle.boot_image.specs.Prelude.{FileTree, magic, entry_bytes, ReadsBack, paths_of, entry_of, entries_of, image_of}
use Rattle.boot_image.proofs.RoundTrip.{reads_back, short_where_read}
use Rattle.boot_image.proofs.write.write_image.Goals as goal

-- where no path is left, the end makes it the image
all_written : (tree : FileTree) (left : List (List ℕ × ℕ)) (out ended body : List ℕ) → left ≡ [] → out ++ flat_map entry_bytes (map (entry_of tree) left) ≡ magic ++ body → ended ≡ out ++ 0 ∷ [] → ended ≡ magic ++ (body ++ 0 ∷ [])
all_written tree left out ended body none so_far is =
    let whole : out ≡ magic ++ body = sym (append-nil out) ∙ ap (λ (l : List (List ℕ × ℕ)). out ++ flat_map entry_bytes (map (entry_of tree) l)) (sym none) ∙ so_far in
    is ∙ ap (λ (b : List ℕ). b ++ 0 ∷ []) whole ∙ append_assoc magic body (0 ∷ [])

pub returns : goal.returns
unfolding image_of entries_of
returns c =
    let is =
    c.from_vec.ensures
    ∙ all_written c.args.tree.now (entries c.loop-path.found) c.loop-path.out.items c.push.new.self.items (flat_map entry_bytes (map (entry_of c.args.tree.now) (entries (paths_of c.args.tree.now))))
    c.in_default.ensures c.loop-path.invariant c.in_ok-push.ensures.items in
    record {
      image = is;
      read = (
        λ short. subst (λ (b : List ℕ). ReadsBack b c.args.tree.now) (sym is) (reads_back c.args.tree.now c.is_tree.ensures.tree c.is_tree.ensures.bytes short),
        λ read. short_where_read c.from_vec.result c.args.tree.now read,
      );
    }
