-- What comes of a list, file by file.
use Rattle.std.proofs.Common.{◌≡◌, ℕ, suc, List, ◌∷◌, ◌+◌, ◌<◌, ◌≤◌, length, get_or, drop, map, drop-cons, add-one, Ok, Err, sym, ap, subst, ◌∙◌}
use Rattle.std.proofs.Math.ListN.{drop_of_length-le}
use Rattle.file_tree.specs.FileTree.{FileTree}
use Rattle.boot_image.specs.Written.{image_of}
use Rattle.pack_list.specs.declared.judging.Named.{Named}
use Rattle.pack_list.specs.Answers.{seen}
use Rattle.wx_types.specs.Files.{Files}
use Rattle.wasix_run.specs.declared.file_fault.FileFault.{FileFault}
use Rattle.wasix_run.specs.Verdict.{Verdict, Writes}
use Rattle.wasix_run.specs.Packing.{filled, with_bytes}
use Rattle.wasix_run.specs.Loading.{StopsAs, PutAs}

module _ (held : Files) (out : List ℕ) (files : List Named) (i : ℕ) (file : Named) (lt : i < length files) (is : file ≡ get_or files i file) (tree : FileTree) (verdict : Verdict) (so_far : filled held out tree (map seen (drop i files)) ≡ verdict) where
  next_file : with_bytes held tree (seen file) (λ next. filled held out next (map seen (drop (i + 1) files))) ≡ verdict
  unfolding filled
  next_file =
      sym (ap (λ (fs : List Named). filled held out tree (map seen fs)) (drop-cons files i file lt ∙ ap (λ (f : Named). f ∷ drop (suc i) files) (sym is) ∙ ap (λ k. file ∷ drop k files) (sym (add-one i))))
      ∙ so_far

  pub file_put : (new : FileTree) → PutAs held (seen file) tree new (Ok tt) → filled held out new (map seen (drop (i + 1) files)) ≡ verdict
  file_put new put = sym (put (λ next. filled held out next (map seen (drop (i + 1) files)))) ∙ next_file

  pub file_unput : (new : FileTree) (stop : FileFault) → PutAs held (seen file) tree new (Err stop) → StopsAs verdict stop
  file_unput new stop put = subst (λ (v : Verdict). StopsAs v stop) next_file (put (λ next. filled held out next (map seen (drop (i + 1) files))))

pub all_put : (held : Files) (out : List ℕ) (files : List Named) (i : ℕ) (tree : FileTree) (verdict : Verdict) → length files ≤ i → filled held out tree (map seen (drop i files)) ≡ verdict → verdict ≡ Writes out (image_of tree)
unfolding filled
all_put held out files i tree verdict past so_far = sym so_far ∙ ap (λ (fs : List Named). filled held out tree (map seen fs)) (drop_of_length-le files past)
