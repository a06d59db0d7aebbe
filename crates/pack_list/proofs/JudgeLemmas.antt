-- The lines of a list, judged one after another.
use Rattle.std.proofs.Common.{◌≡◌, ◌≢◌, ℕ, ◌+◌, ◌<◌, true, false, eqb, List, [], ◌∷◌, ◌++◌, length, map, Option, Some, None, Result, Ok, Err, unwrap_or, refl, sym, ap, ◌∙◌, append_assoc, arith}
use Rattle.std.proofs.lemmas.Bool.{eqb-true, eqb-false}
use Rattle.std.proofs.lemmas.List.{append-nil, length-append, nil_from_length, map_push}
use Rattle.pack_list.specs.Prelude.{FileTree, lines, Cuts, Named, Judged, judge_line, behind, and_then, judge_lines, JudgesLine, TakesLine, seen, LineFault}
use Rattle.pack_list.specs.declared.judging.Named.{Named as NamedFile}
use Rattle.pack_list.specs.declared.judging.LineFault.TheVariants.{Wrong, Memory}
use Rattle.pack_list.proofs.Pieces.{lines_cut, lines_behind}

behind-behind : (a b : List Named) (rest : Result Judged ℕ) → behind a (behind b rest) ≡ behind (a ++ b) rest
behind-behind a b (Ok judged) = ap (λ (f : List Named). Ok (record { tree = judged.tree; files = f })) (sym (append_assoc a b judged.files))
behind-behind a b (Err line) = refl

rest_lines : (more : Option (List ℕ)) → lines_behind more ≡ lines (unwrap_or more [])
rest_lines None = refl
rest_lines (Some rest) = refl

some_text : (rest : List ℕ) → eqb (length rest) 0 ≡ false → rest ≢ []
some_text rest some e = eqb-false (length rest) 0 some (ap (λ (b : List ℕ). length b) e)

less : (rest line : List ℕ) (more : Option (List ℕ)) → rest ≢ [] → Cuts 10 rest line more → length (unwrap_or more []) < length rest
less [] line more some cuts = absurd (some refl)
less (byte ∷ rest) line None some cuts = omega arith
less (byte ∷ rest) line (Some left) some cuts = omega (arith, ap length cuts.1, length-append line (10 ∷ left))

module _ (number : ℕ) (tree : FileTree) (rest line : List ℕ) (more : Option (List ℕ)) (some : eqb (length rest) 0 ≡ false) (cuts : Cuts 10 rest line more) where
  first_line : lines rest ≡ line ∷ lines (unwrap_or more [])
  first_line = lines_cut rest line more (some_text rest some) cuts ∙ ap (λ (l : List (List ℕ)). line ∷ l) (rest_lines more)

  pub shorter : length (unwrap_or more []) < length rest
  shorter = less rest line more (some_text rest some) cuts

  judged_first : judge_lines number tree (lines rest) ≡ and_then number (judge_line number tree line) (λ next. judge_lines (number + 1) next (lines (unwrap_or more [])))
  unfolding judge_lines
  judged_first = ap (judge_lines number tree) first_line

  module _ (files : List Named) (all : Result Judged ℕ) (so_far : behind files (judge_lines number tree (lines rest)) ≡ all) where
    pub wrong_line : judge_line number tree line ≡ None → all ≡ Err number
    wrong_line e = sym so_far ∙ ap (behind files) (judged_first ∙ ap (λ o. and_then number o (λ next. judge_lines (number + 1) next (lines (unwrap_or more [])))) e)

    pub one_line : (new : FileTree) (added : List Named) → judge_line number tree line ≡ Some (record { tree = new; files = added }) → behind (files ++ added) (judge_lines (number + 1) new (lines (unwrap_or more []))) ≡ all
    one_line new added e =
        sym (behind-behind files added (judge_lines (number + 1) new (lines (unwrap_or more []))))
        ∙ sym (ap (behind files) (judged_first ∙ ap (λ o. and_then number o (λ next. judge_lines (number + 1) next (lines (unwrap_or more [])))) e))
        ∙ so_far

pub no_more : (number : ℕ) (tree : FileTree) (rest : List ℕ) (files : List Named) (all : Result Judged ℕ) → eqb (length rest) 0 ≡ true → behind files (judge_lines number tree (lines rest)) ≡ all → all ≡ Ok (record { tree = tree; files = files })
unfolding judge_lines
no_more number tree rest files all none so_far =
    sym so_far ∙ ap (λ (r : List ℕ). behind files (judge_lines number tree (lines r))) (nil_from_length rest (eqb-true (length rest) 0 none)) ∙ ap (λ (f : List Named). Ok (record { tree = tree; files = f })) (append-nil files)

-- ---- one line taken

pub line_fault_taken : (given : Option Judged) (fault : LineFault) (new : FileTree) (old_files new_files : List NamedFile) → JudgesLine given (Err fault) new → TakesLine given (Err fault) new old_files new_files
line_fault_taken given Wrong new old_files new_files judged = judged
line_fault_taken given Memory new old_files new_files judged = tt

pub file_taken : (given : Option Judged) (named : NamedFile) (new : FileTree) (old_files new_files : List NamedFile) → JudgesLine given (Ok (Some named)) new → new_files ≡ old_files ++ named ∷ [] → TakesLine given (Ok tt) new old_files new_files
file_taken given named new old_files new_files judged pushed = (seen named ∷ [], judged, ap (map seen) pushed ∙ map_push seen old_files named)
