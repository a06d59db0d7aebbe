-- The names that clauses and proofs on pack lists cite, passed on from one place. Declares nothing.
pub use Rattle.pack_list.specs.Answers.{Judges, JudgesLine, TakesLine, seen}
pub use Rattle.pack_list.specs.Cuts.{Cuts}
pub use Rattle.pack_list.specs.Judging.{Judged, Named, and_then, behind, made_of}
unfoldable pub use Rattle.pack_list.specs.Judging.{judge, judge_line, judge_lines}
pub use Rattle.pack_list.specs.Lines.{before_first, is_name, lines, pieces, said, words}
unfoldable pub use Rattle.pack_list.specs.Lines.{line_of}
pub use Rattle.pack_list.specs.Made.{Makes}
pub use Rattle.pack_list.specs.declared.fault.ListFault.{ListFault}
pub use Rattle.pack_list.specs.declared.fault.ListFault.TheVariants.{Memory, Wrong}
pub use Rattle.pack_list.specs.declared.judging.LineFault.{LineFault}
pub use Rattle.file_tree.specs.FileTree.{FileTree}
