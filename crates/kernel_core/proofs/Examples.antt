-- Answers of the first kernel, and of one with a pipe.
use Rattle.std.proofs.Common.{◌≡◌, ℕ, true, false, List, [], ◌∷◌, Some, None, refl}
use Rattle.std.specs.Prelude.{option_map}
use Rattle.std.specs.FinMap.{empty, insert, gets}
use Rattle.fd_table.specs.Table.{Table, descriptor}
use Rattle.file_tree.specs.FileTree.{FileTree}
use Rattle.open_desc.specs.declared.description.Kind.TheVariants.{Output, PipeRead, PipeWrite}
use Rattle.kernel_ask.specs.Answer.{plain}
use Rattle.wx_types.specs.declared.entries.Outcome.TheVariants.{Reply}
use Rattle.wx_types.specs.declared.entries.Place.TheVariants.{Output as OutputPlace, Pipe as PipePlace}
use Rattle.wx_types.specs.declared.requests.Request.{Request}
use Rattle.kernel_core.specs.Answers.{answer_call, question}
use Rattle.kernel_core.specs.Beginning.{first_kernel, first_description}
use Rattle.kernel_core.specs.Descriptors.{description_of}
use Rattle.kernel_core.specs.End.{End, Exited, Killed}
use Rattle.kernel_core.specs.Ends.{answer_end}
use Rattle.kernel_core.specs.Kernel.{Kernel}
use Rattle.kernel_core.specs.PipeEnds.{writer_left}
use Rattle.kernel_core.specs.Rows.{Question, Answered, replied, refused, waits}
use Rattle.kernel_core.specs.Threads.{Fresh}
use Rattle.linear_memory.specs.Storage.{number_of}

-- a request of a call with these words, refusal and bytes, and what thread 1 of process 1 asks with it for the first time
abbrev asks : ℕ → ℕ → List ℕ → List ℕ → Request
asks call refused words one = record { call = call; refused = refused; words = words; one = one; two = [] }

abbrev of_first : Kernel → Request → Question
of_first kernel request = question kernel 1 1 request Fresh

module _ (tree : FileTree) (input : List ℕ) where
  abbrev kernel : Kernel
  kernel = first_kernel tree input

  -- the output at 1, and nothing at 4
  output_open : description_of kernel 1 1 ≡ Some (record { number = 1; description = first_description Output 64 false })
  output_open = simp gets

  none_open : description_of kernel 1 4 ≡ None
  none_open = simp gets

  abbrev Refused : Request → ℕ → Type 0
  Refused request errno = answer_call kernel (of_first kernel request) ≡ Some (refused kernel (of_first kernel request) errno)

  abbrev Ends : Request → End → Type 0
  Ends request end = answer_call kernel (of_first kernel request) ≡ Some (answer_end kernel (of_first kernel request) end)

  -- a write of `hi` and a newline to the output, and one to a number that isn't open
  abbrev write_to : ℕ → Request
  write_to fd = asks 17 0 (fd ∷ 0 ∷ 1 ∷ 12 ∷ 0 ∷ 0 ∷ 0 ∷ 0 ∷ 0 ∷ []) (104 ∷ 105 ∷ 10 ∷ [])

  writes : answer_call kernel (of_first kernel (write_to 1)) ≡ Some (replied kernel (of_first kernel (write_to 1)) 0 (104 ∷ 105 ∷ 10 ∷ []) OutputPlace)
  writes = simp gets

  writes_nowhere : Refused (write_to 4) 8
  writes_nowhere = simp gets

  -- to the root and to the input
  writes_root : Refused (write_to 3) 31
  writes_root = simp gets

  writes_input : Refused (write_to 0) 76
  writes_input = simp gets

  -- a list of buffers past the memory is a fault, whatever the descriptor
  bad_list : Refused (asks 17 21 (4 ∷ 12 ∷ 1 ∷ 12 ∷ 0 ∷ 0 ∷ 0 ∷ 0 ∷ 0 ∷ []) []) 21
  bad_list = refl

  exits : Ends (asks 37 0 (7 ∷ 0 ∷ 0 ∷ 0 ∷ 0 ∷ 0 ∷ 0 ∷ 0 ∷ 0 ∷ []) []) (Exited 7)
  exits = refl

  traps : Ends (asks 3 0 (0 ∷ 0 ∷ 0 ∷ 0 ∷ 0 ∷ 0 ∷ 0 ∷ 0 ∷ 0 ∷ []) []) (Killed 6)
  traps = refl

  -- ---- descriptors 0 and 1 are the two ends of a pipe

  abbrev with_pipe : List ℕ → Table → Kernel
  with_pipe held table = record kernel {
    descriptions = insert (insert empty 0 (first_description (PipeRead 0) 2 false)) 1 (first_description (PipeWrite 0) 64 false);
    pipes = insert empty 0 held;
    descriptors = insert empty 1 table;
  }

  abbrev both_ends : Table
  both_ends = insert (insert empty 0 (descriptor 0 false)) 1 (descriptor 1 false)

  abbrev one_end : Table
  one_end = insert empty 0 (descriptor 0 false)

  -- one buffer of two bytes
  abbrev read_two : Request
  read_two = asks 16 0 (0 ∷ 0 ∷ 1 ∷ 12 ∷ 0 ∷ 0 ∷ 0 ∷ 0 ∷ 0 ∷ []) (16 ∷ 0 ∷ 0 ∷ 0 ∷ 2 ∷ 0 ∷ 0 ∷ 0 ∷ [])

  -- an empty pipe is waited for while a writing end is left, and else at its end
  reads_wait : writer_left (with_pipe [] both_ends) 0 ≡ true → answer_call (with_pipe [] both_ends) (of_first kernel read_two) ≡ Some (waits (with_pipe [] both_ends) (of_first kernel read_two))
  unfolding number_of
  reads_wait left = simp (gets, left)

  reads_end : writer_left (with_pipe [] one_end) 0 ≡ false → option_map (λ (given : Answered). given.answer) (answer_call (with_pipe [] one_end) (of_first kernel read_two)) ≡ Some (plain (Reply 0 [] (PipePlace 0)))
  unfolding number_of
  reads_end left = simp (gets, left)
