-- The run of a program that exits with 7.
use Rattle.std.proofs.Common.{◌≡◌, ℕ, List, [], ◌∷◌, Some, true, refl, sym, ap, subst, ◌∙◌, arith}
use Rattle.std.specs.Option.{option_and_then}
use Rattle.std.specs.FinMap.{empty, get}
use Rattle.std.proofs.lemmas.Cmp.{nat_cmp_total}
use Rattle.file_tree.specs.FileTree.{FileTree}
use Rattle.fork_exec.specs.Process.{Process}
use Rattle.instance.proofs.Examples.{exits}
use Rattle.instance.specs.Links.{program_of}
use Rattle.instance.specs.Program.{first_memory, main_thread}
use Rattle.kernel_ask.specs.Answer.{plain}
use Rattle.kernel_core.specs.End.{Exited as ExitedEnd}
use Rattle.kernel_core.specs.Ending.{Exited, is_open}
use Rattle.kernel_core.specs.Ends.{answer_end}
use Rattle.kernel_core.specs.Kernel.{Kernel}
use Rattle.kernel_core.specs.Answers.{answer_marked, mark_in, question}
use Rattle.kernel_core.specs.Rows.{risen, with_thread}
use Rattle.kernel_core.specs.Threads.{Fresh, Handed, Ended as ThreadEnded}
use Rattle.finite_maps.proofs.Lookups.{get-insert_same}
use Rattle.kernel_core.proofs.Ended.{ended_ending}
use Rattle.kernel_core.proofs.Settled.{settles_none}
use Rattle.kernel_core.proofs.ThreadOrder.{thread_cmp_total}
use Rattle.process.proofs.Examples.{before_exit}
use Rattle.process.specs.Asked.{Asked, AskedBy, Sliced, with_steps}
use Rattle.wasix_abi.specs.Requests.{plain_request}
use Rattle.wx_types.specs.declared.entries.Entry.{Entry}
use Rattle.wx_types.specs.declared.entries.Outcome.TheVariants.{Ended}
use Rattle.wx_types.specs.declared.requests.Request.{Request}
use Rattle.world_step.specs.Boot.{Boot, boot_world, first_process}
use Rattle.world_step.specs.Leads.{TakesTurn, Turn}
use Rattle.world_step.specs.Run.{RunFrom}
use Rattle.world_step.specs.World.{World}

-- after one step of its slice it asks for proc_exit(7), which ends process 1
abbrev entry : Entry
entry = record { pid = 1; tid = 1; ran = 1; call = 37; outcome = Ended true; signal = 0 }

abbrev request : Request
request = plain_request 37 (7 ∷ [])

module _ (tree : FileTree) (input : List ℕ) where
  abbrev boot : Boot
  boot = record { tree = tree; program = []; arguments = []; input = input; slice = 10_000; fuel = 4_294_967_296 }

  abbrev first : World
  first = boot_world boot (program_of exits)

  abbrev process : Process
  process = first_process boot (program_of exits)

  abbrev stopped : Process
  stopped = with_steps process 1 1 (first_memory exits) before_exit

  abbrev ended : Kernel
  ended = (answer_end (risen first.kernel) (question (risen first.kernel) 1 1 request Fresh) (ExitedEnd 7)).kernel

  handed_first : get first.kernel.threads (1, 1) ≡ Some (Handed Fresh)
  handed_first = get-insert_same thread_cmp_total empty (1, 1) (Handed Fresh)

  slice : Sliced process 1 10_000 (main_thread exits) 1 request stopped
  slice = record {
    memory = first_memory exits;
    next = before_exit;
    steps = refl;
    within = omega arith;
    ends = tt;
    asks = refl;
    leaves = refl;
  }

  asks : Asked process 1 10_000 1 request stopped
  asks = subst (λ found. AskedBy found process 1 10_000 1 request stopped) (sym (get-insert_same nat_cmp_total empty 1 (main_thread exits))) slice

  turn : TakesTurn first entry
  turn = record {
    process = process;
    request = request;
    stopped = stopped;
    answer = plain (Ended true);
    answered = ended;
    handed = (Fresh, handed_first);
    there = get-insert_same nat_cmp_total empty 1 process;
    asks = asks;
    answers = ap (λ found. option_and_then (answer_marked (risen first.kernel) 1 1 request) (option_and_then mark_in found)) handed_first;
    call = refl;
    outcome = refl;
    signal = refl;
  }

  runs : (last : World) × RunFrom first (entry ∷ []) last × (last.kernel.ending ≡ Exited 7)
  unfolding turn
  runs = (_, (_, Turn refl turn refl, refl), ap (λ (k : Kernel). k.ending) (settles_none ended (ap is_open ends)) ∙ ends) where
    ends : ended.ending ≡ Exited 7
    ends = ended_ending (with_thread (risen first.kernel) 1 1 ThreadEnded) 1 (ExitedEnd 7)
