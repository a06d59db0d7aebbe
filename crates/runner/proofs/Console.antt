-- A write over the first descriptors.
use Rattle.std.proofs.Common.{◌≡◌, ◌≢◌, inl, inr, ℕ, List, [], true, false, Option, Some, None, eqb, slice_index, option_map, option_and_then, Result, Err, refl, sym, ap, ◌∙◌}
use Rattle.std.specs.Prelude.{if◌then◌else◌, ok_or}
use Rattle.std.proofs.lemmas.Bool.{eq-eqb}
use Rattle.std.proofs.lemmas.Bool.Decides.{eqb_tells}
use Rattle.std.specs.Ordering.{nat_cmp}
use Rattle.std.proofs.lemmas.Cmp.{nat_cmp_total}
use Rattle.std.specs.FinMap.{FinMap, get, gets, insert, empty, get-empty, nat_cmp-IsAntisymmetric}
use Rattle.fd_table.specs.Table.{Table, descriptor}
use Rattle.fd_table.specs.declared.table.Descriptor.{Descriptor}
use Rattle.file_tree.specs.FileTree.{root}
use Rattle.open_desc.specs.declared.description.Description.{Description}
use Rattle.open_desc.specs.declared.description.Kind.TheVariants.{Input, Output, Error, Dir}
use Rattle.wx_types.specs.declared.requests.Request.{Request}
use Rattle.wx_types.specs.Errno.{errno_number}
use Rattle.wx_types.specs.declared.errors.Errno.TheVariants.{Badf}
use Rattle.wx_types.specs.declared.entries.Place.TheVariants.{Nowhere}
use Rattle.kernel_core.specs.Beginning.{first_descriptions, first_description, first_table}
use Rattle.kernel_core.specs.Descriptors.{Opened, answer_fd_write, description_of, with_right, no_room_needed, write_opened}
use Rattle.kernel_core.specs.Kernel.{Kernel}
use Rattle.file_tree.specs.Walk.{and_then}
use Rattle.kernel_core.specs.Rows.{Answered, Question, numbered, replied, unless_refused}
use Rattle.kernel_core.specs.Threads.{Mark}
use Rattle.finite_maps.proofs.Lookups.{get-insert_other, get-insert_same}
use Rattle.runner.specs.OneThread.{WriteReply, write_reply}

abbrev t1 : Table
t1 = insert empty 0 (descriptor 0 false)

abbrev t2 : Table
t2 = insert t1 1 (descriptor 1 false)

abbrev t3 : Table
t3 = insert t2 2 (descriptor 2 false)

other : (m : Table) (k : ℕ) (v : Descriptor) (q : ℕ) → q ≢ k → get (insert m k v) q ≡ get m q
other m k v q ne = get-insert_other nat_cmp_total nat_cmp-IsAntisymmetric m k v q ne

no_fd : (fd : ℕ) → fd ≢ 0 → fd ≢ 1 → fd ≢ 2 → fd ≢ 3 → get first_table fd ≡ None
no_fd fd a b c d =
    other t3 3 (descriptor 3 false) fd d ∙ other t2 2 (descriptor 2 false) fd c ∙ other t1 1 (descriptor 1 false) fd b ∙ other empty 0 (descriptor 0 false) fd a
    ∙ get-empty nat_cmp fd

-- the open description behind each number
module _ (kernel : Kernel) (fds : kernel.descriptors ≡ insert empty 1 first_table) (ds : kernel.descriptions ≡ first_descriptions) (since : ℕ) (mark : Mark) where
  -- what thread 1 of process 1 asks
  abbrev pub ask : Request → Question
  ask request = record { pid = 1; tid = 1; since = since; mark = mark; request = request }

  abbrev as_opened : FinMap nat_cmp Description → ℕ → Option Opened
  as_opened descriptions number = option_map (λ (d : Description). record { number = number; description = d }) (get descriptions number)

  abbrev behind : FinMap nat_cmp Table → FinMap nat_cmp Description → ℕ → Option Opened
  behind tables descriptions fd = option_and_then (λ (d : Descriptor). as_opened descriptions d.id) (option_and_then (λ (table : Table). get table fd) (get tables 1))

  there : (fd : ℕ) → description_of kernel 1 fd ≡ behind (insert empty 1 first_table) first_descriptions fd
  there fd = ap (λ (m : FinMap nat_cmp Table). behind m kernel.descriptions fd) fds ∙ ap (λ (m : FinMap nat_cmp Description). behind (insert empty 1 first_table) m fd) ds

  unfound : (fd : ℕ) → get first_table fd ≡ None → description_of kernel 1 fd ≡ None
  unfound fd none =
      there fd
      ∙ ap (λ (t : Option Table). option_and_then (λ (d : Descriptor). as_opened first_descriptions d.id) (option_and_then (λ (table : Table). get table fd) t)) (get-insert_same nat_cmp_total empty 1 first_table)
      ∙ ap (option_and_then (λ (d : Descriptor). as_opened first_descriptions d.id)) none

  fd0 : description_of kernel 1 0 ≡ Some (record { number = 0; description = first_description Input 2 false })
  fd0 = there 0 ∙ simp gets

  fd1 : description_of kernel 1 1 ≡ Some (record { number = 1; description = first_description Output 64 false })
  fd1 = there 1 ∙ simp gets

  fd2 : description_of kernel 1 2 ≡ Some (record { number = 2; description = first_description Error 64 false })
  fd2 = there 2 ∙ simp gets

  fd3 : description_of kernel 1 3 ≡ Some (record { number = 3; description = first_description (Dir root) 2 true })
  fd3 = there 3 ∙ simp gets

  -- the refusals over what a number names, and the answer
  abbrev judged : Option Opened → Result Opened ℕ
  judged o = numbered (and_then (and_then (ok_or o Badf) (with_right 64)) no_room_needed)

  abbrev answer_over : Request → Result Opened ℕ → Answered
  answer_over request verdict = unless_refused kernel (ask request) verdict (write_opened kernel (ask request))

  abbrev as_reply : Request → WriteReply → Answered
  as_reply request reply = replied kernel (ask request) reply.errno reply.bytes reply.place

  over : (request : Request) (fd : ℕ) (o : Option Opened) → slice_index request.words 0 ≡ fd → request.refused ≡ 0 → description_of kernel 1 fd ≡ o → answer_fd_write kernel (ask request) ≡ answer_over request (judged o)
  over request fd o word good is =
      ap (λ b. answer_over request (if b then judged (description_of kernel 1 (slice_index request.words 0)) else Err request.refused)) (eq-eqb request.refused 0 good)
      ∙ ap (λ n. answer_over request (judged (description_of kernel 1 n))) word
      ∙ ap (λ (x : Option Opened). answer_over request (judged x)) is

  no_tests : (refused fd : ℕ) (bytes : List ℕ) → refused ≡ 0 → eqb fd 1 ≡ false → eqb fd 2 ≡ false → eqb fd 0 ≡ false → eqb fd 3 ≡ false → write_reply refused fd bytes ≡ record { errno = errno_number Badf; bytes = []; place = Nowhere }
  no_tests refused fd bytes good b c a d = ap (λ n. write_reply n fd bytes) good ∙ rw (b, c, a, d) refl

  pub write_answer : (request : Request) → answer_fd_write kernel (ask request) ≡ as_reply request (write_reply request.refused (slice_index request.words 0) request.one)
  write_answer request =
      let fd : ℕ = slice_index request.words 0 in
      elim (eqb_tells request.refused 0) [
        | inr bad ↦ rw bad.0 refl
        | inl good ↦ elim (eqb_tells fd 1) [
          | inl one ↦ over request 1 _ one.1 good.1 fd1 ∙ as_written 1 one.1 good.1
          | inr not_one ↦ elim (eqb_tells fd 2) [
            | inl two ↦ over request 2 _ two.1 good.1 fd2 ∙ as_written 2 two.1 good.1
            | inr not_two ↦ elim (eqb_tells fd 0) [
              | inl none ↦ over request 0 _ none.1 good.1 fd0 ∙ as_written 0 none.1 good.1
              | inr not_none ↦ elim (eqb_tells fd 3) [
                | inl three ↦ over request 3 _ three.1 good.1 fd3 ∙ as_written 3 three.1 good.1
                | inr not_three ↦
                    over request fd None refl good.1 (unfound fd (no_fd fd not_none.1 not_one.1 not_two.1 not_three.1))
                    ∙ ap (as_reply request) (sym (no_tests request.refused fd request.one good.1 not_one.0 not_two.0 not_none.0 not_three.0))
              ]
            ]
          ]
        ]
      ]
    where
      as_written : (n : ℕ) → slice_index request.words 0 ≡ n → request.refused ≡ 0 → as_reply request (write_reply 0 n request.one) ≡ as_reply request (write_reply request.refused (slice_index request.words 0) request.one)
      as_written n word good = ap (as_reply request) (λ i. write_reply (sym good i) (sym word i) request.one)
