-- What comes of a file that was read, and of one that wasn't.
use Rattle.std.proofs.Common.{◌≡◌, ◌<◌, ◌≤◌, ℕ, List, length, cond, Option, Some, Ok, Err, ap, ◌∙◌}
use Rattle.std.proofs.lemmas.Bool.{le-ltb, lt-ltb}
use Rattle.wx_types.specs.Files.{Files, file_named}
use Rattle.pack_list.specs.Judging.{judge}
use Rattle.wasix_run.specs.declared.file_fault.FileFault.{FileFault}
use Rattle.wasix_run.specs.declared.file_fault.FileFault.TheVariants as file
use Rattle.wasix_run.specs.declared.reason.Reason.TheVariants.{TooLong}
use Rattle.wasix_run.specs.Verdict.{Verdict, Refuses, with_file}
use Rattle.wasix_run.specs.Packing.{pack_verdict, list_judged, list_limit}
use Rattle.wasix_run.specs.Loading.{StopsAs, ReadAs}

module _ (found : Option (List ℕ)) (limit : ℕ) (next : List ℕ → Verdict) (bytes : List ℕ) (is : found ≡ Some bytes) where
  pub file_read : length bytes ≤ limit → with_file found limit next ≡ next bytes
  file_read short = ap (λ (f : Option (List ℕ)). with_file f limit next) is ∙ ap (λ b. cond b (Refuses TooLong) (next bytes)) (le-ltb limit (length bytes) short)

  pub file_longer : limit < length bytes → with_file found limit next ≡ Refuses TooLong
  file_longer long = ap (λ (f : Option (List ℕ)). with_file f limit next) is ∙ ap (λ b. cond b (Refuses TooLong) (next bytes)) (lt-ltb limit (length bytes) long)

module _ (told : Option Files) (files : Files) (held : told ≡ Some files) (list out : List ℕ) where
  pub list_unread : (fault : FileFault) → ReadAs told list list_limit (Err fault) → StopsAs (pack_verdict files list out) fault
  unfolding pack_verdict
  list_unread file.Shelf read = tt
  list_unread file.TooLong read = (let longer = read files held in file_longer (file_named files list) list_limit (λ text. list_judged files out (judge text)) longer.0 longer.1 longer.2)
  list_unread (file.List line) read = absurd read
  list_unread (file.Text line kind) read = absurd read
  list_unread file.Memory read = tt

  pub list_is : (text : List ℕ) → ReadAs told list list_limit (Ok text) → pack_verdict files list out ≡ list_judged files out (judge text)
  unfolding pack_verdict
  list_is text read = file_read (file_named files list) list_limit (λ t. list_judged files out (judge t)) text (read.1 files held) read.0
