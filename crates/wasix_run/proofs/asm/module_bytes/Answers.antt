use Rattle.std.proofs.Common.{List, ℕ, sym, ap, subst, ◌∙◌}
use Rattle.wx_types.specs.Files.{file_named}
use Rattle.wat_asm.specs.Assembled.{assembled}
use Rattle.wasix_run.specs.Verdict.{Verdict}
use Rattle.wasix_run.specs.Judging.{text_limit, assembled_verdict}
use Rattle.wasix_run.specs.Loading.{WritesAs}
use Rattle.wasix_run.proofs.FileVerdicts.{file_read}
use Rattle.wasix_run.proofs.asm.module_bytes.Goals as goal

pub returns-in-Ok-clause-told : goal.returns-in-Ok-clause-told
returns-in-Ok-clause-told g c = λ files out held.
    subst (λ (v : Verdict). WritesAs out v c.bytes_of_text.result)
    (sym (
    file_read (file_named files c.args.text.now) text_limit (λ bytes. assembled_verdict out (assembled bytes)) c.in-Ok.bytes (c.in-Ok.ensures.read.1 files held) c.in-Ok.ensures.read.0
    ∙ ap (λ (bytes : List ℕ). assembled_verdict out (assembled bytes)) (sym c.as_slice.ensures)
    ))
    (c.bytes_of_text.ensures.told out)
