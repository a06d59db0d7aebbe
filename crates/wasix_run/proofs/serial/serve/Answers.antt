use Rattle.std.proofs.Common.{List, Option, Some, map, string_bytes, sym, ap, subst, ◌∙◌}
use Rattle.wx_types.specs.Files.{Files}
use Rattle.wx_types.specs.declared.entries.Entry.{Entry}
use Rattle.wasix_run.specs.declared.reason.Reason.{Reason}
use Rattle.wasix_run.specs.Line.{Pack, Asm}
use Rattle.wasix_run.specs.Commands.{seen}
use Rattle.wasix_run.specs.Packing.{pack_verdict}
use Rattle.wasix_run.specs.Judging.{asm_verdict}
use Rattle.wasix_run.specs.Loading.{program_reason}
use Rattle.wasix_run.specs.Serves.{IsToWrite, Keeps, Serves}
use Rattle.wasix_run.proofs.Serving.{ran, ran_counts, ran_keeps, unloaded, to_write, counts_read}
use Rattle.wasix_run.proofs.serial.serve.Goals as goal

pub returns-in-Ok-clause-serves : goal.returns-in-Ok-clause-serves
returns-in-Ok-clause-serves g c =
    let loaded = c.in-Ok.ensures.cause in
    let parts = c.run.ensures.2 loaded.bytes loaded.loads in
    ran (map string_bytes c.args.words.now) (g.H.Shelf.held c.args.shelf.now) c.in-Some-One.file.now (sym c.in-Some-One.ensures ∙ ap (λ command. Some (seen command)) c.in-Some-One.field-0-is)
    c.in-Ok.program loaded c.run.ensures.0 c.run.result.reason c.run.result.journal c.run.ensures.1 parts.0 parts.1

pub returns-in-Err-clause-serves : goal.returns-in-Err-clause-serves
returns-in-Err-clause-serves g c =
    subst (λ (r : Reason). Serves (map string_bytes c.args.words.now) (g.H.Shelf.held c.args.shelf.now) r c.without_run-in-Err.result.journal) (sym (c.without_run-in-Err.ensures.reason ∙ c.program_reason.ensures))
    (subst (λ (es : List Entry). Serves (map string_bytes c.args.words.now) (g.H.Shelf.held c.args.shelf.now) (program_reason c.in-Err.fault) es) (sym c.without_run-in-Err.ensures.journal)
    (unloaded (map string_bytes c.args.words.now) (g.H.Shelf.held c.args.shelf.now) c.in-Some-One.file.now (sym c.in-Some-One.ensures ∙ ap (λ command. Some (seen command)) c.in-Some-One.field-0-is) c.in-Err.fault c.in-Err.ensures.cause))

pub returns-in-Some-Pack-clause-serves : goal.returns-in-Some-Pack-clause-serves
returns-in-Some-Pack-clause-serves g c =
    let told = g.H.Shelf.held c.args.shelf.now in
    let is = sym c.in-Some-Pack.ensures ∙ ap (λ command. Some (seen command)) c.in-Some-Pack.field-0-is in
    c.written.ensures.serves (map string_bytes c.args.words.now) told (Pack c.in-Some-Pack.list.now c.in-Some-Pack.out.now) is
    (to_write (map string_bytes c.args.words.now) told (Pack c.in-Some-Pack.list.now c.in-Some-Pack.out.now) is (λ files. pack_verdict files c.in-Some-Pack.list.now c.in-Some-Pack.out.now) (λ files verdict e. e) (λ files verdict e. e) c.in-Some-Pack.out.now c.image_bytes-bytes.result (λ files held. c.image_bytes-bytes.ensures.told files c.in-Some-Pack.out.now held))

pub returns-in-Some-Pack-clause-counts : goal.returns-in-Some-Pack-clause-counts
returns-in-Some-Pack-clause-counts g c =
    c.written.ensures.counts (g.H.Shelf.faults c.args.shelf.now) c.image_bytes-bytes.ensures.never_falls
    (counts_read c.image_bytes-bytes.result (g.H.Shelf.faults c.args.shelf.now) (g.H.Shelf.faults c.image_bytes-bytes.new.shelf) c.image_bytes-bytes.ensures.no_fault c.image_bytes-bytes.ensures.fault)

pub returns-in-Some-Pack-clause-shelf : goal.returns-in-Some-Pack-clause-shelf
returns-in-Some-Pack-clause-shelf g c =
    let is = sym c.in-Some-Pack.ensures ∙ ap (λ command. Some (seen command)) c.in-Some-Pack.field-0-is in
    let told = g.H.Shelf.held c.args.shelf.now in
    let words = map string_bytes c.args.words.now in
    subst (λ (t : Option Files). Keeps words t (g.H.Shelf.held c.written.new.shelf) (g.H.Shelf.faults c.args.shelf.now) (g.H.Shelf.faults c.written.new.shelf) c.written.result.reason) c.image_bytes-bytes.ensures.kept
    (c.written.ensures.shelf words (g.H.Shelf.faults c.args.shelf.now) c.image_bytes-bytes.ensures.never_falls
    (subst (λ (t : Option Files). IsToWrite words t c.in-Some-Pack.out.now c.image_bytes-bytes.result) (sym c.image_bytes-bytes.ensures.kept)
    (to_write words told (Pack c.in-Some-Pack.list.now c.in-Some-Pack.out.now) is (λ files. pack_verdict files c.in-Some-Pack.list.now c.in-Some-Pack.out.now) (λ files verdict e. e) (λ files verdict e. e) c.in-Some-Pack.out.now c.image_bytes-bytes.result (λ files held. c.image_bytes-bytes.ensures.told files c.in-Some-Pack.out.now held))))

pub returns-in-Some-Asm-clause-serves : goal.returns-in-Some-Asm-clause-serves
returns-in-Some-Asm-clause-serves g c =
    let told = g.H.Shelf.held c.args.shelf.now in
    let is = sym c.in-Some-Asm.ensures ∙ ap (λ command. Some (seen command)) c.in-Some-Asm.field-0-is in
    c.written-in-Some-Asm.ensures.serves (map string_bytes c.args.words.now) told (Asm c.in-Some-Asm.text.now c.in-Some-Asm.out.now) is
    (to_write (map string_bytes c.args.words.now) told (Asm c.in-Some-Asm.text.now c.in-Some-Asm.out.now) is (λ files. asm_verdict files c.in-Some-Asm.text.now c.in-Some-Asm.out.now) (λ files verdict e. e) (λ files verdict e. e) c.in-Some-Asm.out.now c.module_bytes-bytes.result (λ files held. c.module_bytes-bytes.ensures.told files c.in-Some-Asm.out.now held))

pub returns-in-Some-Asm-clause-counts : goal.returns-in-Some-Asm-clause-counts
returns-in-Some-Asm-clause-counts g c =
    c.written-in-Some-Asm.ensures.counts (g.H.Shelf.faults c.args.shelf.now) c.module_bytes-bytes.ensures.never_falls
    (counts_read c.module_bytes-bytes.result (g.H.Shelf.faults c.args.shelf.now) (g.H.Shelf.faults c.module_bytes-bytes.new.shelf) c.module_bytes-bytes.ensures.no_fault c.module_bytes-bytes.ensures.fault)

pub returns-in-Some-Asm-clause-shelf : goal.returns-in-Some-Asm-clause-shelf
returns-in-Some-Asm-clause-shelf g c =
    let is = sym c.in-Some-Asm.ensures ∙ ap (λ command. Some (seen command)) c.in-Some-Asm.field-0-is in
    let told = g.H.Shelf.held c.args.shelf.now in
    let words = map string_bytes c.args.words.now in
    subst (λ (t : Option Files). Keeps words t (g.H.Shelf.held c.written-in-Some-Asm.new.shelf) (g.H.Shelf.faults c.args.shelf.now) (g.H.Shelf.faults c.written-in-Some-Asm.new.shelf) c.written-in-Some-Asm.result.reason) c.module_bytes-bytes.ensures.kept
    (c.written-in-Some-Asm.ensures.shelf words (g.H.Shelf.faults c.args.shelf.now) c.module_bytes-bytes.ensures.never_falls
    (subst (λ (t : Option Files). IsToWrite words t c.in-Some-Asm.out.now c.module_bytes-bytes.result) (sym c.module_bytes-bytes.ensures.kept)
    (to_write words told (Asm c.in-Some-Asm.text.now c.in-Some-Asm.out.now) is (λ files. asm_verdict files c.in-Some-Asm.text.now c.in-Some-Asm.out.now) (λ files verdict e. e) (λ files verdict e. e) c.in-Some-Asm.out.now c.module_bytes-bytes.result (λ files held. c.module_bytes-bytes.ensures.told files c.in-Some-Asm.out.now held))))

pub returns-in-Ok-clause-counts : goal.returns-in-Ok-clause-counts
returns-in-Ok-clause-counts g c =
    ran_counts c.run.ensures.0 c.run.result.reason (g.H.Shelf.faults c.args.shelf.now) (g.H.Shelf.faults c.load.new.shelf) c.run.ensures.1 c.in-Ok.ensures.no_fault

pub returns-in-Ok-clause-shelf : goal.returns-in-Ok-clause-shelf
returns-in-Ok-clause-shelf g c =
    ran_keeps (map string_bytes c.args.words.now) (g.H.Shelf.held c.args.shelf.now) (g.H.Shelf.held c.load.new.shelf) (g.H.Shelf.faults c.args.shelf.now) (g.H.Shelf.faults c.load.new.shelf) c.run.ensures.0 c.run.result.reason c.run.ensures.1 c.in-Ok.ensures.kept
