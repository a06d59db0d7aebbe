-- the shelf has one more file and less room
use Rattle.std.proofs.Common.{refl}
use Rattle.wx_types.proofs.FileLemmas.{file_named-same, file_named-other}
use Rattle.wx_types.specs.ShelfLog.{files_at}
use Rattle.wx_types.proofs.memory_shelf.MemShelfShelf.write.Goals as goal

pub returns-clause-ok : goal.returns-clause-ok
returns-clause-ok c = rw (← c.self.view_is, c.count_call.ensures, c.append.ensures.files, c.as_bytes.ensures.value) refl

pub returns-clause-written : goal.returns-clause-written
returns-clause-written c =
    rw (c.append.ensures.files, c.as_bytes.ensures.value)
    (file_named-same (files_at c.self.inside.log.items c.self.inside.spots.items) c.args.name.now c.args.bytes.now)

pub returns-clause-others : goal.returns-clause-others
returns-clause-others c =
    rw (← c.self.view_is, c.append.ensures.files, c.as_bytes.ensures.value)
    (λ other apart. file_named-other (files_at c.self.inside.log.items c.self.inside.spots.items) c.args.name.now c.args.bytes.now other apart)
