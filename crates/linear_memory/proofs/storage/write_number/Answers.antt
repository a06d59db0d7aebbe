use Rattle.std.proofs.Common.{◌≡◌, ◌%◌, ◌∙◌, arith}
use Rattle.linear_memory.proofs.StorageLaws.{bytes_of-low, bytes_of-mod, set-first, widest}
use Rattle.linear_memory.specs.Storage.{bytes_of}
use Rattle.linear_memory.proofs.storage.write_number.Goals as goal

pub returns-in-1 : goal.returns-in-1
unfolding bytes_of
returns-in-1 c =
    let set = set-first c.args.bytes.now (c.args.number % 256) (omega arith) in
    rw (c.in-1.is, bytes_of) (set)

pub returns-in-2 : goal.returns-in-2
returns-in-2 c = let e = bytes_of-low 2 (c.args.number % 65536) ∙ bytes_of-mod 2 c.args.number in rw (c.in-2.is, ← e) c.write_u16.ensures

pub returns-in-4 : goal.returns-in-4
returns-in-4 c = let e = bytes_of-low 4 (c.args.number % 4294967296) ∙ bytes_of-mod 4 c.args.number in rw (c.in-4.is, ← e) c.write_u32.ensures

pub returns-in_default : goal.returns-in_default
returns-in_default c =
    let w : c.args.width ≡ 8 = widest _ c.requires.access (omega arith) (omega arith) (omega arith) in
    rw (w, ← bytes_of-low 8 c.args.number) c.write_u64.ensures
