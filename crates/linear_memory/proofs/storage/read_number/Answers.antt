-- Each width reads as `byteorder` does.
use Rattle.std.proofs.Common.{◌≡◌, arith}
use Rattle.linear_memory.proofs.StorageLaws.{number_of-take, widest}
use Rattle.linear_memory.proofs.storage.read_number.Goals as goal

pub returns-in-1-clause-value : goal.returns-in-1-clause-value
returns-in-1-clause-value c = let e = number_of-take 1 c.args.bytes.now in rw c.in-1.is (omega (arith, e))

pub returns-in-2-clause-value : goal.returns-in-2-clause-value
returns-in-2-clause-value c = let e = number_of-take 2 c.args.bytes.now in rw c.in-2.is (cc)

pub returns-in-4-clause-value : goal.returns-in-4-clause-value
returns-in-4-clause-value c = let e = number_of-take 4 c.args.bytes.now in rw c.in-4.is (cc)

pub returns-in_default-clause-value : goal.returns-in_default-clause-value
returns-in_default-clause-value c =
    let w : c.args.width ≡ 8 = widest _ c.requires.access (omega arith) (omega arith) (omega arith) in
    let e = number_of-take 8 c.args.bytes.now in rw w (cc)
