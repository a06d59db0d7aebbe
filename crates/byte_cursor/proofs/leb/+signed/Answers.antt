use Rattle.std.proofs.Common.{get_or, ◌^◌, ◌-◌, arith}
use Rattle.std.specs.Prelude.{FitsSigned}
use Rattle.std.specs.Int.{w64}
use Rattle.std.proofs.lemmas.Int.{ints, to_z-of_z}
use Rattle.byte_cursor.specs.Integers.{signed_last, signed_joined}
use Rattle.byte_cursor.proofs.Laws.{reads_on}
use Rattle.byte_cursor.proofs.Bounds.{signed_limit, product_fits, written}
use Rattle.byte_cursor.proofs.leb.+signed.Goals as goal

pub overflow_mul-result : goal.overflow_mul-result
overflow_mul-result t c =
    let l = signed_limit c.args.bits c.if-bits-le7.false c.requires.high in
    let h = c.in_ok-high-in-len1-up.high in
    let f : FitsSigned w64 h = omega (arith, ints, l, c.in_ok-high-in-len1-up.ensures.fits) in
    rw (to_z-of_z w64 h f) (product_fits h (2 ^ (c.args.bits - 7 - 1)) (2 ^ (c.args.bits - 1)) l.0 l.1 c.in_ok-high-in-len1-up.ensures.fits)

pub returns-in_ok-high-in-len1-up-clause-reads : goal.returns-in_ok-high-in-len1-up-clause-reads
returns-in_ok-high-in-len1-up-clause-reads t c =
    let l = signed_limit c.args.bits c.if-bits-le7.false c.requires.high in
    let h = c.in_ok-high-in-len1-up.high in
    let b = get_or c.args.bytes.now 0 0 in
    let w = written h c.from.result (2 ^ (c.args.bits - 7 - 1)) (2 ^ (c.args.bits - 1)) b l.0 l.1 c.in_ok-high-in-len1-up.ensures.fits c.if-byte-lt128.false (omega (arith, c.type_inv.bytes 0)) c.from.ensures in
    rw w.0 (reads_on signed_last signed_joined c.args.bits c.args.bytes.now h c.in_ok-high-in-len1-up.rest.now c.in-len1-up.len_at_least c.if-byte-lt128.false c.if-bits-le7.false c.in_ok-high-in-len1-up.ensures.reads)

pub returns-in_ok-high-in-len1-up-clause-fits : goal.returns-in_ok-high-in-len1-up-clause-fits
returns-in_ok-high-in-len1-up-clause-fits t c =
    let l = signed_limit c.args.bits c.if-bits-le7.false c.requires.high in
    let h = c.in_ok-high-in-len1-up.high in
    let b = get_or c.args.bytes.now 0 0 in
    let w = written h c.from.result (2 ^ (c.args.bits - 7 - 1)) (2 ^ (c.args.bits - 1)) b l.0 l.1 c.in_ok-high-in-len1-up.ensures.fits c.if-byte-lt128.false (omega (arith, c.type_inv.bytes 0)) c.from.ensures in
    rw w.0 w.1
