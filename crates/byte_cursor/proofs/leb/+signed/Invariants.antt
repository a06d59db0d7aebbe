use Rattle.byte_cursor.proofs.leb.+signed.Given as goal

-- the bits that are left
abbrev pub decreases-signed : goal.decreases-signed
decreases-signed l = l.bits
