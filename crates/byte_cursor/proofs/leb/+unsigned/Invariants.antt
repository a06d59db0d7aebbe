use Rattle.byte_cursor.proofs.leb.+unsigned.Given as goal

-- the bits that are left
abbrev pub decreases-unsigned : goal.decreases-unsigned
decreases-unsigned l = l.bits
