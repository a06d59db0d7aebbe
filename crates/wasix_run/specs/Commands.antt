-- A command without where its names lie in memory.
use Rattle.wasix_run.specs.Line as words
use Rattle.wasix_run.specs.declared.line.Command.{Command}
use Rattle.wasix_run.specs.declared.line.Command.TheVariants.{One, Pack, Asm}

abbrev pub seen : Command → words.Command
seen (One file) = words.One file.now
seen (Pack list out) = words.Pack list.now out.now
seen (Asm text out) = words.Asm text.now out.now
