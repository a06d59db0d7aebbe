-- what the digits so far and those that are left spell is what all spell
use Rattle.std.proofs.Common.{◌≡◌, ◌^◌, ◌<◌, drop}
use Rattle.wat_words.specs.Numbers.{below, digits, digits_behind}
use Rattle.wat_words.proofs.numbers.digits.Given as goal

abbrev pub invariant-loop-byte : goal.invariant-loop-byte
invariant-loop-byte l = record {
  spelled : below (2 ^ 64) (digits_behind l.base l.number l.must_come (drop l.byte-index l.bytes)) ≡ below (2 ^ 64) (digits l.base l.bytes);
  fits : l.number < 2 ^ 64;
}
