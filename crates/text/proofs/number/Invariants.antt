-- `text::number` reads a numeral byte by byte. The invariant: the value is that of the digits read, bounded. Assumes nothing.
use Rattle.std.proofs.Common.{◌≡◌, min, take}
use Rattle.std.specs.Str.Parse.{digits_value}
use Rattle.text.proofs.number.Given as goal

abbrev pub invariant-loop-byte : goal.invariant-loop-byte
invariant-loop-byte l = l.value ≡ min (digits_value 10 (take l.byte-index l.word)) 1000000000000000000
