-- What is wrong with a line, where its numbers or its file cannot be read.
use Rattle.lines.specs.declared.numbers.NumbersError.{NumbersError}
use Rattle.lines.specs.declared.numbers.NumbersError.TheVariants as numbers
use Rattle.lines.specs.declared.hex.HexError.{HexError}
use Rattle.lines.specs.declared.hex.HexError.TheVariants as hex
use Rattle.requests.specs.declared.faults.Fault.{Fault}
use Rattle.requests.specs.declared.faults.Fault.TheVariants.{NotDecimal, TooLarge, ManyWords, NotHex, LongLine}

abbrev pub numbers_fault : NumbersError → Fault
numbers_fault numbers.Bad = NotDecimal
numbers_fault numbers.Large = TooLarge
numbers_fault numbers.Many = ManyWords

abbrev pub hex_fault : HexError → Fault
hex_fault hex.Bad = NotHex
hex_fault hex.Many = LongLine
