use Rattle.edr_base.specs.NumberLaws.{numeral-unique, whole-unique, numeral-decimal}
use Rattle.edr_base.proofs.numbers.numerals_tell_numbers.Goals as goal

pub returns : goal.returns
returns c = record { numeral = numeral-unique; whole = whole-unique; written = numeral-decimal }
