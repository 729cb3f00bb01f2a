use Rattle.std.proofs.Common.{refl}
use Rattle.edr_csv.proofs.FormLemmas.{too_large}
use Rattle.edr_csv.proofs.forms.read_coordinate.Goals as goal

pub returns-in-TooLarge : goal.returns-in-TooLarge
returns-in-TooLarge c x is = too_large c.numerals_tell_numbers.ensures.whole c.args.text.now _ 100_000_000 refl c.in-TooLarge.ensures x is.0 is.1

pub returns-in-NotWhole : goal.returns-in-NotWhole
returns-in-NotWhole c x is = c.in-NotWhole.ensures x is.0
