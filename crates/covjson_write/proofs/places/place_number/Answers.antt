use Rattle.std.proofs.lemmas.Fmt.{decimal_digit}
use Rattle.covjson_write.proofs.places.place_number.Goals as goal

pub returns-then-number-lt10-clause-text : goal.returns-then-number-lt10-clause-text
returns-then-number-lt10-clause-text c = rw (decimal_digit c.args.number c.if-number-lt10.true) c.place_digit.ensures
