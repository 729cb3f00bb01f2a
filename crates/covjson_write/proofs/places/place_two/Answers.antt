use Rattle.covjson_write.proofs.PlaceLemmas.{two_digits}
use Rattle.covjson_write.proofs.places.place_two.Goals as goal

pub returns : goal.returns
returns c = two_digits c.args.number c.requires.two.0 c.requires.two.1 c.place_digit-next.ensures c.place_digit.ensures
