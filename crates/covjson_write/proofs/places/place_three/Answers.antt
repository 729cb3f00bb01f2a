use Rattle.std.proofs.Common.{◌/◌, arith}
use Rattle.std.proofs.lemmas.Fmt.{length-decimal-le}
use Rattle.covjson_write.proofs.PlaceLemmas.{more_digits}
use Rattle.covjson_write.proofs.places.place_three.Goals as goal

pub place_digit-requires-clause-room : goal.place_digit-requires-clause-room
place_digit-requires-clause-room c =
    let placed = c.place_two-next.ensures in
    omega (arith, placed.moved, placed.len, length-decimal-le 2 (c.args.number / 10) (omega arith) (omega (arith, c.requires.three.1)) (omega (arith, c.requires.three.1)), c.requires.room)

pub returns : goal.returns
returns c = more_digits c.args.number (omega (arith, c.requires.three.0)) c.requires.three.1 c.place_two-next.ensures c.place_digit.ensures
