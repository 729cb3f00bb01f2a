use Rattle.std.proofs.Common.{pos, ◌+ℤ◌, ◌≤ℤ◌, arith}
use Rattle.std.proofs.lemmas.Int.{ints}
use Rattle.edr_chunk.proofs.SampleLists.{floor_back, have_codes}
use Rattle.edr_chunk.proofs.packed.codes_from.Goals as goal

pub codes_of-requires : goal.codes_of-requires
codes_of-requires c =
    let floor = c.args.floor in
    let greatest = c.args.greatest in
    let floor_fits = c.ranges.floor in
    let greatest_fits = c.ranges.greatest in
    let floor_in = c.requires.floor in
    let greatest_in = c.requires.greatest in
    let high : greatest ≤ℤ (floor +ℤ pos 255) = omega (arith, ints, c.if-most.true) in
    record { floor = floor_back floor floor_in; samples = c.requires.samples; fits = have_codes 255 floor greatest c.args.values.now floor_fits c.requires.above high }

pub codes_of-requires-then-most-2 : goal.codes_of-requires-then-most-2
codes_of-requires-then-most-2 c =
    let floor = c.args.floor in
    let greatest = c.args.greatest in
    let floor_fits = c.ranges.floor in
    let greatest_fits = c.ranges.greatest in
    let floor_in = c.requires.floor in
    let greatest_in = c.requires.greatest in
    let high : greatest ≤ℤ (floor +ℤ pos 65_535) = omega (arith, ints, c.if-most-2.true) in
    record { floor = floor_back floor floor_in; samples = c.requires.samples; fits = have_codes 65_535 floor greatest c.args.values.now floor_fits c.requires.above high }

pub codes_of-requires-then-most-le16777215 : goal.codes_of-requires-then-most-le16777215
codes_of-requires-then-most-le16777215 c =
    let floor = c.args.floor in
    let greatest = c.args.greatest in
    let floor_fits = c.ranges.floor in
    let greatest_fits = c.ranges.greatest in
    let floor_in = c.requires.floor in
    let greatest_in = c.requires.greatest in
    let high : greatest ≤ℤ (floor +ℤ pos 16_777_215) = omega (arith, ints, c.if-most-le16777215.true) in
    record { floor = floor_back floor floor_in; samples = c.requires.samples; fits = have_codes 16_777_215 floor greatest c.args.values.now floor_fits c.requires.above high }

pub codes_of-requires-then-most-3 : goal.codes_of-requires-then-most-3
codes_of-requires-then-most-3 c =
    let floor = c.args.floor in
    let greatest = c.args.greatest in
    let floor_fits = c.ranges.floor in
    let greatest_fits = c.ranges.greatest in
    let floor_in = c.requires.floor in
    let greatest_in = c.requires.greatest in
    let high : greatest ≤ℤ (floor +ℤ pos 4_294_967_295) = omega (arith, ints, c.if-most-3.true) in
    record { floor = floor_back floor floor_in; samples = c.requires.samples; fits = have_codes 4_294_967_295 floor greatest c.args.values.now floor_fits c.requires.above high }

pub codes_of-requires-else-most-3 : goal.codes_of-requires-else-most-3
codes_of-requires-else-most-3 c = record { floor = floor_back c.args.floor c.requires.floor; samples = c.requires.samples; fits = c.requires.samples }
