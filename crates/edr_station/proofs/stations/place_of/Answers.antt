use Rattle.std.proofs.Common.{◌≡◌, ◌+◌, ◌-◌, ◌/◌, ◌<◌, length, Less, Equal, Greater, sym, ap, ◌∙◌, arith}
use Rattle.edr_base.specs.Names.{order}
use Rattle.edr_station.proofs.SortedPlaces.{below_to, above_from, found_at}
use Rattle.edr_station.proofs.stations.place_of.Goals as goal

pub loop-low-preserved-in-Less : goal.loop-low-preserved-in-Less
loop-low-preserved-in-Less c =
    let middle = c.loop-low.low + (c.loop-low.high - c.loop-low.low) / 2 in
    let s = c.at.result.now in
    let inside : middle < length c.args.shelf.now = omega (arith, c.loop-low.invariant.1, c.loop-low-test.true) in
    let less : order s.id c.args.id.now ≡ Less = ap (λ k. order k c.args.id.now) (sym c.id.ensures.id) ∙ (sym c.cmp.ensures ∙ c.in-Less.is) in
    (omega (arith, c.loop-low-test.true), c.loop-low.invariant.1, below_to c.args.id.now c.args.shelf.now c.requires middle s inside c.at.ensures less, c.loop-low.invariant.3)

pub returns-in-Equal : goal.returns-in-Equal
returns-in-Equal c =
    let middle = c.loop-low.low + (c.loop-low.high - c.loop-low.low) / 2 in
    let s = c.at.result.now in
    let inside : middle < length c.args.shelf.now = omega (arith, c.loop-low.invariant.1, c.loop-low-test.true) in
    let same : order s.id c.args.id.now ≡ Equal = ap (λ k. order k c.args.id.now) (sym c.id.ensures.id) ∙ (sym c.cmp.ensures ∙ c.in-Equal.is) in
    record { place = (inside, found_at c.args.id.now c.args.shelf.now c.requires middle s inside c.at.ensures same); fits = c.len-high.ensures.fits }

pub loop-low-preserved : goal.loop-low-preserved
loop-low-preserved c =
    let middle = c.loop-low.low + (c.loop-low.high - c.loop-low.low) / 2 in
    let s = c.at.result.now in
    let inside : middle < length c.args.shelf.now = omega (arith, c.loop-low.invariant.1, c.loop-low-test.true) in
    let more : order s.id c.args.id.now ≡ Greater = ap (λ k. order k c.args.id.now) (sym c.id.ensures.id) ∙ (sym c.cmp.ensures ∙ c.in-Greater.is) in
    (omega (arith, c.loop-low-test.true), omega (arith, inside), c.loop-low.invariant.2, above_from c.args.id.now c.args.shelf.now c.requires middle s inside c.at.ensures more)
