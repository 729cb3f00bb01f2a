use Rattle.edr_axes.specs.Levels.{IsRangeText}
use Rattle.edr_axes.proofs.SeriesLemmas.{level_fits}
use Rattle.std.proofs.Common.{arith, to_z-of_z}
use Rattle.std.proofs.lemmas.Int.{ints}
use Rattle.edr_axes.proofs.LevelTexts.{range_contains}
use Rattle.edr_axes.proofs.LevelsLemmas.{range_parts, range_high}
use Rattle.edr_axes.proofs.levels.range_of.Goals as goal

pub returns-in_err-front : goal.returns-in_err-front
returns-in_err-front c = rw c.from_residual.ensures (λ low high is. c.in_err-front.ensures (range_contains c.args.text.now low high is))

pub returns-in_err-low : goal.returns-in_err-low
returns-in_err-low c = rw c.from_residual-in_err-low.ensures (λ low high is. c.in_err-low.ensures low (range_parts c.args.text.now _ _ low high c.in_ok-front.ensures is).0)

pub returns-in_err-high : goal.returns-in_err-high
returns-in_err-high c = rw c.from_residual-in_err-high.ensures (λ low high is. c.in_err-high.ensures high (range_parts c.args.text.now _ _ low high c.in_ok-front.ensures is).1)

pub returns-then-low-high : goal.returns-then-low-high
returns-then-low-high c =
    let low_in = c.in_ok-low.ensures.within in
    let high_in = c.in_ok-high.ensures.within in
    range_high c.args.text.now _ _ c.in_ok-low.low c.in_ok-high.high c.in_ok-front.ensures c.in_ok-low.ensures c.in_ok-high.ensures (omega (arith, ints, c.if-low-high.true))

pub returns : goal.returns
returns c =
    let low_in = c.in_ok-low.ensures.within in
    let high_in = c.in_ok-high.ensures.within in
    let low_fits = level_fits c.in_ok-low.low low_in in
    let high_fits = level_fits c.in_ok-high.high high_in in
    let range : IsRangeText c.args.text.now c.in_ok-low.low c.in_ok-high.high =
    record {
      front = c.in_ok-front.front.now;
      back = c.in_ok-front.back.now;
      text_is = c.in_ok-front.ensures.text_is;
      low_is = c.in_ok-low.ensures;
      high_is = c.in_ok-high.ensures;
      in_order = omega (arith, ints, c.if-low-high.false);
    } in
    simp to_z-of_z range
