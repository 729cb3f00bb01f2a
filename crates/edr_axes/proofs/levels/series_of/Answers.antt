use Rattle.std.proofs.Common.{to_z-of_z}
use Rattle.edr_base.specs.TestLaws.{holds, fails}
use Rattle.edr_axes.proofs.SeriesLemmas.{level_fits}
use Rattle.edr_axes.proofs.LevelsLemmas.{IsSeriesCut, AreSeriesTexts, series_slash, series_second, series_first, series_parts, series_from, series_wrong}
use Rattle.edr_axes.proofs.levels.series_of.Goals as goal

pub returns-in_err-count : goal.returns-in_err-count
returns-in_err-count c =
    rw c.from_residual-in_err-count.ensures (λ n first step is. c.in_err-count.ensures (series_slash c.args.text.now _ n first step c.in_ok-without_front.ensures is))

pub returns-in_err-start : goal.returns-in_err-start
returns-in_err-start c =
    rw c.from_residual-in_err-start.ensures (λ n first step is. c.in_err-start.ensures (series_second c.args.text.now _ _ _ n first step c.in_ok-without_front.ensures c.in_ok-count.ensures is))

pub returns-in_err-n : goal.returns-in_err-n
returns-in_err-n c =
    rw c.from_residual-in_err-n.ensures (λ n first step is. c.in_err-n.ensures n (series_first c.args.text.now _ _ _ n first step c.in_ok-without_front.ensures c.in_ok-count.ensures is).0)

pub returns-in_err-first : goal.returns-in_err-first
returns-in_err-first c =
    let cut : IsSeriesCut c.args.text.now c.in_ok-count.count.now c.in_ok-start.start.now c.in_ok-start.rise.now =
    record { behind = _; rest = _; letter_is = c.in_ok-without_front.ensures; first_cut = c.in_ok-count.ensures; second_cut = c.in_ok-start.ensures } in
    rw c.from_residual-in_err-first.ensures (λ n first step is. c.in_err-first.ensures first (series_parts c.args.text.now _ _ _ n first step cut is).first_is)

pub returns-in_err-step : goal.returns-in_err-step
returns-in_err-step c =
    let cut : IsSeriesCut c.args.text.now c.in_ok-count.count.now c.in_ok-start.start.now c.in_ok-start.rise.now =
    record { behind = _; rest = _; letter_is = c.in_ok-without_front.ensures; first_cut = c.in_ok-count.ensures; second_cut = c.in_ok-start.ensures } in
    rw c.from_residual-in_err-step.ensures (λ n first step is. c.in_err-step.ensures step (series_parts c.args.text.now _ _ _ n first step cut is).step_is)

pub returns-then-not-is_series : goal.returns-then-not-is_series
returns-then-not-is_series c =
    let n = c.in_ok-n.n in let first = c.in_ok-first.first in let step = c.in_ok-step.step in
    let cut : IsSeriesCut c.args.text.now c.in_ok-count.count.now c.in_ok-start.start.now c.in_ok-start.rise.now =
    record { behind = _; rest = _; letter_is = c.in_ok-without_front.ensures; first_cut = c.in_ok-count.ensures; second_cut = c.in_ok-start.ensures } in
    let are : AreSeriesTexts c.in_ok-count.count.now c.in_ok-start.start.now c.in_ok-start.rise.now n first step =
    record { count_is = c.in_ok-n.ensures; first_is = c.in_ok-first.ensures; step_is = c.in_ok-step.ensures } in
    let n_fits = level_fits n c.in_ok-n.ensures.within in let first_fits = level_fits first c.in_ok-first.ensures.within in let step_fits = level_fits step c.in_ok-step.ensures.within in
    let wrong = simp to_z-of_z at (fails _ _ c.is_series.ensures c.if-not-is_series.true) in
    series_wrong c.args.text.now _ _ _ n first step cut are wrong

pub returns : goal.returns
returns c =
    let n = c.in_ok-n.n in let first = c.in_ok-first.first in let step = c.in_ok-step.step in
    let cut : IsSeriesCut c.args.text.now c.in_ok-count.count.now c.in_ok-start.start.now c.in_ok-start.rise.now =
    record { behind = _; rest = _; letter_is = c.in_ok-without_front.ensures; first_cut = c.in_ok-count.ensures; second_cut = c.in_ok-start.ensures } in
    let are : AreSeriesTexts c.in_ok-count.count.now c.in_ok-start.start.now c.in_ok-start.rise.now n first step =
    record { count_is = c.in_ok-n.ensures; first_is = c.in_ok-first.ensures; step_is = c.in_ok-step.ensures } in
    let n_fits = level_fits n c.in_ok-n.ensures.within in let first_fits = level_fits first c.in_ok-first.ensures.within in let step_fits = level_fits step c.in_ok-step.ensures.within in
    let series = simp to_z-of_z at (holds _ _ c.is_series.ensures c.if-not-is_series.false) in
    simp to_z-of_z (series_from c.args.text.now _ _ _ n first step cut are series)
