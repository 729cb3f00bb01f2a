use Rattle.edr_axes.proofs.SeriesLemmas.{level_fits}
use Rattle.std.proofs.Common.{ℕ, List, Contains, sym, subst, to_z-of_z}
use Rattle.edr_base.specs.CutLaws.{Contains-between}
use Rattle.edr_axes.proofs.LevelsLemmas.{list_levels, no_levels, no_list}
use Rattle.edr_axes.proofs.levels.read_levels.Goals as goal

pub returns-clause-text : goal.returns-clause-text
returns-clause-text c = (list_levels c.args.text.now c.in_ok-levels.levels.items c.of.result c.of.ensures c.in_default.ensures c.in_ok-levels.ensures.ok).0

pub returns-clause-levels : goal.returns-clause-levels
returns-clause-levels c = (list_levels c.args.text.now c.in_ok-levels.levels.items c.of.result c.of.ensures c.in_default.ensures c.in_ok-levels.ensures.ok).1

pub returns-in_default-cut_at-clause-none : goal.returns-in_default-cut_at-clause-none
returns-in_default-cut_at-clause-none c e =
    no_levels c.args.text.now c.in_default.ensures c.in_default-range_of.ensures c.in_default-series_of.ensures (no_list c.args.text.now c.in_default.ensures c.in_default-cut_at.ensures)

pub returns-in_err-levels-clause-memory : goal.returns-in_err-levels-clause-memory
returns-in_err-levels-clause-memory c e =
    let cut = c.in-Some-cut_at.ensures in
    subst (λ (t : List ℕ). Contains t 44) (sym cut.text_is) (Contains-between 44 _ _)

pub returns-in-Some-series_of-clause-text : goal.returns-in-Some-series_of-clause-text
returns-in-Some-series_of-clause-text c =
    let series = c.in-Some-series_of.ensures in
    let n_fits = level_fits c.in-Some-series_of.n series.count_is.within in
    let first_fits = level_fits c.in-Some-series_of.first series.first_is.within in
    let step_fits = level_fits c.in-Some-series_of.step series.step_is.within in
    simp to_z-of_z series

pub returns-in-Some-range_of-clause-text : goal.returns-in-Some-range_of-clause-text
returns-in-Some-range_of-clause-text c =
    let range = c.in-Some-range_of.ensures in
    let low_fits = level_fits c.in-Some-range_of.low range.low_is.within in
    let high_fits = level_fits c.in-Some-range_of.high range.high_is.within in
    simp to_z-of_z range
