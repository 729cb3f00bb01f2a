use Rattle.std.proofs.Common.{arith, to_z-of_z}
use Rattle.jiff_core.proofs.SignedLemmas.{signed_arith}
use Rattle.edr_axes.proofs.SeriesLemmas.{series_fits, series_test}
use Rattle.edr_axes.proofs.levels.is_series.Goals as goal

pub returns : goal.returns
returns c =
    let n = c.args.n in let first = c.args.first in let step = c.args.step in
    let n_fits = c.ranges.n in let first_fits = c.ranges.first in let step_fits = c.ranges.step in
    let fits = series_fits n first step c.requires.n_in c.requires.first_in c.requires.step_in in
    let less_fits = fits.less in let product_fits = fits.product in let last_fits = fits.last in
    simp to_z-of_z (series_test n first step (omega (arith, signed_arith, c.if-n-lt1.false)) (omega (arith, signed_arith, c.if-step-lt1.false)))

pub overflow_mul-result : goal.overflow_mul-result
overflow_mul-result c =
    let n = c.args.n in let first = c.args.first in let step = c.args.step in
    let n_fits = c.ranges.n in let step_fits = c.ranges.step in
    let fits = series_fits n first step c.requires.n_in c.requires.first_in c.requires.step_in in
    let less_fits = fits.less in
    simp to_z-of_z fits.product

pub overflow_add-result : goal.overflow_add-result
overflow_add-result c =
    let n = c.args.n in let first = c.args.first in let step = c.args.step in
    let n_fits = c.ranges.n in let first_fits = c.ranges.first in let step_fits = c.ranges.step in
    let fits = series_fits n first step c.requires.n_in c.requires.first_in c.requires.step_in in
    let less_fits = fits.less in let product_fits = fits.product in
    simp to_z-of_z fits.last
