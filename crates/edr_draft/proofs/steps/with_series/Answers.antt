use Rattle.std.proofs.Common.{ap, ◌∙◌}
use Rattle.std.proofs.lemmas.Result.{IfOk-weaker}
use Rattle.edr_station.specs.declared.inputs.StationInput.{StationInput}
use Rattle.edr_station.specs.Inputs as inputs
use Rattle.edr_edition.specs.Collections.{with_station}
use Rattle.edr_draft.proofs.SeriesLaws.{fits_input, fits_counts, fits_few, fits_same, fits_alike}
use Rattle.edr_draft.proofs.steps.with_series.Goals as goal

pub input_of-requires-clause-place : goal.input_of-requires-clause-place
input_of-requires-clause-place c = c.requires.fits.domain

pub input_of-requires-clause-times : goal.input_of-requires-clause-times
input_of-requires-clause-times c = c.requires.fits.times

pub with_station-requires-clause-kind : goal.with_station-requires-clause-kind
with_station-requires-clause-kind c = c.requires.fits.kind

pub with_station-requires-clause-input : goal.with_station-requires-clause-input
with_station-requires-clause-input c = fits_input c.args.collection.now c.args.id c.args.label c.args.coverage c.in_ok-input.input c.requires.fits c.requires.coverage c.requires.id c.requires.label c.in_ok-input.ensures

pub with_station-requires-clause-counts : goal.with_station-requires-clause-counts
with_station-requires-clause-counts c = fits_counts c.args.collection.now c.args.id c.args.label c.args.coverage c.in_ok-input.input c.requires.fits c.requires.coverage c.requires.id c.requires.label c.in_ok-input.ensures

pub with_station-requires-clause-few : goal.with_station-requires-clause-few
with_station-requires-clause-few c = fits_few c.args.collection.now c.args.id c.args.label c.args.coverage c.in_ok-input.input c.requires.fits c.requires.coverage c.requires.id c.requires.label c.in_ok-input.ensures

pub with_station-requires-clause-same : goal.with_station-requires-clause-same
with_station-requires-clause-same c = fits_same c.args.collection.now c.args.id c.args.label c.args.coverage c.in_ok-input.input c.requires.fits c.requires.coverage c.requires.id c.requires.label c.in_ok-input.ensures

pub with_station-requires-clause-alike : goal.with_station-requires-clause-alike
with_station-requires-clause-alike c = fits_alike c.args.collection.now c.args.id c.args.label c.args.coverage c.in_ok-input.input c.requires.fits c.requires.coverage c.requires.id c.requires.label c.in_ok-input.ensures

pub returns : goal.returns
returns c =
    IfOk-weaker c.with_station.result _ _ (λ set same. same ∙ ap (λ (input : StationInput). with_station c.args.coverage.parameters (inputs.station_of input) c.args.collection.now) c.in_ok-input.ensures)
    c.with_station.ensures
