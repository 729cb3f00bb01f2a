use Rattle.std.proofs.Common.{rules, ◌≡◌, Err, map, subst}
use Rattle.csv.specs.Records.{fields_of}
use Rattle.edr_csv.specs.Observations.{IsSeven}
use Rattle.edr_csv.proofs.ReadLemmas.{behind_on, is_behind, right_on, row_is, wrong_here}
use Rattle.edr_csv.proofs.reading.read_observations.Goals as goal

pub read_observation-requires : goal.read_observation-requires
read_observation-requires c =
    let row = row_is c.args.records.now c.loop-place.place c.index-records-place.result c.loop-place-test.true c.index-records-place.is in
    subst IsSeven row (c.requires.sevens c.loop-place.place (is_behind c.args.records.now c.loop-place.place c.loop-place.auto.place c.loop-place-test.true))

pub returns-in_err-read_observation : goal.returns-in_err-read_observation
returns-in_err-read_observation c =
    let rows = map fields_of c.args.records.now in
    let place = c.loop-place.place in
    let row = row_is c.args.records.now place c.index-records-place.result c.loop-place-test.true c.index-records-place.is in
    let same : c.from_residual.result ≡ Err c.in_err-read_observation.field-0.0 = search rules in
    rw same (wrong_here rows place c.in_err-read_observation.field-0.0 c.loop-place.invariant.right (is_behind c.args.records.now place c.loop-place.auto.place c.loop-place-test.true)
    (rw row c.in_err-read_observation.ensures))

pub loop-place-preserved : goal.loop-place-preserved
loop-place-preserved c =
    let rows = map fields_of c.args.records.now in
    let place = c.loop-place.place in
    let row = row_is c.args.records.now place c.index-records-place.result c.loop-place-test.true c.index-records-place.is in
    let observation = c.in_ok-read_observation.field-0 in
    let here = rw (← row) at c.in_ok-read_observation.ensures in
    record {
      behind = rw c.in_ok-push.ensures.items (behind_on rows place c.loop-place.observations.items observation c.loop-place.invariant.behind here);
      right = right_on rows place observation c.loop-place.invariant.right here;
    }
