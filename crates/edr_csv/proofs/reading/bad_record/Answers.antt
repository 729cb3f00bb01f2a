use Rattle.std.proofs.Common.{rules, ◌≤◌, length, map, subst, sym, arith}
use Rattle.std.proofs.lemmas.List.{length-map}
use Rattle.csv.specs.Records.{fields_of}
use Rattle.edr_csv.specs.Observations.{IsSeven}
use Rattle.edr_csv.proofs.ReadLemmas.{all_sevens, bad_here, is_behind, row_is, sevens_on}
use Rattle.edr_csv.proofs.reading.bad_record.Goals as goal

pub loop-place-preserved : goal.loop-place-preserved
loop-place-preserved c =
    let row = row_is c.args.records.now c.loop-place.place c.index-records-place.result c.loop-place-test.true c.index-records-place.is in
    let seven : IsSeven (fields_of c.index-records-place.result) = search rules in
    sevens_on (map fields_of c.args.records.now) c.loop-place.place c.loop-place.invariant (subst IsSeven (sym row) seven)

pub returns-then-not-is_seven : goal.returns-then-not-is_seven
returns-then-not-is_seven c =
    let row = row_is c.args.records.now c.loop-place.place c.index-records-place.result c.loop-place-test.true c.index-records-place.is in
    let bad : ¬ (IsSeven (fields_of c.index-records-place.result)) = search rules in
    bad_here (map fields_of c.args.records.now) c.loop-place.place c.loop-place.invariant (is_behind c.args.records.now c.loop-place.place c.loop-place.auto.place c.loop-place-test.true) (λ seven. bad (subst IsSeven row seven))

pub returns : goal.returns
returns c =
    let all : length (map fields_of c.args.records.now) ≤ c.loop-place.place = omega (arith, length-map c.args.records.now fields_of) in
    all_sevens (map fields_of c.args.records.now) c.loop-place.place c.loop-place.invariant all
