use Rattle.std.proofs.Common.{rules, ◌≡◌, Err, length, map}
use Rattle.std.proofs.lemmas.List.{length-map}
use Rattle.csv.specs.Records.{fields_of}
use Rattle.edr_csv.specs.Observations.{IsHeaded}
use Rattle.edr_csv.specs.Forms.{AreSevens}
use Rattle.edr_csv.proofs.ReadLemmas.{bad_field}
use Rattle.edr_csv.proofs.FaultLemmas.{keyed, own_fault}
use Rattle.edr_csv.proofs.reading.read_all.Goals as goal

pub returns-in_err-observations : goal.returns-in_err-observations
returns-in_err-observations c =
    let rows = map fields_of c.args.records.now in
    let headed : IsHeaded rows = search rules in
    let sevens : AreSevens rows = search rules in
    let same : c.from_residual.result ≡ Err c.in_err-observations.field-0.0 = search rules in
    rw same (bad_field rows headed sevens c.in_err-observations.field-0.0 c.in_err-observations.ensures)

pub check_observations-requires : goal.check_observations-requires
check_observations-requires c = rw c.deref.ensures.value (keyed (map fields_of c.args.records.now) (length c.args.records.now) c.in_ok-observations.observations.items c.in_ok-observations.ensures)

pub returns-in_err-check_observations : goal.returns-in_err-check_observations
returns-in_err-check_observations c =
    let rows = map fields_of c.args.records.now in
    let headed : IsHeaded rows = search rules in
    let sevens : AreSevens rows = search rules in
    let same : c.from_residual-in_err-check_observations.result ≡ Err c.in_err-check_observations.field-0.0 = search rules in
    let are = rw (← length-map c.args.records.now fields_of) at c.in_ok-observations.ensures in
    rw same (own_fault c.numerals_tell_numbers.ensures.whole c.instants_are_unique.ensures rows headed sevens c.in_ok-observations.observations.items are c.in_err-check_observations.field-0.0 (rw c.deref.ensures.value at c.in_err-check_observations.ensures))
