use Rattle.std.proofs.Common.{rules, sym, subst}
use Rattle.csv.specs.Records.{fields_of}
use Rattle.edr_csv.specs.declared.observations.Column.TheVariants as column
use Rattle.edr_csv.specs.Observations.{HasForm, field_of}
use Rattle.edr_csv.proofs.FormLemmas.{wrong_time, wrong_parameter, wrong_value}
use Rattle.edr_csv.proofs.forms.read_numbers.Goals as goal

pub returns-in_default-read_instant : goal.returns-in_default-read_instant
returns-in_default-read_instant c =
    let fields = fields_of c.args.record.now in
    let station : HasForm column.Station (field_of column.Station fields) = search rules in
    let label : HasForm column.Label (field_of column.Label fields) = search rules in
    let x : HasForm column.X (field_of column.X fields) = subst (HasForm column.X) c.field-3.ensures (c.in-Some.x, c.in-Some.ensures) in
    let y : HasForm column.Y (field_of column.Y fields) = subst (HasForm column.Y) c.field-4.ensures (c.in-Some-read_coordinate.y, c.in-Some-read_coordinate.ensures) in
    let bad : ¬ (HasForm column.T c.field-5.result.now) = λ t. c.in_default-read_instant.ensures t.0 t.1 in
    wrong_time fields station label x y (λ t. bad (subst (HasForm column.T) (sym c.field-5.ensures) t))

pub returns-then-not-is_name-2 : goal.returns-then-not-is_name-2
returns-then-not-is_name-2 c =
    let fields = fields_of c.args.record.now in
    let station : HasForm column.Station (field_of column.Station fields) = search rules in
    let label : HasForm column.Label (field_of column.Label fields) = search rules in
    let x : HasForm column.X (field_of column.X fields) = subst (HasForm column.X) c.field-3.ensures (c.in-Some.x, c.in-Some.ensures) in
    let y : HasForm column.Y (field_of column.Y fields) = subst (HasForm column.Y) c.field-4.ensures (c.in-Some-read_coordinate.y, c.in-Some-read_coordinate.ensures) in
    let t : HasForm column.T (field_of column.T fields) = subst (HasForm column.T) c.field-5.ensures (c.in-Some-read_instant.t, c.in-Some-read_instant.ensures) in
    wrong_parameter fields station label x y t (search rules)

pub returns-in_default-read_value : goal.returns-in_default-read_value
returns-in_default-read_value c =
    let fields = fields_of c.args.record.now in
    let station : HasForm column.Station (field_of column.Station fields) = search rules in
    let label : HasForm column.Label (field_of column.Label fields) = search rules in
    let x : HasForm column.X (field_of column.X fields) = subst (HasForm column.X) c.field-3.ensures (c.in-Some.x, c.in-Some.ensures) in
    let y : HasForm column.Y (field_of column.Y fields) = subst (HasForm column.Y) c.field-4.ensures (c.in-Some-read_coordinate.y, c.in-Some-read_coordinate.ensures) in
    let t : HasForm column.T (field_of column.T fields) = subst (HasForm column.T) c.field-5.ensures (c.in-Some-read_instant.t, c.in-Some-read_instant.ensures) in
    let parameter : HasForm column.Parameter (field_of column.Parameter fields) = search rules in
    let bad : ¬ (HasForm column.Value c.field-7.result.now) = λ v. c.in_default-read_value.ensures v.0 v.1 in
    wrong_value fields station label x y t parameter (λ v. bad (subst (HasForm column.Value) (sym c.field-7.ensures) v))
