use Rattle.csv.specs.Records.{fields_of}
use Rattle.edr_csv.proofs.FormLemmas.{columns_are}
use Rattle.edr_csv.proofs.forms.is_header.Goals as goal

pub returns : goal.returns
returns c =
    let same = columns_are (fields_of c.args.record.now) in
    (λ is. same.0 (c.has_columns.ensures.0 is), λ is. c.has_columns.ensures.1 (same.1 is))
