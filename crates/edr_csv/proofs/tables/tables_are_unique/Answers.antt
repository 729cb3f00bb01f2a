use Rattle.edr_csv.proofs.TableLemmas.{tables_unique}
use Rattle.edr_csv.proofs.tables.tables_are_unique.Goals as goal

pub returns : goal.returns
returns c = tables_unique
