use Rattle.covjson_domains.proofs.DomainRowLaws.{rows_are_what_stands}
use Rattle.covjson_domains.proofs.laws.domain_rows_are_what_stands.Goals as goal

pub returns : goal.returns
returns c = rows_are_what_stands c.instants_are_read.ensures
