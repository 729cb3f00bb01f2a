use Rattle.covjson_domains.proofs.DomainRowLaws.{domain_rows}
use Rattle.covjson_domains.proofs.laws.domain_answers_follow_rows.Goals as goal

pub returns : goal.returns
returns c = λ found tree. (domain_rows c.instants_are_read.ensures found tree).follows
