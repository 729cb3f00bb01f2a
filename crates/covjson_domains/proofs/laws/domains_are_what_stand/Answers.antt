use Rattle.covjson_domains.proofs.DomainLaws.{domain_stands, domain_answers}
use Rattle.covjson_domains.proofs.laws.domains_are_what_stand.Goals as goal

pub returns : goal.returns
returns c = λ found tree read. (domain_stands c.instants_are_read.ensures found tree read, domain_answers c.instants_are_read.ensures found tree read)
