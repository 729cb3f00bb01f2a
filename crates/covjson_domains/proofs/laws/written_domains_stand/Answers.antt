use Rattle.covjson_domains.proofs.WrittenDomains.{domain_written}
use Rattle.covjson_domains.proofs.laws.written_domains_stand.Goals as goal

pub returns : goal.returns
returns c = domain_written c.written_times_are_instants.ensures
