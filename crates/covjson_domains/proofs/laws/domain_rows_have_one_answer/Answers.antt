use Rattle.covjson_checks.specs.RowLaws.{answer_is_one}
use Rattle.covjson_domains.specs.DomainRows.{DomainRows}
use Rattle.covjson_domains.specs.DomainAnswers.{domain_of}
use Rattle.covjson_domains.proofs.DomainRowLaws.{domain_rows}
use Rattle.covjson_domains.proofs.laws.domain_rows_have_one_answer.Goals as goal

pub returns : goal.returns
returns c = λ found tree. answer_is_one (DomainRows found tree) (domain_of found tree) (domain_rows c.instants_are_read.ensures found tree)
