use Rattle.edr.proofs.NameLemmas.{named}
use Rattle.edr.proofs.commands.is_name.Goals as goal

pub returns-clause-is : goal.returns-clause-is
returns-clause-is c = named c.is_utf8.result c.args.word.now (λ e. c.is_utf8.ensures.0 e) (λ u. c.is_utf8.ensures.1 u)
