use Rattle.std.proofs.Common.{sym, ◌∙◌}
use Rattle.edr_query.proofs.PlainLemmas.{as_written}
use Rattle.edr_query.proofs.pairs.read_name.Goals as goal

pub returns-in-Some : goal.returns-in-Some
returns-in-Some c = as_written c.args.raw.now c.in-Some.parameter (sym c.parameter_of.ensures ∙ c.in-Some.is)
