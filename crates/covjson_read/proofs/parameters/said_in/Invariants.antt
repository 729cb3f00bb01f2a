use Rattle.std.proofs.Common.{◌≡◌, None}
use Rattle.edr_samples.specs.Trees.{members_view}
use Rattle.covjson_read.specs.ParameterAnswers.{said_in}
use Rattle.covjson_read.proofs.parameters.said_in.Given as goal

abbrev pub invariant-loop-lang : goal.invariant-loop-lang
invariant-loop-lang l = said_in None (members_view l.lang-iterator) ≡ said_in None (members_view l.members.entries)
