use Rattle.std.proofs.Common.{◌≡◌}
use Rattle.edr_samples.specs.Trees.{members_view}
use Rattle.covjson_read.specs.ParameterAnswers.{all_texts}
use Rattle.covjson_read.proofs.parameters.all_texts.Given as goal

abbrev pub invariant-loop-text : goal.invariant-loop-text
invariant-loop-text l = all_texts (members_view l.text-iterator) ≡ all_texts (members_view l.members.entries)
