use Rattle.std.proofs.Common.{◌≡◌}
use Rattle.edr_samples.specs.Trees.{members_view}
use Rattle.covjson_read.specs.ParameterAnswers.{all_named_objects}
use Rattle.covjson_read.proofs.parameters.all_named_objects.Given as goal

abbrev pub invariant-loop-name : goal.invariant-loop-name
invariant-loop-name l = all_named_objects (members_view l.name-iterator) ≡ all_named_objects (members_view l.members.entries)
