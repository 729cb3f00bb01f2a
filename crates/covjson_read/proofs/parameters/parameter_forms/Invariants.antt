use Rattle.std.proofs.Common.{◌≡◌}
use Rattle.edr_samples.specs.Trees.{members_view}
use Rattle.covjson_read.specs.ParameterAnswers.{parameter_forms}
use Rattle.covjson_read.proofs.parameters.parameter_forms.Given as goal

abbrev pub invariant-loop-tree : goal.invariant-loop-tree
invariant-loop-tree l = parameter_forms (members_view l.tree-iterator) ≡ parameter_forms (members_view l.members.entries)
