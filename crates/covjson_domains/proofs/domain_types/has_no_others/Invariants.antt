use Rattle.std.proofs.Common.{◌≡◌}
use Rattle.edr_samples.specs.Trees.{members_view}
use Rattle.covjson_domains.specs.TypeAnswers as types
use Rattle.covjson_domains.proofs.domain_types.has_no_others.Given as goal

abbrev pub invariant-loop-key : goal.invariant-loop-key
invariant-loop-key l = types.has_no_others l.kind (members_view l.key-iterator) ≡ types.has_no_others l.kind (members_view l.members.entries)
