use Rattle.std.proofs.Common.{option_map, ap, ◌∙◌}
use Rattle.edr_samples.specs.Trees.{tree_view}
use Rattle.edr_samples.proofs.Looks.{view_of_ref, view-lookup}
use Rattle.edr_samples.proofs.looking.member.Goals as goal

pub returns : goal.returns
returns c = view_of_ref c.get.result ∙ ap (option_map tree_view) c.get.ensures.value ∙ view-lookup c.args.name.now c.args.members.now.entries
