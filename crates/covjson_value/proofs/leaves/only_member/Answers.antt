use Rattle.std.proofs.Common.{ap, ◌∙◌}
use Rattle.serde_json.specs.Data.{object, put}
use Rattle.serde_json.specs.View.{view, members_view}
use Rattle.serde_json.proofs.Views.{view-Object}
use Rattle.covjson_value.proofs.leaves.only_member.Goals as goal

pub returns : goal.returns
returns c =
    view-Object c.put_tree.new.members
    ∙ ap object (c.in_ok-put_tree.ensures ∙ ap (λ es. put c.args.key.now (view c.args.tree) (members_view es)) c.new-members.ensures.empty)
