use Rattle.std.proofs.Common.{rules, ◌≡◌, ◌==◌, Some, ap}
use Rattle.edr_samples.specs.Trees.{tree_view, members_view}
use Rattle.serde_json.specs.Find.{as_object}
use Rattle.edr_json.specs.TreeLaws.{count_members_view}
use Rattle.edr_json.proofs.trees.has_members.Goals as goal

pub returns-in-Some : goal.returns-in-Some
returns-in-Some c =
    let entries = c.in-Some.members.now.entries in
    let found : as_object (tree_view c.args.tree.now) ≡ Some (members_view entries) = search rules in
    rw (found, count_members_view entries) (ap (λ n. n == c.args.count) c.len.ensures.len)
