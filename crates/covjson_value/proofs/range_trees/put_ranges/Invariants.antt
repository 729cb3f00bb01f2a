use Rattle.std.proofs.Common.{◌≡◌, take}
use Rattle.serde_json.specs.View.{members_view}
use Rattle.covjson_value.specs.Trees.{members_in_order, named_ranges}
use Rattle.covjson_value.proofs.range_trees.put_ranges.Given as goal

abbrev pub invariant-loop-place : goal.invariant-loop-place
invariant-loop-place l =
    members_view l.by_id.entries ≡ members_in_order (take l.place (named_ranges l.domain l.parameters l.ranges))
