use Rattle.std.proofs.Common.{◌≡◌, drop}
use Rattle.edr_samples.specs.Trees.{items_view}
use Rattle.covjson_checks.specs.Members as members
use Rattle.covjson_checks.proofs.members.all_wanted.Given as goal

abbrev pub invariant-loop-item : goal.invariant-loop-item
invariant-loop-item l =
    members.all_wanted l.wanted (items_view (drop l.item-index l.items.items)) ≡ members.all_wanted l.wanted (items_view l.items.items)
