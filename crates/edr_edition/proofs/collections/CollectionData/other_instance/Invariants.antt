use Rattle.std.proofs.Common.{◌≡◌, [], take}
use Rattle.edr_ids.specs.Ids.{without_id}
use Rattle.edr_edition.specs.Values.{instance_id}
use Rattle.edr_edition.proofs.collections.CollectionData.other_instance.Given as goal

-- no instance so far has another id
abbrev pub invariant-loop-place : goal.invariant-loop-place
invariant-loop-place l = without_id instance_id l.id (take l.place l.self.instances) ≡ []
