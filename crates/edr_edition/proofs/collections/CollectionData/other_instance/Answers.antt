use Rattle.std.proofs.Common.{◌≡◌, ◌<◌, true, false, not, length, get_or, ap, ◌∙◌, subst, arith}
use Rattle.edr_ids.specs.Ids.{has_id}
use Rattle.edr_edition.specs.Values.{CollectionValue, instance_id}
use Rattle.edr_edition.specs.Editions.{IsCollection}
use Rattle.edr_edition.proofs.CollectionInstances.{other_is_among, no_other_more}
use Rattle.edr_edition.proofs.collections.CollectionData.other_instance.Goals as goal

pub returns-then-ne-clause-other : goal.returns-then-ne-clause-other
returns-then-ne-clause-other c =
    let x = c.at-instance.result.now in
    let list = ap (λ (collection : CollectionValue). collection.instances) c.self.view_is in
    let inside : c.loop-place.place < length c.args.self.now.instances = omega (arith, c.loop-place-test.true, c.len-place-end.ensures.len, ap length list) in
    let here : x ≡ get_or c.args.self.now.instances c.loop-place.place x = c.at-instance.ensures x ∙ ap (λ xs. get_or xs c.loop-place.place x) list in
    let differs : not (has_id instance_id c.args.id.now x) ≡ true = cc in
    other_is_among instance_id c.args.self.now.instances c.args.id.now c.loop-place.place x inside here c.loop-place.invariant differs

pub loop-place-preserved : goal.loop-place-preserved
loop-place-preserved c =
    let x = c.at-instance.result.now in
    let list = ap (λ (collection : CollectionValue). collection.instances) c.self.view_is in
    let inside : c.loop-place.place < length c.args.self.now.instances = omega (arith, c.loop-place-test.true, c.len-place-end.ensures.len, ap length list) in
    let here : x ≡ get_or c.args.self.now.instances c.loop-place.place x = c.at-instance.ensures x ∙ ap (λ xs. get_or xs c.loop-place.place x) list in
    let equal : not (has_id instance_id c.args.id.now x) ≡ false = cc in
    no_other_more instance_id c.args.self.now.instances c.args.id.now c.loop-place.place x inside here c.loop-place.invariant equal

pub returns-then-ne-clause-collection : goal.returns-then-ne-clause-collection
returns-then-ne-clause-collection c = subst IsCollection c.self.view_is c.self.invariant.0
