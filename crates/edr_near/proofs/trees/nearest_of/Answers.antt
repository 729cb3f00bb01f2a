use Rattle.std.proofs.Common.{◌≡◌, ◌++◌, Contains, take, get_or, option_map, option_to_list, sym, subst, arith}
use Rattle.std.proofs.lemmas.List.{take_all, length-map}
use Rattle.std.specs.Arc.{arc_value}
use Rattle.edr_near.specs.Near.{Nearest}
use Rattle.edr_near.specs.Kept.{values_of}
use Rattle.edr_near.proofs.Nearest.{given, one_more}
use Rattle.edr_near.proofs.SharedItems.{inside_values, value_at}
use Rattle.edr_near.proofs.trees.nearest_of.Goals as goal

pub loop-item-init : goal.loop-item-init
loop-item-init g c = given g.T.Identified.id_of g.T.Placed.spot_of c.args.spot.now (option_map (λ b. b.now) c.args.best)

pub loop-item-preserved : goal.loop-item-preserved
loop-item-preserved g c =
    let shared = c.args.items.now in
    let k = c.loop-item.item-index in
    let s = c.item-item.result in
    let item = c.deref.result.now in
    let at : get_or (values_of shared) k item ≡ item = subst (λ x. get_or (values_of shared) k x ≡ x) (sym c.deref.ensures) (value_at shared k s c.loop-item-test.true c.item-item.is) in
    one_more g.T.Identified.id_of g.T.Placed.spot_of c.args.spot.now (option_to_list (option_map (λ b. b.now) c.args.best)) (values_of shared) k item
    (inside_values shared k c.loop-item-test.true) at (option_map (λ i. i.now) c.loop-item.nearest) (option_map (λ i. i.now) c.nearer_of-nearest.result)
    c.loop-item.invariant c.nearer_of-nearest.ensures

pub returns : goal.returns
returns g c =
    let shared = c.args.items.now in
    let k = c.loop-item.item-index in
    let start = option_to_list (option_map (λ b. b.now) c.args.best) in
    let all : take k (values_of shared) ≡ values_of shared =
    take_all k (values_of shared) (omega (arith, c.loop-item-test.false, length-map shared (λ x. arc_value x))) in
    subst (λ l. Nearest g.T.Identified.id_of g.T.Placed.spot_of c.args.spot.now (Contains (start ++ l)) (option_map (λ i. i.now) c.loop-item.nearest)) all c.loop-item.invariant
