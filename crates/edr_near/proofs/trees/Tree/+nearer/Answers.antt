use Rattle.std.proofs.Common.{◌++◌, Contains, option_map, option_to_list, subst}
use Rattle.edr_near.specs.Near.{Nearest}
use Rattle.edr_near.proofs.Nearest.{beyond, both_sides}
use Rattle.edr_near.proofs.Sides.{at_page, at_fork, both_of, turned_round}
use Rattle.edr_near.proofs.trees.Tree.+nearer.Goals as goal

pub returns-then-is_beyond : goal.returns-then-is_beyond
returns-then-is_beyond g t c =
    beyond g.T.Identified.id_of g.T.Placed.spot_of c.args.spot.now (option_map (λ b. b.now) c.args.best) c.args.self.now (c.is_beyond.ensures c.if-is_beyond.true)

pub returns-in-Items : goal.returns-in-Items
returns-in-Items g t c =
    subst (λ l. Nearest g.T.Identified.id_of g.T.Placed.spot_of c.args.spot.now (Contains (option_to_list (option_map (λ b. b.now) c.args.best) ++ l)) (option_map (λ i. i.now) c.nearest_of.result))
    (at_page c.args.self.now c.self.inside.top c.in-Items.page c.deref.result.now c.deref-in-Items.result.now c.self.view_is c.in-Items.is c.deref.ensures c.deref-in-Items.ensures.value) c.nearest_of.ensures

pub returns-then-distance : goal.returns-then-distance
returns-then-distance g t c =
    let fork = c.deref-fork.result.now in
    let at = at_fork c.args.self.now c.self.inside.top c.in-Sides.fork fork c.self.view_is c.in-Sides.is c.deref-fork.ensures c.self.invariant.0 in
    both_sides g.T.Identified.id_of g.T.Placed.spot_of c.args.spot.now (option_to_list (option_map (λ b. b.now) c.args.best)) fork.before fork.behind c.args.self.now
    (both_of fork.before fork.behind c.args.self.now at.is) (option_map (λ i. i.now) c.nearer-first.result) (option_map (λ i. i.now) c.nearer.result) c.nearer-first.ensures c.nearer.ensures

pub returns-else-distance : goal.returns-else-distance
returns-else-distance g t c =
    let fork = c.deref-fork.result.now in
    let at = at_fork c.args.self.now c.self.inside.top c.in-Sides.fork fork c.self.view_is c.in-Sides.is c.deref-fork.ensures c.self.invariant.0 in
    both_sides g.T.Identified.id_of g.T.Placed.spot_of c.args.spot.now (option_to_list (option_map (λ b. b.now) c.args.best)) fork.behind fork.before c.args.self.now
    (turned_round fork.before fork.behind c.args.self.now (both_of fork.before fork.behind c.args.self.now at.is))
    (option_map (λ i. i.now) c.nearer-first-else-distance.result) (option_map (λ i. i.now) c.nearer-else-distance.result) c.nearer-first-else-distance.ensures c.nearer-else-distance.ensures
