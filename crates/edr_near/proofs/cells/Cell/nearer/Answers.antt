use Rattle.std.proofs.Common.{◌++◌, Contains, option_map, option_to_list, ap, subst}
use Rattle.edr_near.specs.Near.{Nearest}
use Rattle.edr_near.proofs.cells.Cell.nearer.Goals as goal

pub returns : goal.returns
returns g c =
    subst (λ l. Nearest g.T.Identified.id_of g.T.Placed.spot_of c.args.spot.now (Contains (option_to_list (option_map (λ b. b.now) c.args.best) ++ l)) (option_map (λ i. i.now) c.nearer.result))
    (ap (λ v. v.items) c.self.view_is) c.nearer.ensures
