use Rattle.std.proofs.Common.{◌<◌, length, arith, subst, sym, ap, ◌∙◌, All, List}
use Rattle.edr_axes.specs.Axes.{axis_length}
use Rattle.edr_chunk.specs.Places.{Within}
use Rattle.edr_select.specs.declared.plans.GridNode.{GridNode}
use Rattle.edr_select.specs.ListLaws.{all_member}
use Rattle.edr_select.specs.Listings.{place_at}
use Rattle.edr_lines.specs.Routes.{RouteValue}
use Rattle.edr_lines.proofs.LineGrids.{few_along, level_few}
use Rattle.edr_lines.proofs.TurnPlans.{turn_lies, turn_is}
use Rattle.edr_lines.proofs.trajectory_plans.planned_at.Goals as goal

pub nodes_at-requires-clause-t : goal.nodes_at-requires-clause-t
nodes_at-requires-clause-t c =
    omega (
      arith,
      (few_along c.args.instance.now c.requires.grid).times,
      all_member (λ t. t < length c.args.instance.now.ts) c.args.route.now.times c.args.t c.requires.route.times c.requires.t,
    )

pub nodes_at-requires-clause-z : goal.nodes_at-requires-clause-z
nodes_at-requires-clause-z c =
    omega (
      arith,
      level_few c.args.instance.now c.requires.grid,
      all_member (λ z. z < axis_length c.args.instance.now.zs) c.args.route.now.levels c.args.z c.requires.route.levels c.requires.z,
    )

pub domain_of-requires-clause-within : goal.domain_of-requires-clause-within
domain_of-requires-clause-within c =
    let i = c.args.instance.now in
    let r = c.args.route.now in
    subst (λ (nodes : List GridNode). All (λ n. Within i.grid.shape (place_at 0 n)) nodes) (sym (c.deref.ensures.value ∙ c.in_ok-nodes.ensures))
    (turn_lies i c.requires.grid r c.requires.route c.args.t c.args.z
    (all_member (λ t. t < length i.ts) r.times c.args.t c.requires.route.times c.requires.t)
    (all_member (λ z. z < axis_length i.zs) r.levels c.args.z c.requires.route.levels c.requires.z))

pub domain_of-requires-clause-level : goal.domain_of-requires-clause-level
domain_of-requires-clause-level c = all_member (λ z. z < axis_length c.args.instance.now.zs) c.args.route.now.levels c.args.z c.requires.route.levels c.requires.z

pub returns : goal.returns
returns c =
    turn_is c.args.referencing.now c.args.instance.now c.args.parameters.now c.args.route.now c.args.t c.args.z c.in_ok-head.head c.of.result c.deref.result.now c.parameters.result.now c.in_ok-domain.domain
    c.route.inside.has_z c.requires.turns.steps c.in_ok-head.ensures c.parameters.ensures.parameters c.in_ok-domain.ensures (ap (λ (r : RouteValue). r.has_z) c.route.view_is)
    (c.of.ensures ∙ c.in_ok-nodes.ensures) (c.deref.ensures.value ∙ c.in_ok-nodes.ensures)
