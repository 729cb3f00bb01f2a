use Rattle.std.proofs.Common.{◌≡◌, ◌<◌, ◌∙◌, true, false, List, ℕ, length, ap, ap₂, sym, subst, All, w64, to_z, of_z}
use Rattle.std.specs.Prelude.{nat_lt}
use Rattle.std.proofs.lemmas.Int.{to_z-of_z}
use Rattle.covjson_value.specs.declared.coverages.Parameter.{Parameter}
use Rattle.covjson_value.specs.declared.coverages.Referencing.{Referencing}
use Rattle.edr_chunk.specs.Grids as chunk
use Rattle.edr_corridor.specs.Boxes.{GridAxes}
use Rattle.edr_select.specs.Limits.{value_limit}
use Rattle.edr_select.specs.Planned.{head_of, parameters_at}
use Rattle.edr_lines.specs.Plans.{axes_of, domain_over, stacked_count, HasNodes, AreSidesOrMore}
use Rattle.edr_lines.specs.Taken.{counts_of, AreSidesOf, HasBits}
use Rattle.edr_lines.specs.Corridors.{takes}
use Rattle.edr_lines.proofs.LineGrids.{grid_from}
use Rattle.edr_lines.proofs.StackSides.{sides_inside}
use Rattle.edr_lines.proofs.CorridorSteps.{IsCorridorIn, corridor_in, axes_few, ys_placed, xs_placed, levels_there, none_found, sides_found, are_small}
use Rattle.edr_lines.proofs.CorridorPlans.{refused_nodes, too_large, stacking_valid, plan_made}
use Rattle.edr_lines.proofs.StackValid.{asked_below}
use Rattle.edr_lines.proofs.corridor_plans.stacking_of.Goals as goal
use Rattle.edr_lines.proofs.corridor_plans.stacking_of.Goals.{In_ok-corridor, In-Some, After-of}

along_of : (c : In_ok-corridor) → IsCorridorIn c.args.collection.now c.args.query.now c.args.instance.now c.in_ok-corridor.corridor
along_of c =
    corridor_in c.args.collection.now c.args.query.now c.args.instance.now c.in_ok-corridor.corridor c.args.geometry.now c.args.width (to_z w64 (of_z w64 c.args.width)) c.args.height
    c.of_grid-axes.result c.requires.asked c.requires.shape (to_z-of_z w64 c.args.width c.ranges.width) c.of_grid-axes.ensures c.corridors_are_cut.ensures c.in_ok-corridor.ensures

more_of : (c : In-Some) → AreSidesOrMore c.deref.result.now (counts_of (axes_of c.args.instance.now)) (takes c.in_ok-corridor.corridor (axes_of c.args.instance.now)) c.in-Some.sides
more_of c =
    sides_found c.args.instance.now c.in_ok-corridor.corridor c.of_grid-axes.result c.of_grid-axes.ensures c.deref.result.now c.in_ok-sides.field-0 c.in_ok-sides.ensures c.in-Some.sides c.in-Some.is

sides_of : (c : In-Some) → nat_lt value_limit (stacked_count c.deref.result.now c.in-Some.sides) ≡ false
    → AreSidesOf (counts_of (axes_of c.args.instance.now)) (takes c.in_ok-corridor.corridor (axes_of c.args.instance.now)) c.in-Some.sides
sides_of c fits = (more_of c).whole fits

nodes_of : (c : In-Some) → HasNodes c.in-Some.sides
nodes_of c = (more_of c).nodes

pub sides_within-requires-clause-few : goal.sides_within-requires-clause-few
sides_within-requires-clause-few c = axes_few c.args.instance.now c.requires.asked.grid c.of_grid-axes.result c.of_grid-axes.ensures

pub sides_within-requires-clause-levels : goal.sides_within-requires-clause-levels
sides_within-requires-clause-levels c =
    levels_there c.args.collection.now c.args.query.now c.args.instance.now c.in_ok-corridor.corridor (along_of (goal.at.sides_within-requires-clause-levels c).In_ok-corridor)
    c.of_grid-axes.result c.of_grid-axes.ensures c.in_ok-parameters.ensures.levels

pub sides_within-requires-clause-ys_in : goal.sides_within-requires-clause-ys_in
sides_within-requires-clause-ys_in c = ys_placed c.args.instance.now c.requires.asked.grid c.of_grid-axes.result c.of_grid-axes.ensures

pub sides_within-requires-clause-xs_in : goal.sides_within-requires-clause-xs_in
sides_within-requires-clause-xs_in c = xs_placed c.args.instance.now c.requires.asked.grid c.of_grid-axes.result c.of_grid-axes.ensures

pub returns-in_default-clause-refused : goal.returns-in_default-clause-refused
returns-in_default-clause-refused c =
    c.in_ok-parameters.ensures.known
    ∙ refused_nodes c.args.collection.now c.args.query.now c.args.instance.now c.in_ok-corridor.corridor (along_of (goal.at.returns-in_default-clause-refused c).In_ok-corridor)
    (none_found c.args.instance.now c.in_ok-corridor.corridor c.of_grid-axes.result c.of_grid-axes.ensures c.deref.result.now c.in_ok-sides.field-0 c.in_ok-sides.ensures c.in_default.is)

pub is_too_large-requires-clause-nodes : goal.is_too_large-requires-clause-nodes
is_too_large-requires-clause-nodes c = nodes_of (goal.at.is_too_large-requires-clause-nodes c).In-Some

pub returns-then-is_too_large-clause-refused : goal.returns-then-is_too_large-clause-refused
returns-then-is_too_large-clause-refused c =
    let k = (goal.at.returns-then-is_too_large-clause-refused c).In-Some in
    let over : nat_lt value_limit (stacked_count c.deref.result.now c.in-Some.sides) ≡ true =
    ap (λ (ps : List ℕ). nat_lt value_limit (stacked_count ps c.in-Some.sides)) (c.deref.ensures.value ∙ sym c.deref-2.ensures.value) ∙ (sym c.is_too_large.ensures ∙ c.if-is_too_large.true) in
    let all = (more_of k).more over in
    too_large c.args.collection.now c.args.query.now c.args.instance.now c.in_ok-corridor.corridor (along_of (goal.at.returns-then-is_too_large-clause-refused c).In_ok-corridor)
    c.in_ok-parameters.parameters.items c.in_ok-parameters.ensures.places c.in_ok-parameters.ensures.some all.0 all.1 c.in_ok-parameters.ensures.known
    (ap (λ (ps : List ℕ). nat_lt value_limit (stacked_count ps all.0)) (sym c.deref.ensures.value) ∙ all.2)

pub domain_of-requires-clause-sides : goal.domain_of-requires-clause-sides
domain_of-requires-clause-sides c =
    let k = (goal.at.domain_of-requires-clause-sides c).In-Some in
    sides_inside c.args.instance.now (grid_from c.args.instance.now c.requires.asked.grid) (takes c.in_ok-corridor.corridor (axes_of c.args.instance.now)) c.in-Some.sides (sides_of k (ap (λ (ps : List ℕ). nat_lt value_limit (stacked_count ps c.in-Some.sides)) (c.deref.ensures.value ∙ sym c.deref-2.ensures.value) ∙ (sym c.is_too_large.ensures ∙ c.if-is_too_large.false)))

pub domain_of-requires-clause-nodes : goal.domain_of-requires-clause-nodes
domain_of-requires-clause-nodes c = nodes_of (goal.at.domain_of-requires-clause-nodes c).In-Some

pub stack_with-requires-clause-levels : goal.stack_with-requires-clause-levels
stack_with-requires-clause-levels c =
    levels_there c.args.collection.now c.args.query.now c.args.instance.now c.in_ok-corridor.corridor (along_of (goal.at.stack_with-requires-clause-levels c).In_ok-corridor)
    c.of_grid-axes.result c.of_grid-axes.ensures c.in_ok-parameters.ensures.levels

pub stack_with-requires-clause-ys_in : goal.stack_with-requires-clause-ys_in
stack_with-requires-clause-ys_in c = ys_placed c.args.instance.now c.requires.asked.grid c.of_grid-axes.result c.of_grid-axes.ensures

pub stack_with-requires-clause-xs_in : goal.stack_with-requires-clause-xs_in
stack_with-requires-clause-xs_in c = xs_placed c.args.instance.now c.requires.asked.grid c.of_grid-axes.result c.of_grid-axes.ensures

pub stack_with-requires-clause-small : goal.stack_with-requires-clause-small
stack_with-requires-clause-small c =
    let k = (goal.at.stack_with-requires-clause-small c).In-Some in
    are_small c.args.instance.now c.in_ok-corridor.corridor c.requires.asked.grid c.in-Some.sides (sides_of k (ap (λ (ps : List ℕ). nat_lt value_limit (stacked_count ps c.in-Some.sides)) (c.deref.ensures.value ∙ sym c.deref-2.ensures.value) ∙ (sym c.is_too_large.ensures ∙ c.if-is_too_large.false))) c.in_ok-parameters.parameters.items c.in_ok-parameters.ensures.some (nodes_of k)
    (ap (λ (ps : List ℕ). nat_lt value_limit (stacked_count ps c.in-Some.sides)) (sym c.deref-2.ensures.value) ∙ (sym c.is_too_large.ensures ∙ c.if-is_too_large.false))

pub head_of-requires : goal.head_of-requires
head_of-requires c =
    subst (λ (ps : List Parameter). All (λ p. p < length ps) c.deref-3.result.now) (sym c.parameters.ensures.parameters)
    (subst (All (λ p. p < length c.args.instance.now.parameters)) (sym (c.deref-3.ensures.value ∙ c.in_ok-parameters.ensures.places)) (asked_below c.args.query.now c.args.instance.now))

-- ---- the parts of the stacking

shape_of : (c : After-of) → c.shape.result ≡ c.args.instance.now.grid.shape
shape_of c = c.shape.ensures.same ∙ ap (λ (grid : chunk.Values). grid.shape) c.grid.ensures

head_from : (c : After-of) → c.in_ok-head.head
    ≡ head_of c.args.collection.now.referencing (parameters_at c.args.instance.now.parameters c.in_ok-parameters.parameters.items) (domain_over c.args.instance.now c.in-Some.sides)
head_from c =
    c.in_ok-head.ensures
    ∙ (ap (λ (r : Referencing). head_of r (parameters_at c.parameters.result.now c.deref-3.result.now) c.in_ok-domain.domain) c.referencing.ensures.referencing
    ∙ (ap₂ (λ (ps : List Parameter) (places : List ℕ). head_of c.args.collection.now.referencing (parameters_at ps places) c.in_ok-domain.domain) c.parameters.ensures.parameters c.deref-3.ensures.value
    ∙ ap (head_of c.args.collection.now.referencing (parameters_at c.args.instance.now.parameters c.in_ok-parameters.parameters.items)) c.in_ok-domain.ensures))

bits_of : (c : After-of) → HasBits (takes c.in_ok-corridor.corridor (axes_of c.args.instance.now)) c.in_ok-stack.stack
bits_of c = subst (λ (axes : GridAxes). HasBits (takes c.in_ok-corridor.corridor axes) c.in_ok-stack.stack) c.of_grid-axes.ensures c.in_ok-stack.ensures.bits

pub invariant_of-result : goal.invariant_of-result
invariant_of-result c = (
  stacking_valid c.args.collection.now c.args.query.now c.args.instance.now c.in_ok-corridor.corridor (along_of (goal.at.invariant_of-result c).In_ok-corridor)
      c.in_ok-parameters.parameters.items c.in_ok-parameters.ensures.places c.in_ok-parameters.ensures.some c.in-Some.sides (sides_of (goal.at.invariant_of-result c).In-Some (ap (λ (ps : List ℕ). nat_lt value_limit (stacked_count ps c.in-Some.sides)) (c.deref.ensures.value ∙ sym c.deref-2.ensures.value) ∙ (sym c.is_too_large.ensures ∙ c.if-is_too_large.false)))
      c.in_ok-parameters.ensures.known c.in_ok-stack.stack c.in_ok-stack.ensures.sides (bits_of c) c.shape.result c.of.result c.in_ok-head.head (shape_of c) c.of.ensures (head_from c),
  c.shape.ensures.fits,
)

pub returns-clause-planned : goal.returns-clause-planned
returns-clause-planned c =
    let k = (goal.at.returns-clause-planned c).After-of in
    plan_made c.args.collection.now c.args.query.now c.args.instance.now c.in_ok-corridor.corridor (along_of (goal.at.returns-clause-planned c).In_ok-corridor)
    c.in_ok-parameters.parameters.items c.in_ok-parameters.ensures.places c.in_ok-parameters.ensures.some c.in-Some.sides (sides_of (goal.at.returns-clause-planned c).In-Some (ap (λ (ps : List ℕ). nat_lt value_limit (stacked_count ps c.in-Some.sides)) (c.deref.ensures.value ∙ sym c.deref-2.ensures.value) ∙ (sym c.is_too_large.ensures ∙ c.if-is_too_large.false)))
    c.in_ok-parameters.ensures.known c.in_ok-stack.stack c.in_ok-stack.ensures.sides (bits_of k) c.shape.result c.of.result c.in_ok-head.head (shape_of k) c.of.ensures (head_from k)
    (ap (λ (ps : List ℕ). nat_lt value_limit (stacked_count ps c.in-Some.sides)) (sym c.deref-2.ensures.value) ∙ (sym c.is_too_large.ensures ∙ c.if-is_too_large.false))
