use Rattle.std.proofs.Common.{◌≡◌, ◌∙◌, ℕ, ◌*◌, ◌<◌, List, length, ap, ap₂, subst}
use Rattle.edr_select.specs.Limits.{value_limit}
use Rattle.edr_select.specs.Stacks.{SidesValue}
use Rattle.edr_lines.proofs.StackSizes.{planes_above, nodes_above}
use Rattle.edr_lines.proofs.stack_domains.stacked_count.Goals as goal

pub returns-in_err-planes : goal.returns-in_err-planes
returns-in_err-planes c =
    let levels : c.items.result.now ≡ c.args.sides.now.levels = c.items.ensures ∙ ap (λ (v : SidesValue). v.levels) c.sides.view_is in
    let plane : c.in_ok-plane.plane ≡ c.args.sides.now.rows * c.args.sides.now.columns = c.in_ok-plane.ensures.0
    ∙ ap₂ (λ a b. a * b) (c.from.ensures ∙ ap (λ (v : SidesValue). v.rows) c.sides.view_is) (c.from-2.ensures ∙ ap (λ (v : SidesValue). v.columns) c.sides.view_is) in
    rw c.from_residual-in_err-planes.ensures (planes_above c.args.parameters.now c.args.sides.now c.requires.parameters c.requires.nodes
    (subst (λ (k : ℕ). value_limit < k) (ap₂ (λ (ls : List ℕ) (p : ℕ). length ls * p) levels plane) c.in_err-planes.ensures))

pub returns-in_err-nodes : goal.returns-in_err-nodes
returns-in_err-nodes c =
    let times : c.items-2.result.now ≡ c.args.sides.now.times = c.items-2.ensures ∙ ap (λ (v : SidesValue). v.times) c.sides.view_is in
    let levels : c.items.result.now ≡ c.args.sides.now.levels = c.items.ensures ∙ ap (λ (v : SidesValue). v.levels) c.sides.view_is in
    let plane : c.in_ok-plane.plane ≡ c.args.sides.now.rows * c.args.sides.now.columns = c.in_ok-plane.ensures.0
    ∙ ap₂ (λ a b. a * b) (c.from.ensures ∙ ap (λ (v : SidesValue). v.rows) c.sides.view_is) (c.from-2.ensures ∙ ap (λ (v : SidesValue). v.columns) c.sides.view_is) in
    let planes : c.in_ok-planes.planes ≡ length c.args.sides.now.levels * (c.args.sides.now.rows * c.args.sides.now.columns) = c.in_ok-planes.ensures.0
    ∙ ap₂ (λ (ls : List ℕ) (p : ℕ). length ls * p) levels plane in
    rw c.from_residual-in_err-nodes.ensures (nodes_above c.args.parameters.now c.args.sides.now c.requires.parameters c.requires.nodes
    (subst (λ (k : ℕ). value_limit < k) (ap₂ (λ (ts : List ℕ) (p : ℕ). length ts * p) times planes) c.in_err-nodes.ensures))
