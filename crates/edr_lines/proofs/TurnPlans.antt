-- What is planned for a turn, as the code makes it.
use Rattle.std.proofs.Common.{◌≡◌, ◌≢◌, ℕ, ◌<◌, Bool, cond, List, [], length, ap₂, ◌∙◌, None, All}
use Rattle.std.specs.Prelude.{map}
use Rattle.edr_axes.specs.Axes.{axis_length}
use Rattle.covjson_value.specs.declared.coverages.Coverage.{Coverage}
use Rattle.covjson_value.specs.declared.coverages.Parameter.{Parameter}
use Rattle.covjson_value.specs.declared.coverages.Referencing.{Referencing}
use Rattle.covjson_value.specs.declared.domains.Domain.{Domain}
use Rattle.covjson_value.specs.declared.domains.Domain.TheVariants.{Trajectory}
use Rattle.edr_chunk.specs.Places.{Within}
use Rattle.edr_edition.specs.Values.{InstanceValue}
use Rattle.edr_edition.specs.Instances.{HasGrid}
use Rattle.edr_select.specs.declared.plans.GridNode.{GridNode}
use Rattle.edr_corridor.specs.Boxes.{level_at}
use Rattle.edr_select.specs.Heads.{step_at}
use Rattle.edr_select.specs.ListLaws.{all_member, each-map_in}
use Rattle.edr_select.specs.LevelLaws.{all_from_each}
use Rattle.edr_select.specs.Listings.{PlannedValue, place_at}
use Rattle.edr_select.specs.Planned.{head_of, parameters_at}
use Rattle.edr_select.specs.Samples.{node_at}
use Rattle.edr_lines.specs.Routes.{RouteValue, LiesOn, turned, nodes_of_turn, planned_turn}
use Rattle.edr_lines.proofs.RouteSteps.{turned_within}
use Rattle.edr_lines.proofs.TurnDomains.{turn_domain}

-- its nodes lie in the grid
pub turn_lies : (i : InstanceValue) (h : HasGrid i) (r : RouteValue) → LiesOn i r → (t z : ℕ) → t < length i.ts → z < axis_length i.zs
    → All (λ n. Within i.grid.shape (place_at 0 n)) (nodes_of_turn r t z)
turn_lies i h r lies t z ht hz =
    all_from_each (λ n. Within i.grid.shape (place_at 0 n)) (nodes_of_turn r t z)
    (each-map_in (λ n. Within i.grid.shape (place_at 0 n)) (turned r t z) r.steps (λ n m.
    turned_within i h r t z n ht hz (all_member (λ n. Within i.grid.shape (place_at 0 n)) r.steps n lies.steps m)))

abbrev over : Coverage → List GridNode → PlannedValue
over head cells = record { head = head; cells = cells }

abbrev domain_on : InstanceValue → ℕ → Bool → List GridNode → Domain
domain_on i z has nodes = Trajectory (cond has None (level_at i.zs z)) has (map (λ n. step_at has (node_at i (place_at 0 n))) nodes)

pub turn_is : (referencing : Referencing) (i : InstanceValue) (ps : List ℕ) (r : RouteValue) (t z : ℕ) (head : Coverage) (cells nodes : List GridNode) (parameters : List Parameter) (domain : Domain) (has : Bool)
    → r.steps ≢ [] → head ≡ head_of referencing (parameters_at parameters ps) domain → parameters ≡ i.parameters → domain ≡ domain_on i z has nodes → has ≡ r.has_z
    → cells ≡ nodes_of_turn r t z → nodes ≡ nodes_of_turn r t z → over head cells ≡ planned_turn referencing i ps r t z
turn_is referencing i ps r t z head cells nodes parameters domain has some head_is same domain_is has_is cells_are nodes_are =
    ap₂ over
    (head_is ∙ ap₂ (λ (all : List Parameter) (d : Domain). head_of referencing (parameters_at all ps) d) same
    (domain_is ∙ (ap₂ (λ b (ns : List GridNode). domain_on i z b ns) has_is nodes_are ∙ turn_domain i r t z some)))
    cells_are
