-- The nodes of a domain turn by turn, and the times of its turns.
use Rattle.std.proofs.Common.{◌≡◌, ℕ, zero, suc, ◌<◌, ℤ, pos, List, length, get_or, Option, None, Some, IfSome, refl, subst, sym, arith}
use Rattle.std.specs.List.{flat_map}
use Rattle.std.proofs.lemmas.List.{length-map, get_or-map}
use Rattle.std.proofs.lemmas.List.Elements.{All-get_or}
use Rattle.edr_base.specs.declared.places.Position.{Position}
use Rattle.edr_axes.specs.Instants.{IsTime}
use Rattle.covjson_value.specs.declared.domains.CoordinateName.TheVariants.{T, Z}
use Rattle.covjson_value.specs.declared.domains.Domain.{Domain}
use Rattle.covjson_value.specs.Domains.{axis_of, tuples_of}
use Rattle.covjson_value.specs.Coverages.{IsNamedAxis}
use Rattle.covjson_value.specs.Samples.{values_or_absent, nodes_of, nodes_with}
use Rattle.edr_csv.specs.Turns.{level_nodes, nodes_with_turn}

nodes_by_turns : (domain : Domain) (tuples : Option (List Position))
    → nodes_with domain tuples ≡ flat_map (λ (t : Option ℤ). flat_map (λ (z : Option ℤ). nodes_with_turn domain t z tuples) (values_or_absent (axis_of domain Z))) (values_or_absent (axis_of domain T))
nodes_by_turns domain None = refl
nodes_by_turns domain (Some tuples) = refl

-- the nodes of a domain are those of its times, level by level
pub nodes_are_levels : (domain : Domain) → nodes_of domain ≡ flat_map (level_nodes domain) (values_or_absent (axis_of domain T))
nodes_are_levels domain = nodes_by_turns domain (tuples_of domain)

-- the time of a turn, where it has one
pub turn_time : (axis : Option (List ℤ)) (place : ℕ) → IfSome axis (IsNamedAxis T) → place < length (values_or_absent axis) → IfSome (get_or (values_or_absent axis) place None) IsTime
turn_time None zero named inside = tt
turn_time None (suc place) named inside = absurd (omega arith)
turn_time (Some values) place named inside =
    let given : ℤ → Option ℤ = Some in
    let some : place < length values = omega (arith, length-map values given) in
    subst (λ (o : Option ℤ). IfSome o IsTime) (sym (get_or-map given values place (pos 0) None some)) (All-get_or IsTime values place (pos 0) some named.within)
