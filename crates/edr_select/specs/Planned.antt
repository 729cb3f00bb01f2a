-- What is planned for the places that a position takes; for the calls that plan, and private clauses.
use Rattle.std.specs.Prelude.{ℕ, ◌<◌, ◌*◌, ◌^◌, ℤ, pos, true, false, List, [], map, length, All, IfSome, Option, None, Some}
use Rattle.std.specs.List.{slice_index_or}
use Rattle.edr_axes.specs.Axes.{value_at, IsAxis, axis_length}
use Rattle.covjson_value.specs.declared.domains.Domain.{Domain}
use Rattle.covjson_value.specs.declared.domains.Domain.TheVariants.{MultiPoint}
use Rattle.covjson_value.specs.declared.coverages.Parameter.{Parameter}
use Rattle.covjson_value.specs.declared.coverages.Referencing.{Referencing}
use Rattle.covjson_value.specs.declared.coverages.Coverage.{Coverage}
use Rattle.edr_edition.specs.Values.{InstanceValue}
use Rattle.edr_select.specs.Heads.{Spot, position_at, domain_at}
use Rattle.edr_select.specs.Documents.{referencing_over}
use Rattle.edr_select.specs.Choices.{Chosen, cells_at, cells_along, times_of, levels_of, spot_of}
use Rattle.edr_corridor.specs.Boxes.{level_at}
use Rattle.edr_select.specs.Listings.{PlannedValue}

-- what stands where no parameter does
abbrev pub no_parameter : Parameter
no_parameter = record { id = []; lang = []; label = []; unit = None }

-- the parameters at some places
abbrev pub parameters_at : List Parameter → List ℕ → List Parameter
parameters_at parameters places = map (λ place. slice_index_or parameters place no_parameter) places

-- the head of a coverage over a domain: it has no ranges
abbrev pub head_of : Referencing → List Parameter → Domain → Coverage
head_of referencing parameters domain = record {
  id = None;
  domain = domain;
  referencing = referencing_over domain referencing;
  parameters = parameters;
  ranges = [];
}

-- ---- for private clauses

-- what is planned for one spot, at each time and level
abbrev pub planned_at : Referencing → InstanceValue → Chosen → ℕ → PlannedValue
planned_at referencing i c spot = record {
  head = head_of referencing (parameters_at i.parameters c.parameters) (domain_at (times_of i c) (levels_of i c) (spot_of i spot));
  cells = cells_at i.xs c spot;
}

-- the domain of several spots at one time and at most one level
abbrev pub points_domain : ℤ → Option ℤ → List Spot → Domain
points_domain t None spots = MultiPoint (Some t) false (map (position_at (pos 0)) spots)
points_domain t (Some z) spots = MultiPoint (Some t) true (map (position_at z) spots)

-- what is planned for all spots, at one time and level
abbrev pub planned_along : Referencing → InstanceValue → Chosen → ℕ → ℕ → PlannedValue
planned_along referencing i c t z = record {
  head = head_of referencing (parameters_at i.parameters c.parameters) (points_domain (value_at i.ts t) (level_at i.zs z) (map (spot_of i) c.spots));
  cells = cells_along i.xs c t z;
}

-- ---- what is taken lies in the grid

-- each place is below its count, which is within 32 bits
pub record IsInside (i : InstanceValue) (c : Chosen) : Type 0 where
  pub parameters : All (λ p. p < length i.parameters) c.parameters
  pub times : All (λ t. t < length i.ts) c.times
  pub levels : All (λ z. z < axis_length i.zs) c.levels
  pub spots : All (λ spot. spot < length i.ys * length i.xs) c.spots

-- the lengths of the axes are within 32 bits
pub record IsSmall (i : InstanceValue) : Type 0 where
  pub times : length i.ts < 2 ^ 32
  pub levels : axis_length i.zs < 2 ^ 32
  pub spots : length i.ys * length i.xs < 2 ^ 32

-- the times and levels that are taken are axes
pub record AreAxes (i : InstanceValue) (c : Chosen) : Type 0 where
  pub times : IsAxis (times_of i c)
  pub levels : IfSome (levels_of i c) IsAxis
