-- The samples of a small grid.
use Rattle.std.proofs.Common.{◌≡◌, pos, codes, [], ◌∷◌, refl, Some, None}
use Rattle.covjson_value.specs.declared.domains.Domain.TheVariants.{Grid, Point}
use Rattle.covjson_value.specs.declared.coverages.Parameter.{Parameter}
use Rattle.covjson_value.specs.declared.coverages.Coverage.{Coverage}
use Rattle.covjson_value.specs.Samples.{node, point_at}

temperature : Parameter
temperature = record { id = codes "temp"; lang = codes "en"; label = codes "Temperature"; unit = None }

-- two times, two rows, three columns; the last sample is missing
grid : Coverage
grid = record {
  id = Some (codes "a");
  domain = Grid (Some (pos 0 ∷ pos 60 ∷ [])) None (pos 0 ∷ pos 5 ∷ []) (pos 1 ∷ pos 2 ∷ pos 3 ∷ []);
  referencing = record { crs = codes "c"; vertical = None };
  parameters = temperature ∷ [];
  ranges = record {
    values =
        Some (pos 10) ∷ Some (pos 11) ∷ Some (pos 12) ∷ Some (pos 13) ∷ Some (pos 14) ∷ Some (pos 15)
        ∷ Some (pos 20) ∷ Some (pos 21) ∷ Some (pos 22) ∷ Some (pos 23) ∷ Some (pos 24) ∷ None ∷ [];
  } ∷ [];
}

first_row : point_at grid (node (Some (pos 0)) None (pos 0) (pos 2)) ≡ record {
  id = None;
  domain = Point (Some (pos 0)) None (pos 0) (pos 2);
  referencing = grid.referencing;
  parameters = grid.parameters;
  ranges = record { values = Some (pos 11) ∷ [] } ∷ [];
}
unfolding grid temperature
first_row = refl

missing_row : point_at grid (node (Some (pos 60)) None (pos 5) (pos 3)) ≡ record {
  id = None;
  domain = Point (Some (pos 60)) None (pos 5) (pos 3);
  referencing = grid.referencing;
  parameters = grid.parameters;
  ranges = record { values = None ∷ [] } ∷ [];
}
unfolding grid temperature
missing_row = refl

-- a place that is no node has no samples
no_node_row : (point_at grid (node (Some (pos 60)) None (pos 5) (pos 4))).ranges ≡ record { values = [] } ∷ []
unfolding grid temperature
no_node_row = refl
