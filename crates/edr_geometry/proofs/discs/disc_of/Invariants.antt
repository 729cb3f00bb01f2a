use Rattle.std.proofs.Common.{◌≡◌, ℕ, ◌<◌, ◌≤◌, false, length, get_or}
use Rattle.edr_geometry.specs.Planar.{in_disc}
use Rattle.edr_geometry.specs.Rows.{spot_in}
use Rattle.edr_geometry.proofs.discs.disc_of.Given as goal

abbrev pub invariant-loop-place : goal.invariant-loop-place
invariant-loop-place l = record {
  size : length l.places.items ≡ length l.row.xs.now;
  done : (place : ℕ) → place < l.place → get_or l.places.items place false ≡ in_disc (spot_in l.row.y l.row.xs.now place) l.disc.centre l.disc.radius;
  ahead : (place : ℕ) → l.place ≤ place → get_or l.places.items place false ≡ false;
}
