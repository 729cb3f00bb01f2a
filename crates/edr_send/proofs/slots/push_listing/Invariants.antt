use Rattle.std.proofs.Common.{◌≡◌, ◌<◌, ℕ, length, take, get_or}
use Rattle.std.specs.List.{flat_map}
use Rattle.edr_send.specs.Filling.{SlotsGrew}
use Rattle.edr_send.specs.Gathered.{places_of_coverage, places_of_coverages}
use Rattle.edr_send.proofs.slots.push_listing.Given as goal

abbrev pub invariant-loop-planned : goal.invariant-loop-planned
invariant-loop-planned l = record {
  slots : SlotsGrew l.listing.shape (flat_map (places_of_coverage l.listing.parameters) (take l.planned-index l.listing.coverages)) l.fn.slots.items l.slots.items;
  long : length l.starts.items ≡ l.planned-index;
  at : (i : ℕ) → i < l.planned-index → get_or l.starts.items i 0 ≡ length (places_of_coverages l.listing.parameters (take i l.listing.coverages));
}
