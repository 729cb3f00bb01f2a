-- Places that rise, and which of them lie in a range.
use Rattle.std.proofs.Common.{◌≡◌, ℕ, ◌<◌, ◌≤◌, true, false, List, length, get_or, ap, ap₂, sym, ◌∙◌, subst, arith, inl, inr}
use Rattle.std.specs.Prelude.{◌&&◌, nat_lt, nat_le}
use Rattle.std.specs.List.Sorted.{IsPartitionedBy, IsPartitionPoint}
use Rattle.std.proofs.lemmas.Bool.{and_right, cases_lt, lt-ltb, le-ltb, ltb-true, ltb-false, le-leb, lt-leb}
use Rattle.edr_geometry.specs.Ranges.{lies_in}
use Rattle.edr_select.specs.Listings.{NumbersRise}

-- those before a bound come first
pub rise_parted : (places : List ℕ) (bound : ℕ) → NumbersRise places → IsPartitionedBy (λ place. nat_lt place bound) places
rise_parted places bound rise i j d order inside before = elim (cases_lt i j) [
  | inl lt ↦ lt-ltb (get_or places i d) bound (omega (arith, rise i j d lt inside, ltb-true (get_or places j d) bound before))
  | inr ge ↦ subst (λ k. nat_lt (get_or places k d) bound ≡ true) (omega (arith, order, ge)) before
]

pub point_before : (places : List ℕ) (bound point : ℕ) → IsPartitionPoint (λ place. nat_lt place bound ≡ true) (λ place. nat_lt place bound ≡ false) places point
    → (k : ℕ) → k < length places → nat_lt (get_or places k 0) bound ≡ nat_lt k point
point_before places bound point parts k inside = elim (cases_lt k point) [
  | inl lt ↦ parts.0 k 0 (omega arith) lt ∙ sym (lt-ltb k point lt)
  | inr ge ↦ parts.1 k 0 ge inside ∙ sym (le-ltb k point ge)
]

-- from a bound on
from_bound : (place bound k point : ℕ) → nat_lt place bound ≡ nat_lt k point → nat_le point k ≡ nat_le bound place
from_bound place bound k point same = elim (cases_lt k point) [
  | inl lt ↦ lt-leb point k lt ∙ sym (lt-leb bound place (ltb-true place bound (same ∙ lt-ltb k point lt)))
  | inr ge ↦ le-leb point k ge ∙ sym (le-leb bound place (ltb-false place bound (same ∙ le-ltb k point ge)))
]

-- from one bound to before another
pub between_bounds : (range points : ℕ × ℕ) (place k : ℕ) → nat_lt place range.0 ≡ nat_lt k points.0 → nat_lt place range.1 ≡ nat_lt k points.1 → lies_in points k ≡ lies_in range place
between_bounds range points place k low high = ap₂ (λ a b. a && b) (from_bound place range.0 k points.0 low) (sym high)

-- a number before the first doesn't lie in a range, nor does one behind its end
pub before_first : (range : ℕ × ℕ) (k : ℕ) → k < range.0 → lies_in range k ≡ false
before_first range k h = ap (λ b. b && nat_lt k range.1) (lt-leb range.0 k h)

pub behind_end : (range : ℕ × ℕ) (k : ℕ) → range.1 ≤ k → lies_in range k ≡ false
behind_end range k h = and_right (nat_le range.0 k) (nat_lt k range.1) (le-ltb k range.1 h)

pub lies_there : (range : ℕ × ℕ) (k : ℕ) → range.0 ≤ k → k < range.1 → lies_in range k ≡ true
lies_there range k low high = ap₂ (λ a b. a && b) (le-leb range.0 k low) (lt-ltb k range.1 high)

-- what is known of places as they were read
pub lies_as : (range numbers : ℕ × ℕ) (read places : List ℕ) → read ≡ places → ((k : ℕ) → k < length read → lies_in numbers k ≡ lies_in range (get_or read k 0))
    → (k : ℕ) → k < length places → lies_in range (get_or places k 0) ≡ lies_in numbers k
lies_as range numbers read places same lie k inside =
    ap (λ (l : List ℕ). lies_in range (get_or l k 0)) (sym same) ∙ sym (lie k (subst (λ (l : List ℕ). k < length l) (sym same) inside))
