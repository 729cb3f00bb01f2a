-- What doesn't rise.
use Rattle.std.proofs.Common.{◌≡◌, ◌≢◌, ℕ, ◌+◌, ◌-◌, ◌<◌, ◌≤◌, List, length, get_or, ap, sym, ◌∙◌, subst, arith, inl, inr}
use Rattle.std.proofs.lemmas.Bool.{cases_lt}
use Rattle.edr_chunk.specs.declared.shapes.GridShape.{GridShape}
use Rattle.edr_select.specs.declared.plans.GridNode.{GridNode}
use Rattle.edr_select.specs.Listings.{PlannedValue, ListingValue, NumbersRise}
use Rattle.edr_send.specs.Bands.{band_of, BandsRise, Rises}

-- a cell whose band stands below that of the one before it
pub bands_fall : (shape : GridShape) (cells : List GridNode) (k greatest : ℕ) (cell : GridNode) → k < length cells → (k ≡ 0 → greatest ≡ 0) → ((i : ℕ) (d : GridNode) → i + 1 ≡ k → band_of shape (get_or cells i d) ≡ greatest)
    → band_of shape (get_or cells k cell) < greatest → ¬ (BandsRise shape cells)
bands_fall shape cells k greatest cell inside none last low rise = elim (cases_lt 0 k) [
  | inl some ↦
      let before : band_of shape (get_or cells (k - 1) cell) ≡ greatest = last (k - 1) cell (omega (arith, some)) in
      let up : band_of shape (get_or cells (k - 1) cell) ≤ band_of shape (get_or cells k cell) = rise (k - 1) k cell (omega arith) inside in
      omega (arith, before, up, low)
  | inr first ↦ let least : greatest ≡ 0 = none (omega (arith, first)) in omega (arith, least, low)
]

-- a number that isn't above the one before it
pub numbers_fall : (numbers : List ℕ) (k least d : ℕ) → k < length numbers → (k ≡ 0 → least ≡ 0) → ((i d : ℕ) → i + 1 ≡ k → get_or numbers i d + 1 ≡ least) → get_or numbers k d < least → ¬ (NumbersRise numbers)
numbers_fall numbers k least d inside none last low rise = elim (cases_lt 0 k) [
  | inl some ↦
      let before : get_or numbers (k - 1) d + 1 ≡ least = last (k - 1) d (omega (arith, some)) in
      let up : get_or numbers (k - 1) d < get_or numbers k d = rise (k - 1) k d (omega (arith, some)) inside in
      omega (arith, before, up, low)
  | inr first ↦ let zero : least ≡ 0 = none (omega (arith, first)) in omega (arith, zero, low)
]

-- plans that don't rise
pub several : (plan : ListingValue) (planned : PlannedValue) → length plan.coverages ≢ 1 → ¬ (Rises plan planned)
several plan planned other rises = other (ap length rises.alone)

pub parameters_fall : (plan : ListingValue) (planned : PlannedValue) → ¬ (NumbersRise plan.parameters) → ¬ (Rises plan planned)
parameters_fall plan planned fall rises = fall rises.parameters

pub cells_fall : (plan : ListingValue) (first planned : PlannedValue) → first ≡ get_or plan.coverages 0 first → ¬ (BandsRise plan.shape first.cells) → ¬ (Rises plan planned)
cells_fall plan first planned is fall rises =
    fall (subst (λ (p : PlannedValue). BandsRise plan.shape p.cells) (sym (is ∙ ap (λ (cs : List PlannedValue). get_or cs 0 first) rises.alone)) rises.bands)
