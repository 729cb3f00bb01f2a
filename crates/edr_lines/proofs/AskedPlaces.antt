-- Places of a range, and those of them that are asked.
use Rattle.std.proofs.Common.{◌≡◌, ℕ, ◌+◌, ◌<◌, ◌≤◌, ◌≢◌, Bool, true, false, List, length, get_or, refl, ap, ap₂, sym, ◌∙◌, arith, inl, inr}
use Rattle.std.proofs.lemmas.Bool.{cases_eq}
use Rattle.std.specs.Prelude.{◌&&◌, ◌||◌, ◌⊎◌}
use Rattle.std.proofs.Math.ListN.{set}
use Rattle.std.proofs.lemmas.Bool.Decides.{nat_tests}
use Rattle.edr_geometry.specs.Ranges.{lies_in}
use Rattle.edr_select.specs.ListLaws.{any_range}
use Rattle.edr_lines.specs.Boxes.{some_asked, SetAsked}
use Rattle.edr_lines.proofs.Ends.{any_none}
use Rattle.edr_lines.proofs.Joined.{Joined, join_same, join_more}

-- ---- ranges

pub lies_at : (low high k : ℕ) → low ≤ k → k < high → lies_in (low, high) k ≡ true
lies_at low high k l h = grind (arith, nat_tests)

pub lies_from : (low high k : ℕ) → lies_in (low, high) k ≡ true → (low ≤ k) × (k < high)
lies_from low high k h = grind (arith, nat_tests)

nothing_lies : (low k : ℕ) → lies_in (low, low) k ≡ false
nothing_lies low k = grind (arith, nat_tests)

lies_other : (low place k : ℕ) → k ≢ place → lies_in (low, place + 1) k ≡ lies_in (low, place) k
lies_other low place k differs = grind (arith, nat_tests)

-- ---- some place of a range is asked

pub asked_here : (asked : List Bool) (low high k : ℕ) → low ≤ k → k < high → k < length asked → get_or asked k false ≡ true → some_asked asked (low, high) ≡ true
asked_here asked low high k l h inside is =
    any_range (λ place. lies_in (low, high) place && get_or asked place false) 0 (length asked) k (omega arith) (omega (arith, inside)) (ap₂ (λ b c. b && c) (lies_at low high k l h) is)

pub none_asked : (asked : List Bool) (low high : ℕ) → ((k : ℕ) → low ≤ k → k < high → get_or asked k false ≡ false) → some_asked asked (low, high) ≡ false
none_asked asked low high none = any_none (λ place. lies_in (low, high) place && get_or asked place false) (length asked) (λ k inside. here k (lies_in (low, high) k) refl)
  where
    here : (k : ℕ) (b : Bool) → lies_in (low, high) k ≡ b → (lies_in (low, high) k && get_or asked k false) ≡ false
    here k true e = let lies = lies_from low high k e in ap₂ (λ b c. b && c) e (none k lies.0 lies.1)
    here k false e = ap (λ b. b && get_or asked k false) e

-- ---- those are set

-- a place of the range that is asked
abbrev pub is_among : List Bool → ℕ → ℕ → ℕ → Bool
is_among asked low high k = lies_in (low, high) k && get_or asked k false

or_false : (b c d : Bool) → c ≡ false → (b || (c && d)) ≡ b
or_false true c d h = refl
or_false false c d h = ap (λ e. e && d) h

pub none_set : (asked : List Bool) (low : ℕ) (old : List Bool) → SetAsked asked (low, low) old old
none_set asked low old = record { full = refl; set = λ place inside. sym (or_false (get_or old place false) (lies_in (low, low) place) (get_or asked place false) (nothing_lies low place)) }

module _ (asked : List Bool) (low place : ℕ) (from : low ≤ place) (old new : List Bool) (before : SetAsked asked (low, place) old new) where
  joined : Joined (is_among asked low place) old new
  joined = record { full = before.full; set = before.set }

  set_of : (after : List Bool) → Joined (is_among asked low (place + 1)) old after → SetAsked asked (low, place + 1) old after
  set_of after j = record { full = j.full; set = j.set }

  elsewhere : (k : ℕ) → k ≢ place → is_among asked low (place + 1) k ≡ is_among asked low place k
  elsewhere k differs = ap (λ b. b && get_or asked k false) (lies_other low place k differs)

  -- one that is asked
  pub set_more : place < length new → get_or asked place false ≡ true → SetAsked asked (low, place + 1) old (set new place true)
  set_more inside is =
      set_of (set new place true)
      (join_more (is_among asked low place) (is_among asked low (place + 1)) old new place joined inside (ap₂ (λ b c. b && c) (lies_at low (place + 1) place from (omega arith)) is) elsewhere)

  -- one that isn't
  pub set_same : get_or asked place false ≡ false → SetAsked asked (low, place + 1) old new
  set_same is = set_of new (join_same (is_among asked low place) (is_among asked low (place + 1)) old new joined (λ k inside. here k (cases_eq k place)))
    where
      and_false : (b c : Bool) → c ≡ false → (b && c) ≡ false
      and_false true c h = h
      and_false false c h = refl

      here : (k : ℕ) → (k ≡ place) ⊎ (k ≢ place) → is_among asked low (place + 1) k ≡ is_among asked low place k
      here k (inr differs) = elsewhere k differs
      here k (inl e) =
          let isnt : get_or asked k false ≡ false = ap (λ n. get_or asked n false) e ∙ is in
          and_false (lies_in (low, place + 1) k) (get_or asked k false) isnt ∙ sym (and_false (lies_in (low, place) k) (get_or asked k false) isnt)
