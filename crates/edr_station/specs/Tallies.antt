-- How many samples a list has, how many of them aren't missing, and the sum of those.
use Rattle.std.specs.Prelude.{◌≡◌, ℕ, suc, ◌+◌, ℤ, pos, ◌+ℤ◌, List, [], ◌∷◌, ◌++◌, length, Option, None, Some}
use Rattle.edr_station.specs.declared.tallies.Tally.{Tally}

-- how many samples aren't missing
abbrev pub present_in : List (Option ℤ) → ℕ
present_in [] = 0
present_in (None ∷ values) = present_in values
present_in (Some value ∷ values) = suc (present_in values)

-- the sum of the samples that aren't missing
abbrev pub sum_of : List (Option ℤ) → ℤ
sum_of [] = pos 0
sum_of (None ∷ values) = sum_of values
sum_of (Some value ∷ values) = value +ℤ sum_of values

abbrev pub tally_of : List (Option ℤ) → Tally
tally_of values = record { samples = length values; present = present_in values; sum = sum_of values }

-- two tallies together
abbrev pub and_of : Tally → Tally → Tally
and_of one other = record { samples = one.samples + other.samples; present = one.present + other.present; sum = one.sum +ℤ other.sum }

-- ---- a law

-- the tally of samples one after the other is that of both parts together
abbrev pub TalliesAddUp : Type 0
TalliesAddUp = (values others : List (Option ℤ)) → tally_of (values ++ others) ≡ and_of (tally_of values) (tally_of others)
