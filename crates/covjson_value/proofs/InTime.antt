-- Tuples whose times never fall.
use Rattle.std.proofs.Common.{◌≡◌, ℕ, ◌+◌, ◌-◌, ◌<◌, ◌≤◌, ℤ, pos, ◌≤ℤ◌, inl, inr, List, length, map, slice_index_or, subst, arith}
use Rattle.std.proofs.lemmas.List.{get_or-map, length-map}
use Rattle.std.proofs.lemmas.Bool.{cases_lt}
use Rattle.edr_base.specs.declared.places.Position.{Position}
use Rattle.edr_axes.specs.Axes.{value_at}
use Rattle.covjson_value.specs.declared.domains.CoordinateName.TheVariants.{T}
use Rattle.covjson_value.specs.Domains.{coordinate}
use Rattle.covjson_value.specs.Coverages.{NeverFall}

abbrev pub times_of : List Position → List ℤ
times_of tuples = map (coordinate T) tuples

-- the value at a place is not above the next
abbrev pub IsBeforeNext : List ℤ → ℕ → Type 0
IsBeforeNext values k = value_at values k ≤ℤ value_at values (k + 1)

-- what is read outside a list
abbrev pub origin : Position
origin = record { x = pos 0; y = pos 0; z = pos 0; m = pos 0 }

-- the time of a tuple that stands at a place
abbrev pub time_at : List Position → ℕ → Position → ℤ
time_at tuples place d = (slice_index_or tuples place d).m

time_read : (tuples : List Position) (place : ℕ) (d : Position) → place < length tuples → value_at (times_of tuples) place ≡ time_at tuples place d
time_read tuples place d inside = get_or-map (coordinate T) tuples place d (pos 0) inside

-- two that were read at a place and before it
read_before : (tuples : List Position) (place : ℕ) (d : Position) → 1 ≤ place → place < length tuples → time_at tuples (place - 1) d ≤ℤ time_at tuples place d → IsBeforeNext (times_of tuples) (place - 1)
read_before tuples place d some inside below =
    let after : place ≡ place - 1 + 1 = omega arith in
    let P : ℕ → Type 0 = λ n. value_at (times_of tuples) (place - 1) ≤ℤ value_at (times_of tuples) n in
    subst P after (rw (time_read tuples (place - 1) d (omega arith), time_read tuples place d inside) below)

-- none falls up to one more place
pub before_more : (tuples : List Position) (place : ℕ) (d : Position) → 1 ≤ place → place < length tuples → ((k : ℕ) → k + 1 < place → IsBeforeNext (times_of tuples) k)
    → time_at tuples (place - 1) d ≤ℤ time_at tuples place d → (k : ℕ) → k + 1 < place + 1 → IsBeforeNext (times_of tuples) k
before_more tuples place d some inside before below k up =
    elim (cases_lt (k + 1) place) [
      | inl less ↦ before k less
      | inr more ↦ let P : ℕ → Type 0 = IsBeforeNext (times_of tuples) in let same : place - 1 ≡ k = omega arith in subst P same (read_before tuples place d some inside below)
    ]

-- where none falls, a tuple is not above the next
pub never_above : (tuples : List Position) (place : ℕ) (d : Position) → 1 ≤ place → place < length tuples → NeverFall (times_of tuples) → time_at tuples (place - 1) d ≤ℤ time_at tuples place d
never_above tuples place d some inside never =
    let after : place - 1 + 1 ≡ place = omega arith in
    let here : IsBeforeNext (times_of tuples) (place - 1) = never (place - 1) (omega (arith, length-map tuples (coordinate T))) in
    let P : ℕ → Type 0 = λ n. value_at (times_of tuples) (place - 1) ≤ℤ value_at (times_of tuples) n in
    rw (← time_read tuples (place - 1) d (omega arith), ← time_read tuples place d inside) (subst P after here)
