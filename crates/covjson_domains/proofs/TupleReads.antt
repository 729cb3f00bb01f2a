-- What is read of the value of a coordinate, and what it stands for.
use Rattle.std.specs.Prelude.{is_some, option_and_then}
use Rattle.std.proofs.Common.{◌≡◌, ℕ, ℤ, pos, unsigned_abs, true, true≢false, Option, Some, None, Ok, refl, sym, ap, ◌∙◌, subst}
use Rattle.std.proofs.lemmas.Bool.{leb-true, le-leb}
use Rattle.serde_json.specs.Data.{Data}
use Rattle.serde_json.specs.Find.{as_str}
use Rattle.edr_axes.specs.InstantComputed.{InstantsAreRead}
use Rattle.edr_base.specs.Limits.{coordinate_limit, IsCoordinate}
use Rattle.covjson_value.specs.declared.domains.CoordinateName.{CoordinateName}
use Rattle.covjson_value.specs.declared.domains.CoordinateName.TheVariants.{T, Z, Y, X}
use Rattle.covjson_value.specs.Coverages.{IsAxisValue}
use Rattle.covjson_domains.specs.declared.tuples.Test.{Test}
use Rattle.covjson_domains.specs.declared.tuples.Test.TheVariants.{Form, Whole, Within}
use Rattle.covjson_checks.specs.declared.faults.Member.TheVariants.{Composite}
use Rattle.edr_json.specs.Trees.{whole_of}
use Rattle.covjson_domains.specs.Axes.{StandsForTime, StandsForAxisValue}
use Rattle.covjson_domains.specs.TupleAnswers.{is_whole_within, number_passes, time_passes, passes, whole_or_zero, time_if}
use Rattle.covjson_domains.proofs.AxisLists.{number_wanted, time_stands, time_given}

-- ---- a value and the tests

-- a number within the limit is a coordinate
pub within_tells : (o : Option ℤ) → is_whole_within o ≡ true → (o ≡ Some (whole_or_zero o)) × IsCoordinate (whole_or_zero o)
within_tells None h = absurd (true≢false (sym h))
within_tells (Some value) h = (refl, leb-true (unsigned_abs value) coordinate_limit h)

-- a coordinate passes each test of a number
coordinate_passes : (test : Test) (d : Data) (value : ℤ) → whole_of d ≡ Some value → IsCoordinate value → number_passes test d ≡ true
coordinate_passes Form d value h within = number_wanted d value h
coordinate_passes Whole d value h within = ap is_some h
coordinate_passes Within d value h within = ap is_whole_within h ∙ le-leb (unsigned_abs value) coordinate_limit within

-- an instant passes each test of a time
instant_passes : (test : Test) (d : Data) (value : ℤ) → StandsForTime d value → time_passes test d ≡ true
instant_passes Form d value h = ap (λ (e : Data). is_some (as_str e)) h.1
instant_passes Whole d value h = refl
instant_passes Within d value h = refl

-- a value of an axis passes each test of its name
pub value_passes : (test : Test) (name : CoordinateName) (d : Data) (value : ℤ) → StandsForAxisValue name d value → IsAxisValue name value → passes test name d ≡ true
value_passes test T d value h within = instant_passes test d value h
value_passes test Z d value h within = coordinate_passes test d value h within
value_passes test Y d value h within = coordinate_passes test d value h within
value_passes test X d value h within = coordinate_passes test d value h within

-- ---- a value and what is read of it

-- the value is what is read of a coordinate's datum, where there is one
abbrev pub IsReadAs : ℕ → CoordinateName → Option Data → ℤ → Type 0
IsReadAs place T o value = time_if place o ≡ Ok value
IsReadAs place Z o value = whole_or_zero (option_and_then whole_of o) ≡ value
IsReadAs place Y o value = whole_or_zero (option_and_then whole_of o) ≡ value
IsReadAs place X o value = whole_or_zero (option_and_then whole_of o) ≡ value

-- what is read of a number within the limit is the number, a coordinate
number_stands : (d : Data) (value : ℤ) → whole_or_zero (whole_of d) ≡ value → is_whole_within (whole_of d) ≡ true → (whole_of d ≡ Some value) × IsCoordinate value
number_stands d value read pass =
    let tells = within_tells (whole_of d) pass in
    (tells.0 ∙ ap Some read, subst (λ (z : ℤ). IsCoordinate z) read tells.1)

-- what is read of a datum within the limits is what it stands for
pub value_stands : InstantsAreRead → (place : ℕ) (name : CoordinateName) (d : Data) (value : ℤ) → IsReadAs place name (Some d) value → passes Within name d ≡ true
    → StandsForAxisValue name d value × IsAxisValue name value
value_stands instants place T d value read pass = let time = time_stands instants Composite place d value read in (time, time.2.time_in)
value_stands instants place Z d value read pass = number_stands d value read pass
value_stands instants place Y d value read pass = number_stands d value read pass
value_stands instants place X d value read pass = number_stands d value read pass

-- what a datum stands for is read of it
pub value_read : InstantsAreRead → (place : ℕ) (name : CoordinateName) (d : Data) (value : ℤ) → StandsForAxisValue name d value → IsReadAs place name (Some d) value
value_read instants place T d value h = time_given instants Composite place d value h
value_read instants place Z d value h = ap whole_or_zero h
value_read instants place Y d value h = ap whole_or_zero h
value_read instants place X d value h = ap whole_or_zero h

-- where there is none, 0 is read
pub none_read : (place : ℕ) (name : CoordinateName) → IsReadAs place name None (pos 0)
none_read place T = refl
none_read place Z = refl
none_read place Y = refl
none_read place X = refl

-- and only 0
pub none_zero : (place : ℕ) (name : CoordinateName) (value : ℤ) → IsReadAs place name None value → value ≡ pos 0
none_zero place T value read = cc
none_zero place Z value read = sym read
none_zero place Y value read = sym read
none_zero place X value read = sym read
