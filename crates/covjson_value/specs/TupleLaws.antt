-- Laws of tuples: their coordinates are values of their axes.
use Rattle.std.proofs.Common.{◌≡◌, true, List, [], ◌∷◌, All, refl}
use Rattle.std.proofs.lemmas.Bool.{or_right}
use Rattle.std.proofs.lemmas.List.Elements.{All-nil, All-cons}
use Rattle.edr_base.specs.declared.places.Position.{Position}
use Rattle.covjson_value.specs.declared.domains.CoordinateName.{CoordinateName}
use Rattle.covjson_value.specs.declared.domains.CoordinateName.TheVariants.{T, Z, Y, X}
use Rattle.covjson_value.specs.Domains.{coordinate, is_among}
use Rattle.covjson_value.specs.Coverages.{IsAxisValue, IsTuple}

is_among-first : (name : CoordinateName) (names : List CoordinateName) → is_among name (name ∷ names) ≡ true
is_among-first T names = refl
is_among-first Z names = refl
is_among-first Y names = refl
is_among-first X names = refl

-- the coordinate's value is one of its axis
abbrev pub HasValue : Position → CoordinateName → Type 0
HasValue tuple name = IsAxisValue name (coordinate name tuple)

HasValue-is_among : (names : List CoordinateName) (tuple : Position) (name : CoordinateName) → IsTuple names tuple → is_among name names ≡ true → HasValue tuple name
HasValue-is_among names tuple name h among = rw among at (h name)

-- each name of a list is one of the list
abbrev Within : List CoordinateName → List CoordinateName → Type 0
Within names all = (name : CoordinateName) → is_among name names ≡ true → is_among name all ≡ true

values_within : (names all : List CoordinateName) (tuple : Position) → Within names all → IsTuple all tuple → All (HasValue tuple) names
values_within [] all tuple within h = All-nil (HasValue tuple)
values_within (name ∷ names) all tuple within h =
    All-cons (HasValue tuple) name names (HasValue-is_among all tuple name h (within name (is_among-first name names)))
    (values_within names all tuple (λ other among. within other (or_right _ _ among)) h)

pub coordinates_are_values : (names : List CoordinateName) (tuple : Position) → IsTuple names tuple → All (HasValue tuple) names
coordinates_are_values names tuple h = values_within names names tuple (λ name among. among) h
