-- The axes of the domains of a position.
use Rattle.std.proofs.Common.{◌≡◌, ℕ, zero, suc, ◌+◌, ◌*◌, ◌^◌, ◌<◌, true, List, [], ◌∷◌, length, refl, ap, ap₂, sym, ◌∙◌, subst, arith, mul-one, one-mul, Some, None, IfSome, IsNone, ℤ, pos, All}
use Rattle.std.specs.declared.option.Option.{Option}
use Rattle.std.specs.Prelude.{map}
use Rattle.std.specs.List.{slice_index_or}
use Rattle.std.proofs.lemmas.List.Elements.{All-map}
use Rattle.std.proofs.lemmas.Bool.{false≢true}
use Rattle.std.proofs.lemmas.Int.{ints}
use Rattle.std.proofs.lemmas.List.{length-map}
use Rattle.edr_base.specs.declared.places.Position.{Position}
use Rattle.edr_axes.specs.Axes.{value_at, axis_length}
use Rattle.covjson_value.specs.declared.domains.CoordinateName.{CoordinateName}
use Rattle.covjson_value.specs.declared.domains.CoordinateName.TheVariants.{T, Z, Y, X}
use Rattle.covjson_value.specs.declared.domains.Domain.{Domain}
use Rattle.covjson_value.specs.Domains.{axis_of, tuples_of, coordinates_of, coordinate, is_among, count_of}
use Rattle.covjson_value.specs.CountLaws.{count_is}
use Rattle.covjson_value.specs.Coverages.{IsAxisValue, IsNamedAxis, HasAxes, IsTuple, NeverFall, AreTuples, HasTuples}
use Rattle.edr_select.specs.Heads.{Spot, domain_at, position_at}
use Rattle.edr_select.specs.Planned.{points_domain}

-- ---- one spot

-- whatever its kind, the domain of a spot has these axes
pub record HasTheAxes (domain : Domain) (ts : List ℤ) (zs : Option (List ℤ)) (spot : Spot) : Type 0 where
  pub t : axis_of domain T ≡ Some ts
  pub z : axis_of domain Z ≡ zs
  pub y : axis_of domain Y ≡ Some (spot.0 ∷ [])
  pub x : axis_of domain X ≡ Some (spot.1 ∷ [])
  pub tuples : tuples_of domain ≡ None
  pub coordinates : coordinates_of domain ≡ []

pub axes_at : (ts : List ℤ) (zs : Option (List ℤ)) (spot : Spot) → HasTheAxes (domain_at ts zs spot) ts zs spot
axes_at [] None spot = record { t = refl; z = refl; y = refl; x = refl; tuples = refl; coordinates = refl }
axes_at [] (Some []) spot = record { t = refl; z = refl; y = refl; x = refl; tuples = refl; coordinates = refl }
axes_at [] (Some (z ∷ [])) spot = record { t = refl; z = refl; y = refl; x = refl; tuples = refl; coordinates = refl }
axes_at [] (Some (z ∷ y ∷ zs)) spot = record { t = refl; z = refl; y = refl; x = refl; tuples = refl; coordinates = refl }
axes_at (t ∷ []) None spot = record { t = refl; z = refl; y = refl; x = refl; tuples = refl; coordinates = refl }
axes_at (t ∷ []) (Some []) spot = record { t = refl; z = refl; y = refl; x = refl; tuples = refl; coordinates = refl }
axes_at (t ∷ []) (Some (z ∷ [])) spot = record { t = refl; z = refl; y = refl; x = refl; tuples = refl; coordinates = refl }
axes_at (t ∷ []) (Some (z ∷ y ∷ zs)) spot = record { t = refl; z = refl; y = refl; x = refl; tuples = refl; coordinates = refl }
axes_at (t ∷ u ∷ ts) None spot = record { t = refl; z = refl; y = refl; x = refl; tuples = refl; coordinates = refl }
axes_at (t ∷ u ∷ ts) (Some []) spot = record { t = refl; z = refl; y = refl; x = refl; tuples = refl; coordinates = refl }
axes_at (t ∷ u ∷ ts) (Some (z ∷ [])) spot = record { t = refl; z = refl; y = refl; x = refl; tuples = refl; coordinates = refl }
axes_at (t ∷ u ∷ ts) (Some (z ∷ y ∷ zs)) spot = record { t = refl; z = refl; y = refl; x = refl; tuples = refl; coordinates = refl }

-- so many values has a parameter there
pub count_at : (ts : List ℤ) (zs : Option (List ℤ)) (spot : Spot) → count_of (domain_at ts zs spot) ≡ length ts * axis_length zs
count_at ts zs spot =
    let domain : Domain = domain_at ts zs spot in
    let a = axes_at ts zs spot in
    count_is domain
    ∙ (ap₂ (λ (t z : Option (List ℤ)). axis_length t * (axis_length z * (axis_length (axis_of domain Y) * (axis_length (axis_of domain X) * axis_length (tuples_of domain))))) a.t a.z
    ∙ (ap₂ (λ (y x : Option (List ℤ)). length ts * (axis_length zs * (axis_length y * (axis_length x * axis_length (tuples_of domain))))) a.y a.x
    ∙ (ap (λ (tuples : Option (List Position)). length ts * (axis_length zs * (1 * (1 * axis_length tuples)))) a.tuples
    ∙ ap (λ n. length ts * n) (mul-one (axis_length zs)))))

pub has_axes_at : (ts : List ℤ) (zs : Option (List ℤ)) (spot : Spot) → IsNamedAxis T ts → IfSome zs (IsNamedAxis Z) → IsNamedAxis Y (spot.0 ∷ [])
    → IsNamedAxis X (spot.1 ∷ [])
    → HasAxes (domain_at ts zs spot)
has_axes_at ts zs spot ht hz hy hx T = subst (λ (o : Option (List ℤ)). IfSome o (IsNamedAxis T)) (sym (axes_at ts zs spot).t) ht
has_axes_at ts zs spot ht hz hy hx Z = subst (λ (o : Option (List ℤ)). IfSome o (IsNamedAxis Z)) (sym (axes_at ts zs spot).z) hz
has_axes_at ts zs spot ht hz hy hx Y = subst (λ (o : Option (List ℤ)). IfSome o (IsNamedAxis Y)) (sym (axes_at ts zs spot).y) hy
has_axes_at ts zs spot ht hz hy hx X = subst (λ (o : Option (List ℤ)). IfSome o (IsNamedAxis X)) (sym (axes_at ts zs spot).x) hx

pub no_tuples_at : (ts : List ℤ) (zs : Option (List ℤ)) (spot : Spot) → HasTuples (domain_at ts zs spot)
no_tuples_at ts zs spot = record {
  tuples = subst (λ (o : Option (List Position)). IfSome o (AreTuples (coordinates_of (domain_at ts zs spot)))) (sym (axes_at ts zs spot).tuples) tt;
  once = λ name among. absurd (false≢true (ap (is_among name) (sym (axes_at ts zs spot).coordinates) ∙ among));
}

-- one value is an axis
pub one_value : (name : CoordinateName) (value : ℤ) → IsAxisValue name value → IsNamedAxis name (value ∷ [])
one_value name value h = record {
  ascending = record { some = omega arith; ascending = λ place l. absurd (omega (arith, l)) };
  within = at_first;
}
  where
    at_first : All (IsAxisValue name) (value ∷ [])
    at_first zero d l = h
    at_first (suc k) d l = absurd (omega (arith, l))

-- ---- several spots

pub count_along : (t : ℤ) (z : Option ℤ) (spots : List Spot) → count_of (points_domain t z spots) ≡ length spots
count_along t None spots =
    one-mul (length (map (position_at (pos 0)) spots) * 1) ∙ (mul-one (length (map (position_at (pos 0)) spots)) ∙ length-map spots (position_at (pos 0)))
count_along t (Some z) spots = one-mul (length (map (position_at z) spots) * 1) ∙ (mul-one (length (map (position_at z) spots)) ∙ length-map spots (position_at z))

pub has_axes_along : (t : ℤ) (z : Option ℤ) (spots : List Spot) → IsAxisValue T t → HasAxes (points_domain t z spots)
has_axes_along t None spots h T = one_value T t h
has_axes_along t None spots h Z = tt
has_axes_along t None spots h Y = tt
has_axes_along t None spots h X = tt
has_axes_along t (Some z) spots h T = one_value T t h
has_axes_along t (Some z) spots h Z = tt
has_axes_along t (Some z) spots h Y = tt
has_axes_along t (Some z) spots h X = tt

-- a spot of coordinates
pub record IsSpot (spot : Spot) : Type 0 where
  pub y : IsAxisValue Y spot.0
  pub x : IsAxisValue X spot.1

tuple_flat : (spot : Spot) → IsSpot spot → IsTuple (X ∷ Y ∷ []) (position_at (pos 0) spot)
tuple_flat spot h T = refl
tuple_flat spot h Z = refl
tuple_flat spot h Y = h.y
tuple_flat spot h X = h.x

tuple_high : (z : ℤ) → IsAxisValue Z z → (spot : Spot) → IsSpot spot → IsTuple (X ∷ Y ∷ Z ∷ []) (position_at z spot)
tuple_high z hz spot h T = refl
tuple_high z hz spot h Z = hz
tuple_high z hz spot h Y = h.y
tuple_high z hz spot h X = h.x

no_times : (z : ℤ) (spots : List Spot) (k : ℕ) → value_at (map (coordinate T) (map (position_at z) spots)) k ≡ pos 0
no_times z [] k = refl
no_times z (spot ∷ spots) zero = refl
no_times z (spot ∷ spots) (suc k) = no_times z spots k

never_fall : (z : ℤ) (spots : List Spot) → NeverFall (map (coordinate T) (map (position_at z) spots))
never_fall z spots place l = omega (arith, ints, no_times z spots place, no_times z spots (place + 1))

all_spots : (P : Position → Type 0) (z : ℤ) (spots : List Spot) → ((spot : Spot) → IsSpot spot → P (position_at z spot)) → All IsSpot spots
    → All P (map (position_at z) spots)
all_spots P z spots each all = All-map P (position_at z) spots (λ k d l. each (slice_index_or spots k d) (all k d l))

pub tuples_along : (t : ℤ) (z : Option ℤ) (spots : List Spot) → IfSome z (IsAxisValue Z) → All IsSpot spots → 0 < length spots → length spots < 2 ^ 64
    → HasTuples (points_domain t z spots)
tuples_along t None spots hz all some few = record {
  tuples = record {
    some = omega (arith, some, length-map spots (position_at (pos 0)));
    counted = omega (arith, few, length-map spots (position_at (pos 0)));
    each = all_spots (IsTuple (X ∷ Y ∷ [])) (pos 0) spots tuple_flat all;
    in_time = never_fall (pos 0) spots;
  };
  once = once;
}
  where
    once : (name : CoordinateName) → is_among name (X ∷ Y ∷ []) ≡ true → IsNone (axis_of (points_domain t None spots) name)
    once T among = absurd (false≢true among)
    once Z among = absurd (false≢true among)
    once Y among = refl
    once X among = refl
tuples_along t (Some z) spots hz all some few = record {
  tuples = record {
    some = omega (arith, some, length-map spots (position_at z));
    counted = omega (arith, few, length-map spots (position_at z));
    each = all_spots (IsTuple (X ∷ Y ∷ Z ∷ [])) z spots (tuple_high z hz) all;
    in_time = never_fall z spots;
  };
  once = once;
}
  where
    once : (name : CoordinateName) → is_among name (X ∷ Y ∷ Z ∷ []) ≡ true → IsNone (axis_of (points_domain t (Some z) spots) name)
    once T among = absurd (false≢true among)
    once Z among = refl
    once Y among = refl
    once X among = refl
