-- A law of counts: how many values a parameter has over a domain.
use Rattle.std.proofs.Common.{◌≡◌, ◌*◌, ℤ, List, refl, ap, ◌∙◌, arith}
use Rattle.std.specs.declared.option.Option.{Option}
use Rattle.std.specs.Prelude.{None, Some}
use Rattle.edr_base.specs.declared.places.Position.{Position}
use Rattle.covjson_value.specs.declared.domains.CoordinateName.{CoordinateName}
use Rattle.covjson_value.specs.declared.domains.CoordinateName.TheVariants.{T, Z, Y, X}
use Rattle.covjson_value.specs.declared.domains.Domain.{Domain}
use Rattle.covjson_value.specs.Domains.{AxisLength, axis_of, tuples_of, axis_before, composite_alone, places, count_of}
use Rattle.edr_axes.specs.Axes.{axis_length}

places_before : (name : CoordinateName) (axis : Option (List ℤ)) (axes : List AxisLength) → places (axis_before name axis axes) ≡ axis_length axis * places axes
places_before name None axes = omega arith
places_before name (Some values) axes = refl

places_alone : (tuples : Option (List Position)) → places (composite_alone tuples) ≡ axis_length tuples
places_alone None = refl
places_alone (Some tuples) = omega arith

-- the product of the lengths of its axes
pub count_is : (domain : Domain) → count_of domain ≡ axis_length (axis_of domain T) * (axis_length (axis_of domain Z) * (axis_length (axis_of domain Y) * (axis_length (axis_of domain X) * axis_length (tuples_of domain))))
count_is domain =
    places_before T (axis_of domain T) _
    ∙ ap (λ n. axis_length (axis_of domain T) * n) (places_before Z (axis_of domain Z) _
    ∙ ap (λ n. axis_length (axis_of domain Z) * n) (places_before Y (axis_of domain Y) _
    ∙ ap (λ n. axis_length (axis_of domain Y) * n) (places_before X (axis_of domain X) _
    ∙ ap (λ n. axis_length (axis_of domain X) * n) (places_alone (tuples_of domain)))))
