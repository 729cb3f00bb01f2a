-- The data of axes of ranges, one after another.
use Rattle.std.proofs.Common.{◌≡◌, ℤ, ◌++◌, List, Option, Some, None, map, ap, ◌∙◌, append_assoc}
use Rattle.serde_json.specs.Data.{Data}
use Rattle.edr_base.specs.declared.places.Position.{Position}
use Rattle.covjson_value.specs.declared.domains.CoordinateName.{CoordinateName}
use Rattle.covjson_value.specs.declared.domains.CoordinateName.TheVariants.{T, Z, Y, X}
use Rattle.covjson_value.specs.Domains.{AxisLength, axis_before, composite_alone, in_order}
use Rattle.covjson_value.specs.Puts.{axis_alone}

-- one axis, and those behind it
one_before : (f : AxisLength → Data) (start : List Data) (name : CoordinateName) (axis : Option (List ℤ)) (axes : List AxisLength)
    → (start ++ map f (axis_alone name axis)) ++ map f axes ≡ start ++ map f (axis_before name axis axes)
one_before f start name None axes = append_assoc start _ _
one_before f start name (Some values) axes = append_assoc start _ _

-- all of them
pub axes_gathered : (f : AxisLength → Data) (axis : CoordinateName → Option (List ℤ)) (tuples : Option (List Position)) (none t z y x all : List Data)
    → t ≡ none ++ map f (axis_alone T (axis T)) → z ≡ t ++ map f (axis_alone Z (axis Z)) → y ≡ z ++ map f (axis_alone Y (axis Y)) → x ≡ y ++ map f (axis_alone X (axis X))
    → all ≡ x ++ map f (composite_alone tuples) → all ≡ none ++ map f (in_order axis tuples)
axes_gathered f axis tuples none t z y x all t_is z_is y_is x_is all_is =
    let from_x = composite_alone tuples in
    let from_y = axis_before X (axis X) from_x in
    let from_z = axis_before Y (axis Y) from_y in
    let from_t = axis_before Z (axis Z) from_z in
    all_is ∙ ap (λ ds. ds ++ map f from_x) x_is ∙ one_before f y X (axis X) from_x
    ∙ ap (λ ds. ds ++ map f from_y) y_is ∙ one_before f z Y (axis Y) from_y
    ∙ ap (λ ds. ds ++ map f from_z) z_is ∙ one_before f t Z (axis Z) from_z
    ∙ ap (λ ds. ds ++ map f from_t) t_is ∙ one_before f none T (axis T) from_t
