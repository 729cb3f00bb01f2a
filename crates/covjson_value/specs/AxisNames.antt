-- The names of axes (OGC 21-069r2, Domain objects and NdArray objects).
use Rattle.std.specs.Prelude.{ℕ, List, bytes_eq, codes, if◌then◌else◌, Option, Some, None}
use Rattle.covjson_value.specs.declared.domains.CoordinateName.{CoordinateName}
use Rattle.covjson_value.specs.declared.domains.CoordinateName.TheVariants as coordinates
use Rattle.covjson_value.specs.declared.axis_names.AxisName.{AxisName}
use Rattle.covjson_value.specs.declared.axis_names.AxisName.TheVariants.{T, Z, Y, X, Composite}

-- the name of an axis in CoverageJSON
abbrev pub axis_key : AxisName → List ℕ
axis_key T = codes "t"
axis_key Z = codes "z"
axis_key Y = codes "y"
axis_key X = codes "x"
axis_key Composite = codes "composite"

-- and the axis of a name
abbrev pub axis_by_name : List ℕ → Option AxisName
axis_by_name text =
    if bytes_eq text (axis_key T) then Some T
    else if bytes_eq text (axis_key Z) then Some Z
    else if bytes_eq text (axis_key Y) then Some Y
    else if bytes_eq text (axis_key X) then Some X
    else if bytes_eq text (axis_key Composite) then Some Composite
    else None

-- the axis along which a coordinate has its values, where it isn't one of tuples
abbrev pub axis_name : CoordinateName → AxisName
axis_name coordinates.T = T
axis_name coordinates.Z = Z
axis_name coordinates.Y = Y
axis_name coordinates.X = X
