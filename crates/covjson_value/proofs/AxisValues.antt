-- A value of an axis is the same after its way through 64 bits.
use Rattle.std.proofs.Common.{◌≡◌, ℤ, w64, to_z, of_z, arith}
use Rattle.std.proofs.lemmas.Int.{ints, to_z-of_z}
use Rattle.covjson_value.specs.declared.domains.CoordinateName.{CoordinateName}
use Rattle.covjson_value.specs.declared.domains.CoordinateName.TheVariants.{T, Z, Y, X}
use Rattle.covjson_value.specs.Coverages.{IsAxisValue}

pub axis_value_kept : (name : CoordinateName) (value : ℤ) → IsAxisValue name value → to_z w64 (of_z w64 value) ≡ value
axis_value_kept T value h = to_z-of_z w64 value (omega (arith, ints, h))
axis_value_kept Z value h = to_z-of_z w64 value (omega (arith, ints, h))
axis_value_kept Y value h = to_z-of_z w64 value (omega (arith, ints, h))
axis_value_kept X value h = to_z-of_z w64 value (omega (arith, ints, h))
