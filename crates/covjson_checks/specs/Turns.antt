-- Which axes of a tree descend, so that they and the values over them are turned round.
use Rattle.std.specs.Prelude.{Bool, false}
use Rattle.covjson_value.specs.declared.domains.CoordinateName.{CoordinateName}
use Rattle.covjson_value.specs.declared.domains.CoordinateName.TheVariants.{T, Z, Y, X}
use Rattle.covjson_checks.specs.declared.turned.Turned.{Turned}

-- whether an axis is turned
abbrev pub is_turned : Turned → CoordinateName → Bool
is_turned turned T = turned.t
is_turned turned Z = turned.z
is_turned turned Y = turned.y
is_turned turned X = turned.x

-- no axis is turned
abbrev pub unturned : Turned
unturned = record { t = false; z = false; y = false; x = false }
