-- Laws of the names of axes.
use Rattle.std.proofs.Common.{◌≡◌, ℕ, List, Option, Some, None, refl, sym, ap, ◌∙◌}
use Rattle.covjson_value.specs.declared.axis_names.AxisName.{AxisName}
use Rattle.covjson_value.specs.declared.axis_names.AxisName.TheVariants.{T, Z, Y, X, Composite}
use Rattle.covjson_value.specs.AxisNames.{axis_key, axis_by_name}
use Rattle.covjson_checks.specs.CheckLaws.{named_one}

-- an axis is found by its name alone
pub key_is : (text : List ℕ) (name : AxisName) → axis_by_name text ≡ Some name → text ≡ axis_key name
key_is text name h =
    named_one axis_key text T name _ (named_one axis_key text Z name _ (named_one axis_key text Y name _ (named_one axis_key text X name _
    (named_one axis_key text Composite name None (λ none. cc))))) h

-- and by its name it is found
pub named_axis : (name : AxisName) → axis_by_name (axis_key name) ≡ Some name
named_axis T = refl
named_axis Z = refl
named_axis Y = refl
named_axis X = refl
named_axis Composite = refl

-- axes of one name are one
pub one_name : (name other : AxisName) → axis_key name ≡ axis_key other → name ≡ other
one_name name other h =
    let e : ◌≡◌ {A = Option AxisName} (Some name) (Some other) = sym (named_axis name) ∙ ap axis_by_name h ∙ named_axis other in cc
