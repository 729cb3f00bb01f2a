-- What is written of an axis stands for it.
use Rattle.std.proofs.Common.{◌≡◌, ◌⊎◌, inl, inr, if◌then◌else◌, ◌-◌, ℤ, List, length, map, Bool, true, false, true≢false, Option, Some, None, IfSome, option_map, refl, sym}
use Rattle.serde_json.specs.View.{items_of}
use Rattle.edr_axes.specs.Axes.{value_at}
use Rattle.edr_axes.specs.Instants.{instant_text}
use Rattle.edr_axes.specs.InstantGrammar.{WrittenTimesAreInstants}
use Rattle.edr_json.specs.TreeLaws.{each_written}
use Rattle.covjson_value.specs.declared.domains.CoordinateName.{CoordinateName}
use Rattle.covjson_value.specs.declared.domains.CoordinateName.TheVariants.{T, Z, Y, X}
use Rattle.covjson_value.specs.Coverages.{IsAxisValue, IsNamedAxis}
use Rattle.covjson_value.specs.Trees.{axis_value_data, list_data, span_data, is_regular, axis_data}
use Rattle.covjson_value.specs.RegularLaws.{regular_tells, regular_is_even}
use Rattle.covjson_checks.specs.CheckLaws.{whole_written}
use Rattle.covjson_domains.specs.Axes.{StandsForAxisValue, ListsValues, SpansValues, HoldsValues, StandsForAxis, HasSameAxis}

-- a value of an axis: a time is written as an instant
pub axis_value_written : WrittenTimesAreInstants → (name : CoordinateName) (value : ℤ) → IsAxisValue name value → StandsForAxisValue name (axis_value_data name value) value
axis_value_written times T value h = (instant_text value, refl, times value h)
axis_value_written times Z value h = whole_written value
axis_value_written times Y value h = whole_written value
axis_value_written times X value h = whole_written value

-- values that are written in a list are listed
lists_written : WrittenTimesAreInstants → (name : CoordinateName) (values : List ℤ) → IsNamedAxis name values → ListsValues name (list_data name values) values
lists_written times name values h = record {
  items = items_of (map (axis_value_data name) values);
  list = refl;
  values_stand = each_written (StandsForAxisValue name) (IsAxisValue name) (axis_value_data name) (axis_value_written times name) values h.within;
}

-- and regular values that are written short are spanned
spans_written : (values : List ℤ) → is_regular values ≡ true → SpansValues (span_data values) values
spans_written values h = record {
  unlisted = refl;
  first = value_at values 0;
  last = value_at values (length values - 1);
  count = length values;
  start = whole_written (value_at values 0);
  stop = whole_written (value_at values (length values - 1));
  num = refl;
  few = (regular_tells values h).few;
  regular = record { counted = refl; starts = refl; ends = refl; even = regular_is_even values h };
}

-- numbers are written in one of the two forms
numbers_by : (name : CoordinateName) (values : List ℤ) (short : Bool) → is_regular values ≡ short → ListsValues name (list_data name values) values
    → let axis = if short then span_data values else list_data name values in ListsValues name axis values ⊎ SpansValues axis values
numbers_by name values true h lists = inr (spans_written values h)
numbers_by name values false h lists = inl lists

-- a written axis holds its values
values_held : WrittenTimesAreInstants → (name : CoordinateName) (values : List ℤ) → IsNamedAxis name values → HoldsValues name (axis_data name values) values
values_held times T values h = lists_written times T values h
values_held times Z values h = numbers_by Z values (is_regular values) refl (lists_written times Z values h)
values_held times Y values h = numbers_by Y values (is_regular values) refl (lists_written times Y values h)
values_held times X values h = numbers_by X values (is_regular values) refl (lists_written times X values h)

-- they are written in their order
axis_written : WrittenTimesAreInstants → (name : CoordinateName) (values : List ℤ) → IsNamedAxis name values → StandsForAxis name (axis_data name values) false values
axis_written times name values h = record {
  ascending = h.ascending;
  within = h.within;
  several = λ turned. absurd (true≢false (sym turned));
  held = values_held times name values h;
}

-- the axis of a name is written where the domain has it
pub same_axis_written : WrittenTimesAreInstants → (name : CoordinateName) (axis : Option (List ℤ)) → IfSome axis (IsNamedAxis name) → HasSameAxis name (option_map (axis_data name) axis) false axis
same_axis_written times name None h = refl
same_axis_written times name (Some values) h = axis_written times name values h
