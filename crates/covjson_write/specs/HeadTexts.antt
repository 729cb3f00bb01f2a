-- For private clauses: the texts of a head's parts as they are put behind one another.
use Rattle.std.specs.Prelude.{ℕ, Bool, true, false, if◌then◌else◌, List, [], ◌∷◌, ◌++◌, map, length, decimal, codes}
use Rattle.std.specs.declared.option.Option.{Option}
use Rattle.std.specs.Prelude.{None, Some}
use Rattle.json.specs.Print.{quoted}
use Rattle.serde_json.specs.Data.{Data}
use Rattle.serde_json.specs.Written.{compact_text, comma_if}
use Rattle.covjson_value.specs.declared.coverages.Parameter.{Parameter}
use Rattle.covjson_value.specs.Trees.{parameter_data}

-- texts with commas between them, and one before them where others stand there
abbrev pub with_commas : Bool → List (List ℕ) → List ℕ
with_commas later [] = []
with_commas later (text ∷ texts) = comma_if later ++ (text ++ with_commas true texts)

-- the items of a list, with commas between them
abbrev pub items_between : {W : Type 0} → (W → Data) → List W → List ℕ
items_between data_of values = with_commas false (map (λ v. compact_text (data_of v)) values)

-- a member that stands only where its value is given
abbrev pub member_text : Bool → List ℕ → Option Data → List ℕ
member_text later key None = []
member_text later key (Some d) = comma_if later ++ (quoted key ++ 58 ∷ compact_text d)

-- the member that names a system, where its name is known, before another member
abbrev pub name_member : Option (List ℕ) → List ℕ
name_member None = []
name_member (Some name) = codes "\"id\":" ++ (quoted name ++ codes ",")

-- a text behind others in a list, where it belongs there
abbrev pub later_if : Bool → List ℕ → List ℕ
later_if given text = if given then 44 ∷ text else []

-- the last member of a parameter, where it has a unit
abbrev pub unit_member : Option (List ℕ) → List ℕ
unit_member None = []
unit_member (Some unit) = codes ",\"unit\":{\"symbol\":" ++ (quoted unit ++ codes "}")

-- a parameter behind its key
abbrev pub keyed_parameter : Parameter → List ℕ
keyed_parameter parameter = quoted parameter.id ++ 58 ∷ compact_text (parameter_data parameter)

-- what stands before an item of a list that is begun with its first one
abbrev pub item_before : Bool → List ℕ → List ℕ
item_before later begin = if later then 44 ∷ [] else begin

-- such an item, where it is given
abbrev pub item_text : Bool → List ℕ → Option (List ℕ) → List ℕ
item_text later begin None = []
item_text later begin (Some text) = item_before later begin ++ text

-- the end of such a list, unless it has no item
abbrev pub end_if : Bool → List ℕ → List ℕ
end_if later end = if later then end else []

-- the length of an axis
abbrev pub length_text : {W : Type 0} → List W → List ℕ
length_text values = decimal (length values)
