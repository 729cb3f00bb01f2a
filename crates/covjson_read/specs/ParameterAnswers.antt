-- The parameters of a tree, or the first check that fails, as a computation.
use Rattle.std.specs.Prelude.{ℕ, List, codes, Bool, true, not, ◌&&◌, is_some, ⊤, Option, Some, None, Ok}
use Rattle.serde_json.specs.Data.{Data, null, boolean, number, string, array, object, Members, no_members, member}
use Rattle.serde_json.specs.Find.{get, as_str, as_object}
use Rattle.covjson_value.specs.declared.coverages.Parameter.{Parameter}
use Rattle.covjson_checks.specs.declared.faults.Member.{Member}
use Rattle.covjson_checks.specs.declared.faults.Member.TheVariants.{ObservedProperty, Unit, Parameters as ParametersMember}
use Rattle.covjson_checks.specs.declared.faults.CovFault.TheVariants.{Missing, WrongType}
use Rattle.covjson_checks.specs.Answers.{Answer}
use Rattle.edr_base.specs.FirstThatApplies.{and_then, or_fault, check}
use Rattle.covjson_checks.specs.Members.{need, part, object_at, text_at}
use Rattle.edr_base.specs.NameTests.{is_name}

-- each member is a text
abbrev pub all_texts : Members → Bool
all_texts no_members = true
all_texts (member key d members) = is_some (as_str d) && all_texts members

-- each member is an object by a name
abbrev pub all_named_objects : Members → Bool
all_named_objects no_members = true
all_named_objects (member name d members) = is_name name && is_some (as_object d) && all_named_objects members

-- of the members of a label, by their languages, that of English, else the first, which is of the least language
abbrev pub said_in : Option Data → Members → Option (List ℕ × Data)
said_in (Some d) all = Some (codes "en", d)
said_in None no_members = None
said_in None (member lang d rest) = Some (lang, d)

-- the language and the text of the label of a tree
abbrev pub label_at : Member → Data → Answer (List ℕ × List ℕ)
label_at m d =
    and_then (part (codes "label") m d) (λ label.
    and_then (object_at m label) (λ members.
    and_then (check (all_texts members) (WrongType m)) (λ _.
    and_then (or_fault (said_in (get (codes "en") label) members) (WrongType m)) (λ said.
    and_then (text_at m said.1) (λ text.
    Ok (said.0, text))))))

-- the label of a parameter is that of its observed property, which has no categories
abbrev pub parameter_label : Data → Answer (List ℕ × List ℕ)
parameter_label d =
    and_then (need (codes "observedProperty") ObservedProperty d) (λ property.
    and_then (check (not (is_some (get (codes "categories") property))) (WrongType ObservedProperty)) (λ _.
    label_at ObservedProperty property))

-- the text of the label of a unit
abbrev pub unit_label : Data → Answer (List ℕ)
unit_label unit = and_then (label_at Unit unit) (λ label. Ok label.1)

-- the text of a unit: its symbol, or the value of its symbol, else its label
abbrev pub unit_by_symbol : Data → Option Data → Answer (List ℕ)
unit_by_symbol unit None = unit_label unit
unit_by_symbol unit (Some null) = unit_label unit
unit_by_symbol unit (Some (boolean b)) = unit_label unit
unit_by_symbol unit (Some (number n)) = unit_label unit
unit_by_symbol unit (Some (string s)) = Ok s
unit_by_symbol unit (Some (array ds)) = unit_label unit
unit_by_symbol unit (Some (object ms)) = and_then (part (codes "value") Unit (object ms)) (text_at Unit)

abbrev pub unit_if : Option Data → Answer (Option (List ℕ))
unit_if None = Ok None
unit_if (Some unit) = and_then (unit_by_symbol unit (get (codes "symbol") unit)) (λ text. Ok (Some text))

-- the unit of a parameter, where it has one
abbrev pub parameter_unit : Data → Answer (Option (List ℕ))
parameter_unit d = unit_if (get (codes "unit") d)

-- a parameter is as it has to be
abbrev pub parameter_form : Data → Answer ⊤
parameter_form d = and_then (parameter_label d) (λ _. and_then (parameter_unit d) (λ _. Ok tt))

-- each is, in ascending order of their names
abbrev pub parameter_forms : Members → Answer ⊤
parameter_forms no_members = Ok tt
parameter_forms (member id d members) = and_then (parameter_form d) (λ _. parameter_forms members)

-- the parameters, found in the coverage or elsewhere
abbrev pub parameters_of : Option Data → Answer Data
parameters_of found =
    and_then (or_fault found (Missing ParametersMember)) (λ d.
    and_then (object_at ParametersMember d) (λ members.
    and_then (check (all_named_objects members) (WrongType ParametersMember)) (λ _.
    and_then (parameter_forms members) (λ _. Ok d))))

-- the parameter of an id
abbrev pub parameter_of : List ℕ → Data → Answer Parameter
parameter_of id d =
    and_then (parameter_label d) (λ label.
    and_then (parameter_unit d) (λ unit.
    Ok (record { id = id; lang = label.0; label = label.1; unit = unit })))
