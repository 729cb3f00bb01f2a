-- Parameters (OGC 21-069r2, Parameter objects): which trees stand for which.
use Rattle.std.specs.Prelude.{◌≡◌, ◌⊎◌, ℕ, List, codes, ⊤, Option, Some, None}
use Rattle.serde_json.specs.Data.{Data, null, boolean, number, string, array, object, Members, no_members, member}
use Rattle.serde_json.specs.Find.{get, get_member}
use Rattle.edr_base.specs.Names.{IsName}
use Rattle.covjson_value.specs.declared.coverages.Parameter.{Parameter}
use Rattle.edr_json.specs.Trees.{IsText, IsObject}

-- each member is a text
abbrev pub EachIsText : Members → Type 0
EachIsText no_members = ⊤
EachIsText (member lang d members) = IsText d × EachIsText members

-- the text in English, or without one that of the first member, which is of the least language since names ascend
abbrev pub IsSaid : Members → List ℕ → List ℕ → Type 0
IsSaid members lang text =
    ((get_member (codes "en") members ≡ Some (string text)) × (lang ≡ codes "en"))
    ⊎ ((get_member (codes "en") members ≡ None) × ((others : Members) × (members ≡ member lang (string text) others)))

-- the member `label` is an object of texts, and this text in this language is said of it
pub record StandsForLabel (d : Data) (lang text : List ℕ) : Type 0 where
  pub members : Members
  pub label : get (codes "label") d ≡ Some (object members)
  pub texts : EachIsText members
  pub said : IsSaid members lang text

-- a label in some language
abbrev pub StandsForLabelText : Data → List ℕ → Type 0
StandsForLabelText d text = (lang : List ℕ) × StandsForLabel d lang text

-- the symbol of a unit is the text, or has it as its value; without such a symbol the label is the text
abbrev pub StandsForSymbol : Data → Option Data → List ℕ → Type 0
StandsForSymbol unit None text = StandsForLabelText unit text
StandsForSymbol unit (Some null) text = StandsForLabelText unit text
StandsForSymbol unit (Some (boolean b)) text = StandsForLabelText unit text
StandsForSymbol unit (Some (number n)) text = StandsForLabelText unit text
StandsForSymbol unit (Some (string s)) text = s ≡ text
StandsForSymbol unit (Some (array ds)) text = StandsForLabelText unit text
StandsForSymbol unit (Some (object ms)) text = get_member (codes "value") ms ≡ Some (string text)

-- both have a unit, or neither has
abbrev pub StandsForUnit : Option Data → Option (List ℕ) → Type 0
StandsForUnit None None = ⊤
StandsForUnit None (Some text) = ⊥
StandsForUnit (Some unit) None = ⊥
StandsForUnit (Some unit) (Some text) = StandsForSymbol unit (get (codes "symbol") unit) text

-- a parameter: its observed property has the label
pub record StandsForParameter (d : Data) (parameter : Parameter) : Type 0 where
  pub property : Data
  pub observed : get (codes "observedProperty") d ≡ Some property
  pub no_categories : get (codes "categories") property ≡ None
  pub label : StandsForLabel property parameter.lang parameter.label
  pub unit : StandsForUnit (get (codes "unit") d) parameter.unit

-- each member stands for a parameter, by a name
abbrev pub EachIsParameter : Members → Type 0
EachIsParameter no_members = ⊤
EachIsParameter (member name d members) = IsName name × ((parameter : Parameter) × StandsForParameter d parameter) × EachIsParameter members

-- an object of parameters by their names
pub record HoldsParameters (d : Data) : Type 0 where
  pub members : Members
  pub is : d ≡ object members
  pub each : EachIsParameter members

-- the parameter of its name among those of a tree
pub record StandsAmong (tree : Data) (parameter : Parameter) : Type 0 where
  pub d : Data
  pub named : get parameter.id tree ≡ Some d
  pub stands : StandsForParameter d parameter

-- each member is an object by a name
abbrev pub EachIsNamedObject : Members → Type 0
EachIsNamedObject no_members = ⊤
EachIsNamedObject (member name d members) = IsName name × IsObject d × EachIsNamedObject members

-- ---- for private clauses

-- the names of an object's members are names
abbrev pub EachHasName : Members → Type 0
EachHasName no_members = ⊤
EachHasName (member name d members) = IsName name × EachHasName members

-- an object whose members have such names
abbrev pub HaveNames : Data → Type 0
HaveNames d = (members : Members) × (d ≡ object members) × EachHasName members
