-- Where lists of parameters differ.
use Rattle.std.specs.Prelude.{◌≢◌, ℕ, List, Option}
use Rattle.covjson_value.specs.declared.coverages.Parameter.{Parameter}
use Rattle.edr_base.specs.FirstThatApplies.{IsLeastId}
use Rattle.edr_ids.specs.Ids.{item_of}
use Rattle.edr_edition.specs.Values.{parameter_id}

-- the parameter of an id, where there is one
abbrev pub parameter_in : List Parameter → List ℕ → Option Parameter
parameter_in parameters id = item_of parameter_id id parameters

-- only one side has a parameter of the id, or the two differ there in language, label or unit
abbrev pub DifferAt : List Parameter → List Parameter → List ℕ → Type 0
DifferAt one other id = parameter_in one id ≢ parameter_in other id

-- the least id at which they differ
abbrev pub DifferFirstAt : List Parameter → List Parameter → List ℕ → Type 0
DifferFirstAt one other = IsLeastId (DifferAt one other)
