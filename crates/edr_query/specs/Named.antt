-- The view of parameters that were read.
use Rattle.std.specs.Cow.{cow_str_bytes}
use Rattle.std.specs.declared.borrow.CowStr.{CowStr}
use Rattle.edr_query.specs.declared.parameters.Parameter.{Parameter}
use Rattle.edr_query.specs.Parameters.{Pair, name_of}

-- a name and a value, as they are kept
abbrev pub named : {A : Type 0} → Parameter × CowStr A → Pair
named entry = (name_of entry.0, cow_str_bytes entry.1)
