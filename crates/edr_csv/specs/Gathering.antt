-- For private clauses: a text that is gathered before it is written.
use Rattle.std.specs.Prelude.{ℕ, List, ◌++◌, OnOk, OnErr, Result}
use Rattle.std.specs.declared.option.Option.{Option}
use Rattle.edr_base.specs.Calls.{Front, Gathered}

-- a call put a text behind what was gathered before; after a fault a beginning of both was written
pub record Gathers {T E : Type 0} (result : Result T E) (text : List ℕ) (old new : Option (List ℕ)) (before after : List ℕ) : Type 0 where
  pub gathered : OnOk result (Gathered old new after (before ++ text))
  pub stopped : OnErr result (Front (before ++ text) old new)
