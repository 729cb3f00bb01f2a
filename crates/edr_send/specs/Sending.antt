-- What sending a plan does to the store and to the sink.
use Rattle.std.specs.Prelude.{◌≡◌, ℕ, List, Result, OnOk}
use Rattle.edr_base.specs.Calls.{Begins}

-- the chunks of these numbers are opened one after the other: all of them with Ok, and else the first of them
pub record Opens {T E : Type 0} (result : Result T E) (wanted : List ℕ) (numbers : List ℕ) : Type 0 where
  pub all : OnOk result (numbers ≡ wanted)
  pub begun : Begins numbers wanted
