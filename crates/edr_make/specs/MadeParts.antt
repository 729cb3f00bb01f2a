-- The coverages of the made feed in the pieces that are written one after another; for private clauses.
use Rattle.std.specs.Prelude.{ℕ, ℤ, codes, List, ◌++◌, Result, Some}
use Rattle.std.specs.declared.option.Option.{Option}
use Rattle.edr_base.specs.Calls.{Writes}
use Rattle.edr_base.specs.declared.sending.SendFault.{SendFault}
use Rattle.covjson_value.specs.declared.coverages.Coverage.{Coverage}
use Rattle.covjson_value.specs.declared.coverages.Parameter.{Parameter}
use Rattle.covjson_write.specs.declared.range_heads.RangeHead.{RangeHead}
use Rattle.covjson_write.specs.Pieces.{coverage_begin, head_of, range_begin, range_end, values_from}

-- a parameter whose label is its id
abbrev pub parameter_over : List ℕ → List ℕ → Parameter
parameter_over id unit = record { id = id; lang = codes "en"; label = id; unit = Some unit }

-- the text of a coverage of one parameter before its values
unfoldable pub opening : Coverage → List ℕ
opening head = coverage_begin head ++ range_begin (head_of head) 0

-- and behind them
unfoldable pub closing : RangeHead → List ℕ
closing head = range_end head 0

-- a coverage round its values
abbrev pub around : Coverage → List (Option ℤ) → List ℕ
around head values = (opening head ++ values_from 0 values) ++ closing (head_of head)

-- whoever writes the rest behind what is written has written the whole
abbrev pub Leaves : List ℕ → List ℕ → Option (List ℕ) → Option (List ℕ) → Type 0
Leaves rest whole old now = (result : Result (Unit {0}) SendFault) (new : Option (List ℕ)) → Writes result rest now new → Writes result whole old new
