-- The sample that a code of 32 bits stands for: null for the least code, else the number that it is.
use Rattle.std.specs.Prelude.{ℤ, negsuc, Option, Some, None, if◌then◌else◌}
use Rattle.std.specs.Ordering.{int_eq}

abbrev pub sample_of : ℤ → Option ℤ
sample_of code = if int_eq code (negsuc 2147483647) then None else Some code
