-- The limits of a table of observations.
use Rattle.std.specs.Prelude.{ℕ}

-- the bytes of a table that is read
abbrev pub table_limit : ℕ
table_limit = 67_108_864

-- the parameters of a table
abbrev pub parameter_limit : ℕ
parameter_limit = 1_000

-- the samples of its stations together
abbrev pub samples_limit : ℕ
samples_limit = 200_000
