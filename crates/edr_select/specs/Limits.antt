-- The limits of one reply.
use Rattle.std.specs.Prelude.{ℕ}

-- how many values the ranges of a reply have at most
abbrev pub value_limit : ℕ
value_limit = 2_000_000

-- how many coverages a reply has at most
abbrev pub coverage_limit : ℕ
coverage_limit = 5_000
