-- The limits of what is kept.
use Rattle.std.specs.Prelude.{ℕ}

-- the pairs that a store may have
abbrev pub capacity_limit : ℕ
capacity_limit = 1_000

-- the bytes of a body that is kept
abbrev pub kept_limit : ℕ
kept_limit = 65_536
