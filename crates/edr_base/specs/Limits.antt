-- The limits of the product, each by its name.
use Rattle.std.specs.Prelude.{ℕ, ◌≤◌, ℤ, ◌≤ℤ◌, pos, neg_ℤ, unsigned_abs, List, Option, All, IfSome}

-- the size of a coordinate or a level, in metres
abbrev pub coordinate_limit : ℕ
coordinate_limit = 100_000_000

-- a coordinate or a level, in metres
abbrev pub IsCoordinate : ℤ → Type 0
IsCoordinate value = unsigned_abs value ≤ coordinate_limit

-- a distance, a width or a height, in metres
abbrev pub distance_limit : ℕ
distance_limit = 400_000_000

-- whole metres of a distance, a width or a height
pub record IsMetres (metres : ℤ) : Type 0 where
  pub least : pos 0 ≤ℤ metres
  pub greatest : metres ≤ℤ pos distance_limit

-- 0000-01-01T00:00:00Z and 9999-12-31T23:59:59Z, in seconds since 1970-01-01T00:00:00Z
abbrev pub earliest_time : ℤ
earliest_time = neg_ℤ (pos 62_167_219_200)

abbrev pub latest_time : ℤ
latest_time = pos 253_402_300_799

-- the size of a sample, which is exact in a double
abbrev pub sample_limit : ℕ
sample_limit = 9_007_199_254_740_991

-- a value that a range may have
abbrev pub IsSample : ℤ → Type 0
IsSample value = unsigned_abs value ≤ sample_limit

-- a value that is missing, or one that a range may have
abbrev pub HasSample : Option ℤ → Type 0
HasSample value = IfSome value IsSample

abbrev pub AreSamples : List (Option ℤ) → Type 0
AreSamples = All HasSample

-- the bytes of a name
abbrev pub name_limit : ℕ
name_limit = 128

-- the positions of a geometry
abbrev pub position_limit : ℕ
position_limit = 10_000

-- the nodes of a grid for each parameter, and so the values of an axis that is given by its first, its last and their number
abbrev pub node_limit : ℕ
node_limit = 4_000_000

-- the bytes of a line of a feed, without its line feed
abbrev pub line_limit : ℕ
line_limit = 16_777_216

-- the bytes of a feed
abbrev pub feed_limit : ℕ
feed_limit = 1_073_741_824

-- the greatest count of faults, editions or pieces; a counter stands still there
abbrev pub count_limit : ℕ
count_limit = 18_446_744_073_709_551_615
