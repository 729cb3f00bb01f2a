-- Tests of the order of two whole numbers.
use Rattle.std.proofs.Common.{◌≡◌, ℤ, ◌<ℤ◌, ◌≤ℤ◌, int_lt, int_le, true, arith}
use Rattle.std.proofs.lemmas.Int.{ints}

-- a value that is tested to be below another is below it
pub below_tells : (a b : ℤ) → int_lt a b ≡ true → a <ℤ b
below_tells a b h = grind (arith, ints)

-- and a value below another passes the test
pub below_given : (a b : ℤ) → a <ℤ b → int_lt a b ≡ true
below_given a b h = grind (arith, ints)

-- a value that is tested to be at most another is at most that
pub at_most_tells : (a b : ℤ) → int_le a b ≡ true → a ≤ℤ b
at_most_tells a b h = grind (arith, ints)

-- and a value at most another passes the test
pub at_most_given : (a b : ℤ) → a ≤ℤ b → int_le a b ≡ true
at_most_given a b h = grind (arith, ints)
