-- Numbers that rise.
use Rattle.std.proofs.Common.{ℕ, ◌<◌, Bool, arith}
use Rattle.std.specs.List.{filter, range_with_len}
use Rattle.std.proofs.lemmas.List.FromFn.{length-range_with_len, get_or-range_with_len}
use Rattle.std.proofs.lemmas.List.Kept.{AllPairs-filter}
use Rattle.edr_select.specs.Listings.{NumbersRise}

-- those of a run that pass a test
pub numbers_rise : (t : ℕ → Bool) (a n : ℕ) → NumbersRise (filter t (range_with_len a n))
numbers_rise t a n =
    AllPairs-filter (λ k l. k < l) t (range_with_len a n) (λ k l d lt within.
    let inside : l < n = omega (arith, length-range_with_len a n, within) in
    omega (arith, get_or-range_with_len a n k d (omega (arith, lt, inside)), get_or-range_with_len a n l d inside, lt))
