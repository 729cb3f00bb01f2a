-- Laws of tallies, for the proofs of callers.
use Rattle.std.proofs.Common.{◌≡◌, ℕ, ◌+◌, ℤ, ◌+ℤ◌, List, [], ◌∷◌, ◌++◌, Option, Some, None, ap, ◌∙◌, arith}
use Rattle.std.proofs.lemmas.Int.{ints}
use Rattle.std.proofs.lemmas.List.{length-append}
use Rattle.edr_station.specs.declared.tallies.Tally.{Tally}
use Rattle.edr_station.specs.Tallies.{present_in, sum_of, tally_of, and_of}

abbrev pub tally : ℕ → ℕ → ℤ → Tally
tally samples present sum = record { samples = samples; present = present; sum = sum }

pub tally_same : (samples samples' present present' : ℕ) (sum sum' : ℤ) → samples ≡ samples' → present ≡ present' → sum ≡ sum'
    → tally samples present sum ≡ tally samples' present' sum'
tally_same samples samples' present present' sum sum' hs hp ht =
    ap (λ n. tally n present sum) hs ∙ (ap (λ n. tally samples' n sum) hp ∙ ap (tally samples' present') ht)

present-append : (xs ys : List (Option ℤ)) → present_in (xs ++ ys) ≡ present_in xs + present_in ys
present-append [] ys = omega arith
present-append (None ∷ xs) ys = present-append xs ys
present-append (Some x ∷ xs) ys = let more = present-append xs ys in omega (arith, more)

sum-append : (xs ys : List (Option ℤ)) → sum_of (xs ++ ys) ≡ sum_of xs +ℤ sum_of ys
sum-append [] ys = omega (arith, ints)
sum-append (None ∷ xs) ys = sum-append xs ys
sum-append (Some x ∷ xs) ys = let more = sum-append xs ys in omega (arith, ints, more)

-- the tally of samples one after the other is that of both parts together
pub tally-append : (xs ys : List (Option ℤ)) → tally_of (xs ++ ys) ≡ and_of (tally_of xs) (tally_of ys)
tally-append xs ys = tally_same _ _ _ _ _ _ (length-append xs ys) (present-append xs ys) (sum-append xs ys)

pub and-assoc : (a b c : Tally) → and_of (and_of a b) c ≡ and_of a (and_of b c)
and-assoc a b c = tally_same _ _ _ _ _ _ (omega arith) (omega arith) (omega (arith, ints))
