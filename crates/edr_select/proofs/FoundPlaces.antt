-- Places that are found one after another, and the places that a test tells.
use Rattle.std.proofs.Common.{◌≡◌, ℕ, zero, suc, ◌+◌, ◌<◌, Bool, true, false, List, [], ◌∷◌, ◌++◌, refl, ap, ap₂, sym, ◌∙◌, arith, eqb, All}
use Rattle.std.specs.Prelude.{◌||◌}
use Rattle.std.specs.List.{filter, range_with_len}
use Rattle.std.proofs.lemmas.List.Folds.{list_any-append}
use Rattle.std.proofs.lemmas.List.Elements.{All-push}
use Rattle.edr_select.specs.Samples.{ascending_once}
use Rattle.edr_select.proofs.AscendingOnce.{among, filter_range_agree}

-- the places, all below a count, are those that pass
pub record Found (count : ℕ) (places : List ℕ) (passes : ℕ → Bool) : Type 0 where
  pub below : All (λ place. place < count) places
  pub same : (k : ℕ) → k < count → among places k ≡ passes k

pub found_none : (count : ℕ) → Found count [] (λ k. false)
found_none count = record { below = λ k d inside. absurd (omega arith); same = λ k inside. refl }

or_false : (b : Bool) → (b || false) ≡ b
or_false true = refl
or_false false = refl

-- one more, which is the only one that another test tells
pub found_more : (count place : ℕ) (places : List ℕ) (old one new : ℕ → Bool) → Found count places old → place < count
    → ((k : ℕ) → k < count → one k ≡ eqb place k) → ((k : ℕ) → new k ≡ (old k || one k)) → Found count (places ++ place ∷ []) new
found_more count place places old one new found inside is both = record {
  below = All-push (λ p. p < count) places place found.below inside;
  same = λ k within.
      list_any-append (λ n. eqb n k) places (place ∷ []) ∙ ap₂ (λ b c. b || c) (found.same k within) (or_false (eqb place k) ∙ sym (is k within)) ∙ sym (both k);
}

-- none more, where another test tells none
pub found_same : (count : ℕ) (places : List ℕ) (old one new : ℕ → Bool) → Found count places old
    → ((k : ℕ) → k < count → one k ≡ false) → ((k : ℕ) → new k ≡ (old k || one k)) → Found count places new
found_same count places old one new found none both = record {
  below = found.below;
  same = λ k within. found.same k within ∙ sym (both k ∙ ap (λ b. old k || b) (none k within) ∙ or_false (old k));
}

-- without a test all are taken
pub all_taken : (first count : ℕ) → range_with_len first count ≡ filter (λ k. true) (range_with_len first count)
all_taken first zero = refl
all_taken first (suc count) = ap (λ r. first ∷ r) (all_taken (first + 1) count)

-- in ascending order, each once, they are a filter
pub found_is : (count : ℕ) (places sorted : List ℕ) (passes : ℕ → Bool) → Found count places passes
    → ((count : ℕ) → All (λ n. n < count) places → sorted ≡ ascending_once count places) → sorted ≡ filter passes (range_with_len 0 count)
found_is count places sorted passes found is =
    is count found.below ∙ filter_range_agree (among places) passes 0 count (λ k low high. found.same k (omega (arith, high)))
