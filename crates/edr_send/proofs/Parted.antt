-- Numbers of which some stand below all others.
use Rattle.std.proofs.Common.{◌≡◌, ℕ, ◌<◌, ◌≤◌, List, [], ◌∷◌, ◌++◌, All, Contains, ap, sym, ◌∙◌, subst, arith, append_assoc, length-append}
use Rattle.std.specs.List.{flat_map}
use Rattle.std.proofs.lemmas.List.{get_or_append_left}
use Rattle.std.proofs.lemmas.List.Elements.{All-nil, All-append, All-from_get_or, All-get_or}
use Rattle.edr_select.specs.Samples.{ascending_once}
use Rattle.edr_select.specs.ListLaws.{member_here, member_later}
use Rattle.edr_send.proofs.Ascending.{once_append}

-- what holds of each number holds of the first of them
pub first_of : (P : ℕ → Type 0) (xs ys : List ℕ) → All P (xs ++ ys) → All P xs
first_of P xs ys all = All-from_get_or P xs 0 (λ i l. subst P (get_or_append_left xs ys 0 i l) (All-get_or P (xs ++ ys) i 0 (omega (arith, length-append xs ys, l)) all))

-- what holds of the numbers of each item holds of all of them
pub all_flat_map : {X : Type 0} (P : ℕ → Type 0) (f : X → List ℕ) (xs : List X) → ((x : X) → Contains xs x → All P (f x)) → All P (flat_map f xs)
all_flat_map P f [] h = All-nil P
all_flat_map P f (x ∷ xs) h = All-append P (f x) (flat_map f xs) (h x (member_here x xs)) (all_flat_map P f xs (λ y c. h y (member_later x y xs c)))

-- a bound, which is no more than n, stands between some numbers and others
pub record Parted (n : ℕ) (xs ys : List ℕ) : Type 0 where
  pub bound : ℕ
  pub inside : bound ≤ n
  pub below : All (λ k. k < bound) xs
  pub from : All (λ k. bound ≤ k) ys

module _ (n : ℕ) (done rest piece later next : List ℕ) (split : rest ≡ piece ++ later) (joined : next ≡ done ++ piece) (here : Parted n done rest) where
  -- the numbers of a piece come behind those of the pieces before it
  pub parted_next : ascending_once n next ≡ ascending_once n done ++ ascending_once n piece
  parted_next =
      ap (ascending_once n) joined
      ∙ once_append n here.bound done piece here.inside here.below (first_of (λ k. here.bound ≤ k) piece later (subst (λ (l : List ℕ). All (λ k. here.bound ≤ k) l) split here.from))

  -- both begin all numbers
  pub parted_whole : (whole : List ℕ) → whole ≡ done ++ rest → Parted n next later → ascending_once n whole ≡ (ascending_once n done ++ ascending_once n piece) ++ ascending_once n later
  parted_whole whole parts there =
      ap (ascending_once n) (parts ∙ ap (λ (l : List ℕ). done ++ l) split ∙ sym (append_assoc done piece later) ∙ ap (λ (l : List ℕ). l ++ later) (sym joined))
      ∙ once_append n there.bound next later there.inside there.below there.from
      ∙ ap (λ (l : List ℕ). l ++ ascending_once n later) parted_next
