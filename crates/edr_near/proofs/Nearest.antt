-- The nearest of some items, and of some more.
use Rattle.std.proofs.Common.{◌≡◌, ◌⊎◌, ℕ, Bool, true, false, List, [], ◌∷◌, ◌++◌, Contains, inl, inr, Option, Some, None, Ordering, Less, Equal, Greater, option_to_list, refl, sym, ap, ◌∙◌, subst, arith, ◌+◌, ◌<◌, length, get_or, take, append_assoc, IsSomeAnd}
use Rattle.std.proofs.lemmas.List.{take_more}
use Rattle.std.proofs.lemmas.Bool.{false≢true}
use Rattle.std.proofs.lemmas.Cmp.{nat_cmp_total, nat_list_cmp_total, on_total, then_total, tied_itself, upto}
use Rattle.std.proofs.lemmas.List.Elements.{All-nil, All-cons, All-contains, Contains-append_cases, Contains-append_left, Contains-append_right}
use Rattle.std.specs.Cmp.{IsTotalOrder}
use Rattle.std.specs.Ordering.{nat_cmp, ordering_then, is_lt, is_gt, ordering_reverse}
use Rattle.edr_base.specs.Names.{order}
use Rattle.edr_base.specs.declared.places.Spot.{Spot}
use Rattle.edr_near.specs.Near as near
use Rattle.edr_near.specs.Near.{IsNearest, Nearest}
use Rattle.edr_near.specs.Kept.{AreBoth}

reversed : (o : Ordering) → is_lt (ordering_reverse o) ≡ is_gt o
reversed Less = refl
reversed Equal = refl
reversed Greater = refl

not_both : (o : Ordering) → is_lt o ≡ true → is_gt o ≡ false
not_both Less h = refl
not_both Equal h = absurd (false≢true h)
not_both Greater h = absurd (false≢true h)

pub only_one : {V : Type 0} (item other : V) → Contains (item ∷ []) other → item ≡ other
only_one item other there = All-contains (λ x. item ≡ x) (item ∷ []) other (All-cons (λ x. item ≡ x) item [] refl (All-nil (λ x. item ≡ x))) there

pub first_in : {V : Type 0} (item : V) (items : List V) → Contains (item ∷ items) item
first_in item items = (0, omega arith, refl)

module _ {V : Type 0} (id_of : V → List ℕ) (spot_of : V → Spot) (spot : Spot) where
  total : IsTotalOrder (near.compare id_of spot_of spot)
  total = then_total (on_total (near.distance_of id_of spot_of spot) nat_cmp_total) (on_total id_of nat_list_cmp_total)

  abbrev nearer : V → V → Bool
  nearer = near.is_nearer id_of spot_of spot

  pub turned : (a b : V) → nearer a b ≡ is_gt (near.compare id_of spot_of spot b a)
  turned a b = ap is_lt (total.antisymm a b) ∙ reversed (near.compare id_of spot_of spot b a)

  -- what isn't nearer than one that isn't nearer than another isn't nearer than that
  pub trans : (a b c : V) → nearer b a ≡ false → nearer c b ≡ false → nearer c a ≡ false
  trans a b c h k = turned c a ∙ upto total a b c (sym (turned b a) ∙ h) (sym (turned c b) ∙ k)

  itself : (a : V) → nearer a a ≡ false
  itself a = ap is_lt (tied_itself total a)

  other_way : (a b : V) → nearer a b ≡ true → nearer b a ≡ false
  other_way a b h = turned b a ∙ not_both (near.compare id_of spot_of spot a b) h

  -- what is farther isn't nearer
  pub farther : (item best : V) → near.distance_of id_of spot_of spot best < near.distance_of id_of spot_of spot item → nearer item best ≡ false
  farther item best h = ap (λ o. is_lt (ordering_then o (order (id_of item) (id_of best)))) (greater (near.distance_of id_of spot_of spot item) (near.distance_of id_of spot_of spot best) h)
    where
      greater : (a b : ℕ) → b < a → nat_cmp a b ≡ Greater
      greater a b h = grind (arith, h)

  -- ---- of one or two items

  pub alone : (item : V) → IsNearest id_of spot_of spot (Contains (item ∷ [])) item
  alone item = record {
    one = first_in item [];
    least = λ other there. subst (λ x. nearer x item ≡ false) (only_one item other there) (itself item);
  }

  of_two : (P : V → Type 0) (a b : V) → P a → P b → (v : V) → Contains (a ∷ b ∷ []) v → P v
  of_two P a b pa pb v there = All-contains P (a ∷ b ∷ []) v (All-cons P a (b ∷ []) pa (All-cons P b [] pb (All-nil P))) there

  pub second_nearer : (best item : V) → nearer item best ≡ true → IsNearest id_of spot_of spot (Contains (best ∷ item ∷ [])) item
  second_nearer best item h = record {
    one = (1, omega arith, refl);
    least = of_two (λ x. nearer x item ≡ false) best item (other_way item best h) (itself item);
  }

  pub first_nearer : (best item : V) → nearer item best ≡ false → IsNearest id_of spot_of spot (Contains (best ∷ item ∷ [])) best
  first_nearer best item h = record {
    one = first_in best (item ∷ []);
    least = of_two (λ x. nearer x best ≡ false) best item (itself best) h;
  }

  -- ---- where none of some items is nearer

  stays : (best : V) (items : List V) → ((v : V) → Contains items v → nearer v best ≡ false) → IsNearest id_of spot_of spot (Contains (best ∷ items)) best
  stays best items none = record {
    one = first_in best items;
    least = λ v there. elim (Contains-append_cases (best ∷ []) items v there) [
      | inl own ↦ subst (λ x. nearer x best ≡ false) (only_one best v own) (itself best)
      | inr other ↦ none v other
    ];
  }

  pub beyond : (best : Option V) (items : List V)
      → IsSomeAnd best (λ b. (v : V) → Contains items v → near.distance_of id_of spot_of spot b < near.distance_of id_of spot_of spot v)
      → Nearest id_of spot_of spot (Contains (option_to_list best ++ items)) best
  beyond None items h = absurd h
  beyond (Some best) items h = stays best items (λ v there. farther v best (h v there))

  -- ---- of what there was, and of some more

  module _ (Is Both : V → Type 0) (more : List V) (was : (v : V) → Is v → Both v) (new : (v : V) → Contains more v → Both v) (either : (v : V) → Both v → Is v ⊎ Contains more v) where
    pub nearest_more : (best answer : Option V) → Nearest id_of spot_of spot Is best → Nearest id_of spot_of spot (Contains (option_to_list best ++ more)) answer
        → Nearest id_of spot_of spot Both answer
    nearest_more None None none nothing = λ v both. elim (either v both) [
      | inl old ↦ none v old
      | inr there ↦ nothing v there
    ]
    nearest_more None (Some item) none is = record {
      one = new item is.one;
      least = λ v both. elim (either v both) [
        | inl old ↦ absurd (none v old)
        | inr there ↦ is.least v there
      ];
    }
    nearest_more (Some best) None was_best nothing = absurd (nothing best (first_in best more))
    nearest_more (Some best) (Some item) was_best is = record {
      one = elim (Contains-append_cases (best ∷ []) more item is.one) [
        | inl same ↦ subst Both (only_one best item same) (was best was_best.one)
        | inr there ↦ new item there
      ];
      least = λ v both. elim (either v both) [
        | inl old ↦ trans item best v (is.least best (first_in best more)) (was_best.least v old)
        | inr there ↦ is.least v (Contains-append_right (best ∷ []) more v there)
      ];
    }

  -- ---- of two lists, one after the other

  pub both_sides : (start front back both : List V) → AreBoth front back both → (first answer : Option V) → Nearest id_of spot_of spot (Contains (start ++ front)) first
      → Nearest id_of spot_of spot (Contains (option_to_list first ++ back)) answer → Nearest id_of spot_of spot (Contains (start ++ both)) answer
  both_sides start front back both are first answer was is =
      nearest_more (Contains (start ++ front)) (Contains (start ++ both)) back had (λ v there. Contains-append_right start both v ((are v).1 (inr there))) either first answer was is
    where
      had : (v : V) → Contains (start ++ front) v → Contains (start ++ both) v
      had v there = elim (Contains-append_cases start front v there) [
        | inl given ↦ Contains-append_left start both v given
        | inr one ↦ Contains-append_right start both v ((are v).1 (inl one))
      ]

      either : (v : V) → Contains (start ++ both) v → Contains (start ++ front) v ⊎ Contains back v
      either v there = elim (Contains-append_cases start both v there) [
        | inl given ↦ inl (Contains-append_left start front v given)
        | inr one ↦ elim ((are v).0 one) [
          | inl front_one ↦ inl (Contains-append_right start front v front_one)
          | inr back_one ↦ inr back_one
        ]
      ]

  -- ---- of a list, one more at a time

  pub given : (best : Option V) → Nearest id_of spot_of spot (Contains (option_to_list best ++ [])) best
  given None = λ v there. absurd (omega (arith, there.1))
  given (Some best) = alone best

  pub one_more : (start items : List V) (k : ℕ) (item : V) → k < length items → get_or items k item ≡ item → (best answer : Option V)
      → Nearest id_of spot_of spot (Contains (start ++ take k items)) best → Nearest id_of spot_of spot (Contains (option_to_list best ++ item ∷ [])) answer
      → Nearest id_of spot_of spot (Contains (start ++ take (k + 1) items)) answer
  one_more start items k item inside at best answer was is =
      let had = start ++ take k items in
      let grown : start ++ take (k + 1) items ≡ had ++ item ∷ [] =
      ap (λ (l : List V). start ++ l) (take_more items k item inside ∙ ap (λ x. take k items ++ x ∷ []) at) ∙ sym (append_assoc start (take k items) (item ∷ [])) in
      subst (λ (l : List V). Nearest id_of spot_of spot (Contains l) answer) (sym grown)
      (nearest_more (Contains had) (Contains (had ++ item ∷ [])) (item ∷ []) (λ v. Contains-append_left had (item ∷ []) v) (λ v. Contains-append_right had (item ∷ []) v)
      (λ v. Contains-append_cases had (item ∷ []) v) best answer was is)
