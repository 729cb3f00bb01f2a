-- A set of the ids that were seen, one more at a time.
use Rattle.std.proofs.Common.{◌≡◌, ℕ, ◌+◌, ◌≤◌, List, [], ◌∷◌, inl, inr, map, Bool, true, false, not, IsTrue, refl, ap, ap₂, sym, ◌∙◌, arith}
use Rattle.std.specs.Prelude.{bytes_eq, ◌||◌, ◌↔◌}
use Rattle.std.specs.Borrow.{Bor}
use Rattle.std.specs.List.{list_any}
use Rattle.std.specs.declared.cmp.Ordering.{Ordering}
use Rattle.std.specs.declared.cmp.Ordering.TheVariants.{Less, Equal, Greater}
use Rattle.std.specs.Ordering.{is_eq, match_ordering, nat_cmp}
use Rattle.std.specs.Cmp.Lexicographic.{slice_cmp}
use Rattle.std.specs.BTreeMap.{is_at}
use Rattle.std.specs.BTreeSet.{BTreeSet, insert_key}
use Rattle.std.proofs.Math.Nat.{eq-or-lt_of_le}
use Rattle.std.proofs.Math.Bool.{or-true}
use Rattle.std.proofs.lemmas.Bool.{or_cases, false≢true}
use Rattle.std.proofs.lemmas.Map.Text.{is_eq-slice_cmp}
use Rattle.std.proofs.lemmas.Slice.Eq.{bytes_eq-Decides}
use Rattle.edr_station.specs.declared.inputs.StationInput.{StationInput}
use Rattle.edr_station.specs.Inputs.{id_at}
use Rattle.edr_station.specs.Least.{IsRepeatAt}
use Rattle.edr_station.specs.Seen.{IsBefore, AreSeen}

abbrev Key : Type 0
Key = Bor (List ℕ)

abbrev pub order : Key → Key → Ordering
order one other = slice_cmp nat_cmp one.now other.now

abbrev has : List ℕ → List Key → Bool
has id keys = list_any (bytes_eq id) (map (λ (key : Key). key.now) keys)

or_swap : (a b c : Bool) → (a || (b || c)) ≡ (b || (a || c))
or_swap true true c = refl
or_swap true false c = refl
or_swap false b c = refl

or_again : (a c : Bool) → (a || (a || c)) ≡ (a || c)
or_again true c = refl
or_again false c = refl

more_at : (o : Ordering) (id : List ℕ) (k x : Key) (xs ys : List Key) → (is_eq o ≡ true → k.now ≡ x.now) → has id ys ≡ (bytes_eq id k.now || has id xs)
    → has id (match_ordering o (k ∷ x ∷ xs) (x ∷ xs) (x ∷ ys)) ≡ (bytes_eq id k.now || has id (x ∷ xs))
more_at Less id k x xs ys same more = refl
more_at Equal id k x xs ys same more =
    sym (or_again (bytes_eq id x.now) (has id xs)) ∙ ap (λ t. bytes_eq id t || (bytes_eq id x.now || has id xs)) (sym (same refl))
more_at Greater id k x xs ys same more =
    ap (λ b. bytes_eq id x.now || b) more ∙ or_swap (bytes_eq id x.now) (bytes_eq id k.now) (has id xs)

same_ids : (a b : List ℕ) → is_eq (slice_cmp nat_cmp a b) ≡ true → a ≡ b
same_ids a b e = (bytes_eq-Decides a b).0 (sym (is_eq-slice_cmp a b) ∙ e)

insert_has : (id : List ℕ) (ks : List Key) (k : Key) → has id (insert_key order ks k) ≡ (bytes_eq id k.now || has id ks)
insert_has id [] k = refl
insert_has id (x ∷ xs) k = more_at (order k x) id k x xs (insert_key order xs k) (same_ids k.now x.now) (insert_has id xs k)

found : (ks : List Key) (k : Key) → list_any (is_at (order k)) ks ≡ has k.now ks
found [] k = refl
found (x ∷ xs) k = ap₂ (λ a b. a || b) (is_eq-slice_cmp k.now x.now) (found xs k)

not_flips : (a b : Bool) → b ≡ not a → not b ≡ a
not_flips true b e = ap not e
not_flips false b e = ap not e

-- no id is seen before the first place
pub none_seen : (inputs : List StationInput) (seen : BTreeSet Key) → seen.keys ≡ [] → AreSeen seen inputs 0
none_seen inputs seen e id =
    (λ h. absurd (false≢true (sym (ap (has id) e) ∙ h)), λ b. absurd (omega (arith, b.1)))

module _ (inputs : List StationInput) (place : ℕ) (key : Key) (here : id_at inputs place ≡ key.now) where
  before_or_here : (id : List ℕ) (ks : List Key) → (IsTrue (has id ks) ↔ IsBefore inputs place id) → (bytes_eq id key.now || has id ks) ≡ true → IsBefore inputs (place + 1) id
  before_or_here id ks seen e = elim (or_cases (bytes_eq id key.now) (has id ks) e) [
    | inl same ↦ (place, omega arith, here ∙ sym ((bytes_eq-Decides id key.now).0 same))
    | inr old ↦ let b = seen.0 old in (b.0, omega (arith, b.1), b.2)
  ]

  has_it : (id : List ℕ) (ks : List Key) → (IsTrue (has id ks) ↔ IsBefore inputs place id) → IsBefore inputs (place + 1) id → (bytes_eq id key.now || has id ks) ≡ true
  has_it id ks seen b =
      let le : b.0 ≤ place = omega (arith, b.1) in
      elim (eq-or-lt_of_le le) [
        | inl same ↦
            ap (λ t. t || has id ks) ((bytes_eq-Decides id key.now).1 (sym b.2 ∙ (ap (id_at inputs) same ∙ here)))
        | inr less ↦ ap (λ t. bytes_eq id key.now || t) (seen.1 (b.0, less, b.2)) ∙ or-true (bytes_eq id key.now)
      ]

  pub seen_more : (old new : BTreeSet Key) → AreSeen old inputs place → new.keys ≡ insert_key order old.keys key → AreSeen new inputs (place + 1)
  seen_more old new seen e id =
      let more : has id new.keys ≡ (bytes_eq id key.now || has id old.keys) = ap (has id) e ∙ insert_has id old.keys key in
      (λ h. before_or_here id old.keys (seen id) (sym more ∙ h), λ b. more ∙ has_it id old.keys (seen id) b)

  -- the id was seen exactly where the set has it
  pub is_repeat : (old : BTreeSet Key) (added : Bool) → AreSeen old inputs place → added ≡ not (list_any (is_at (order key)) old.keys) → IsTrue (not added) ↔ IsRepeatAt inputs place
  is_repeat old added seen e =
      let was : not added ≡ has key.now old.keys = not_flips (list_any (is_at (order key)) old.keys) added e ∙ found old.keys key in (
        λ h. let b = (seen key.now).0 (sym was ∙ h) in (b.0, b.1, b.2 ∙ sym here),
        λ r. was ∙ (seen key.now).1 (r.0, r.1, r.2 ∙ here),
      )
