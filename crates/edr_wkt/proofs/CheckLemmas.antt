-- The first bad place of a list, and of a list that is made of lists.
use Rattle.std.proofs.Common.{◌≡◌, ℕ, zero, suc, inl, inr, subst, ◌+◌, ◌-◌, ◌<◌, ◌≤◌, List, [], ◌∷◌, ◌++◌, length, take, drop, get_or, refl, sym, ap, ◌∙◌, arith, append_assoc, ℤ, ◌≤ℤ◌, ◌<ℤ◌, Some, Ok, Err, FitsSigned, w64, to_z, of_z}
use Rattle.std.proofs.ByRecursion.{All-get_or}
use Rattle.std.proofs.lemmas.Bool.{cases_lt}
use Rattle.std.proofs.lemmas.Int.{ints, to_z-of_z, by_lt_z}
use Rattle.std.proofs.lemmas.List.{length-append, length-take-le, take-append-drop, take_more, take_all, drop_more}
use Rattle.std.proofs.lemmas.Option.{none-some, same_Some, slice_get_within, slice_get-get_or, get_or_from_slice_get}
use Rattle.std.specs.List.{flat_map, AllByRecursion, slice_get}
use Rattle.edr_base.specs.FirstThatApplies.{IsFirstPlace}
use Rattle.edr_base.specs.declared.places.Position.{Position}
use Rattle.edr_wkt.specs.Faults.{NeverFalls, IsBadAt, FallsAt}
use Rattle.edr_wkt.specs.Checks.{MatchGood}

pub all-append : {A : Type 0} (P : A → Type 0) (a b : List A) → AllByRecursion P a → AllByRecursion P b → AllByRecursion P (a ++ b)
all-append P [] b x y = y
all-append P (c ∷ a) b x y = (x.0, all-append P a b x.1 y)

pub all-take_more : {A : Type 0} (P : A → Type 0) (xs : List A) (i : ℕ) (d : A) → i < length xs → AllByRecursion P (take i xs) → P (get_or xs i d) → AllByRecursion P (take (i + 1) xs)
all-take_more {A} P xs i d h all here = let Q : List A → Type 0 = λ l. AllByRecursion P l in subst Q (sym (take_more xs i d h)) (all-append P (take i xs) (get_or xs i d ∷ []) all (here, tt))

pub all-take_all : {A : Type 0} (P : A → Type 0) (xs : List A) (i : ℕ) → length xs ≤ i → AllByRecursion P (take i xs) → AllByRecursion P xs
all-take_all {A} P xs i h all = let Q : List A → Type 0 = λ l. AllByRecursion P l in subst Q (take_all i xs h) all

split-at : {A : Type 0} (xs : List A) (i : ℕ) (d : A) → i < length xs → xs ≡ take i xs ++ get_or xs i d ∷ drop (i + 1) xs
split-at xs i d h = sym (take-append-drop i xs) ∙ ap (λ l. take i xs ++ l) (drop_more xs i d h)

get-left : {A : Type 0} (a b : List A) (k : ℕ) → k < length a → slice_get (a ++ b) k ≡ slice_get a k
get-left [] b k h = absurd (omega arith)
get-left (x ∷ a) b zero h = refl
get-left (x ∷ a) b (suc k) h = get-left a b k (omega arith)

get-right : {A : Type 0} (a b : List A) (k : ℕ) → slice_get (a ++ b) (length a + k) ≡ slice_get b k
get-right [] b k = let e : 0 + k ≡ k = omega arith in ap (slice_get b) e
get-right (x ∷ a) b k = let e : suc (length a) + k ≡ suc (length a + k) = omega arith in ap (slice_get (x ∷ (a ++ b))) e ∙ get-right a b k

-- of good items none is bad
pub not_bad : {A : Type 0} (Good : A → Type 0) (xs : List A) (place : ℕ) → AllByRecursion Good xs → ¬ (IsBadAt Good xs place)
not_bad Good xs place all bad =
    let here : get_or xs (place - 1) bad.item ≡ bad.item = get_or_from_slice_get xs (place - 1) bad.item bad.item bad.here in
    bad.is_bad (subst Good here (All-get_or Good xs (place - 1) bad.item (slice_get_within xs (place - 1) bad.item bad.here) all))

-- the same item, at a place of another list
bad-moved : {A : Type 0} (Good : A → Type 0) (xs ys : List A) (p q : ℕ) → IsBadAt Good xs p → 0 < q → slice_get ys (q - 1) ≡ slice_get xs (p - 1) → IsBadAt Good ys q
bad-moved Good xs ys p q bad counted same = record { item = bad.item; counted = counted; here = same ∙ bad.here; is_bad = bad.is_bad }

-- the first bad place, behind good items and before others
pub first_bad-behind : {A : Type 0} (Good : A → Type 0) (a b rest : List A) (place : ℕ) → AllByRecursion Good a → IsFirstPlace (IsBadAt Good b) place → IsFirstPlace (IsBadAt Good (a ++ (b ++ rest))) (length a + place)
first_bad-behind Good a b rest place all f =
    let list = a ++ (b ++ rest) in
    let inside : place - 1 < length b = slice_get_within b (place - 1) f.applies.item f.applies.here in
    let same : (n k : ℕ) → n ≡ length a + k → k < length b → slice_get list n ≡ slice_get b k = λ n k e h. ap (slice_get list) e ∙ get-right a (b ++ rest) k ∙ get-left b rest k h in
    record {
      applies = bad-moved Good b list place (length a + place) f.applies (omega (arith, f.applies.counted)) (same _ _ (omega (arith, f.applies.counted)) inside);
      none_before = λ other below bad. elim (cases_lt (length a) other) [
        | inl behind ↦ f.none_before (other - length a) (omega (arith, below, behind)) (bad-moved Good list b other (other - length a) bad (omega (arith, behind)) (sym (same _ _ (omega (arith, behind)) (omega (arith, below, behind, inside)))))
        | inr le ↦ not_bad Good a other all (bad-moved Good list a other other bad bad.counted (sym (get-left a (b ++ rest) (other - 1) (omega (arith, bad.counted, le)))))
      ];
    }

-- an item that isn't good, behind good ones
pub first_bad-at : {A : Type 0} (Good : A → Type 0) (xs : List A) (i : ℕ) (d : A) → i < length xs → AllByRecursion Good (take i xs) → ¬ (Good (get_or xs i d)) → IsFirstPlace (IsBadAt Good xs) (i + 1)
first_bad-at {A} Good xs i d h all bad =
    let alone : IsFirstPlace (IsBadAt Good (get_or xs i d ∷ [])) 1 = record { applies = record { item = get_or xs i d; counted = omega arith; here = refl; is_bad = bad }; none_before = λ other below before. omega (arith, below, before.counted) } in
    let P : List A → ℕ → Type 0 = λ l n. IsFirstPlace (IsBadAt Good l) n in
    let place : length (take i xs) + 1 ≡ i + 1 = omega (arith, length-take-le i xs (omega arith)) in
    subst (λ l. P l (i + 1)) (sym (split-at xs i d h)) (subst (P _) place (first_bad-behind Good (take i xs) (get_or xs i d ∷ []) (drop (i + 1) xs) 1 all alone))

pub flat_map-append : {A B : Type 0} (f : A → List B) (xs ys : List A) → flat_map f (xs ++ ys) ≡ flat_map f xs ++ flat_map f ys
flat_map-append f [] ys = refl
flat_map-append f (x ∷ xs) ys = ap (λ l. f x ++ l) (flat_map-append f xs ys) ∙ sym (append_assoc (f x) (flat_map f xs) (flat_map f ys))

append-nil-right : {B : Type 0} (xs : List B) → xs ++ [] ≡ xs
append-nil-right [] = refl
append-nil-right (x ∷ xs) = ap (λ l. x ∷ l) (append-nil-right xs)

pub flat_map-more : {A B : Type 0} (f : A → List B) (xs : List A) (i : ℕ) (d : A) → i < length xs → flat_map f (take (i + 1) xs) ≡ flat_map f (take i xs) ++ f (get_or xs i d)
flat_map-more f xs i d h = ap (flat_map f) (take_more xs i d h) ∙ flat_map-append f (take i xs) (get_or xs i d ∷ []) ∙ ap (λ l. flat_map f (take i xs) ++ l) (append-nil-right (f (get_or xs i d)))

pub flat_map-split : {A B : Type 0} (f : A → List B) (xs : List A) (i : ℕ) (d : A) → i < length xs → flat_map f xs ≡ flat_map f (take i xs) ++ (f (get_or xs i d) ++ flat_map f (drop (i + 1) xs))
flat_map-split f xs i d h = ap (flat_map f) (split-at xs i d h) ∙ flat_map-append f (take i xs) (get_or xs i d ∷ drop (i + 1) xs)

-- the lists so far are good, and so many items
pub record AreGood {A B : Type 0} (Good : B → Type 0) (f : A → List B) (xs : List A) (before i n : ℕ) : Type 0 where
  pub good : AllByRecursion Good (flat_map f (take i xs))
  pub count_is : n ≡ before + length (flat_map f (take i xs))

pub good-start : {A B : Type 0} (Good : B → Type 0) (f : A → List B) (xs : List A) (before : ℕ) → AreGood Good f xs before 0 before
good-start Good f xs before = record { good = tt; count_is = omega arith }

pub good-room : {A B : Type 0} (Good : B → Type 0) (f : A → List B) (xs : List A) (before i n : ℕ) (d : A) → i < length xs → AreGood Good f xs before i n → n + length (f (get_or xs i d)) ≤ before + length (flat_map f xs)
good-room Good f xs before i n d h g =
    omega (arith, g.count_is, ap length (flat_map-split f xs i d h), length-append (flat_map f (take i xs)) (f (get_or xs i d) ++ flat_map f (drop (i + 1) xs)), length-append (f (get_or xs i d)) (flat_map f (drop (i + 1) xs)))

pub good-next : {A B : Type 0} (Good : B → Type 0) (f : A → List B) (xs : List A) (before i n m : ℕ) (d : A) → i < length xs → AreGood Good f xs before i n → MatchGood (Ok m) Good (f (get_or xs i d)) n
    → AreGood Good f xs before (i + 1) m
good-next {A} {B} Good f xs before i n m d h g c =
    let Q : List B → Type 0 = λ l. AllByRecursion Good l in
    record {
      good = subst Q (sym (flat_map-more f xs i d h)) (all-append Good (flat_map f (take i xs)) (f (get_or xs i d)) g.good c.0);
      count_is = omega (arith, c.1, g.count_is, ap length (flat_map-more f xs i d h), length-append (flat_map f (take i xs)) (f (get_or xs i d)));
    }

pub good-bad : {A B : Type 0} (Good : B → Type 0) (f : A → List B) (xs : List A) (before i n m : ℕ) (d : A) → i < length xs → AreGood Good f xs before i n → MatchGood (Err m) Good (f (get_or xs i d)) n
    → MatchGood (Err m) Good (flat_map f xs) before
good-bad {A} {B} Good f xs before i n m d h g (place, bad, e) =
    let front = flat_map f (take i xs) in
    let Q : List B → Type 0 = λ l. IsFirstPlace (IsBadAt Good l) (length front + place) in
    (length front + place, subst Q (sym (flat_map-split f xs i d h)) (first_bad-behind Good front (f (get_or xs i d)) (flat_map f (drop (i + 1) xs)) place g.good bad), omega (arith, e, g.count_is))

pub good-end : {A B : Type 0} (Good : B → Type 0) (f : A → List B) (xs : List A) (before i n : ℕ) → length xs ≤ i → AreGood Good f xs before i n → MatchGood (Ok n) Good (flat_map f xs) before
good-end {A} {B} Good f xs before i n h g =
    let e : flat_map f (take i xs) ≡ flat_map f xs = ap (flat_map f) (take_all i xs h) in
    let Q : List B → Type 0 = λ l. AllByRecursion Good l in
    (subst Q e g.good, omega (arith, g.count_is, ap length e))

-- m along a line

pub rising-at : (ps : List Position) (k : ℕ) (a b : Position) → NeverFalls ps → slice_get ps k ≡ Some a → slice_get ps (suc k) ≡ Some b → a.m ≤ℤ b.m
rising-at [] k a b f here next = absurd (none-some a here)
rising-at (p ∷ []) k a b f here next = absurd (none-some b next)
rising-at (p ∷ (q ∷ ps)) zero a b f here next = rw (sym (same_Some p a here), sym (same_Some q b next)) f.0
rising-at (p ∷ (q ∷ ps)) (suc k) a b f here next = rising-at (q ∷ ps) k a b f.1 here next

-- where m never falls, it falls at no place
pub not_falls : (ps : List Position) (place : ℕ) → NeverFalls ps → ¬ (FallsAt ps place)
not_falls ps place f fall =
    let next : place - 1 ≡ suc (place - 2) = omega (arith, fall.counted) in
    omega (arith, ints, fall.is_below, rising-at ps (place - 2) fall.before fall.position f fall.before_here (ap (slice_get ps) (sym next) ∙ fall.here))

never_falls-steps : (ps : List Position) → ((k : ℕ) (a b : Position) → slice_get ps k ≡ Some a → slice_get ps (suc k) ≡ Some b → a.m ≤ℤ b.m) → NeverFalls ps
never_falls-steps [] h = tt
never_falls-steps (p ∷ []) h = tt
never_falls-steps (p ∷ (q ∷ ps)) h = (h 0 p q refl refl, never_falls-steps (q ∷ ps) (λ k. h (suc k)))

falls-at : (ps : List Position) (place k : ℕ) (a b : Position) → place ≡ k + 2 → slice_get ps k ≡ Some a → slice_get ps (suc k) ≡ Some b → b.m <ℤ a.m → FallsAt ps place
falls-at ps place k a b e here next below =
    let two : place - 2 ≡ k = omega (arith, e) in
    let one : place - 1 ≡ suc k = omega (arith, e) in
    record { before = a; position = b; counted = omega (arith, e); before_here = ap (slice_get ps) two ∙ here; here = ap (slice_get ps) one ∙ next; is_below = below }

-- a place where m falls, and it fell at none before
pub first_fall-at : (ps : List Position) (i k : ℕ) (d : Position) → i ≡ k + 1 → i < length ps → ((place : ℕ) → place ≤ i → ¬ (FallsAt ps place)) → (get_or ps i d).m <ℤ (get_or ps k d).m → IsFirstPlace (FallsAt ps) (i + 1)
first_fall-at ps i k d e h none below =
    let next : suc k ≡ i = omega (arith, e) in
    record {
      applies = falls-at ps (i + 1) k (get_or ps k d) (get_or ps i d) (omega (arith, e)) (slice_get-get_or ps k d (omega (arith, e, h))) (ap (slice_get ps) next ∙ slice_get-get_or ps i d h) below;
      none_before = λ other before. none other (omega (arith, before));
    }

-- a place where it doesn't
pub no_fall-next : (ps : List Position) (i k : ℕ) (d : Position) → i ≡ k + 1 → ((place : ℕ) → place ≤ i → ¬ (FallsAt ps place)) → ¬ ((get_or ps i d).m <ℤ (get_or ps k d).m) → (place : ℕ) → place ≤ i + 1 → ¬ (FallsAt ps place)
no_fall-next ps i k d e none not_below place le fall = elim (cases_lt i place) [
  | inl behind ↦ (let one : i ≡ place - 1 = omega (arith, behind, le) in
      let two : k ≡ place - 2 = omega (arith, behind, le, e) in
      let here : get_or ps i d ≡ fall.position = get_or_from_slice_get ps i fall.position d (ap (slice_get ps) one ∙ fall.here) in
      let before : get_or ps k d ≡ fall.before = get_or_from_slice_get ps k fall.before d (ap (slice_get ps) two ∙ fall.before_here) in
      not_below (rw (here, before) fall.is_below))
  | inr within ↦ none place within fall
]

-- and where it falls at no place, it never falls
pub never_falls-whole : (ps : List Position) (i : ℕ) → length ps ≤ i → ((place : ℕ) → place ≤ i → ¬ (FallsAt ps place)) → NeverFalls ps
never_falls-whole ps i h none = never_falls-steps ps (λ k a b here next. by_lt_z b.m a.m
    (λ lt. absurd (none (k + 2) (omega (arith, h, slice_get_within ps (suc k) b next)) (falls-at ps (k + 2) k a b refl here next lt)))
    (λ le. le))

-- a number that is passed is itself
pub passed : (P : ℤ → Type 0) (z : ℤ) → FitsSigned w64 z → P (to_z w64 (of_z w64 z)) → P z
passed P z fits h = subst P (to_z-of_z w64 z fits) h

pub passed-back : (P : ℤ → Type 0) (z : ℤ) → FitsSigned w64 z → P z → P (to_z w64 (of_z w64 z))
passed-back P z fits h = subst P (sym (to_z-of_z w64 z fits)) h
