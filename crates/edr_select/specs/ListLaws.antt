-- Laws of filters, products of lists and runs of numbers.
use Rattle.std.proofs.Common.{ap₂, ◌≢◌, Contains, All, length, get_or, suc-add, zero-add, add-zero, ◌≡◌, ℕ, zero, suc, ◌+◌, ◌<◌, ◌≤◌, Bool, true, false, cond, List, [], ◌∷◌, ◌++◌, refl, ap, sym, ◌∙◌, subst, arith, inl, inr}
use Rattle.std.specs.Prelude.{map, ◌&&◌, ◌||◌, ◌⊎◌, None, Some, option_map}
use Rattle.std.specs.List.{range_with_len, filter, flat_map, list_any, find}
use Rattle.std.proofs.lemmas.List.Folds.{list_any-append, list_any_at, Any-from_list_any}
use Rattle.std.proofs.lemmas.List.Elements.{filter-append, filter_agree}
use Rattle.std.proofs.lemmas.Bool.{or_cases}
use Rattle.std.proofs.lemmas.List.{map-append}

pub any-filter : {X : Type 0} (t p : X → Bool) (xs : List X) → list_any t (filter p xs) ≡ list_any (λ x. p x && t x) xs
any-filter t p [] = refl
any-filter t p (x ∷ xs) =
    elim (p x) as (λ b. list_any t (cond b (x ∷ filter p xs) (filter p xs)) ≡ ((b && t x) || list_any (λ y. p y && t y) xs))
    [ true ↦ ap (λ r. t x || r) (any-filter t p xs) | false ↦ any-filter t p xs ]

pub any-map : {X Y : Type 0} (t : Y → Bool) (f : X → Y) (xs : List X) → list_any t (map f xs) ≡ list_any (λ x. t (f x)) xs
any-map t f [] = refl
any-map t f (x ∷ xs) = ap (λ r. t (f x) || r) (any-map t f xs)

pub any-flat_map : {X Y : Type 0} (t : Y → Bool) (f : X → List Y) (xs : List X) → list_any t (flat_map f xs) ≡ list_any (λ x. list_any t (f x)) xs
any-flat_map t f [] = refl
any-flat_map t f (x ∷ xs) = list_any-append t (f x) (flat_map f xs) ∙ ap (λ r. list_any t (f x) || r) (any-flat_map t f xs)

pub any_agree : {X : Type 0} (t u : X → Bool) → ((x : X) → t x ≡ u x) → (xs : List X) → list_any t xs ≡ list_any u xs
any_agree t u same [] = refl
any_agree t u same (x ∷ xs) = ap (λ b. b || list_any t xs) (same x) ∙ ap (λ r. u x || r) (any_agree t u same xs)

-- some number of a run passes
pub record PassesAt (t : ℕ → Bool) (a n : ℕ) : Type 0 where
  pub place : ℕ
  pub low : a ≤ place
  pub high : place < a + n
  pub passes : t place ≡ true

pub passes_at : (t : ℕ → Bool) (a n : ℕ) → list_any t (range_with_len a n) ≡ true → PassesAt t a n
passes_at t a zero h = cc
passes_at t a (suc n) h =
    elim (or_cases (t a) (list_any t (range_with_len (a + 1) n)) h) [
      | inl here ↦ record { place = a; low = omega arith; high = omega arith; passes = here }
      | inr later ↦ let found : PassesAt t (a + 1) n = passes_at t (a + 1) n later in
          record { place = found.place; low = omega (arith, found.low); high = omega (arith, found.high); passes = found.passes }
    ]

or_left : (x y : Bool) → x ≡ true → (x || y) ≡ true
or_left x y h = rw h refl

or_right : (x y : Bool) → y ≡ true → (x || y) ≡ true
or_right true y h = refl
or_right false y h = h

pub any_range : (t : ℕ → Bool) (a n k : ℕ) → a ≤ k → k < a + n → t k ≡ true → list_any t (range_with_len a n) ≡ true
any_range t a zero k low high h = absurd (omega arith)
any_range t a (suc n) k low high h =
    elim (order a k low) [
      | inl e ↦ or_left (t a) (list_any t (range_with_len (a + 1) n)) (ap t e ∙ h)
      | inr l ↦ or_right (t a) (list_any t (range_with_len (a + 1) n)) (any_range t (a + 1) n k (omega arith) (omega arith) h)
    ]
  where
    order : (a k : ℕ) → a ≤ k → (a ≡ k) ⊎ (a < k)
    order a k h = grind arith

pub filter-map : {X Y : Type 0} (t : Y → Bool) (f : X → Y) (xs : List X) → filter t (map f xs) ≡ map f (filter (λ x. t (f x)) xs)
filter-map t f [] = refl
filter-map t f (x ∷ xs) =
    elim (t (f x)) as (λ b. cond b (f x ∷ filter t (map f xs)) (filter t (map f xs)) ≡ map f (cond b (x ∷ filter (λ y. t (f y)) xs) (filter (λ y. t (f y)) xs)))
    [ true ↦ ap (λ r. f x ∷ r) (filter-map t f xs) | false ↦ filter-map t f xs ]

pub filter-flat_map : {X Y : Type 0} (t : Y → Bool) (f : X → List Y) (xs : List X) → filter t (flat_map f xs) ≡ flat_map (λ x. filter t (f x)) xs
filter-flat_map t f [] = refl
filter-flat_map t f (x ∷ xs) = filter-append t (f x) (flat_map f xs) ∙ ap (λ r. filter t (f x) ++ r) (filter-flat_map t f xs)

pub flat_map_agree : {X Y : Type 0} (f g : X → List Y) → ((x : X) → f x ≡ g x) → (xs : List X) → flat_map f xs ≡ flat_map g xs
flat_map_agree f g same [] = refl
flat_map_agree f g same (x ∷ xs) = ap (λ r. r ++ flat_map f xs) (same x) ∙ ap (λ r. g x ++ r) (flat_map_agree f g same xs)

-- a filter that is all or nothing of each part is a filter of the parts
pub flat_map-cond : {X Y : Type 0} (p : X → Bool) (f : X → List Y) (xs : List X) → flat_map (λ x. cond (p x) (f x) []) xs ≡ flat_map f (filter p xs)
flat_map-cond p f [] = refl
flat_map-cond p f (x ∷ xs) =
    elim (p x) as (λ b. cond b (f x) [] ++ flat_map (λ y. cond (p y) (f y) []) xs ≡ flat_map f (cond b (x ∷ filter p xs) (filter p xs)))
    [ true ↦ ap (λ r. f x ++ r) (flat_map-cond p f xs) | false ↦ flat_map-cond p f xs ]

pub filter_none : {X : Type 0} (xs : List X) → filter (λ x. false) xs ≡ []
filter_none [] = refl
filter_none (x ∷ xs) = filter_none xs

pub filter_and : {X : Type 0} (b : Bool) (q : X → Bool) (xs : List X) → filter (λ x. b && q x) xs ≡ cond b (filter q xs) []
filter_and true q xs = refl
filter_and false q xs = filter_none xs

-- a filter by a product of tests of a product of lists is the product of the filters
pub filter_product : {X Y Z : Type 0} (p : X → Bool) (q : Y → Bool) (pair : X → Y → Z) (t : Z → Bool) → ((x : X) (y : Y) → t (pair x y) ≡ (p x && q y))
    → (xs : List X) (ys : List Y) → filter t (flat_map (λ x. map (pair x) ys) xs) ≡ flat_map (λ x. map (pair x) (filter q ys)) (filter p xs)
filter_product {X} {Y} {Z} p q pair t is xs ys =
    let each : (x : X) → filter t (map (pair x) ys) ≡ cond (p x) (map (pair x) (filter q ys)) [] =
    λ x. filter-map t (pair x) ys ∙ ap (map (pair x)) (filter_agree _ _ (is x) ys ∙ filter_and (p x) q ys)
    ∙ elim (p x) as (λ b. map (pair x) (cond b (filter q ys) []) ≡ cond b (map (pair x) (filter q ys)) []) [ true ↦ refl | false ↦ refl ] in
    filter-flat_map t (λ x. map (pair x) ys) xs ∙ flat_map_agree _ _ each xs ∙ flat_map-cond p (λ x. map (pair x) (filter q ys)) xs

-- ---- of each element

abbrev pub Each : {X : Type 0} → (X → Type 0) → List X → Type 0
Each P [] = Unit {0}
Each P (x ∷ xs) = P x × Each P xs

pub each-append : {X : Type 0} (P : X → Type 0) (xs ys : List X) → Each P xs → Each P ys → Each P (xs ++ ys)
each-append P [] ys h more = more
each-append P (x ∷ xs) ys h more = (h.0, each-append P xs ys h.1 more)

pub each-map_range : {X : Type 0} (P : X → Type 0) (f : ℕ → X) (a n : ℕ) → ((k : ℕ) → a ≤ k → k < a + n → P (f k)) → Each P (map f (range_with_len a n))
each-map_range P f a zero h = tt
each-map_range P f a (suc n) h = (h a (omega arith) (omega arith), each-map_range P f (a + 1) n (λ k low high. h k (omega arith) (omega arith)))

pub each-flat_map_range : {X : Type 0} (P : X → Type 0) (f : ℕ → List X) (a n : ℕ) → ((k : ℕ) → a ≤ k → k < a + n → Each P (f k))
    → Each P (flat_map f (range_with_len a n))
each-flat_map_range P f a zero h = tt
each-flat_map_range P f a (suc n) h =
    each-append P (f a) (flat_map f (range_with_len (a + 1) n)) (h a (omega arith) (omega arith)) (each-flat_map_range P f (a + 1) n (λ k low high. h k (omega arith) (omega arith)))

pub each-map : {X Y : Type 0} (P : Y → Type 0) (f : X → Y) (xs : List X) → Each (λ x. P (f x)) xs → Each P (map f xs)
each-map P f [] h = tt
each-map P f (x ∷ xs) h = (h.0, each-map P f xs h.1)

pub each-filter : {X : Type 0} (P : X → Type 0) (t : X → Bool) (xs : List X) → Each P xs → Each P (filter t xs)
each-filter P t [] h = tt
each-filter P t (x ∷ xs) h = elim (t x) as (λ b. Each P (cond b (x ∷ filter t xs) (filter t xs))) [ true ↦ (h.0, each-filter P t xs h.1) | false ↦ each-filter P t xs h.1 ]

-- what is found has the value that each which passes has
pub find_each : {X Y : Type 0} (t : X → Bool) (f : X → Y) (v : Y) (xs : List X) → Each (λ x. t x ≡ true → f x ≡ v) xs → list_any t xs ≡ true
    → option_map f (find t xs) ≡ Some v
find_each t f v [] h some = cc
find_each {X} {Y} t f v (x ∷ xs) h some = here (t x) refl (find_each t f v xs h.1)
  where
    here : (b : Bool) → t x ≡ b → (list_any t xs ≡ true → option_map f (find t xs) ≡ Some v) → option_map f (find t (x ∷ xs)) ≡ Some v
    here true e later = ap (λ c. option_map f (cond c (Some x) (find t xs))) e ∙ ap Some (h.0 e)
    here false e later = ap (λ c. option_map f (cond c (Some x) (find t xs))) e ∙ later (sym (ap (λ c. c || list_any t xs) e) ∙ some)

-- tests that agree on each place of a list give one filter
pub filter_at : {X : Type 0} (t u : X → Bool) (xs : List X) → ((k : ℕ) (d : X) → k < length xs → t (get_or xs k d) ≡ u (get_or xs k d)) → filter t xs ≡ filter u xs
filter_at t u [] same = refl
filter_at t u (x ∷ xs) same =
    ap (λ b. cond b (x ∷ filter t xs) (filter t xs)) (same 0 x (omega arith))
    ∙ ap (λ r. cond (u x) (x ∷ r) r) (filter_at t u xs (λ k d h. same (suc k) d (omega arith)))

-- Booleans that are true together
pub both : (b c : Bool) → (b ≡ true → c ≡ true) → (c ≡ true → b ≡ true) → b ≡ c
both true true f g = refl
both true false f g = sym (f refl)
both false true f g = g refl
both false false f g = refl

-- ---- runs of numbers

pub range-append : (a m n : ℕ) → range_with_len a (m + n) ≡ range_with_len a m ++ range_with_len (a + m) n
range-append a zero n = ap (range_with_len a) (zero-add n) ∙ ap (λ k. range_with_len k n) (sym (add-zero a))
range-append a (suc m) n =
    ap (range_with_len a) (suc-add m n) ∙ ap (λ r. a ∷ r) (range-append (a + 1) m n ∙ ap (λ k. range_with_len (a + 1) m ++ range_with_len k n) (next a m))
  where
    next : (a m : ℕ) → (a + 1) + m ≡ a + suc m
    next a m = omega arith

pub kept_more : (t : ℕ → Bool) (n : ℕ) → filter t (range_with_len 0 (n + 1)) ≡ filter t (range_with_len 0 n) ++ cond (t n) (n ∷ []) []
kept_more t n =
    ap (filter t) (range-append 0 n 1) ∙ filter-append t (range_with_len 0 n) (range_with_len (0 + n) 1)
    ∙ ap (λ k. filter t (range_with_len 0 n) ++ cond (t k) (k ∷ []) []) (zero-add n)

-- where nothing between is kept, a jump keeps the list

-- one number more is kept where it passes
pub keep_step : (t : ℕ → Bool) (k : ℕ) (b : Bool) (old new : List ℕ) → old ≡ filter t (range_with_len 0 k) → b ≡ t k → new ≡ old ++ cond b (k ∷ []) []
    → new ≡ filter t (range_with_len 0 (k + 1))
keep_step t k b old new was test step =
    step ∙ ap (λ xs. xs ++ cond b (k ∷ []) []) was ∙ ap (λ d. filter t (range_with_len 0 k) ++ cond d (k ∷ []) []) test ∙ sym (kept_more t k)

-- nothing is found where nothing passes
pub find_none : {X : Type 0} (t : X → Bool) (xs : List X) → list_any t xs ≡ false → find t xs ≡ None
find_none t [] h = refl
find_none {X} t (x ∷ xs) h = here (t x) refl h (find_none t xs)
  where
    here : (b : Bool) → t x ≡ b → (b || list_any t xs) ≡ false → (list_any t xs ≡ false → find t xs ≡ None) → find t (x ∷ xs) ≡ None
    here true e none later = cc
    here false e none later = ap (λ c. cond c (Some x) (find t xs)) e ∙ later none

-- ---- members

pub member_here : {X : Type 0} (x : X) (xs : List X) → Contains (x ∷ xs) x
member_here x xs = (0, omega arith, refl)

pub member_later : {X : Type 0} (x y : X) (xs : List X) → Contains xs y → Contains (x ∷ xs) y
member_later x y xs c = (suc c.0, omega (arith, c.1), c.2)

pub no_member : {X : Type 0} (xs : List X) (x : X) → xs ≡ [] → Contains xs x → ⊥
no_member xs x none c = absurd (omega (arith, c.1, ap (λ ys. length ys) none))

-- a list that isn't empty has a member
pub record Member {X : Type 0} (xs : List X) : Type 0 where
  pub item : X
  pub among : Contains xs item

pub some_member : {X : Type 0} (xs : List X) → xs ≢ [] → Member xs
some_member [] some = absurd (some refl)
some_member (x ∷ xs) some = record { item = x; among = member_here x xs }

-- what holds of each element holds of a member
pub all_member : {X : Type 0} (P : X → Type 0) (xs : List X) (x : X) → All P xs → Contains xs x → P x
all_member P xs x all c = subst P c.2 (all c.0 x c.1)

pub any_member : {X : Type 0} (t : X → Bool) (xs : List X) (x : X) → Contains xs x → t x ≡ true → list_any t xs ≡ true
any_member t xs x c h = list_any_at t xs c.0 x c.1 (ap t c.2 ∙ h)

-- a member that passes
pub record Passing {X : Type 0} (t : X → Bool) (xs : List X) : Type 0 where
  pub item : X
  pub among : Contains xs item
  pub passes : t item ≡ true

pub passing : {X : Type 0} (t : X → Bool) (xs : List X) → list_any t xs ≡ true → Passing t xs
passing t xs h = let a = Any-from_list_any t xs h in record { item = a.1; among = (a.0, a.2, a.3); passes = a.4 }

pub map_agree_in : {X Y : Type 0} (f g : X → Y) (xs : List X) → ((x : X) → Contains xs x → f x ≡ g x) → map f xs ≡ map g xs
map_agree_in f g [] same = refl
map_agree_in f g (x ∷ xs) same = ap₂ (λ y ys. y ∷ ys) (same x (member_here x xs)) (map_agree_in f g xs (λ y c. same y (member_later x y xs c)))

pub map_agree_each : {X Y : Type 0} (f g : X → Y) (xs : List X) → Each (λ x. f x ≡ g x) xs → map f xs ≡ map g xs
map_agree_each f g [] same = refl
map_agree_each f g (x ∷ xs) same = ap₂ (λ y ys. y ∷ ys) same.0 (map_agree_each f g xs same.1)

pub each-map_in : {X Y : Type 0} (P : Y → Type 0) (f : X → Y) (xs : List X) → ((x : X) → Contains xs x → P (f x)) → Each P (map f xs)
each-map_in P f [] h = tt
each-map_in P f (x ∷ xs) h = (h x (member_here x xs), each-map_in P f xs (λ y c. h y (member_later x y xs c)))

pub each-flat_map_in : {X Y : Type 0} (P : Y → Type 0) (f : X → List Y) (xs : List X) → ((x : X) → Contains xs x → Each P (f x)) → Each P (flat_map f xs)
each-flat_map_in P f [] h = tt
each-flat_map_in P f (x ∷ xs) h = each-append P (f x) (flat_map f xs) (h x (member_here x xs)) (each-flat_map_in P f xs (λ y c. h y (member_later x y xs c)))

pub map-map : {X Y Z : Type 0} (f : Y → Z) (g : X → Y) (xs : List X) → map f (map g xs) ≡ map (λ x. f (g x)) xs
map-map f g [] = refl
map-map f g (x ∷ xs) = ap (λ ys. f (g x) ∷ ys) (map-map f g xs)

pub map-flat_map : {X Y Z : Type 0} (f : Y → Z) (g : X → List Y) (xs : List X) → map f (flat_map g xs) ≡ flat_map (λ x. map f (g x)) xs
map-flat_map f g [] = refl
map-flat_map f g (x ∷ xs) = map-append f (g x) (flat_map g xs) ∙ ap (λ ys. map f (g x) ++ ys) (map-flat_map f g xs)
