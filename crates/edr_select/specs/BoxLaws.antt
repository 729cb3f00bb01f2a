-- Lists over the times, levels, rows and columns of a box, the last fastest.
use Rattle.std.proofs.Common.{◌≡◌, ℕ, zero, suc, ◌+◌, ◌-◌, ◌*◌, ◌<◌, ◌≤◌, Bool, true, List, [], ◌∷◌, ◌++◌, length, refl, ap₂, sym, ◌∙◌, arith, Contains, length-append}
use Rattle.std.specs.Prelude.{map}
use Rattle.std.specs.List.{flat_map, list_any, range_with_len, slice_index_or}
use Rattle.std.proofs.lemmas.List.{length-map}
use Rattle.std.proofs.lemmas.List.FromFn.{length-range_with_len, get_or-range_with_len}
use Rattle.edr_select.specs.ListLaws.{any-map, any-flat_map, flat_map_agree, map_agree_in, map-map, map-flat_map, member_here, member_later, Passing, passing, any_member}

-- ---- members

-- the numbers from one on
pub contains_from : (a n k : ℕ) → a ≤ k → k < a + n → Contains (range_with_len a n) k
contains_from a zero k low high = absurd (omega (arith, low, high))
contains_from a (suc n) k low high = (k - a, omega (arith, length-range_with_len a (suc n)), there a (suc n) k low high)
  where
    there : (a n k : ℕ) → a ≤ k → k < a + n → slice_index_or (range_with_len a n) (k - a) k ≡ k
    there a n k low high = omega (arith, get_or-range_with_len a n (k - a) k (omega arith))

pub from_contains : (a n k : ℕ) → Contains (range_with_len a n) k → (a ≤ k) × (k < a + n)
from_contains a n k c = bounds c.0 c.1 c.2
  where
    bounds : (j : ℕ) → j < length (range_with_len a n) → slice_index_or (range_with_len a n) j k ≡ k → (a ≤ k) × (k < a + n)
    bounds j l e =
        let inside : j < n = omega (arith, length-range_with_len a n, l) in
        let at : a + j ≡ k = omega (arith, get_or-range_with_len a n j k inside, e) in
        (omega (arith, at), omega (arith, at, inside))

pub flat_map_agree_in : {X Y : Type 0} (f g : X → List Y) (xs : List X) → ((x : X) → Contains xs x → f x ≡ g x) → flat_map f xs ≡ flat_map g xs
flat_map_agree_in f g [] same = refl
flat_map_agree_in f g (x ∷ xs) same =
    ap₂ (λ ys zs. ys ++ zs) (same x (member_here x xs)) (flat_map_agree_in f g xs (λ y c. same y (member_later x y xs c)))

-- lists as long as each other, one after the other
pub length_of_same : {X Y : Type 0} (f : X → List Y) (n : ℕ) → ((x : X) → length (f x) ≡ n) → (xs : List X) → length (flat_map f xs) ≡ length xs * n
length_of_same f n same [] = omega arith
length_of_same f n same (x ∷ xs) =
    length-append (f x) (flat_map f xs) ∙ (ap₂ (λ a b. a + b) (same x) (length_of_same f n same xs) ∙ more (length xs) n)
  where
    more : (m k : ℕ) → k + m * k ≡ suc m * k
    more m k = omega arith

-- ---- boxes

abbrev pub rows_of : {X : Type 0} → (ℕ → ℕ → X) → List ℕ → List ℕ → List X
rows_of f ys xs = flat_map (λ y. map (f y) xs) ys

abbrev pub planes_of : {X : Type 0} → (ℕ → ℕ → ℕ → X) → List ℕ → List ℕ → List ℕ → List X
planes_of f zs ys xs = flat_map (λ z. rows_of (f z) ys xs) zs

abbrev pub boxed : {X : Type 0} → (ℕ → ℕ → ℕ → ℕ → X) → List ℕ → List ℕ → List ℕ → List ℕ → List X
boxed f ts zs ys xs = flat_map (λ t. planes_of (f t) zs ys xs) ts

-- items that agree at each place of a box
pub boxed_agree : {X : Type 0} (f g : ℕ → ℕ → ℕ → ℕ → X) (ts zs ys xs : List ℕ)
    → ((t z y x : ℕ) → Contains ts t → Contains zs z → Contains ys y → Contains xs x → f t z y x ≡ g t z y x) → boxed f ts zs ys xs ≡ boxed g ts zs ys xs
boxed_agree f g ts zs ys xs same =
    flat_map_agree_in (λ t. planes_of (f t) zs ys xs) (λ t. planes_of (g t) zs ys xs) ts (λ t mt.
    flat_map_agree_in (λ z. rows_of (f t z) ys xs) (λ z. rows_of (g t z) ys xs) zs (λ z mz.
    flat_map_agree_in (λ y. map (f t z y) xs) (λ y. map (g t z y) xs) ys (λ y my.
    map_agree_in (f t z y) (g t z y) xs (λ x mx. same t z y x mt mz my mx))))

map_rows : {X Y : Type 0} (h : X → Y) (f : ℕ → ℕ → X) (ys xs : List ℕ) → map h (rows_of f ys xs) ≡ rows_of (λ y x. h (f y x)) ys xs
map_rows h f ys xs =
    map-flat_map h (λ y. map (f y) xs) ys ∙ flat_map_agree (λ y. map h (map (f y) xs)) (λ y. map (λ x. h (f y x)) xs) (λ y. map-map h (f y) xs) ys

map_planes : {X Y : Type 0} (h : X → Y) (f : ℕ → ℕ → ℕ → X) (zs ys xs : List ℕ) → map h (planes_of f zs ys xs) ≡ planes_of (λ z y x. h (f z y x)) zs ys xs
map_planes h f zs ys xs =
    map-flat_map h (λ z. rows_of (f z) ys xs) zs
    ∙ flat_map_agree (λ z. map h (rows_of (f z) ys xs)) (λ z. rows_of (λ y x. h (f z y x)) ys xs) (λ z. map_rows h (f z) ys xs) zs

pub map_boxed : {X Y : Type 0} (h : X → Y) (f : ℕ → ℕ → ℕ → ℕ → X) (ts zs ys xs : List ℕ)
    → map h (boxed f ts zs ys xs) ≡ boxed (λ t z y x. h (f t z y x)) ts zs ys xs
map_boxed h f ts zs ys xs =
    map-flat_map h (λ t. planes_of (f t) zs ys xs) ts
    ∙ flat_map_agree (λ t. map h (planes_of (f t) zs ys xs)) (λ t. planes_of (λ z y x. h (f t z y x)) zs ys xs) (λ t. map_planes h (f t) zs ys xs) ts

pub length_boxed : {X : Type 0} (f : ℕ → ℕ → ℕ → ℕ → X) (ts zs ys xs : List ℕ)
    → length (boxed f ts zs ys xs) ≡ length ts * (length zs * (length ys * length xs))
length_boxed f ts zs ys xs =
    length_of_same (λ t. planes_of (f t) zs ys xs) (length zs * (length ys * length xs)) (λ t.
    length_of_same (λ z. rows_of (f t z) ys xs) (length ys * length xs) (λ z.
    length_of_same (λ y. map (f t z y) xs) (length xs) (λ y. length-map xs (f t z y)) ys) zs) ts

-- ---- an item that passes

passing_flat : {X Y : Type 0} (u : Y → Bool) (f : X → List Y) (xs : List X) → list_any u (flat_map f xs) ≡ true → Passing (λ x. list_any u (f x)) xs
passing_flat u f xs h = passing (λ x. list_any u (f x)) xs (sym (any-flat_map u f xs) ∙ h)

passing_map : {X Y : Type 0} (u : Y → Bool) (f : X → Y) (xs : List X) → list_any u (map f xs) ≡ true → Passing (λ x. u (f x)) xs
passing_map u f xs h = passing (λ x. u (f x)) xs (sym (any-map u f xs) ∙ h)

pub record PassesIn {X : Type 0} (u : X → Bool) (f : ℕ → ℕ → ℕ → ℕ → X) (ts zs ys xs : List ℕ) : Type 0 where
  pub t : ℕ
  pub z : ℕ
  pub y : ℕ
  pub x : ℕ
  pub t_in : Contains ts t
  pub z_in : Contains zs z
  pub y_in : Contains ys y
  pub x_in : Contains xs x
  pub passes : u (f t z y x) ≡ true

pub passing_in : {X : Type 0} (u : X → Bool) (f : ℕ → ℕ → ℕ → ℕ → X) (ts zs ys xs : List ℕ) → list_any u (boxed f ts zs ys xs) ≡ true
    → PassesIn u f ts zs ys xs
passing_in u f ts zs ys xs h =
    let t = passing_flat u (λ t. planes_of (f t) zs ys xs) ts h in
    let z = passing_flat u (λ z. rows_of (f t.item z) ys xs) zs t.passes in
    let y = passing_flat u (λ y. map (f t.item z.item y) xs) ys z.passes in
    let x = passing_map u (f t.item z.item y.item) xs y.passes in
    record {
      t = t.item;
      z = z.item;
      y = y.item;
      x = x.item;
      t_in = t.among;
      z_in = z.among;
      y_in = y.among;
      x_in = x.among;
      passes = x.passes;
    }

pub in_passing : {X : Type 0} (u : X → Bool) (f : ℕ → ℕ → ℕ → ℕ → X) (ts zs ys xs : List ℕ) (t z y x : ℕ) → Contains ts t → Contains zs z → Contains ys y
    → Contains xs x → u (f t z y x) ≡ true → list_any u (boxed f ts zs ys xs) ≡ true
in_passing u f ts zs ys xs t z y x mt mz my mx h =
    any-flat_map u (λ t. planes_of (f t) zs ys xs) ts
    ∙ any_member (λ t. list_any u (planes_of (f t) zs ys xs)) ts t mt
    (any-flat_map u (λ z. rows_of (f t z) ys xs) zs
    ∙ any_member (λ z. list_any u (rows_of (f t z) ys xs)) zs z mz
    (any-flat_map u (λ y. map (f t z y) xs) ys
    ∙ any_member (λ y. list_any u (map (f t z y) xs)) ys y my
    (any-map u (f t z y) xs ∙ any_member (λ x. u (f t z y x)) xs x mx h)))
