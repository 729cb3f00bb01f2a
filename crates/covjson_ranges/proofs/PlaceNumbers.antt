-- Numbers of places in row-major order, below the product of the lengths of the axes.
use Rattle.std.proofs.Common.{◌≡◌, ℕ, zero, suc, ◌+◌, ◌*◌, ◌/◌, ◌%◌, ◌<◌, Bool, true, false, List, [], ◌∷◌, refl, ap, ◌∙◌, subst, arith}
use Rattle.std.proofs.lemmas.Nat.{div_below, div-add-mod'}
use Rattle.covjson_value.specs.declared.axis_names.AxisName.{AxisName}
use Rattle.covjson_value.specs.declared.axis_names.AxisName.TheVariants.{T, Z, Y, X, Composite}
use Rattle.edr_chunk.specs.RowMajor.{row_major, places_along}
use Rattle.edr_chunk.specs.RowMajorLaws.{along, row_major-below, row_major-once}
use Rattle.covjson_ranges.specs.Ranges.{is_named, AreDistinct}

-- what holds of each axis holds of all
pub each_axis : (P : AxisName → Type 0) → P T → P Z → P Y → P X → P Composite → (name : AxisName) → P name
each_axis P t z y x tuple T = t
each_axis P t z y x tuple Z = z
each_axis P t z y x tuple Y = y
each_axis P t z y x tuple X = x
each_axis P t z y x tuple Composite = tuple

-- the product of the lengths of all axes
abbrev pub whole : (AxisName → ℕ) → ℕ
whole lengths = lengths T * (lengths Z * (lengths Y * (lengths X * lengths Composite)))

-- ---- within the product

-- the length of an axis that is among some, else 1
abbrev share : Bool → ℕ → ℕ
share true n = n
share false n = 1

-- the product of the shares of all axes
abbrev shares : (AxisName → Bool) → (AxisName → ℕ) → ℕ
shares among lengths =
    share (among T) (lengths T)
    * (share (among Z) (lengths Z) * (share (among Y) (lengths Y) * (share (among X) (lengths X) * share (among Composite) (lengths Composite))))

-- the share of the first axis is its length, where that of another is 1
first : (l p s r : ℕ) → s ≡ 1 → p ≡ s * r → l * p ≡ l * r
first l p s r one is = rw (is, one) (omega arith)

-- and that of the second
second : (l p a s r : ℕ) → s ≡ 1 → p ≡ a * (s * r) → l * p ≡ a * (l * r)
second l p a s r one is = rw (is, one) (omega arith)

-- of the third
third : (l p a b s r : ℕ) → s ≡ 1 → p ≡ a * (b * (s * r)) → l * p ≡ a * (b * (l * r))
third l p a b s r one is = rw (is, one) (omega arith)

-- of the fourth
fourth : (l p a b c s r : ℕ) → s ≡ 1 → p ≡ a * (b * (c * (s * r))) → l * p ≡ a * (b * (c * (l * r)))
fourth l p a b c s r one is = rw (is, one) (omega arith)

-- of the fifth
fifth : (l p a b c d s : ℕ) → s ≡ 1 → p ≡ a * (b * (c * (d * s))) → l * p ≡ a * (b * (c * (d * l)))
fifth l p a b c d s one is = rw (is, one) (omega arith)

-- each of distinct axes has its share once
product_shares : (lengths : AxisName → ℕ) (names : List AxisName) → AreDistinct names → places_along lengths names ≡ shares (λ name. is_named name names) lengths
product_shares lengths [] h = refl
product_shares lengths (T ∷ names) h =
    first (lengths T) (places_along lengths names) (share (is_named T names) (lengths T)) _ (ap (λ b. share b (lengths T)) h.0) (product_shares lengths names h.1)
product_shares lengths (Z ∷ names) h =
    second (lengths Z) (places_along lengths names) (share (is_named T names) (lengths T)) (share (is_named Z names) (lengths Z)) _ (ap (λ b. share b (lengths Z)) h.0) (product_shares lengths names h.1)
product_shares lengths (Y ∷ names) h =
    third (lengths Y) (places_along lengths names) (share (is_named T names) (lengths T)) (share (is_named Z names) (lengths Z)) (share (is_named Y names) (lengths Y)) _
    (ap (λ b. share b (lengths Y)) h.0) (product_shares lengths names h.1)
product_shares lengths (X ∷ names) h =
    fourth (lengths X) (places_along lengths names) (share (is_named T names) (lengths T)) (share (is_named Z names) (lengths Z)) (share (is_named Y names) (lengths Y)) (share (is_named X names) (lengths X)) _
    (ap (λ b. share b (lengths X)) h.0) (product_shares lengths names h.1)
product_shares lengths (Composite ∷ names) h =
    fifth (lengths Composite) (places_along lengths names) (share (is_named T names) (lengths T)) (share (is_named Z names) (lengths Z)) (share (is_named Y names) (lengths Y)) (share (is_named X names) (lengths X))
    (share (is_named Composite names) (lengths Composite)) (ap (λ b. share b (lengths Composite)) h.0) (product_shares lengths names h.1)

-- the share of an axis that is among some where it has several values
share_long : (b : Bool) (n : ℕ) → 0 < n → (1 < n → b ≡ true) → share b n ≡ n
share_long true n some long = refl
share_long false zero some long = absurd (omega arith)
share_long false (suc zero) some long = refl
share_long false (suc (suc n)) some long = cc (long (omega arith))

-- with each long axis among them their product is that of all
pub product_whole : (lengths : AxisName → ℕ) (names : List AxisName) → ((name : AxisName) → 0 < lengths name) → AreDistinct names
    → ((name : AxisName) → 1 < lengths name → is_named name names ≡ true) → places_along lengths names ≡ whole lengths
product_whole lengths names some distinct long =
    let same : (name : AxisName) → share (is_named name names) (lengths name) ≡ lengths name = λ name. share_long (is_named name names) (lengths name) (some name) (long name) in
    product_shares lengths names distinct ∙ rw (same T, same Z, same Y, same X, same Composite) refl

-- ---- one number, one place

-- equal places have one number
pub row_major_same : (lengths places others : AxisName → ℕ) → ((name : AxisName) → places name ≡ others name) → (names : List AxisName) (number : ℕ)
    → row_major lengths places names number ≡ row_major lengths others names number
row_major_same lengths places others same [] number = refl
row_major_same lengths places others same (name ∷ names) number =
    row_major_same lengths places others same names (number * lengths name + places name)
    ∙ ap (λ p. row_major lengths others names (number * lengths name + p)) (same name)

-- the number of places by all axes
abbrev pub usual : (AxisName → ℕ) → (AxisName → ℕ) → ℕ
usual lengths places = row_major lengths places (T ∷ Z ∷ Y ∷ X ∷ Composite ∷ []) 0

-- places of one number are one
pub usual_once : (lengths places others : AxisName → ℕ) → ((name : AxisName) → places name < lengths name) → ((name : AxisName) → others name < lengths name)
    → usual lengths places ≡ usual lengths others → (name : AxisName) → places name ≡ others name
usual_once lengths places others in_places in_others same =
    let all = T ∷ Z ∷ Y ∷ X ∷ Composite ∷ [] in
    let one = row_major-once lengths places others all 0 0 (along (λ name. places name < lengths name) in_places all) (along (λ name. others name < lengths name) in_others all) same in
    each_axis (λ name. places name ≡ others name) one.1.0 one.1.1.0 one.1.1.1.0 one.1.1.1.1.0 one.1.1.1.1.1.0

-- factors of 1
ones : (t z y x n : ℕ) → 1 * (t * (z * (y * (x * (n * 1))))) ≡ t * (z * (y * (x * n)))
ones t z y x n = omega arith

-- it is below the product of all lengths
pub usual_below : (lengths places : AxisName → ℕ) → ((name : AxisName) → places name < lengths name) → usual lengths places < whole lengths
usual_below lengths places below =
    let all = T ∷ Z ∷ Y ∷ X ∷ Composite ∷ [] in
    let h = row_major-below lengths places all 0 1 (omega arith) (along (λ name. places name < lengths name) below all) in
    subst (λ (n : ℕ). usual lengths places < n) (ones (lengths T) (lengths Z) (lengths Y) (lengths X) (lengths Composite)) h

-- ---- by quotients and remainders

-- four factors in turn
regroup_four : (t z y x : ℕ) → t * (z * (y * x)) ≡ t * z * y * x
regroup_four t z y x = omega arith

-- five factors in turn
regroup_five : (t z y x n : ℕ) → t * (z * (y * (x * n))) ≡ t * (z * (y * x)) * n
regroup_five t z y x n = omega arith

-- the quotient by three lengths is below the fourth
four_below : (t z y x k : ℕ) → 0 < z → 0 < y → 0 < x → k < t * (z * (y * x)) → k / x / y / z < t
four_below t z y x k some_z some_y some_x h =
    div_below (k / x / y) z t some_z
    (div_below (k / x) y (t * z) some_y
    (div_below k x (t * z * y) some_x (subst (λ (n : ℕ). k < n) (regroup_four t z y x) h)))

-- the quotient by four lengths is below the fifth
pub first_below : (t z y x n k : ℕ) → 0 < z → 0 < y → 0 < x → 0 < n → k < t * (z * (y * (x * n))) → k / n / x / y / z < t
first_below t z y x n k some_z some_y some_x some_n h =
    four_below t z y x (k / n) some_z some_y some_x
    (div_below k n (t * (z * (y * x))) some_n (subst (λ (m : ℕ). k < m) (regroup_five t z y x n) h))

-- quotients and remainders give the number back
pub back : (t z y x n k : ℕ)
    → ((((0 * t + k / n / x / y / z) * z + k / n / x / y % z) * y + k / n / x % y) * x + k / n % x) * n + k % n ≡ k
back t z y x n k =
    let levels : (0 * t + k / n / x / y / z) * z + k / n / x / y % z ≡ k / n / x / y = omega (arith, div-add-mod' (k / n / x / y) z) in
    rw (levels, div-add-mod' (k / n / x) y, div-add-mod' (k / n) x, div-add-mod' k n) refl

-- none of the lengths is 0 where a number is below their product
pub some_factors : (t z y x n k : ℕ) → k < t * (z * (y * (x * n))) → (0 < t) × (0 < z) × (0 < y) × (0 < x) × (0 < n)
some_factors zero z y x n k h = absurd (omega arith)
some_factors (suc t) zero y x n k h = absurd (omega arith)
some_factors (suc t) (suc z) zero x n k h = absurd (omega arith)
some_factors (suc t) (suc z) (suc y) zero n k h = absurd (omega arith)
some_factors (suc t) (suc z) (suc y) (suc x) zero k h = absurd (omega arith)
some_factors (suc t) (suc z) (suc y) (suc x) (suc n) k h = (omega arith, omega arith, omega arith, omega arith, omega arith)

-- an axis of one value leaves the number
pub passed_over : (n l p : ℕ) → l ≡ 1 → p ≡ 0 → n * l + p ≡ n
passed_over n l p one none = rw (one, none) (omega arith)
