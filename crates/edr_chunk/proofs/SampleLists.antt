-- Lists of samples.
use Rattle.std.proofs.Common.{◌≡◌, ℕ, ℤ, pos, ◌+◌, ◌<◌, ◌≤ℤ◌, ◌+ℤ◌, ◌-ℤ◌, List, Option, Some, None, All, length, get_or, take, replicate, map, FitsSigned, to_z, of_z, w64, refl, sym, ap, subst, ◌∙◌, arith, rules}
use Rattle.std.specs.Prelude.{Bool, true, false, cond, int_lt, negsuc, unwrap_or}
use Rattle.std.specs.Int.{int_min, int_max}
use Rattle.std.proofs.lemmas.Int.{ints, clamps, to_z-of_z}
use Rattle.std.proofs.lemmas.List.{same_lists, get_or-replicate, length-replicate, length-map}
use Rattle.std.proofs.lemmas.List.Elements.{All-more}
use Rattle.edr_base.specs.Limits.{IsSample, HasSample}
use Rattle.edr_chunk.specs.Codes.{IsFloor, IsBetween, AreBetween, HasCode, whole_sample}

-- a list of one item again and again
pub replicated : {X : Type 0} (xs : List X) (x : X) → All (λ y. y ≡ x) xs → xs ≡ replicate (length xs) x
replicated xs x each = same_lists xs (replicate (length xs) x) (sym (length-replicate (length xs) x)) (λ k d h. each k d h ∙ sym (get_or-replicate (length xs) k x d h))

-- what lies between two bounds lies between wider ones
pub wider : (l g l' g' : ℤ) (value : Option ℤ) → l' ≤ℤ l → g ≤ℤ g' → IsBetween l g value → IsBetween l' g' value
wider l g l' g' value low high between = search rules

-- one value more
pub between_more : (l g l' g' : ℤ) (xs : List (Option ℤ)) (i : ℕ) (d : Option ℤ) → i < length xs → l' ≤ℤ l → g ≤ℤ g'
    → AreBetween l g (take i xs) → IsBetween l' g' (get_or xs i d) → AreBetween l' g' (take (i + 1) xs)
between_more l g l' g' xs i d inside low high before here =
    All-more (IsBetween l' g') xs i d inside (λ k e h. wider l g l' g' (get_or (take i xs) k e) low high (before k e h)) here

-- ---- samples that are kept as codes
-- a floor that is passed is one
pub floor_back : (floor : ℤ) → IsFloor floor → IsFloor (to_z w64 (of_z w64 floor))
floor_back floor is = subst IsFloor (sym (to_z-of_z w64 floor (omega (arith, ints)))) is

-- there are as many samples as codes
pub codes_long : {X Y : Type 0} (f : X → Y) (codes kept : List X) (whole : List Y) → codes ≡ kept → map f kept ≡ whole → length whole ≡ length codes
codes_long f codes kept whole same is = ap length (sym is) ∙ length-map kept f ∙ ap length (sym same)

has_code : (most : ℕ) (floor greatest : ℤ) (value : Option ℤ) → greatest ≤ℤ (floor +ℤ pos most) → IsBetween (floor +ℤ pos 1) greatest value → HasCode most floor value
has_code most floor greatest None high between = between
has_code most floor greatest (Some v) high between = (omega (arith, ints, between.0), omega (arith, ints, between.1))

-- samples above a floor have codes up to a greatest one
pub have_codes : (most : ℕ) (floor greatest : ℤ) (values : List (Option ℤ)) → FitsSigned w64 floor → AreBetween (floor +ℤ pos 1) greatest values
    → greatest ≤ℤ (floor +ℤ pos most) → All (HasCode most (to_z w64 (of_z w64 floor))) values
have_codes most floor greatest values fits between high =
    let P : ℤ → Type 0 = λ f. All (HasCode most f) values in
    subst P (sym (to_z-of_z w64 floor fits)) (λ k d h. has_code most floor greatest (get_or values k d) high (between k d h))

-- how far a sample is above a floor, which is computed in 64 bits
pub apart : (value floor : ℤ) → IsSample value → IsFloor floor → to_z w64 (of_z w64 (to_z w64 (of_z w64 value) -ℤ to_z w64 (of_z w64 floor))) ≡ value -ℤ floor
apart value floor sample is =
    rw (to_z-of_z w64 value (omega (arith, ints)), to_z-of_z w64 floor (omega (arith, ints))) (to_z-of_z w64 (value -ℤ floor) (omega (arith, ints)))

-- samples from a least one on are above the floor that is one below it
pub floor_under : (least greatest : ℤ) (values : List (Option ℤ)) → IsSample least → IsSample greatest → AreBetween least greatest values
    → AreBetween (to_z w64 (of_z w64 (to_z w64 (of_z w64 least) -ℤ pos 1)) +ℤ pos 1) (to_z w64 (of_z w64 greatest)) values
floor_under least greatest values low high between =
    let back : (least -ℤ pos 1) +ℤ pos 1 ≡ least = omega (arith, ints) in
    rw (to_z-of_z w64 least (omega (arith, ints)), to_z-of_z w64 (least -ℤ pos 1) (omega (arith, ints)), to_z-of_z w64 greatest (omega (arith, ints)), back) between

-- the lower and the higher of two samples are samples
samples_min : (x y : ℤ) → IsSample x → IsSample y → IsSample (int_min x y)
samples_min x y a b = elim (int_lt y x) as (λ (t : Bool). IsSample (cond t y x)) [ true ↦ b | false ↦ a ]

samples_max : (x y : ℤ) → IsSample x → IsSample y → IsSample (int_max x y)
samples_max x y a b = elim (int_lt y x) as (λ (t : Bool). IsSample (cond t x y)) [ true ↦ a | false ↦ b ]

sample_back : (r : ℤ) → IsSample r → IsSample (to_z w64 (of_z w64 r))
sample_back r is = subst IsSample (sym (to_z-of_z w64 r (omega (arith, ints)))) is

pub lower_sample : (x y r : ℤ) → IsSample x → IsSample y → r ≡ int_min (to_z w64 (of_z w64 x)) (to_z w64 (of_z w64 y)) → IsSample (to_z w64 (of_z w64 r))
lower_sample x y r a b is = sample_back r (subst IsSample (sym is) (samples_min (to_z w64 (of_z w64 x)) (to_z w64 (of_z w64 y)) (sample_back x a) (sample_back y b)))

pub higher_sample : (x y r : ℤ) → IsSample x → IsSample y → r ≡ int_max (to_z w64 (of_z w64 x)) (to_z w64 (of_z w64 y)) → IsSample (to_z w64 (of_z w64 r))
higher_sample x y r a b is = sample_back r (subst IsSample (sym is) (samples_max (to_z w64 (of_z w64 x)) (to_z w64 (of_z w64 y)) (sample_back x a) (sample_back y b)))

-- a missing sample kept as the least number of 64 bits, and any other as itself
pub whole_back : (floor : ℤ) (value : Option ℤ) (r : ℤ) → HasSample value → r ≡ unwrap_or value (negsuc 9_223_372_036_854_775_807) → whole_sample floor (to_z w64 (of_z w64 r)) ≡ value
whole_back floor None r has is = rw is refl
whole_back floor (Some v) r has is = search rules

-- the lower of two samples is at most each of them, and the higher at least
pub lower_bounds : (x y : ℤ) → IsSample x → IsSample y
    → (to_z w64 (of_z w64 (int_min (to_z w64 (of_z w64 x)) (to_z w64 (of_z w64 y)))) ≤ℤ x) × (to_z w64 (of_z w64 (int_min (to_z w64 (of_z w64 x)) (to_z w64 (of_z w64 y)))) ≤ℤ y)
lower_bounds x y a b =
    rw (to_z-of_z w64 x (omega (arith, ints)), to_z-of_z w64 y (omega (arith, ints)), to_z-of_z w64 (int_min x y) (omega (arith, ints, clamps)))
    (omega (arith, ints, clamps), omega (arith, ints, clamps))

pub higher_bound : (x y : ℤ) → IsSample x → IsSample y → y ≤ℤ to_z w64 (of_z w64 (int_max (to_z w64 (of_z w64 x)) (to_z w64 (of_z w64 y))))
higher_bound x y a b =
    rw (to_z-of_z w64 x (omega (arith, ints)), to_z-of_z w64 y (omega (arith, ints)), to_z-of_z w64 (int_max x y) (omega (arith, ints, clamps))) (omega (arith, ints, clamps))
