-- A decimal number whose point moves.
use Rattle.std.proofs.Common.{◌≡◌, ◌⊎◌, inl, inr, ⊎_elim, ℕ, zero, suc, ◌+◌, ◌*◌, ◌-◌, ◌^◌, ◌==◌, ◌<◌, ◌≤◌, min, List, [], ◌∷◌, ◌++◌, length, refl, ap, sym, ◌∙◌, subst, arith, ℤ, pos, codes, drop, get_or, true}
use Rattle.std.specs.Prelude.{MatchOption, Some, None}
use Rattle.std.specs.declared.option.Option.{Option}
use Rattle.std.specs.Char.{digit_value, is_ascii_digit}
use Rattle.std.specs.Str.Parse.{AllDigits, digits_value_after, digits_value}
use Rattle.std.specs.List.{Contains}
use Rattle.std.proofs.lemmas.Bool.{cases_lt}
use Rattle.std.proofs.lemmas.Bool.Decides.{leb_tells, nat_tests}
use Rattle.std.proofs.lemmas.List.Elements.{All-head, All-tail, All-nil, All-cons}
use Rattle.std.proofs.lemmas.Nat.{pow-add}
use Rattle.std.proofs.lemmas.Str.{digit_value_digit}
use Rattle.std.proofs.lemmas.Str.Parse.{digit_from_value}
use Rattle.std.proofs.lemmas.Int.Digits.{digits_value-lt}
use Rattle.std.proofs.lemmas.List.{length-append}
use Rattle.std.proofs.Math.Nat.{mul-le-mul_left}
use Rattle.std.specs.Int.{IsInRange}
use Rattle.edr_base.specs.Limits.{distance_limit}
use Rattle.edr_base.specs.CutLaws.{Contains-between, cut_unique}
use Rattle.edr_axes.specs.Distances.{IsUnit, IsDecimal, IsDistance, HasNoDistance}
use Rattle.edr_axes.specs.Metres.{HasNoUnit, AreDigits, AreZeros, IsSize, HasNoSize}

-- ---- numbers

cancel_le : (m a b : ℕ) → 0 < m → m * a ≤ m * b → a ≤ b
cancel_le m a b some h =
    ⊎_elim (λ t. t.1) (λ t. (let l : b + 1 ≤ a = omega (arith, t.1) in absurd (let g = mul-le-mul_left m l in omega (arith, g, h, some)))) (leb_tells a b)

cancel : (m a b : ℕ) → 0 < m → m * a ≡ m * b → a ≡ b
cancel m a b some e =
    let one = cancel_le m a b some (omega (arith, e)) in
    let other = cancel_le m b a some (omega (arith, e)) in
    omega (arith, one, other)

-- what any size is, with the places that move taken off on both sides
key_at : (s a p r q m : ℕ) → 0 < m → s * (m * p) ≡ (a * p + r) * (q * m) → s * p ≡ (a * p + r) * q
key_at s a p r q m some e = cancel m (s * p) ((a * p + r) * q) some (omega (arith, e))

at_least : (s a p r q : ℕ) → 0 < p → s * p ≡ (a * p + r) * q → a * q ≤ s
at_least s a p r q some e = cancel_le p (a * q) s some (omega (arith, e))

grows : (a q : ℕ) → 0 < q → a ≤ a * q
grows a q some = let l : 1 ≤ q = omega (arith, some) in let g = mul-le-mul_left a l in omega (arith, g)

-- a rest that isn't 0 leaves no whole number
no_rest : (s a p r : ℕ) → 0 < r → r < p → s * p ≡ (a * p + r) * 1 → ⊥
no_rest s a p r some small e =
    ⊎_elim (λ t. (let g = mul-le-mul_left p t.1 in omega (arith, g, e, some))) (λ t. (let l : a + 1 ≤ s = omega (arith, t.1) in let g = mul-le-mul_left p l in omega (arith, g, e, small))) (leb_tells s a)

pow-ten : (k : ℕ) → 10 ^ (suc k) ≡ 10 * 10 ^ k
pow-ten k = let e : suc k ≡ 1 + k = omega arith in ap (λ n. 10 ^ n) e ∙ pow-add 10 1 k

pub pow-some : (k : ℕ) → 0 < 10 ^ k
pow-some zero = omega arith
pow-some (suc k) = let p = pow-ten k in let h = pow-some k in omega (arith, p, h)

-- ---- digits

digit_in : (c : ℕ) → is_ascii_digit c ≡ true → IsInRange 48 57 c
digit_in c h = grind (arith, nat_tests)

digit_small : (c : ℕ) → is_ascii_digit c ≡ true → digit_value c < 10
digit_small c h = let i = digit_in c h in omega (arith, digit_value_digit c i, i)

digit_back : (c : ℕ) → digit_value c < 10 → is_ascii_digit c ≡ true
digit_back c h = let i = digit_from_value c h in grind (arith, nat_tests)

pub all_digits : (ds : List ℕ) → AreDigits ds → AllDigits 10 ds
all_digits [] all = tt
all_digits (c ∷ cs) all = (digit_small c (All-head (λ x. is_ascii_digit x ≡ true) c cs all), all_digits cs (All-tail (λ x. is_ascii_digit x ≡ true) c cs all))

pub are_digits : (ds : List ℕ) → AllDigits 10 ds → AreDigits ds
are_digits [] all = All-nil (λ x. is_ascii_digit x ≡ true)
are_digits (c ∷ cs) all = All-cons (λ x. is_ascii_digit x ≡ true) c cs (digit_back c all.0) (are_digits cs all.1)

pub digits_join : (a b : List ℕ) → AllDigits 10 a → AllDigits 10 b → AllDigits 10 (a ++ b)
digits_join [] b x y = y
digits_join (c ∷ a) b x y = (x.0, digits_join a b x.1 y)

pub digits_front : (a b : List ℕ) → AllDigits 10 (a ++ b) → AllDigits 10 a
digits_front [] b all = tt
digits_front (c ∷ a) b all = (all.0, digits_front a b all.1)

pub digits_back : (a b : List ℕ) → AllDigits 10 (a ++ b) → AllDigits 10 b
digits_back [] b all = all
digits_back (c ∷ a) b all = digits_back a b all.1

pub after-append : (n : ℕ) (a b : List ℕ) → digits_value_after 10 n (a ++ b) ≡ digits_value_after 10 (digits_value_after 10 n a) b
after-append n [] b = refl
after-append n (c ∷ a) b = after-append (n * 10 + digit_value c) a b

moved_by : (n d p q x y z : ℕ) → q ≡ 10 * p → x ≡ (n * 10 + d) * p + z → y ≡ (0 * 10 + d) * p + z → x ≡ n * q + y
moved_by n d p q x y z e one other = let f : n * q ≡ n * (10 * p) = ap (λ t. n * t) e in omega (arith, f, one, other)

-- digits behind a number: the number moves by so many places
pub after-moves : (n : ℕ) (ds : List ℕ) → digits_value_after 10 n ds ≡ n * 10 ^ length ds + digits_value_after 10 0 ds
after-moves n [] = omega arith
after-moves n (c ∷ cs) =
    moved_by n (digit_value c) (10 ^ length cs) (10 ^ suc (length cs)) _ _ (digits_value_after 10 0 cs) (pow-ten (length cs)) (after-moves (n * 10 + digit_value c) cs) (after-moves (0 * 10 + digit_value c) cs)

pub after-grows : (n : ℕ) (ds : List ℕ) → n ≤ digits_value_after 10 n ds
after-grows n ds = let g = grows n (10 ^ length ds) (pow-some (length ds)) in omega (arith, g, after-moves n ds)

zero_is : (c : ℕ) → (c == 48) ≡ true → c ≡ 48
zero_is c h = grind (arith, nat_tests)

pub zeros_value : (ds : List ℕ) → AreZeros ds → digits_value_after 10 0 ds ≡ 0
zeros_value [] z = refl
zeros_value (c ∷ cs) z =
    let e = zero_is c (All-head (λ x. (x == 48) ≡ true) c cs z) in
    ap (λ d. digits_value_after 10 (0 * 10 + digit_value d) cs) e ∙ zeros_value cs (All-tail (λ x. (x == 48) ≡ true) c cs z)

first_zero : (c : ℕ) → digit_value c < 10 → digit_value c ≡ 0 → (c == 48) ≡ true
first_zero c small e = let i = digit_from_value c small in let v = digit_value_digit c i in let is : c ≡ 48 = omega (arith, v, e) in grind (arith, nat_tests)

product_zero : (d p x z : ℕ) → 0 < p → x ≡ (0 * 10 + d) * p + z → x ≡ 0 → (d ≡ 0) × (z ≡ 0)
product_zero zero p x z some e zero_ = (refl, omega (arith, e, zero_))
product_zero (suc d) p x z some e zero_ = let l : 1 ≤ suc d = omega arith in let g = mul-le-mul_left p l in absurd (omega (arith, g, e, zero_, some))

pub value_zeros : (ds : List ℕ) → AllDigits 10 ds → digits_value_after 10 0 ds ≡ 0 → AreZeros ds
value_zeros [] all e = All-nil (λ x. (x == 48) ≡ true)
value_zeros (c ∷ cs) all e =
    let h = product_zero (digit_value c) (10 ^ length cs) _ (digits_value_after 10 0 cs) (pow-some (length cs)) (after-moves (0 * 10 + digit_value c) cs) e in
    All-cons (λ x. (x == 48) ≡ true) c cs (first_zero c all.0 h.0) (value_zeros cs all.1 h.1)

-- ---- sizes

abbrev pub moved_value : List ℕ → List ℕ → ℕ
moved_value whole moved = digits_value_after 10 (digits_value_after 10 0 whole) moved

-- the value of all digits, by the rest that doesn't move
all_value : (w m r : List ℕ) → digits_value 10 (w ++ (m ++ r)) ≡ moved_value w m * 10 ^ length r + digits_value_after 10 0 r
all_value w m r = after-append 0 w (m ++ r) ∙ after-append (digits_value_after 10 0 w) m r ∙ after-moves (moved_value w m) r

pow_front : (m r : List ℕ) → 10 ^ length (m ++ r) ≡ 10 ^ length m * 10 ^ length r
pow_front m r = ap (λ n. 10 ^ n) (length-append m r) ∙ pow-add 10 (length m) (length r)

pow_places : (m : List ℕ) (k : ℕ) → length m ≤ k → 10 ^ k ≡ 10 ^ (k - length m) * 10 ^ length m
pow_places m k few = let e : k ≡ k - length m + length m = omega (arith, few) in ap (λ n. 10 ^ n) e ∙ pow-add 10 (k - length m) (length m)

key : (w m r : List ℕ) (k s : ℕ) → length m ≤ k → s * 10 ^ length (m ++ r) ≡ digits_value 10 (w ++ (m ++ r)) * 10 ^ k
    → s * 10 ^ length r ≡ (moved_value w m * 10 ^ length r + digits_value_after 10 0 r) * 10 ^ (k - length m)
key w m r k s few e =
    let left : s * (10 ^ length m * 10 ^ length r) ≡ s * 10 ^ length (m ++ r) = ap (λ n. s * n) (sym (pow_front m r)) in
    let one : digits_value 10 (w ++ (m ++ r)) * 10 ^ k ≡ (moved_value w m * 10 ^ length r + digits_value_after 10 0 r) * 10 ^ k = ap (λ n. n * 10 ^ k) (all_value w m r) in
    let other : (moved_value w m * 10 ^ length r + digits_value_after 10 0 r) * 10 ^ k ≡ (moved_value w m * 10 ^ length r + digits_value_after 10 0 r) * (10 ^ (k - length m) * 10 ^ length m) = ap (λ n. (moved_value w m * 10 ^ length r + digits_value_after 10 0 r) * n) (pow_places m k few) in
    key_at s (moved_value w m) (10 ^ length r) (digits_value_after 10 0 r) (10 ^ (k - length m)) (10 ^ length m) (pow-some (length m)) (left ∙ e ∙ one ∙ other)

back_at : (a p r q m : ℕ) → r ≡ 0 → (a * q) * (m * p) ≡ (a * p + r) * (q * m)
back_at a p r q m e = let f : r * (q * m) ≡ 0 * (q * m) = ap (λ t. t * (q * m)) e in omega (arith, f)

-- the number that is found is a size
pub a_size : (w m r f : List ℕ) (k s : ℕ) → f ≡ m ++ r → length m ≤ k → AreZeros r → s ≡ moved_value w m * 10 ^ (k - length m) → s ≤ distance_limit → IsSize w f k s
a_size w m r f k s fraction few zeros is small =
    let D = moved_value w m in
    let left : s * 10 ^ length (m ++ r) ≡ (D * 10 ^ (k - length m)) * (10 ^ length m * 10 ^ length r) = ap (λ n. n * 10 ^ length (m ++ r)) is ∙ ap (λ n. (D * 10 ^ (k - length m)) * n) (pow_front m r) in
    let mid = back_at D (10 ^ length r) (digits_value_after 10 0 r) (10 ^ (k - length m)) (10 ^ length m) (zeros_value r zeros) in
    let right : (D * 10 ^ length r + digits_value_after 10 0 r) * (10 ^ (k - length m) * 10 ^ length m) ≡ digits_value 10 (w ++ (m ++ r)) * 10 ^ k =
    ap (λ n. (D * 10 ^ length r + digits_value_after 10 0 r) * n) (sym (pow_places m k few)) ∙ ap (λ n. n * 10 ^ k) (sym (all_value w m r)) in
    let P : List ℕ → Type 0 = λ l. s * 10 ^ length l ≡ digits_value 10 (w ++ l) * 10 ^ k in
    record { size_is = subst P (sym fraction) (left ∙ mid ∙ right); within = small }

size_key : (w m r f : List ℕ) (k s : ℕ) → f ≡ m ++ r → length m ≤ k → IsSize w f k s → s * 10 ^ length r ≡ (moved_value w m * 10 ^ length r + digits_value_after 10 0 r) * 10 ^ (k - length m)
size_key w m r f k s fraction few is =
    let P : List ℕ → Type 0 = λ l. s * 10 ^ length l ≡ digits_value 10 (w ++ l) * 10 ^ k in
    key w m r k s few (subst P fraction is.size_is)

-- every size is as great as the number that is found
pub size_least : (w m r f : List ℕ) (k s : ℕ) → f ≡ m ++ r → length m ≤ k → IsSize w f k s → moved_value w m * 10 ^ (k - length m) ≤ s
size_least w m r f k s fraction few is =
    at_least s (moved_value w m) (10 ^ length r) (digits_value_after 10 0 r) (10 ^ (k - length m)) (pow-some (length r)) (size_key w m r f k s fraction few is)

pub too_large : (w m r f : List ℕ) (k : ℕ) → f ≡ m ++ r → length m ≤ k → distance_limit < moved_value w m * 10 ^ (k - length m) → HasNoSize w f k
too_large w m r f k fraction few large s is = let h = size_least w m r f k s fraction few is in omega (arith, h, large, is.within)

pub too_large_moved : (w m r f : List ℕ) (k : ℕ) → f ≡ m ++ r → length m ≤ k → distance_limit < moved_value w m → HasNoSize w f k
too_large_moved w m r f k fraction few large =
    too_large w m r f k fraction few (let g = grows (moved_value w m) (10 ^ (k - length m)) (pow-some (k - length m)) in omega (arith, g, large))

pub too_large_whole : (w m r f : List ℕ) (k : ℕ) → f ≡ m ++ r → length m ≤ k → distance_limit < digits_value_after 10 0 w → HasNoSize w f k
too_large_whole w m r f k fraction few large =
    too_large_moved w m r f k fraction few (let g = after-grows (digits_value_after 10 0 w) m in omega (arith, g, large))

zero_or : (n : ℕ) → (n ≡ 0) ⊎ (0 < n)
zero_or zero = inl refl
zero_or (suc n) = inr (omega arith)

-- a rest that isn't all zeros leaves no size
rest_left : (w m r f : List ℕ) (k s : ℕ) → f ≡ m ++ r → length m ≡ k → AllDigits 10 r → ¬ (AreZeros r) → ¬ (IsSize w f k s)
rest_left w m r f k s fraction full all not is =
    let R = digits_value_after 10 0 r in
    let few : length m ≤ k = omega (arith, full) in
    let none : k - length m ≡ 0 = omega (arith, full) in
    let P : ℕ → Type 0 = λ n. s * 10 ^ length r ≡ (moved_value w m * 10 ^ length r + R) * 10 ^ n in
    let e = subst P none (size_key w m r f k s fraction few is) in
    ⊎_elim (λ (t : R ≡ 0). not (value_zeros r all t)) (λ (t : 0 < R). no_rest s (moved_value w m) (10 ^ length r) R t (digits_value-lt 10 r all) e) (zero_or R)

not_nil : (r : List ℕ) → ¬ (AreZeros r) → 0 < length r
not_nil [] not = absurd (not (All-nil (λ x. (x == 48) ≡ true)))
not_nil (c ∷ cs) not = omega arith

-- the least of two numbers is one of them
pub one_of : (n a b : ℕ) → n ≡ min a b → (n ≡ a) ⊎ (n ≡ b)
one_of n a b least = elim (cases_lt a b) [
  | inl lt ↦ inl (omega (arith, least, lt))
  | inr ge ↦ inr (omega (arith, least, ge))
]

pub rest_of : (w m r f : List ℕ) (k n : ℕ) → f ≡ m ++ r → length m ≡ n → (n ≡ length f) ⊎ (n ≡ k) → AreDigits f → ¬ (AreZeros r) → HasNoSize w f k
rest_of w m r f k n fraction count (inl all) digits not s is =
    let len : length f ≡ length m + length r = ap length fraction ∙ length-append m r in
    let some = not_nil r not in absurd (omega (arith, len, some, count, all))
rest_of w m r f k n fraction count (inr full) digits not s is =
    rest_left w m r f k s fraction (count ∙ full) (digits_back m r (subst (AllDigits 10) fraction (all_digits f digits))) not is

-- ---- distances

-- a number has one whole part and one fraction
pub parts_same : (number w f x g : List ℕ) → IsDecimal number w f → ¬ (Contains w 46) → IsDecimal number x g → ¬ (Contains x 46) → (w ≡ x) × (f ≡ g)
parts_same number w f x g (inl a) p (inl b) q = cut_unique 46 w f x g p q (sym a ∙ b)
parts_same number w f x g (inl a) p (inr b) q = absurd (q (subst (λ (l : List ℕ). Contains l 46) (sym a ∙ b.0) (Contains-between 46 w f)))
parts_same number w f x g (inr a) p (inl b) q = absurd (p (subst (λ (l : List ℕ). Contains l 46) (sym b ∙ a.0) (Contains-between 46 x g)))
parts_same number w f x g (inr a) p (inr b) q = (sym a.0 ∙ b.0, a.1 ∙ sym b.1)

point_no_digit : (ds : List ℕ) → AllDigits 10 ds → ¬ (Contains ds 46)
point_no_digit [] all has = omega (arith, has.1)
point_no_digit (c ∷ cs) all (zero, inside, is) = let i = digit_from_value c all.0 in omega (arith, i, is)
point_no_digit (c ∷ cs) all (suc k, inside, is) = point_no_digit cs all.1 (k, omega (arith, inside), is)

no_both : codes "m" ≡ codes "km" → ⊥
no_both e = absurd (omega (arith, ap length e))

unit_same : (unit : List ℕ) (a b : ℕ) → IsUnit unit a → IsUnit unit b → a ≡ b
unit_same unit a b (inl x) (inl y) = x.1 ∙ sym y.1
unit_same unit a b (inl x) (inr y) = absurd (no_both (sym x.0 ∙ y.0))
unit_same unit a b (inr x) (inl y) = absurd (no_both (sym y.0 ∙ x.0))
unit_same unit a b (inr x) (inr y) = x.1 ∙ sym y.1

-- a distance has a size
pub distance_size : (number unit w f : List ℕ) (k : ℕ) (metres : ℤ) → IsUnit unit (10 ^ k) → IsDecimal number w f → ¬ (Contains w 46) → (d : IsDistance number unit metres) → IsSize w f k d.size × (w ≡ d.whole) × (f ≡ d.fraction)
distance_size number unit w f k metres unit_is parts first d =
    let same = parts_same number w f d.whole d.fraction parts first d.number_is (point_no_digit d.whole (digits_front d.whole d.fraction d.are_digits)) in
    let scale = unit_same unit d.scale (10 ^ k) d.unit_is unit_is in
    let P : List ℕ → List ℕ → Type 0 = λ a b. d.size * 10 ^ length b ≡ digits_value 10 (a ++ b) * 10 ^ k in
    let here : P d.whole d.fraction = d.size_is ∙ ap (λ n. digits_value 10 (d.whole ++ d.fraction) * n) scale in
    (record { size_is = subst (λ (b : List ℕ). P w b) (sym same.1) (subst (λ (a : List ℕ). P a d.fraction) (sym same.0) here); within = d.within }, same.0, same.1)

pub no_unit : (number unit : List ℕ) → HasNoUnit unit → HasNoDistance number unit
no_unit number unit none metres d = none d.scale d.unit_is

pub no_size : (number unit w f : List ℕ) (k : ℕ) → IsUnit unit (10 ^ k) → IsDecimal number w f → ¬ (Contains w 46) → HasNoSize w f k → HasNoDistance number unit
no_size number unit w f k unit_is parts first none metres d = none d.size (distance_size number unit w f k metres unit_is parts first d).0

pub no_digits : (number unit w f : List ℕ) (k : ℕ) → IsUnit unit (10 ^ k) → IsDecimal number w f → ¬ (Contains w 46) → ((0 < length w) → AreDigits w → ¬ (AreDigits f)) → HasNoDistance number unit
no_digits number unit w f k unit_is parts first not metres d =
    let s = distance_size number unit w f k metres unit_is parts first d in
    let some : 0 < length w = subst (λ (l : List ℕ). 0 < length l) (sym s.1) d.some in
    not some (are_digits w (subst (AllDigits 10) (sym s.1) (digits_front d.whole d.fraction d.are_digits)))
    (are_digits f (subst (AllDigits 10) (sym s.2) (digits_back d.whole d.fraction d.are_digits)))

pub a_distance : (number unit w f : List ℕ) (k s : ℕ) → IsUnit unit (10 ^ k) → IsDecimal number w f → 0 < length w → AreDigits w → AreDigits f → IsSize w f k s → IsDistance number unit (pos s)
a_distance number unit w f k s unit_is parts some dw df size =
    record {
      whole = w;
      fraction = f;
      scale = 10 ^ k;
      size = s;
      unit_is = unit_is;
      number_is = parts;
      some = some;
      are_digits = digits_join w f (all_digits w dw) (all_digits f df);
      size_is = size.size_is;
      within = size.within;
      metres_is = refl;
    }

size_same : (w f : List ℕ) (k s t : ℕ) → IsSize w f k s → IsSize w f k t → s ≡ t
size_same w f k s t x y = cancel (10 ^ length f) s t (pow-some (length f)) (let e : s * 10 ^ length f ≡ t * 10 ^ length f = x.size_is ∙ sym y.size_is in omega (arith, e))

-- a number and a unit are one distance at most
pub distance_same : (number unit : List ℕ) (a b : ℤ) → IsDistance number unit a → IsDistance number unit b → a ≡ b
distance_same number unit a b x y =
    let same = parts_same number x.whole x.fraction y.whole y.fraction x.number_is (point_no_digit x.whole (digits_front x.whole x.fraction x.are_digits)) y.number_is (point_no_digit y.whole (digits_front y.whole y.fraction y.are_digits)) in
    let scale = unit_same unit x.scale y.scale x.unit_is y.unit_is in
    let left : x.size * 10 ^ length y.fraction ≡ x.size * 10 ^ length x.fraction = ap (λ (l : List ℕ). x.size * 10 ^ length l) (sym same.1) in
    let mid : digits_value 10 (x.whole ++ x.fraction) * x.scale ≡ digits_value 10 (y.whole ++ y.fraction) * y.scale = ap (λ (l : List ℕ). digits_value 10 (l ++ x.fraction) * x.scale) same.0 ∙ ap (λ (l : List ℕ). digits_value 10 (y.whole ++ l) * x.scale) same.1 ∙ ap (λ n. digits_value 10 (y.whole ++ y.fraction) * n) scale in
    let e : x.size * 10 ^ length y.fraction ≡ y.size * 10 ^ length y.fraction = left ∙ x.size_is ∙ mid ∙ sym y.size_is in
    let one : x.size ≡ y.size = cancel (10 ^ length y.fraction) x.size y.size (pow-some (length y.fraction)) (omega (arith, e)) in
    x.metres_is ∙ ap pos one ∙ sym y.metres_is

-- ---- one digit more

digit_less : (c : ℕ) → is_ascii_digit c ≡ true → digit_value c ≡ c - 48
digit_less c h = let i = digit_in c h in let v = digit_value_digit c i in omega (arith, v, i)

pub digit_from : (ds : List ℕ) (i : ℕ) → AreDigits ds → i < length ds → IsInRange 48 57 (get_or ds i 0)
digit_from [] i all h = absurd (omega (arith, h))
digit_from (c ∷ cs) zero all h = digit_in c (All-head (λ x. is_ascii_digit x ≡ true) c cs all)
digit_from (c ∷ cs) (suc i) all h = digit_from cs i (All-tail (λ x. is_ascii_digit x ≡ true) c cs all) (omega (arith, h))

-- a digit that is taken off the front
next_at : (n i : ℕ) (ds : List ℕ) → AreDigits ds → i < length ds → digits_value_after 10 n (drop i ds) ≡ digits_value_after 10 (n * 10 + (get_or ds i 0 - 48)) (drop (suc i) ds)
next_at n i [] all h = absurd (omega (arith, h))
next_at n zero (c ∷ cs) all h = ap (λ d. digits_value_after 10 (n * 10 + d) cs) (digit_less c (All-head (λ x. is_ascii_digit x ≡ true) c cs all))
next_at n (suc i) (c ∷ cs) all h = next_at n i cs (All-tail (λ x. is_ascii_digit x ≡ true) c cs all) (omega (arith, h))

pub next_digit : (n i m : ℕ) (ds : List ℕ) → AreDigits ds → i < length ds → m ≡ n * 10 + (get_or ds i 0 - 48) → digits_value_after 10 m (drop (i + 1) ds) ≡ digits_value_after 10 n (drop i ds)
next_digit n i m ds all h e =
    let one : i + 1 ≡ suc i = omega arith in
    ap (λ k. digits_value_after 10 m (drop k ds)) one ∙ ap (λ k. digits_value_after 10 k (drop (suc i) ds)) e ∙ sym (next_at n i ds all h)

-- what the last step answers
pub size_answer : (w m r f : List ℕ) (k n s : ℕ) (o : Option ℕ) → f ≡ m ++ r → length m ≡ n → n ≤ k → AreZeros r → s ≡ moved_value w m
    → MatchOption o (distance_limit < s * 10 ^ (k - n)) (λ t. (t ≡ s * 10 ^ (k - n)) × (t ≤ distance_limit)) → MatchOption o (HasNoSize w f k) (λ t. IsSize w f k t)
size_answer w m r f k n s None fraction count few zeros is h =
    let e : s * 10 ^ (k - n) ≡ moved_value w m * 10 ^ (k - length m) = ap (λ x. x * 10 ^ (k - n)) is ∙ ap (λ x. moved_value w m * 10 ^ (k - x)) (sym count) in
    too_large w m r f k fraction (omega (arith, count, few)) (omega (arith, e, h))
size_answer w m r f k n s (Some t) fraction count few zeros is h =
    let e : s * 10 ^ (k - n) ≡ moved_value w m * 10 ^ (k - length m) = ap (λ x. x * 10 ^ (k - n)) is ∙ ap (λ x. moved_value w m * 10 ^ (k - x)) (sym count) in
    a_size w m r f k t fraction (omega (arith, count, few)) zeros (h.0 ∙ e) h.1
