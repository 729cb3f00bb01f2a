-- The end of an instant's text, from its seconds on: what its first byte says.
use Rattle.std.proofs.Common.{◌≡◌, ℕ, ◌-◌, ◌<◌, ◌≤◌, ◌⊎◌, inl, inr, List, [], ◌∷◌, ◌++◌, length, length-drop, take, drop, All, refl, sym, ap, subst, ◌∙◌, arith, ℤ, neg_ℤ, Option, Some, None, MatchOption}
use Rattle.std.proofs.Math.IntN.{neg_ℤ-neg_ℤ}
use Rattle.std.proofs.lemmas.List.{take-append-drop, length-take-le, take_all}
use Rattle.std.proofs.lemmas.List.Elements.{All-head, All-tail}
use Rattle.edr_axes.specs.Instants.{pad2}
use Rattle.edr_axes.specs.InstantGrammar.{IsEitherCase, IsSecond, IsOffset, IsZone}
use Rattle.edr_axes.specs.InstantPieces.{IsPair, HasNoOffset, HasNoZone, IsZoneEnd, HasNoZoneEnd, IsEnd, HasNoEnd}
use Rattle.edr_axes.proofs.InstantLemmas.{pair_unique}
use Rattle.edr_axes.proofs.InstantTexts.{offset_unique}

-- ---- zones by their first bytes

utc_byte : (b : ℕ) → IsEitherCase 90 b → 90 ≤ b
utc_byte b (inl e) = omega arith
utc_byte b (inr e) = omega arith

plus_byte : (b : ℕ) → (b ≡ 43) ⊎ (b ≡ 32) → b ≤ 43
plus_byte b (inl e) = omega arith
plus_byte b (inr e) = omega arith

zone_byte : (b : ℕ) (rest : List ℕ) (z : ℤ) → IsZone (b ∷ rest) z → 46 ≤ b → 90 ≤ b
zone_byte b rest z (inl h) le = utc_byte b h.0
zone_byte b rest z (inr (inl h)) le = let low = plus_byte b h.0 in omega arith
zone_byte b rest z (inr (inr h)) le = let is = h.0 in omega arith

-- no zone begins with `.`, a digit or `:`
pub zone_begin : (text rest : List ℕ) (b : ℕ) (z : ℤ) → IsZone text z → text ≡ b ∷ rest → 46 ≤ b → 90 ≤ b
zone_begin text rest b z h e = let P : List ℕ → Type 0 = λ t. IsZone t z in zone_byte b rest z (subst P e h)

-- a first byte that isn't one of a zone's
pub no_zone : (b : ℕ) (rest : List ℕ) → HasNoOffset rest → b ≤ 45 → HasNoZone (b ∷ rest)
no_zone b rest none low z (inl h) = let high = utc_byte b h.0 in omega arith
no_zone b rest none low z (inr (inl h)) = none z h.1
no_zone b rest none low z (inr (inr h)) = none (neg_ℤ z) h.1

turned : (b : ℕ) → (b ≡ 32) ⊎ (b ≡ 43) → (b ≡ 43) ⊎ (b ≡ 32)
turned b (inl e) = inr e
turned b (inr e) = inl e

-- `+` or a space, and an offset
pub plus_zone : (b : ℕ) (rest : List ℕ) (read : Option ℤ) → (b ≡ 32) ⊎ (b ≡ 43)
    → MatchOption read (HasNoOffset rest) (λ seconds. IsOffset rest seconds)
    → MatchOption read (HasNoZone (b ∷ rest)) (λ ahead. IsZone (b ∷ rest) ahead)
plus_zone b rest None is none = let low = plus_byte b (turned b is) in no_zone b rest none (omega arith)
plus_zone b rest (Some z) is some = inr (inl (turned b is, some))

pub zone_unique : (text : List ℕ) (z w : ℤ) → IsZone text z → IsZone text w → z ≡ w
zone_unique [] z w x y = absurd x
zone_unique (b ∷ rest) z w (inl x) (inl y) = x.2 ∙ sym y.2
zone_unique (b ∷ rest) z w (inl x) (inr (inl y)) = let p = utc_byte b x.0 in let q = plus_byte b y.0 in absurd (omega arith)
zone_unique (b ∷ rest) z w (inl x) (inr (inr y)) = let p = utc_byte b x.0 in let q = y.0 in absurd (omega arith)
zone_unique (b ∷ rest) z w (inr (inl x)) (inl y) = let p = utc_byte b y.0 in let q = plus_byte b x.0 in absurd (omega arith)
zone_unique (b ∷ rest) z w (inr (inl x)) (inr (inl y)) = offset_unique rest z w x.1 y.1
zone_unique (b ∷ rest) z w (inr (inl x)) (inr (inr y)) = let p = plus_byte b x.0 in let q = y.0 in absurd (omega arith)
zone_unique (b ∷ rest) z w (inr (inr x)) (inl y) = let p = utc_byte b y.0 in let q = x.0 in absurd (omega arith)
zone_unique (b ∷ rest) z w (inr (inr x)) (inr (inl y)) = let p = plus_byte b y.0 in let q = x.0 in absurd (omega arith)
zone_unique (b ∷ rest) z w (inr (inr x)) (inr (inr y)) =
    sym (neg_ℤ-neg_ℤ z) ∙ ap neg_ℤ (offset_unique rest (neg_ℤ z) (neg_ℤ w) x.1 y.1) ∙ neg_ℤ-neg_ℤ w

-- ---- zeros

abbrev pub AreZeros : List ℕ → Type 0
AreZeros xs = All (λ byte. byte ≡ 48) xs

abbrev pub BeginsOtherwise : List ℕ → Type 0
BeginsOtherwise xs = (rest : List ℕ) → ¬ (xs ≡ 48 ∷ rest)

-- there is one place at which the zeros that begin a list end
pub zeros_unique : (xs ys p q : List ℕ) → AreZeros xs → AreZeros ys → xs ++ p ≡ ys ++ q → BeginsOtherwise p
    → BeginsOtherwise q → (xs ≡ ys) × (p ≡ q)
zeros_unique [] [] p q x y e m n = (refl, e)
zeros_unique [] (b ∷ ys) p q x y e m n = let z = All-head (λ byte. byte ≡ 48) b ys y in absurd (m (ys ++ q) (cc (z, e)))
zeros_unique (a ∷ xs) [] p q x y e m n = let z = All-head (λ byte. byte ≡ 48) a xs x in absurd (n (xs ++ p) (cc (z, e)))
zeros_unique (a ∷ xs) (b ∷ ys) p q x y e m n =
    let tails : xs ++ p ≡ ys ++ q = cc e in
    let heads : a ≡ b = cc e in
    let same = zeros_unique xs ys p q (All-tail (λ byte. byte ≡ 48) a xs x) (All-tail (λ byte. byte ≡ 48) b ys y) tails m n in
    (cc (heads, same.0), same.1)

-- ---- a fraction and a zone

zone_otherwise : (text : List ℕ) (z : ℤ) → IsZone text z → BeginsOtherwise text
zone_otherwise text z h rest e = let high = zone_begin text rest 48 z h e (omega arith) in omega arith

-- `.`, so many zeros and a zone
pub fraction_end : (text digits : List ℕ) (n : ℕ) (z : ℤ) → text ≡ 46 ∷ digits → 0 < n → n ≤ length digits
    → AreZeros (take n digits)
    → IsZone (drop n digits) z → IsZoneEnd text z
fraction_end text digits n z e some within zeros zone =
    let size = length-take-le n digits within in
    record {
      fraction = 46 ∷ take n digits;
      zone = drop n digits;
      fraction_is = inr (record { zeros = take n digits; some = omega (arith, size); all = zeros; text_is = refl });
      zone_is = zone;
      text_is = e ∙ ap (λ rest. 46 ∷ rest) (sym (take-append-drop n digits));
    }

-- after `.` and the zeros there is but one zone
pub fraction_zone : (text digits : List ℕ) (n : ℕ) (z : ℤ) → text ≡ 46 ∷ digits → AreZeros (take n digits)
    → BeginsOtherwise (drop n digits)
    → IsZoneEnd text z → IsZone (drop n digits) z
fraction_zone text digits n z e zeros other x = elim x.fraction_is [
  | inl f ↦ let is : x.zone ≡ 46 ∷ digits = ap (λ t. t ++ x.zone) (sym f) ∙ sym x.text_is ∙ e in
      let high = zone_begin x.zone digits 46 z x.zone_is is (omega arith) in absurd (omega arith)
  | inr f ↦ let is : 46 ∷ (f.zeros ++ x.zone) ≡ 46 ∷ digits = ap (λ t. t ++ x.zone) (sym f.text_is) ∙ sym x.text_is ∙ e in
      let split : take n digits ++ drop n digits ≡ f.zeros ++ x.zone = take-append-drop n digits ∙ cc is in
      let same = zeros_unique (take n digits) f.zeros (drop n digits) x.zone zeros f.all split other (zone_otherwise x.zone z x.zone_is) in
      let P : List ℕ → Type 0 = λ t. IsZone t z in subst P (sym same.1) x.zone_is
]

-- a zone read after `.` and n zeros, from the list as a slice gives it
pub read_fraction : (text digits : List ℕ) (n : ℕ) (read : Option ℤ) → text ≡ 46 ∷ digits → 0 < n → n ≤ length digits
    → AreZeros (take n digits)
    → BeginsOtherwise (drop n digits)
    → MatchOption read (HasNoZone (take (length digits - n) (drop n digits))) (λ ahead. IsZone (take (length digits - n) (drop n digits)) ahead)
    → MatchOption read (HasNoZoneEnd text) (λ ahead. IsZoneEnd text ahead)
read_fraction text digits n None e some within zeros other none = λ z x.
    let size = length-drop n digits in
    none z (rw (take_all (length digits - n) (drop n digits) (omega (arith, size))) (fraction_zone text digits n z e zeros other x))
read_fraction text digits n (Some z) e some within zeros other zone =
    let size = length-drop n digits in
    fraction_end text digits n z e some within zeros (rw (take_all (length digits - n) (drop n digits) (omega (arith, size))) at zone)

-- with no `.` there is a zone alone
pub zone_alone : (text : List ℕ) (z : ℤ) → ((rest : List ℕ) → ¬ (text ≡ 46 ∷ rest)) → IsZoneEnd text z → IsZone text z
zone_alone text z none x = elim x.fraction_is [
  | inl f ↦ let P : List ℕ → Type 0 = λ t. IsZone t z in subst P (ap (λ t. t ++ x.zone) (sym f) ∙ sym x.text_is) x.zone_is
  | inr f ↦ absurd (none (f.zeros ++ x.zone) (x.text_is ∙ ap (λ t. t ++ x.zone) f.text_is))
]

-- ---- seconds and a zone

-- a zone and no seconds
pub zone_end : (text : List ℕ) (z : ℤ) → IsZone text z → IsEnd text 0 z
zone_end text z x = record { second_text = []; zone = text; second_is = inl (refl, refl); zone_is = x; text_is = refl }

pub second_below : (second : ℕ) (text : List ℕ) → IsSecond text second → second ≤ 59
second_below second text (inl h) = let is = h.1 in omega arith
second_below second text (inr h) = h.second_in

-- `:SS` and what follows it
pub second_end : (text t1 t2 : List ℕ) (second : ℕ) (z : ℤ) → text ≡ 58 ∷ t1 → IsPair t1 second t2 → second ≤ 59
    → IsZoneEnd t2 z → IsEnd text second z
second_end text t1 t2 second z e p in_minute x = record {
  second_text = 58 ∷ (pad2 second ++ x.fraction);
  zone = x.zone;
  second_is = inr (record { fraction = x.fraction; second_in = in_minute; fraction_is = x.fraction_is; text_is = refl });
  zone_is = x.zone_is;
  text_is = e ∙ ap (λ t. 58 ∷ t) (p.1 ∙ ap (λ t. pad2 second ++ t) x.text_is);
}

-- what stands after `:` in such an end
pub record IsSecondEnd (t1 : List ℕ) (second : ℕ) (z : ℤ) : Type 0 where
  pub rest : List ℕ
  pub second_in : second ≤ 59
  pub text_is : t1 ≡ pad2 second ++ rest
  pub end_is : IsZoneEnd rest z

pub after_colon : (text t1 : List ℕ) (second : ℕ) (z : ℤ) → text ≡ 58 ∷ t1 → IsEnd text second z → IsSecondEnd t1 second z
after_colon text t1 second z e x = elim x.second_is [
  | inl h ↦ let is : x.zone ≡ 58 ∷ t1 = ap (λ t. t ++ x.zone) (sym h.0) ∙ sym x.text_is ∙ e in
      let high = zone_begin x.zone t1 58 z x.zone_is is (omega arith) in absurd (omega arith)
  | inr h ↦ let is : 58 ∷ (pad2 second ++ (h.fraction ++ x.zone)) ≡ 58 ∷ t1 = ap (λ t. t ++ x.zone) (sym h.text_is) ∙ sym x.text_is ∙ e in
      record {
        rest = h.fraction ++ x.zone;
        second_in = h.second_in;
        text_is = sym (cc is);
        end_is = record { fraction = h.fraction; zone = x.zone; fraction_is = h.fraction_is; zone_is = x.zone_is; text_is = refl };
      }
]

pub no_second_end : (text t1 t2 : List ℕ) (second : ℕ) → text ≡ 58 ∷ t1 → IsPair t1 second t2 → HasNoZoneEnd t2
    → HasNoEnd text
no_second_end text t1 t2 second e p none s z x =
    let y = after_colon text t1 s z e x in
    let same = pair_unique second s t2 y.rest (sym p.1 ∙ y.text_is) in
    let P : List ℕ → Type 0 = λ t. IsZoneEnd t z in
    none z (subst P (sym same.1) y.end_is)

-- ---- one end a text

fraction_zone_unique : (text digits : List ℕ) (z w : ℤ) → text ≡ 46 ∷ digits → IsZoneEnd text z → IsZoneEnd text w → z ≡ w
fraction_zone_unique text digits z w e x y = elim x.fraction_is [
  | inl f ↦ let is : x.zone ≡ 46 ∷ digits = ap (λ t. t ++ x.zone) (sym f) ∙ sym x.text_is ∙ e in
      let high = zone_begin x.zone digits 46 z x.zone_is is (omega arith) in absurd (omega arith)
  | inr f ↦ elim y.fraction_is [
    | inl g ↦ let is : y.zone ≡ 46 ∷ digits = ap (λ t. t ++ y.zone) (sym g) ∙ sym y.text_is ∙ e in
        let high = zone_begin y.zone digits 46 w y.zone_is is (omega arith) in absurd (omega arith)
    | inr g ↦ let is : 46 ∷ (f.zeros ++ x.zone) ≡ 46 ∷ (g.zeros ++ y.zone) =
        ap (λ t. t ++ x.zone) (sym f.text_is) ∙ sym x.text_is ∙ y.text_is ∙ ap (λ t. t ++ y.zone) g.text_is in
        let same = zeros_unique f.zeros g.zeros x.zone y.zone f.all g.all (cc is) (zone_otherwise x.zone z x.zone_is) (zone_otherwise y.zone w y.zone_is) in
        let P : List ℕ → Type 0 = λ t. IsZone t w in
        zone_unique x.zone z w x.zone_is (subst P (sym same.1) y.zone_is)
  ]
]

pub zone_end_unique : (text : List ℕ) (z w : ℤ) → IsZoneEnd text z → IsZoneEnd text w → z ≡ w
zone_end_unique text z w x y = elim x.fraction_is [
  | inr f ↦ fraction_zone_unique text (f.zeros ++ x.zone) z w (x.text_is ∙ ap (λ t. t ++ x.zone) f.text_is) x y
  | inl f ↦ elim y.fraction_is [
    | inr g ↦ fraction_zone_unique text (g.zeros ++ y.zone) z w (y.text_is ∙ ap (λ t. t ++ y.zone) g.text_is) x y
    | inl g ↦ let is : x.zone ≡ y.zone = ap (λ t. t ++ x.zone) (sym f) ∙ sym x.text_is ∙ y.text_is ∙ ap (λ t. t ++ y.zone) g in
        let P : List ℕ → Type 0 = λ t. IsZone t w in
        zone_unique x.zone z w x.zone_is (subst P (sym is) y.zone_is)
  ]
]

colon_end_unique : (text t1 : List ℕ) (s u : ℕ) (z w : ℤ) → text ≡ 58 ∷ t1 → IsEnd text s z → IsEnd text u w
    → (s ≡ u) × (z ≡ w)
colon_end_unique text t1 s u z w e x y =
    let a = after_colon text t1 s z e x in
    let b = after_colon text t1 u w e y in
    let same = pair_unique s u a.rest b.rest (sym a.text_is ∙ b.text_is) in
    let P : List ℕ → Type 0 = λ t. IsZoneEnd t w in
    (same.0, zone_end_unique a.rest z w a.end_is (subst P (sym same.1) b.end_is))

pub end_unique : (text : List ℕ) (s u : ℕ) (z w : ℤ) → IsEnd text s z → IsEnd text u w → (s ≡ u) × (z ≡ w)
end_unique text s u z w x y = elim x.second_is [
  | inr h ↦ colon_end_unique text (pad2 s ++ (h.fraction ++ x.zone)) s u z w (x.text_is ∙ ap (λ t. t ++ x.zone) h.text_is) x y
  | inl h ↦ elim y.second_is [
    | inr k ↦ colon_end_unique text (pad2 u ++ (k.fraction ++ y.zone)) s u z w (y.text_is ∙ ap (λ t. t ++ y.zone) k.text_is) x y
    | inl k ↦ let is : x.zone ≡ y.zone = ap (λ t. t ++ x.zone) (sym h.0) ∙ sym x.text_is ∙ y.text_is ∙ ap (λ t. t ++ y.zone) k.0 in
        let P : List ℕ → Type 0 = λ t. IsZone t w in
        (h.1 ∙ sym k.1, zone_unique x.zone z w x.zone_is (subst P (sym is) y.zone_is))
  ]
]
