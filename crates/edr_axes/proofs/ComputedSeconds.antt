-- Seconds, as they are computed of a text, are those of the grammar.
use Rattle.std.proofs.Common.{◌≡◌, ℕ, ◌<◌, ◌≤◌, ◌==◌, nat_le, inl, inr, List, [], ◌∷◌, ◌++◌, length, All, Some, ℤ, refl, sym, ap, ◌∙◌, subst, arith}
use Rattle.std.proofs.lemmas.Bool.{leb-true, le-leb, eqb-true, ne_eqb, eq-eqb}
use Rattle.std.proofs.lemmas.List.Elements.{All-cons, All-nil, All-head, All-tail}
use Rattle.edr_axes.specs.Instants.{pad2}
use Rattle.edr_axes.specs.InstantGrammar.{IsFraction, IsSecond, IsZone}
use Rattle.edr_axes.proofs.InstantEnds.{zone_begin}
use Rattle.edr_axes.specs.InstantComputed.{and_next, when, two_digits, after_byte, after_zeros, after_fraction, second_at}
use Rattle.edr_axes.proofs.ComputedSteps.{next_tells, next_given, when_tells, when_given, if_tells, if_given, else_given, byte_tells, pair_tells, pair_given}

-- ---- fractions of zeros

-- the byte `0`
abbrev IsZero : ℕ → Type 0
IsZero byte = byte ≡ 48

record BeginsWithZeros (text rest : List ℕ) : Type 0 where
  zeros : List ℕ
  all : All IsZero zeros
  text_is : text ≡ zeros ++ rest

-- one zero more
zeros_on : (b : ℕ) (text rest : List ℕ) → b ≡ 48 → BeginsWithZeros text rest → BeginsWithZeros (b ∷ text) rest
zeros_on b text rest e x = record { zeros = b ∷ x.zeros; all = All-cons IsZero b x.zeros e x.all; text_is = ap (λ t. b ∷ t) x.text_is }

-- no zeros
no_zeros : (text : List ℕ) → BeginsWithZeros text text
no_zeros text = record { zeros = []; all = All-nil IsZero; text_is = refl }

-- what stands after zeros that were passed over
zeros_tell : (text rest : List ℕ) → after_zeros text ≡ rest → BeginsWithZeros text rest
zeros_tell [] rest h = subst (BeginsWithZeros []) h (no_zeros [])
zeros_tell (b ∷ text) rest h = elim (if_tells (b == 48) (after_zeros text) (b ∷ text) rest h) [
  | inl k ↦ zeros_on b text rest (eqb-true b 48 k.0) (zeros_tell text rest k.1)
  | inr k ↦ subst (BeginsWithZeros (b ∷ text)) k.1 (no_zeros (b ∷ text))
]

-- a zone begins with no zero
zone_stays : (zone : List ℕ) (z : ℤ) → IsZone zone z → after_zeros zone ≡ zone
zone_stays [] z x = refl
zone_stays (b ∷ rest) z x =
    else_given (b == 48) _ _ _ (ne_eqb b 48 (λ e. let high = zone_begin (b ∷ rest) rest b z x refl (omega arith) in omega arith)) refl

-- and the zeros before a zone are passed over
zeros_given : (zeros zone : List ℕ) (z : ℤ) → All IsZero zeros → IsZone zone z → after_zeros (zeros ++ zone) ≡ zone
zeros_given [] zone z all x = zone_stays zone z x
zeros_given (b ∷ zeros) zone z all x =
    if_given (b == 48) _ _ _ (eq-eqb b 48 (All-head IsZero b zeros all)) (zeros_given zeros zone z (All-tail IsZero b zeros all) x)

record BeginsWithFraction (text rest : List ℕ) : Type 0 where
  fraction : List ℕ
  is : IsFraction fraction
  text_is : text ≡ fraction ++ rest

-- a fraction that is left out
no_fraction : (text : List ℕ) → BeginsWithFraction text text
no_fraction text = record { fraction = []; is = inl refl; text_is = refl }

-- a point and one or more zeros
some_fraction : (text more rest : List ℕ) → text ≡ 48 ∷ more → BeginsWithZeros more rest → BeginsWithFraction (46 ∷ text) rest
some_fraction text more rest e x = record {
  fraction = 46 ∷ (48 ∷ x.zeros);
  is = inr (record { zeros = 48 ∷ x.zeros; some = omega arith; all = All-cons IsZero 48 x.zeros refl x.all; text_is = refl });
  text_is = ap (λ t. 46 ∷ t) (e ∙ ap (λ t. 48 ∷ t) x.text_is);
}

-- what follows a point is a fraction
point_tells : (b : ℕ) (text rest : List ℕ) → b ≡ 46 → and_next (after_byte 48 text) (λ more. Some (after_zeros more)) ≡ Some rest
    → BeginsWithFraction (b ∷ text) rest
point_tells b text rest e h =
    let a = next_tells (after_byte 48 text) _ rest h in
    let zeros : after_zeros a.0 ≡ rest = cc (a.2) in
    subst (λ (c : ℕ). BeginsWithFraction (c ∷ text) rest) (sym e) (some_fraction text a.0 rest (byte_tells 48 text a.0 a.1) (zeros_tell a.0 rest zeros))

-- a fraction that is found is one of the grammar
fraction_tells : (text rest : List ℕ) → after_fraction text ≡ Some rest → BeginsWithFraction text rest
fraction_tells [] rest h = let same : [] ≡ rest = cc in subst (BeginsWithFraction []) same (no_fraction [])
fraction_tells (b ∷ text) rest h = elim (if_tells (b == 46) _ (Some (b ∷ text)) (Some rest) h) [
  | inl k ↦ point_tells b text rest (eqb-true b 46 k.0) k.1
  | inr k ↦ let same : b ∷ text ≡ rest = cc (k.1) in subst (BeginsWithFraction (b ∷ text)) same (no_fraction (b ∷ text))
]

-- a zone begins with no `.`
zone_after_none : (zone : List ℕ) (z : ℤ) → IsZone zone z → after_fraction zone ≡ Some zone
zone_after_none [] z x = refl
zone_after_none (b ∷ rest) z x =
    else_given (b == 46) _ _ _ (ne_eqb b 46 (λ e. let high = zone_begin (b ∷ rest) rest b z x refl (omega arith) in omega arith)) refl

-- a zone stands after a point and zeros
zone_after_zeros : (zeros zone : List ℕ) (z : ℤ) → 0 < length zeros → All IsZero zeros → IsZone zone z
    → after_fraction (46 ∷ (zeros ++ zone)) ≡ Some zone
zone_after_zeros [] zone z some all x = absurd (omega arith)
zone_after_zeros (b ∷ zeros) zone z some all x =
    next_given (after_byte 48 (b ∷ (zeros ++ zone))) _ (zeros ++ zone) zone
    (when_given (b == 48) (zeros ++ zone) (zeros ++ zone) (eq-eqb b 48 (All-head IsZero b zeros all)) refl)
    (ap Some (zeros_given zeros zone z (All-tail IsZero b zeros all) x))

-- a zone stands after each fraction of the grammar
fraction_given : (fraction zone : List ℕ) (z : ℤ) → IsFraction fraction → IsZone zone z → after_fraction (fraction ++ zone) ≡ Some zone
fraction_given fraction zone z (inl e) x = rw e (zone_after_none zone z x)
fraction_given fraction zone z (inr f) x = rw f.text_is (zone_after_zeros f.zeros zone z f.some f.all x)

-- ---- seconds

pub record BeginsWithSecond (text : List ℕ) (second : ℕ) (rest : List ℕ) : Type 0 where
  pub second_text : List ℕ
  pub is : IsSecond second_text second
  pub text_is : text ≡ second_text ++ rest

-- seconds that are left out
no_second : (text : List ℕ) (r : ℕ × List ℕ) → Some (0, text) ≡ Some r → BeginsWithSecond text r.0 r.1
no_second text r h =
    let same : (0, text) ≡ r = cc in
    let P : ℕ × List ℕ → Type 0 = λ v. BeginsWithSecond text v.0 v.1 in
    subst P same (record { second_text = []; is = inl (refl, refl); text_is = refl })

-- a second and a fraction
some_second : (text more rest : List ℕ) (second : ℕ) → second ≤ 59 → text ≡ pad2 second ++ more → BeginsWithFraction more rest
    → BeginsWithSecond (58 ∷ text) second rest
some_second text more rest second small e x = record {
  second_text = 58 ∷ (pad2 second ++ x.fraction);
  is = inr (record { fraction = x.fraction; second_in = small; fraction_is = x.is; text_is = refl });
  text_is = ap (λ t. 58 ∷ t) (e ∙ ap (λ t. pad2 second ++ t) x.text_is);
}

-- what follows a colon is a second
colon_tells : (b : ℕ) (text : List ℕ) (r : ℕ × List ℕ) → b ≡ 58
    → and_next (two_digits text) (λ second. and_next (after_fraction second.1) (λ more. when (nat_le second.0 59) (second.0, more))) ≡ Some r
    → BeginsWithSecond (b ∷ text) r.0 r.1
colon_tells b text r e h =
    let a = next_tells (two_digits text) _ r h in
    let c = next_tells (after_fraction a.0.1) _ r a.2 in
    let p = when_tells (nat_le a.0.0 59) (a.0.0, c.0) r c.2 in
    let whole = some_second text a.0.1 c.0 a.0.0 (leb-true a.0.0 59 p.0) (pair_tells text a.0 a.1).1 (fraction_tells a.0.1 c.0 c.1) in
    let P : ℕ × List ℕ → Type 0 = λ v. BeginsWithSecond (58 ∷ text) v.0 v.1 in
    subst (λ (d : ℕ). BeginsWithSecond (d ∷ text) r.0 r.1) (sym e) (subst P p.1 whole)

-- a second that is found is one of the grammar
pub second_tells : (text : List ℕ) (r : ℕ × List ℕ) → second_at text ≡ Some r → BeginsWithSecond text r.0 r.1
second_tells [] r h = no_second [] r h
second_tells (b ∷ text) r h = elim (if_tells (b == 58) _ (Some (0, b ∷ text)) (Some r) h) [
  | inl k ↦ colon_tells b text r (eqb-true b 58 k.0) k.1
  | inr k ↦ no_second (b ∷ text) r k.1
]

-- a zone begins with no `:`
zone_alone : (zone : List ℕ) (z : ℤ) → IsZone zone z → second_at zone ≡ Some (0, zone)
zone_alone [] z x = refl
zone_alone (b ∷ rest) z x =
    else_given (b == 58) _ _ _ (ne_eqb b 58 (λ e. let high = zone_begin (b ∷ rest) rest b z x refl (omega arith) in omega arith)) refl

-- a zone stands after a colon, a second and a fraction
colon_given : (fraction zone : List ℕ) (second : ℕ) (z : ℤ) → second ≤ 59 → IsFraction fraction → IsZone zone z
    → second_at (58 ∷ (pad2 second ++ (fraction ++ zone))) ≡ Some (second, zone)
colon_given fraction zone second z small f x =
    next_given (two_digits (pad2 second ++ (fraction ++ zone))) _ (second, fraction ++ zone) (second, zone)
    (pair_given second (fraction ++ zone) (omega arith))
    (next_given (after_fraction (fraction ++ zone)) _ zone (second, zone) (fraction_given fraction zone z f x)
    (when_given (nat_le second 59) _ _ (le-leb second 59 small) refl))

-- and each second of the grammar before a zone is found
pub second_given : (text zone : List ℕ) (second : ℕ) (z : ℤ) → IsSecond text second → IsZone zone z
    → second_at (text ++ zone) ≡ Some (second, zone)
second_given text zone second z (inl h) x = rw (h.0, h.1) (zone_alone zone z x)
second_given text zone second z (inr h) x = rw h.text_is (colon_given h.fraction zone second z h.second_in h.fraction_is x)
