-- Offsets and zones, as they are computed of a text, are those of the grammar.
use Rattle.std.proofs.Common.{◌≡◌, ℕ, ◌+◌, ◌*◌, ◌≤◌, ◌==◌, ◌||◌, true, false, if◌then◌else◌, ◌⊎◌, inl, inr, List, [], ◌∷◌, ◌++◌, Option, Some, None, ℤ, pos, neg_ℤ, sym, ap, ◌∙◌, arith}
use Rattle.std.specs.Prelude.{option_map}
use Rattle.std.proofs.Math.IntN.{neg_ℤ-neg_ℤ}
use Rattle.std.proofs.lemmas.Bool.{eqb-true, ne_eqb, eq-eqb, or_cases, or_left, or_right, or_from}
use Rattle.edr_axes.specs.InstantGrammar.{minutes_text, IsOffset, IsZone}
use Rattle.edr_axes.proofs.InstantTexts.{minutes_of_offset}
use Rattle.edr_axes.specs.InstantComputed.{at_end, is_letter, minutes_at, offset_of, zone_of}
use Rattle.edr_axes.proofs.ComputedSteps.{next_tells, next_given, end_tells, if_tells, if_given, else_given, letter_tells, letter_given}
use Rattle.edr_axes.proofs.ComputedDates.{minutes_tell, minutes_given}

-- an offset that is found is one of the grammar
offset_tells : (text : List ℕ) (z : ℤ) → offset_of text ≡ Some z → IsOffset text z
offset_tells text z h =
    let a = next_tells (minutes_at text) _ z h in
    let end = end_tells a.0.1 (pos a.0.0) z a.2 in
    let x = minutes_tell text a.0 a.1 in
    record {
      hour = x.hour;
      minute = x.minute;
      hour_in = x.hour_in;
      minute_in = x.minute_in;
      text_is = x.text_is ∙ ap (λ t. minutes_text x.hour x.minute ++ t) end.0;
      seconds_is = sym end.1 ∙ ap pos x.seconds_is;
    }

-- and each offset of the grammar is found
offset_given : (text : List ℕ) (z : ℤ) → IsOffset text z → offset_of text ≡ Some z
offset_given text z x =
    next_given (minutes_at text) _ (x.hour * 3600 + x.minute * 60, []) z (minutes_given text _ [] (minutes_of_offset text z x)) (ap Some (sym x.seconds_is))

-- an offset after `-` is the other way
turned_tells : (o : Option ℤ) (z : ℤ) → option_map neg_ℤ o ≡ Some z → o ≡ Some (neg_ℤ z)
turned_tells None z h = cc
turned_tells (Some w) z h = let same : neg_ℤ w ≡ z = cc in ap Some (sym (neg_ℤ-neg_ℤ w) ∙ ap neg_ℤ same)

-- and the other way of it is the offset
turned_given : (o : Option ℤ) (z : ℤ) → o ≡ Some (neg_ℤ z) → option_map neg_ℤ o ≡ Some z
turned_given None z h = cc
turned_given (Some w) z h = let same : w ≡ neg_ℤ z = cc in ap Some (ap neg_ℤ same ∙ neg_ℤ-neg_ℤ z)

-- `+` or a space
plus_tells : (b : ℕ) → ((b == 43) || (b == 32)) ≡ true → (b ≡ 43) ⊎ (b ≡ 32)
plus_tells b h = elim (or_cases _ _ h) [
  | inl e ↦ inl (eqb-true b 43 e)
  | inr e ↦ inr (eqb-true b 32 e)
]

-- and either passes the test
plus_given : (b : ℕ) → (b ≡ 43) ⊎ (b ≡ 32) → ((b == 43) || (b == 32)) ≡ true
plus_given b (inl e) = or_left _ _ (eq-eqb b 43 e)
plus_given b (inr e) = or_right _ _ (eq-eqb b 32 e)

-- a small byte is no `Z`
no_letter : (b : ℕ) → b ≤ 45 → is_letter 90 b ≡ false
no_letter b h = or_from _ _ (ne_eqb b 90 (λ e. omega arith)) (ne_eqb b 122 (λ e. omega arith))

-- `+` and a space are small bytes
plus_small : (b : ℕ) → (b ≡ 43) ⊎ (b ≡ 32) → b ≤ 45
plus_small b (inl e) = omega arith
plus_small b (inr e) = omega arith

-- a zone that is behind
minus_tells : (b : ℕ) (rest : List ℕ) (z : ℤ) → (if b == 45 then option_map neg_ℤ (offset_of rest) else None) ≡ Some z
    → (b ≡ 45) × IsOffset rest (neg_ℤ z)
minus_tells b rest z h = elim (if_tells (b == 45) (option_map neg_ℤ (offset_of rest)) None (Some z) h) [
  | inl k ↦ (eqb-true b 45 k.0, offset_tells rest (neg_ℤ z) (turned_tells (offset_of rest) z k.1))
  | inr k ↦ let none = k.1 in cc
]

-- a zone that is ahead, or behind
ahead_tells : (b : ℕ) (rest : List ℕ) (z : ℤ)
    → (if (b == 43) || (b == 32) then offset_of rest else (if b == 45 then option_map neg_ℤ (offset_of rest) else None)) ≡ Some z
    → (((b ≡ 43) ⊎ (b ≡ 32)) × IsOffset rest z) ⊎ ((b ≡ 45) × IsOffset rest (neg_ℤ z))
ahead_tells b rest z h = elim (if_tells ((b == 43) || (b == 32)) (offset_of rest) _ (Some z) h) [
  | inl k ↦ inl (plus_tells b k.0, offset_tells rest z k.1)
  | inr k ↦ inr (minus_tells b rest z k.1)
]

-- a zone that is neither
utc_tells : (b : ℕ) (rest : List ℕ) (z : ℤ) → (is_letter 90 b ≡ true) × ((at_end rest (pos 0)) ≡ Some z) → IsZone (b ∷ rest) z
utc_tells b rest z h = let end = end_tells rest (pos 0) z h.1 in inl (letter_tells 90 b h.0, end.0, sym end.1)

-- a zone that is found is one of the grammar
pub zone_tells : (text : List ℕ) (z : ℤ) → zone_of text ≡ Some z → IsZone text z
zone_tells [] z h = cc
zone_tells (b ∷ rest) z h = elim (if_tells (is_letter 90 b) (at_end rest (pos 0)) _ (Some z) h) [
  | inl k ↦ utc_tells b rest z k
  | inr k ↦ inr (ahead_tells b rest z k.1)
]

-- and each zone of the grammar is found
pub zone_given : (text : List ℕ) (z : ℤ) → IsZone text z → zone_of text ≡ Some z
zone_given [] z x = absurd x
zone_given (b ∷ rest) z (inl x) = if_given (is_letter 90 b) _ _ _ (letter_given 90 b x.0) (rw x.1 (ap Some (sym x.2)))
zone_given (b ∷ rest) z (inr (inl x)) =
    else_given (is_letter 90 b) _ _ _ (no_letter b (plus_small b x.0)) (if_given _ _ _ _ (plus_given b x.0) (offset_given rest z x.1))
zone_given (b ∷ rest) z (inr (inr x)) =
    let is = x.0 in
    else_given (is_letter 90 b) _ _ _ (no_letter b (omega arith))
    (else_given _ _ _ _ (or_from _ _ (ne_eqb b 43 (λ e. omega arith)) (ne_eqb b 32 (λ e. omega arith)))
    (if_given (b == 45) _ _ _ (eq-eqb b 45 x.0) (turned_given (offset_of rest) z (offset_given rest (neg_ℤ z) x.1))))
