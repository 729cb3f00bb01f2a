-- The faults of observations, in the order of all faults of their table.
use Rattle.std.proofs.Common.{◌≡◌, ◌⊎◌, inl, inr, ℕ, ◌+◌, ◌-◌, ◌<◌, ℤ, List, [], ◌∷◌, ◌++◌, length, replicate, get_or, Option, Some, None, All, refl, sym, ap, subst, ◌∙◌, arith}
use Rattle.std.proofs.lemmas.List.{ext_get_or, length-append}
use Rattle.edr_base.specs.FirstThatApplies.{IsLeast, IsFirstPlace}
use Rattle.edr_base.specs.Numbers.{IsWhole, sign_text}
use Rattle.edr_axes.specs.InstantGrammar.{InstantsAreUnique}
use Rattle.edr_csv.specs.declared.observations.Observation.{Observation}
use Rattle.edr_csv.specs.declared.observations.TableFault.{TableFault}
use Rattle.edr_csv.specs.declared.observations.TableFault.TheVariants.{NotHeader, BadRecord, BadField, PlaceDiffers, SameSample, NoRecords, OutOfMemory}
use Rattle.edr_csv.specs.Observations.{Applies, AreBehind, DiffersAt, IsBehindHeader, IsHeaded, IsObservation, IsValueText, RepeatsAt, rank}
use Rattle.edr_csv.specs.Forms.{AreSevens}
use Rattle.edr_csv.specs.Notes.{IsKeyed, IsOwnFault}
use Rattle.edr_csv.proofs.ReadLemmas.{all_right}

-- what observations are keyed by
pub keyed : (rows : List (List (List ℕ))) (count : ℕ) (os : List Observation) → AreBehind rows count os → All IsKeyed os
keyed rows count os are k d inside =
    let is : IsObservation (get_or rows (k + 1) []) (get_or os k d) = are.each k d inside in
    record { t = is.t.time_in; station = is.station.1; parameter = is.parameter.1 }

-- ---- a record stands for one observation

-- nothing is no number
nothing : (v : ℤ) → ¬ (IsWhole [] v)
nothing v is =
    let whole = ap length is.text_is in
    let signed = ap length is.is_numeral.text_is in
    let digits = ap length is.is_numeral.is_unsigned.text_is in
    elim is.is_numeral.is_unsigned.some [
      | inl some ↦ omega (arith, whole, signed, digits, some, length-append (replicate is.before 32) (is.numeral ++ replicate is.after 32), length-append is.numeral (replicate is.after 32), length-append (sign_text is.is_numeral.sign) is.is_numeral.unsigned, length-append is.is_numeral.is_unsigned.digits is.is_numeral.is_unsigned.point)
      | inr some ↦ omega (arith, whole, signed, digits, some, length-append (replicate is.before 32) (is.numeral ++ replicate is.after 32), length-append is.numeral (replicate is.after 32), length-append (sign_text is.is_numeral.sign) is.is_numeral.unsigned, length-append is.is_numeral.is_unsigned.digits is.is_numeral.is_unsigned.point)
    ]

module _ (numbers : (text : List ℕ) (v w : ℤ) → IsWhole text v → IsWhole text w → v ≡ w) (instants : InstantsAreUnique) where
  one_value : (text : List ℕ) (v w : Option ℤ) → IsValueText text v → IsValueText text w → v ≡ w
  one_value text None None p q = refl
  one_value text None (Some w) p q = absurd (nothing w (subst (λ (t : List ℕ). IsWhole t w) p q.0))
  one_value text (Some v) None p q = absurd (nothing v (subst (λ (t : List ℕ). IsWhole t v) q p.0))
  one_value text (Some v) (Some w) p q = ap Some (numbers text v w p.0 q.0)

  one_observation : (fields : List (List ℕ)) (a b : Observation) → IsObservation fields a → IsObservation fields b → a ≡ b
  one_observation fields a b p q =
      let station : a.station ≡ b.station = p.station.0 ∙ sym q.station.0 in
      let label : a.label ≡ b.label = p.label.0 ∙ sym q.label.0 in
      let x : a.x ≡ b.x = numbers _ a.x b.x p.x.0 q.x.0 in
      let y : a.y ≡ b.y = numbers _ a.y b.y p.y.0 q.y.0 in
      let t : a.t ≡ b.t = instants _ a.t b.t p.t q.t in
      let parameter : a.parameter ≡ b.parameter = p.parameter.0 ∙ sym q.parameter.0 in
      let value : a.value ≡ b.value = one_value _ a.value b.value p.value q.value in
      let first : a ≡ record a { station = b.station } = subst (λ (s : List ℕ). a ≡ record a { station = s }) station refl in
      let second : a ≡ record a { station = b.station; label = b.label } = subst (λ (s : List ℕ). a ≡ record a { station = b.station; label = s }) label first in
      let third : a ≡ record a { station = b.station; label = b.label; x = b.x } = subst (λ (n : ℤ). a ≡ record a { station = b.station; label = b.label; x = n }) x second in
      let fourth : a ≡ record a { station = b.station; label = b.label; x = b.x; y = b.y } = subst (λ (n : ℤ). a ≡ record a { station = b.station; label = b.label; x = b.x; y = n }) y third in
      let fifth : a ≡ record a { station = b.station; label = b.label; x = b.x; y = b.y; t = b.t } = subst (λ (n : ℤ). a ≡ record a { station = b.station; label = b.label; x = b.x; y = b.y; t = n }) t fourth in
      let sixth : a ≡ record a { station = b.station; label = b.label; x = b.x; y = b.y; t = b.t; parameter = b.parameter } = subst (λ (s : List ℕ). a ≡ record a { station = b.station; label = b.label; x = b.x; y = b.y; t = b.t; parameter = s }) parameter fifth in
      subst (λ (v : Option ℤ). a ≡ record a { station = b.station; label = b.label; x = b.x; y = b.y; t = b.t; parameter = b.parameter; value = v }) value sixth

  module _ (rows : List (List (List ℕ))) where
    one_list : (count : ℕ) (os ps : List Observation) → AreBehind rows count os → AreBehind rows count ps → os ≡ ps
    one_list count [] [] are and = refl
    one_list count [] (p ∷ ps) are and = (let some = are.as_many in let other = and.as_many in absurd (omega (arith, some, other)))
    one_list count (o ∷ os) [] are and = (let some = are.as_many in let other = and.as_many in absurd (omega (arith, some, other)))
    one_list count (o ∷ os) (p ∷ ps) are and =
        let some = are.as_many in
        let other = and.as_many in
        ext_get_or o (o ∷ os) (p ∷ ps) (omega (arith, some, other))
        (λ k inside. one_observation (get_or rows (k + 1) []) (get_or (o ∷ os) k o) (get_or (p ∷ ps) k o) (are.each k o inside) (and.each k o (omega (arith, some, other, inside))))

    -- ---- the first fault

    module _ (headed : IsHeaded rows) (sevens : AreSevens rows) (os : List Observation) (are : AreBehind rows (length rows) os) where
      right_at : (place : ℕ) → IsBehindHeader rows place → (o : Observation) × IsObservation (get_or rows place []) o
      right_at place here = at os are
        where
          at : (os : List Observation) → AreBehind rows (length rows) os → (o : Observation) × IsObservation (get_or rows place []) o
          at [] none = (let within = here.within in let behind = here.behind in let some = none.as_many in absurd (omega (arith, within, behind, some)))
          at (o ∷ os) some =
              let within = here.within in
              let behind = here.behind in
              let many = some.as_many in
              let back : (place - 1) + 1 ≡ place = omega (arith, behind) in
              (get_or (o ∷ os) (place - 1) o, subst (λ (n : ℕ). IsObservation (get_or rows n []) (get_or (o ∷ os) (place - 1) o)) back (some.each (place - 1) o (omega (arith, within, behind, many))))

      lower : (other : TableFault) → rank other < 4 → ¬ (Applies rows other)
      lower NotHeader before bad = bad headed
      lower (BadRecord n) before bad = bad.1.applies.1 (sevens bad.0 bad.1.applies.0)
      lower (BadField n c) before bad =
          let wrong = bad.1.applies in
          let right = right_at bad.0 wrong.1.0 in
          wrong.1.1 (all_right rows (get_or rows bad.0 []) right.0 right.1 wrong.0)
      lower (PlaceDiffers n) before bad = absurd (omega (arith, before))
      lower (SameSample n) before bad = absurd (omega (arith, before))
      lower NoRecords before bad = absurd (omega (arith, before))
      lower OutOfMemory before bad = absurd (omega (arith, before))

      lower_places : ((k : ℕ) → ¬ (DiffersAt os k)) → (other : TableFault) → rank other < 5 → ¬ (Applies rows other)
      lower_places none NotHeader before bad = lower NotHeader (omega arith) bad
      lower_places none (BadRecord n) before bad = lower (BadRecord n) (omega arith) bad
      lower_places none (BadField n c) before bad = lower (BadField n c) (omega arith) bad
      lower_places none (PlaceDiffers n) before bad =
          none bad.2 (subst (λ (l : List Observation). DiffersAt l bad.2) (one_list (length rows) bad.0 os bad.1.1 are) bad.3.applies)
      lower_places none (SameSample n) before bad = absurd (omega (arith, before))
      lower_places none NoRecords before bad = absurd (omega (arith, before))
      lower_places none OutOfMemory before bad = absurd (omega (arith, before))

      lower_samples : ((k : ℕ) → ¬ (DiffersAt os k)) → ((k : ℕ) → ¬ (RepeatsAt os k)) → (other : TableFault) → rank other < 6 → ¬ (Applies rows other)
      lower_samples none single NotHeader before bad = lower NotHeader (omega arith) bad
      lower_samples none single (BadRecord n) before bad = lower (BadRecord n) (omega arith) bad
      lower_samples none single (BadField n c) before bad = lower (BadField n c) (omega arith) bad
      lower_samples none single (PlaceDiffers n) before bad = lower_places none (PlaceDiffers n) (omega arith) bad
      lower_samples none single (SameSample n) before bad =
          single bad.2 (subst (λ (l : List Observation). RepeatsAt l bad.2) (one_list (length rows) bad.0 os bad.1.1 are) bad.3.applies)
      lower_samples none single NoRecords before bad = absurd (omega (arith, before))
      lower_samples none single OutOfMemory before bad = absurd (omega (arith, before))

      least_differing : (place : ℕ) → IsFirstPlace (DiffersAt os) place → IsLeast rank (Applies rows) (PlaceDiffers (place + 2))
      least_differing place first = record { applies = (os, (headed, are), place, first, refl); none_before = lower }

      least_repeating : (place : ℕ) → ((k : ℕ) → ¬ (DiffersAt os k)) → IsFirstPlace (RepeatsAt os) place → IsLeast rank (Applies rows) (SameSample (place + 2))
      least_repeating place none first = record { applies = (os, (headed, are), place, first, refl); none_before = lower_places none }

      least_none : os ≡ [] → IsLeast rank (Applies rows) NoRecords
      least_none e = record { applies = (headed, subst (AreBehind rows (length rows)) e are); none_before = lower_samples (no_differing os e) (no_repeating os e) }
        where
          no_differing : (os : List Observation) → os ≡ [] → (k : ℕ) → ¬ (DiffersAt os k)
          no_differing os e k at = (let within = subst (λ (l : List Observation). k < length l) e at.within in omega (arith, within))

          no_repeating : (os : List Observation) → os ≡ [] → (k : ℕ) → ¬ (RepeatsAt os k)
          no_repeating os e k at = (let within = subst (λ (l : List Observation). k < length l) e at.within in omega (arith, within))

      pub own_fault : (fault : TableFault) → IsOwnFault os fault → (fault ≡ OutOfMemory) ⊎ IsLeast rank (Applies rows) fault
      own_fault fault (inl wants) = inl wants
      own_fault fault (inr (inl (place, is, first))) = inr (subst (IsLeast rank (Applies rows)) (sym is) (least_differing place first))
      own_fault fault (inr (inr (inl (place, is, none, first)))) = inr (subst (IsLeast rank (Applies rows)) (sym is) (least_repeating place none first))
      own_fault fault (inr (inr (inr (is, none)))) = inr (subst (IsLeast rank (Applies rows)) (sym is) (least_none none))
