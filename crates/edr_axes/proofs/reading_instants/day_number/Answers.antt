use Rattle.std.proofs.Common.{◌≡◌, ℕ, ℤ, pos, ◌≤◌, ◌≤ℤ◌, refl, ap, subst, ◌∙◌, arith, to_z, of_z, to_z-of_z, w8, w16, w32, w64}
use Rattle.std.proofs.lemmas.Int.{ints, to_z_pos}
use Rattle.std.proofs.Math.IntN.{nat_abs}
use Rattle.jiff_core.specs.Calendar.{days_in_month, days_from_civil}
use Rattle.edr_axes.specs.Instants.{IsDay}
use Rattle.edr_axes.proofs.reading_instants.day_number.Goals as goal

-- a day whose number comes back is the day
is_day : (y m d : ℕ) (zy zm zd : ℤ) → zy ≡ pos y → zm ≡ pos m → zd ≡ pos d → y ≤ 9999 → (pos 1 ≤ℤ zm) × (zm ≤ℤ pos 12)
    → (pos 1 ≤ℤ zd) × (zd ≤ℤ pos (days_in_month zy (nat_abs zm))) → IsDay y m d
is_day y m d zy zm zd ey em ed year_in month_in day_in =
    let P : ℤ → ℤ → Type 0 = λ a b. zd ≤ℤ pos (days_in_month a (nat_abs b)) in
    let most : zd ≤ℤ pos (days_in_month (pos y) m) = subst (P (pos y)) em (subst (λ a. P a zm) ey day_in.1) in
    record { year_in = year_in; month_in = (omega (arith, ints, em, month_in.0), omega (arith, ints, em, month_in.1)); day_in = (omega (arith, ints, ed, day_in.0), omega (arith, ints, ed, most)) }

pub returns-in-Ok-clause-value : goal.returns-in-Ok-clause-value
returns-in-Ok-clause-value c =
    let n = c.to_unix_epoch_day.result in
    let bound = c.to_unix_epoch_day.ensures.bound in
    let back32 : to_z w32 (of_z w32 n) ≡ n = to_z-of_z {w = w32} (omega (arith, ints, bound.0, bound.1)) in
    let back64 : to_z w64 (of_z w64 n) ≡ n = to_z-of_z {w = w64} (omega (arith, ints, bound.0, bound.1)) in
    let ey : to_z w16 c.args.year ≡ pos c.args.year = to_z_pos w16 c.args.year (omega (arith, c.requires.year_in)) in
    let em : to_z w8 c.args.month ≡ pos c.args.month = to_z_pos w8 c.args.month (omega (arith, c.requires.month_in)) in
    let ed : to_z w8 c.args.day ≡ pos c.args.day = to_z_pos w8 c.args.day (omega (arith, c.requires.day_in)) in
    let in_calendar = c.in-Ok.ensures.succeeds.0 refl in
    let value = c.in-Ok.ensures.value in
    let month_is : c.in-Ok.date.month ≡ c.args.month = omega (arith, ints, em, value.1) in
    let day_is : c.in-Ok.date.day ≡ c.args.day = omega (arith, ints, ed, value.2) in
    let date = c.to_plain.ensures in (
      is_day c.args.year c.args.month c.args.day _ _ _ ey em ed c.requires.year_in in_calendar.1 in_calendar.2,
      ap (λ z. to_z w64 (of_z w64 z)) back32 ∙ back64 ∙ c.to_unix_epoch_day.ensures.value ∙ ap (λ d. days_from_civil d.year d.month d.day) date
          ∙ ap (λ y. days_from_civil y c.in-Ok.date.month c.in-Ok.date.day) (value.0 ∙ ey)
          ∙ ap (λ m. days_from_civil (pos c.args.year) m c.in-Ok.date.day) month_is ∙ ap (λ d. days_from_civil (pos c.args.year) c.args.month d) day_is,
    )
