-- The instant of a text, as it is computed, is the one that the grammar gives.
use Rattle.std.proofs.Common.{◌≡◌, ◌+◌, ℕ, List, Option, Some, None, MatchOption, ℤ, pos, ◌+ℤ◌, ◌-ℤ◌, ◌*ℤ◌, int_le, ◌&&◌, true, refl, sym, subst, arith}
use Rattle.std.proofs.lemmas.Int.{ints}
use Rattle.edr_base.specs.Limits.{earliest_time, latest_time}
use Rattle.edr_axes.specs.Instants.{IsTime}
use Rattle.edr_axes.specs.InstantGrammar.{IsInstant}
use Rattle.edr_axes.specs.InstantPieces.{IsEnd}
use Rattle.edr_axes.proofs.InstantWholes.{ArePieces, pieces_of, instant_of as instant_of_pieces}
use Rattle.edr_axes.specs.InstantComputed.{and_next, after_letter, date_at, minutes_at, second_at, zone_of, time_in_years, instant_of, InstantsAreRead}
use Rattle.edr_axes.proofs.ComputedSteps.{next_tells, next_given, when_tells, when_given, mark_tells, mark_given}
use Rattle.edr_axes.proofs.ComputedDates.{date_tells, date_given, minutes_tell, minutes_given}
use Rattle.edr_axes.proofs.ComputedZones.{zone_tells, zone_given}
use Rattle.edr_axes.proofs.ComputedSeconds.{BeginsWithSecond, second_tells, second_given}

-- a time that passes the test lies in the years 0000 to 9999
years_tell : (time : ℤ) → (int_le earliest_time time && int_le time latest_time) ≡ true → IsTime time
years_tell time h = grind (arith, ints)

-- and each such time passes it
years_given : (time : ℤ) → IsTime time → (int_le earliest_time time && int_le time latest_time) ≡ true
years_given time h = grind (arith, ints)

-- seconds and a zone end the text
end_of_parts : (text rest : List ℕ) (second : ℕ) (ahead : ℤ) → BeginsWithSecond text second rest → zone_of rest ≡ Some ahead → IsEnd text second ahead
end_of_parts text rest second ahead x zone =
    record { second_text = x.second_text; zone = rest; second_is = x.is; zone_is = zone_tells rest ahead zone; text_is = x.text_is }

-- an instant that is computed is one of the grammar
instant_tells : (text : List ℕ) (time : ℤ) → instant_of text ≡ Some time → IsInstant text time
unfolding instant_of
instant_tells text time h =
    let a = next_tells (date_at text) _ time h in
    let b = next_tells (after_letter 84 a.0.1) _ time a.2 in
    let c = next_tells (minutes_at b.0) _ time b.2 in
    let d = next_tells (second_at c.0.1) _ time c.2 in
    let e = next_tells (zone_of d.0.1) _ time d.2 in
    let p = when_tells _ ((a.0.0 *ℤ pos 86400 +ℤ pos (c.0.0 + d.0.0)) -ℤ e.0) time e.2 in
    let P : ℤ → Type 0 = IsTime in
    instant_of_pieces text time (record {
      day = a.0.0;
      seconds = c.0.0;
      second = d.0.0;
      ahead = e.0;
      after_date = a.0.1;
      after_mark = b.0;
      after_minutes = c.0.1;
      date_is = date_tells text a.0 a.1;
      mark_is = mark_tells a.0.1 b.0 b.1;
      minutes_are = minutes_tell b.0 c.0 c.1;
      end_is = end_of_parts c.0.1 d.0.1 d.0.0 e.0 (second_tells c.0.1 d.0 d.1) e.1;
      time_is = sym p.1;
      time_in = subst P p.1 (years_tell _ p.0);
    })

-- the end of the text, after hours and minutes
end_given : (day : ℤ) (seconds second : ℕ) (ahead time : ℤ) (text : List ℕ) → IsEnd text second ahead
    → time ≡ (day *ℤ pos 86400 +ℤ pos (seconds + second)) -ℤ ahead → IsTime time
    → and_next (second_at text) (λ s. and_next (zone_of s.1) (λ z. time_in_years ((day *ℤ pos 86400 +ℤ pos (seconds + s.0)) -ℤ z))) ≡ Some time
end_given day seconds second ahead time text x is within =
    let P : ℤ → Type 0 = IsTime in
    next_given (second_at text) _ (second, x.zone) time (rw x.text_is (second_given x.second_text x.zone second ahead x.second_is x.zone_is))
    (next_given (zone_of x.zone) _ ahead time (zone_given x.zone ahead x.zone_is)
    (when_given _ ((day *ℤ pos 86400 +ℤ pos (seconds + second)) -ℤ ahead) time (years_given _ (subst P is within)) (sym is)))

-- and each text in the pieces of the grammar is computed
pieces_given : (text : List ℕ) (time : ℤ) → ArePieces text time → instant_of text ≡ Some time
unfolding instant_of
pieces_given text time x =
    next_given (date_at text) _ (x.day, x.after_date) time (date_given text x.day x.after_date x.date_is)
    (next_given (after_letter 84 x.after_date) _ x.after_mark time (mark_given x.after_date x.after_mark x.mark_is)
    (next_given (minutes_at x.after_mark) _ (x.seconds, x.after_minutes) time (minutes_given x.after_mark x.seconds x.after_minutes x.minutes_are)
    (end_given x.day x.seconds x.second x.ahead time x.after_minutes x.end_is x.time_is x.time_in)))

-- the instant that is computed is the one of the grammar
pub instants_read : InstantsAreRead
instants_read text time = (instant_tells text time, λ x. pieces_given text time (pieces_of text time x))

-- a text that is no instant has none computed
none_read : (text : List ℕ) (o : Option ℤ) → ((t : ℤ) → ¬ (IsInstant text t)) → o ≡ instant_of text → None ≡ o
none_read text None none e = refl
none_read text (Some t) none e = absurd (none t (instant_tells text t (sym e)))

-- what is read of a text is the instant that is computed
pub instant_read : (text : List ℕ) (o : Option ℤ) → MatchOption o ((t : ℤ) → ¬ (IsInstant text t)) (λ t. IsInstant text t) → o ≡ instant_of text
instant_read text None h = none_read text (instant_of text) h refl
instant_read text (Some t) h = sym (pieces_given text t (pieces_of text t h))
