-- Whole instants, piece by piece.
use Rattle.std.proofs.Common.{◌≡◌, ℕ, ◌+◌, ◌*◌, ◌<◌, inl, inr, List, [], ◌∷◌, ◌++◌, refl, sym, ap, subst, ◌∙◌, arith, ℤ, pos, ◌+ℤ◌, ◌-ℤ◌, ◌*ℤ◌, neg_ℤ, to_z, of_z, w64, Option, Some, None, MatchOption}
use Rattle.jiff_core.proofs.SignedLemmas.{signed_arith}
use Rattle.jiff_core.specs.Calendar.{IsBetween, IsEpochDay, days_from_civil}
use Rattle.edr_axes.proofs.InstantTexts.{small_back}
use Rattle.edr_axes.specs.Instants.{IsTime, seconds_of, pad2, instant_text}
use Rattle.edr_axes.specs.InstantGrammar.{minutes_text, date_text, IsInstant}
use Rattle.edr_axes.proofs.InstantLemmas.{is_written}
use Rattle.edr_axes.specs.InstantPieces.{BeginsWithDate, HasNoDate, BeginsWithMark, HasNoMark, BeginsWithMinutes, HasNoMinutes, IsEnd, HasNoEnd}
use Rattle.edr_axes.proofs.InstantTexts.{date_unique, minutes_unique}
use Rattle.edr_axes.proofs.InstantEnds.{end_unique, second_below}

-- the pieces of an instant
pub record ArePieces (text : List ℕ) (time : ℤ) : Type 0 where
  pub day : ℤ
  pub seconds : ℕ
  pub second : ℕ
  pub ahead : ℤ
  pub after_date : List ℕ
  pub after_mark : List ℕ
  pub after_minutes : List ℕ
  pub date_is : BeginsWithDate text day after_date
  pub mark_is : BeginsWithMark after_date after_mark
  pub minutes_are : BeginsWithMinutes after_mark seconds after_minutes
  pub end_is : IsEnd after_minutes second ahead
  pub time_is : time ≡ (day *ℤ pos 86400 +ℤ pos (seconds + second)) -ℤ ahead
  pub time_in : IsTime time

pub pieces_of : (text : List ℕ) (time : ℤ) → IsInstant text time → ArePieces text time
unfolding seconds_of
pieces_of text time x =
    let c = x.shown in let date = x.shown_is.date in let clock = x.shown_is.clock in
    record {
      day = days_from_civil (pos c.year) c.month c.day;
      seconds = c.hour * 3600 + c.minute * 60;
      second = c.second;
      ahead = x.ahead;
      after_date = x.mark ∷ (minutes_text c.hour c.minute ++ (x.second_text ++ x.zone_text));
      after_mark = minutes_text c.hour c.minute ++ (x.second_text ++ x.zone_text);
      after_minutes = x.second_text ++ x.zone_text;
      date_is = record { year = c.year; month = c.month; day = c.day; day_is = date; text_is = x.text_is; number_is = refl };
      mark_is = record { mark = x.mark; mark_is = x.mark_is; text_is = refl };
      minutes_are = record { hour = c.hour; minute = c.minute; hour_in = clock.hour_in; minute_in = clock.minute_in; text_is = refl; seconds_is = refl };
      end_is = record { second_text = x.second_text; zone = x.zone_text; second_is = x.second_is; zone_is = x.zone_is; text_is = refl };
      time_is = x.time_is;
      time_in = x.time_in;
    }

pub instant_of : (text : List ℕ) (time : ℤ) → ArePieces text time → IsInstant text time
unfolding seconds_of
instant_of text time p =
    let d = p.date_is in let m = p.mark_is in let k = p.minutes_are in let e = p.end_is in
    record {
      shown = record { year = d.year; month = d.month; day = d.day; hour = k.hour; minute = k.minute; second = p.second };
      mark = m.mark;
      second_text = e.second_text;
      zone_text = e.zone;
      ahead = p.ahead;
      text_is = d.text_is ∙ ap (λ t. date_text d.year d.month d.day ++ t)
          (m.text_is ∙ ap (λ t. m.mark ∷ t) (k.text_is ∙ ap (λ t. minutes_text k.hour k.minute ++ t) e.text_is));
      shown_is = record {
        date = d.day_is;
        clock = record { hour_in = k.hour_in; minute_in = k.minute_in; second_in = second_below p.second e.second_text e.second_is };
      };
      mark_is = m.mark_is;
      second_is = e.second_is;
      zone_is = e.zone_is;
      time_is = p.time_is ∙ ap (λ n. (n *ℤ pos 86400 +ℤ pos (p.seconds + p.second)) -ℤ p.ahead) d.number_is
          ∙ ap (λ n. (days_from_civil (pos d.year) d.month d.day *ℤ pos 86400 +ℤ pos (n + p.second)) -ℤ p.ahead) k.seconds_is;
      time_in = p.time_in;
    }

-- ---- one place for each piece

pub mark_unique : (text p q : List ℕ) → BeginsWithMark text p → BeginsWithMark text q → p ≡ q
mark_unique text p q x y = cc (x.text_is, y.text_is)

date_place : (text p : List ℕ) (n t : ℤ) → BeginsWithDate text n p → (x : ArePieces text t)
    → (n ≡ x.day) × (p ≡ x.after_date)
date_place text p n t d x = date_unique text n x.day p x.after_date d x.date_is

mark_place : (text p q : List ℕ) (n t : ℤ) → BeginsWithDate text n p → BeginsWithMark p q → (x : ArePieces text t)
    → q ≡ x.after_mark
mark_place text p q n t d m x =
    let P : List ℕ → Type 0 = λ r. BeginsWithMark r x.after_mark in
    mark_unique p q x.after_mark m (subst P (sym (date_place text p n t d x).1) x.mark_is)

minutes_place : (text p q r : List ℕ) (n t : ℤ) (k : ℕ) → BeginsWithDate text n p → BeginsWithMark p q
    → BeginsWithMinutes q k r
    → (x : ArePieces text t) → (k ≡ x.seconds) × (r ≡ x.after_minutes)
minutes_place text p q r n t k d m h x =
    let P : List ℕ → Type 0 = λ l. BeginsWithMinutes l x.seconds x.after_minutes in
    minutes_unique q k x.seconds r x.after_minutes h (subst P (sym (mark_place text p q n t d m x)) x.minutes_are)

end_place : (text p q r : List ℕ) (n z t : ℤ) (k s : ℕ) → BeginsWithDate text n p → BeginsWithMark p q
    → BeginsWithMinutes q k r → IsEnd r s z
    → (x : ArePieces text t) → (s ≡ x.second) × (z ≡ x.ahead)
end_place text p q r n z t k s d m h e x =
    let P : List ℕ → Type 0 = λ l. IsEnd l x.second x.ahead in
    end_unique r s x.second z x.ahead e (subst P (sym (minutes_place text p q r n t k d m h x).1) x.end_is)

time_place : (text p q r : List ℕ) (n z t : ℤ) (k s : ℕ) → BeginsWithDate text n p → BeginsWithMark p q
    → BeginsWithMinutes q k r → IsEnd r s z
    → ArePieces text t → t ≡ (n *ℤ pos 86400 +ℤ pos (k + s)) -ℤ z
time_place text p q r n z t k s d m h e x =
    let day = (date_place text p n t d x).0 in
    let seconds = (minutes_place text p q r n t k d m h x).0 in
    let end = end_place text p q r n z t k s d m h e x in
    let P : ℤ → Type 0 = λ v. v ≡ (n *ℤ pos 86400 +ℤ pos (k + s)) -ℤ z in
    let same : (x.day *ℤ pos 86400 +ℤ pos (x.seconds + x.second)) -ℤ x.ahead ≡ (n *ℤ pos 86400 +ℤ pos (k + s)) -ℤ z = cc (day, seconds, end.0, end.1) in
    x.time_is ∙ same

-- ---- no instant, by the piece at which the text breaks off

abbrev pub NoInstant : List ℕ → Type 0
NoInstant text = (time : ℤ) → ¬ (IsInstant text time)

pub no_date : (text : List ℕ) → HasNoDate text → NoInstant text
no_date text none t x = let y = pieces_of text t x in none y.day y.after_date y.date_is

pub no_mark : (text p : List ℕ) (n : ℤ) → BeginsWithDate text n p → HasNoMark p → NoInstant text
no_mark text p n d none t x =
    let y = pieces_of text t x in
    let P : List ℕ → Type 0 = λ r. BeginsWithMark r y.after_mark in
    none y.after_mark (subst P (sym (date_place text p n t d y).1) y.mark_is)

pub no_minutes : (text p q : List ℕ) (n : ℤ) → BeginsWithDate text n p → BeginsWithMark p q → HasNoMinutes q → NoInstant text
no_minutes text p q n d m none t x =
    let y = pieces_of text t x in
    let P : List ℕ → Type 0 = λ l. BeginsWithMinutes l y.seconds y.after_minutes in
    none y.seconds y.after_minutes (subst P (sym (mark_place text p q n t d m y)) y.minutes_are)

pub no_end : (text p q r : List ℕ) (n : ℤ) (k : ℕ) → BeginsWithDate text n p → BeginsWithMark p q
    → BeginsWithMinutes q k r → HasNoEnd r → NoInstant text
no_end text p q r n k d m h none t x =
    let y = pieces_of text t x in
    let P : List ℕ → Type 0 = λ l. IsEnd l y.second y.ahead in
    none y.second y.ahead (subst P (sym (minutes_place text p q r n t k d m h y).1) y.end_is)

-- a time of 64 bits, computed from numbers of 64 bits
pub time_of_bits : (time n z : ℤ) (k : ℕ) → IsEpochDay n → IsBetween (neg_ℤ (pos 86340)) (pos 86340) z → k < 86400
    → time ≡ (to_z w64 (of_z w64 n) *ℤ pos 86400 +ℤ pos k) -ℤ to_z w64 (of_z w64 z)
    → to_z w64 (of_z w64 time) ≡ (n *ℤ pos 86400 +ℤ pos k) -ℤ z
time_of_bits time n z k day ahead within e =
    let is : time ≡ (n *ℤ pos 86400 +ℤ pos k) -ℤ z =
    e ∙ ap (λ v. (v *ℤ pos 86400 +ℤ pos k) -ℤ to_z w64 (of_z w64 z)) (small_back n (omega (arith, signed_arith, day)))
    ∙ ap (λ v. (n *ℤ pos 86400 +ℤ pos k) -ℤ v) (small_back z (omega (arith, signed_arith, ahead))) in
    small_back time (omega (arith, signed_arith, is, day, ahead)) ∙ is

-- the pieces of a text, and whether their time is one
pub whole : (text p q r : List ℕ) (n z time : ℤ) (k s : ℕ) (read : Option ℤ) → BeginsWithDate text n p → BeginsWithMark p q
    → BeginsWithMinutes q k r → IsEnd r s z → time ≡ (n *ℤ pos 86400 +ℤ pos (k + s)) -ℤ z
    → MatchOption read (¬ (IsTime time)) (λ same. (same ≡ time) × IsTime time)
    → MatchOption read (NoInstant text) (λ t. IsInstant text t)
whole text p q r n z time k s None d m h e is outside = λ t x.
    let y = pieces_of text t x in
    let P : ℤ → Type 0 = λ v. IsTime v in
    outside (subst P (time_place text p q r n z t k s d m h e y ∙ sym is) y.time_in)
whole text p q r n z time k s (Some t) d m h e is inside =
    let P : ℤ → Type 0 = λ v. IsTime v in
    instant_of text t (record {
      day = n;
      seconds = k;
      second = s;
      ahead = z;
      after_date = p;
      after_mark = q;
      after_minutes = r;
      date_is = d;
      mark_is = m;
      minutes_are = h;
      end_is = e;
      time_is = inside.0 ∙ is;
      time_in = subst P (sym inside.0) inside.1;
    })

-- a text is at most one instant
pub instant_unique : (text : List ℕ) (time other : ℤ) → IsInstant text time → IsInstant text other → time ≡ other
instant_unique text time other x y =
    let p = pieces_of text time x in
    p.time_is ∙ sym (time_place text p.after_date p.after_mark p.after_minutes p.day p.ahead other p.seconds p.second
    p.date_is p.mark_is p.minutes_are p.end_is (pieces_of text other y))

-- the text that is written of a time stands for it
pub written_instant : (time : ℤ) → IsTime time → IsInstant (instant_text time) time
written_instant time h =
    let w = is_written time h in
    let c = w.0 in
    let clock = w.1.clock in
    let seconds = w.3 in
    record {
      shown = c;
      mark = 84;
      second_text = 58 ∷ pad2 c.second;
      zone_text = 90 ∷ [];
      ahead = pos 0;
      text_is = w.2;
      shown_is = w.1;
      mark_is = inl refl;
      second_is = inr (record { fraction = []; second_in = clock.second_in; fraction_is = inl refl; text_is = refl });
      zone_is = inl (inl refl, refl, refl);
      time_is = omega (arith, signed_arith, seconds);
      time_in = h;
    }
