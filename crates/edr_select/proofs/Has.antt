-- Tests of times and levels against what the texts of times and levels stand for.
use Rattle.std.proofs.Common.{◌≡◌, ℕ, zero, suc, ◌<◌, Bool, true, false, List, [], ◌∷◌, length, get_or, refl, sym, arith, inl, inr, Some, None, ℤ, pos, ◌≤ℤ◌, ◌<ℤ◌, ◌+ℤ◌, ◌*ℤ◌, int_le, Contains}
use Rattle.std.specs.declared.option.Option.{Option}
use Rattle.std.specs.Prelude.{◌&&◌, ◌||◌, ◌↔◌, IsTrue, negsuc}
use Rattle.std.specs.Ordering.{int_eq}
use Rattle.std.specs.List.{list_any}
use Rattle.std.proofs.lemmas.Bool.{or_cases}
use Rattle.std.proofs.lemmas.Bool.Decides.{Decides-int_eq}
use Rattle.std.proofs.lemmas.Int.{ints}
use Rattle.edr_axes.specs.declared.times.Times.{Times}
use Rattle.edr_axes.specs.declared.times.Times.TheVariants as times
use Rattle.edr_axes.specs.declared.levels.Levels.{Levels}
use Rattle.edr_axes.specs.declared.levels.Levels.TheVariants as levels
use Rattle.edr_axes.specs.Times.{HasTime, IsFrom, IsUntil}
use Rattle.edr_axes.specs.Levels.{HasLevel, IsInSeries}
use Rattle.edr_select.specs.Wanted.{is_from, is_until, has_time, has_level}
use Rattle.edr_select.specs.ListLaws.{both, passes_at, any_range}

le_true : (a b : ℤ) → a ≤ℤ b → int_le a b ≡ true
le_true a b h = grind (arith, ints)

le_from : (a b : ℤ) → int_le a b ≡ true → a ≤ℤ b
le_from a b h = omega (arith, ints, h)

pair_true : (b c : Bool) → b ≡ true → c ≡ true → (b && c) ≡ true
pair_true b c e f = rw (e, f) refl

first : (b c : Bool) → (b && c) ≡ true → b ≡ true
first true c e = refl
first false c e = e

second : (b c : Bool) → (b && c) ≡ true → c ≡ true
second true c e = e
second false c e = cc

from_test : (side : Option ℤ) (t : ℤ) → IsFrom side t → is_from side t ≡ true
from_test None t h = refl
from_test (Some s) t h = le_true s t h

from_back : (side : Option ℤ) (t : ℤ) → is_from side t ≡ true → IsFrom side t
from_back None t h = tt
from_back (Some s) t h = le_from s t h

until_test : (side : Option ℤ) (t : ℤ) → IsUntil side t → is_until side t ≡ true
until_test None t h = refl
until_test (Some s) t h = le_true t s h

until_back : (side : Option ℤ) (t : ℤ) → is_until side t ≡ true → IsUntil side t
until_back None t h = tt
until_back (Some s) t h = le_from t s h

pub time_test : (ts : Times) (t : ℤ) → HasTime ts t → has_time ts t ≡ true
time_test times.All t h = refl
time_test (times.At only) t h = (Decides-int_eq t only).1 h
time_test (times.Between first last) t h = pair_true (is_from first t) (is_until last t) (from_test first t h.0) (until_test last t h.1)

pub time_back : (ts : Times) (t : ℤ) → has_time ts t ≡ true → HasTime ts t
time_back times.All t h = tt
time_back (times.At only) t h = (Decides-int_eq t only).0 h
time_back (times.Between low high) t h = (from_back low t (first (is_from low t) (is_until high t) h), until_back high t (second (is_from low t) (is_until high t) h))

pub has_time_is : (ts : Times) (t : ℤ) (b : Bool) → (IsTrue b ↔ HasTime ts t) → b ≡ has_time ts t
has_time_is ts t b h = both b (has_time ts t) (λ e. time_test ts t (h.0 e)) (λ e. h.1 (time_back ts t e))

or_left : (x y : Bool) → x ≡ true → (x || y) ≡ true
or_left x y h = rw h refl

or_right : (x y : Bool) → y ≡ true → (x || y) ≡ true
or_right true y h = refl
or_right false y h = h

among : (l : ℤ) (ls : List ℤ) (k : ℕ) → k < length ls → get_or ls k l ≡ l → list_any (int_eq l) ls ≡ true
among l [] k inside e = absurd (omega arith)
among l (x ∷ xs) zero inside e = or_left (int_eq l x) (list_any (int_eq l) xs) ((Decides-int_eq l x).1 (sym e))
among l (x ∷ xs) (suc k) inside e = or_right (int_eq l x) (list_any (int_eq l) xs) (among l xs k (omega arith) e)

among_back : (l : ℤ) (ls : List ℤ) → list_any (int_eq l) ls ≡ true → Contains ls l
among_back l [] h = cc
among_back l (x ∷ xs) h =
    elim (or_cases (int_eq l x) (list_any (int_eq l) xs) h) [
      | inl here ↦ (0, omega arith, sym ((Decides-int_eq l x).0 here))
      | inr later ↦ let c = among_back l xs later in (suc c.0, omega (arith, c.1), c.2)
    ]

in_series : (n first step l : ℤ) (k : ℕ) → pos k <ℤ n → l ≡ first +ℤ pos k *ℤ step → has_level (levels.Series n first step) l ≡ true
in_series (pos n) first step l k h e =
    any_range (λ k. int_eq l (first +ℤ pos k *ℤ step)) 0 n k (omega arith) (omega (arith, ints, h)) ((Decides-int_eq l (first +ℤ pos k *ℤ step)).1 e)
in_series (negsuc n) first step l k h e = absurd (omega (arith, ints, h))

series_back : (n first step l : ℤ) → has_level (levels.Series n first step) l ≡ true → IsInSeries n first step l
series_back (pos n) first step l h =
    let f = passes_at (λ k. int_eq l (first +ℤ pos k *ℤ step)) 0 n h in
    (f.place, omega (arith, ints, f.high), (Decides-int_eq l (first +ℤ pos f.place *ℤ step)).0 f.passes)
series_back (negsuc n) first step l h = cc

pub level_test : (ls : Levels) (l : ℤ) → HasLevel ls l → has_level ls l ≡ true
level_test levels.All l h = refl
level_test (levels.At only) l h = (Decides-int_eq l only).1 h
level_test (levels.Between low high) l h = pair_true (int_le low l) (int_le l high) (le_true low l h.0) (le_true l high h.1)
level_test (levels.List these) l h = among l these h.0 h.1 h.2
level_test (levels.Series n first step) l h = in_series n first step l h.0 h.1 h.2

pub level_back : (ls : Levels) (l : ℤ) → has_level ls l ≡ true → HasLevel ls l
level_back levels.All l h = tt
level_back (levels.At only) l h = (Decides-int_eq l only).0 h
level_back (levels.Between low high) l h = (le_from low l (first (int_le low l) (int_le l high) h), le_from l high (second (int_le low l) (int_le l high) h))
level_back (levels.List these) l h = among_back l these h
level_back (levels.Series n first step) l h = series_back n first step l h

pub has_level_is : (ls : Levels) (l : ℤ) (b : Bool) → (IsTrue b ↔ HasLevel ls l) → b ≡ has_level ls l
has_level_is ls l b h = both b (has_level ls l) (λ e. level_test ls l (h.0 e)) (λ e. h.1 (level_back ls l e))
