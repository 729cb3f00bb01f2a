-- The text of a time is UTF-8.
use Rattle.std.proofs.Common.{◌≡◌, ℕ, ◌+◌, ◌/◌, ◌%◌, ◌<◌, ℤ, List, [], ◌∷◌, ◌++◌, true, IsUtf8, refl, arith}
use Rattle.std.proofs.lemmas.Bool.Decides.{nat_tests}
use Rattle.json.proofs.Printed.Utf8.{are_ascii, IsUtf8-are_ascii}
use Rattle.edr_axes.specs.Instants.{Civil, IsDay, IsCivil, pad2, civil_text, IsWritten}

are_ascii-cons : (byte : ℕ) (bytes : List ℕ) → byte < 128 → are_ascii bytes ≡ true → are_ascii (byte ∷ bytes) ≡ true
are_ascii-cons byte bytes low rest = grind (arith, nat_tests)

are_ascii-pad2 : (n : ℕ) (bytes : List ℕ) → n < 100 → are_ascii bytes ≡ true → are_ascii (pad2 n ++ bytes) ≡ true
are_ascii-pad2 n bytes low rest = are_ascii-cons (48 + n / 10) ((48 + n % 10) ∷ bytes) (omega arith) (are_ascii-cons (48 + n % 10) bytes (omega arith) rest)

day_below : (year month day : ℕ) → IsDay year month day → day < 100
day_below year month day h = grind (arith, h.day_in)

are_ascii-civil_text : (c : Civil) → IsCivil c → are_ascii (civil_text c) ≡ true
are_ascii-civil_text c h =
    let second : List ℕ = pad2 c.second ++ 90 ∷ [] in
    let minute : List ℕ = pad2 c.minute ++ 58 ∷ second in
    let hour : List ℕ = pad2 c.hour ++ 58 ∷ minute in
    let day : List ℕ = pad2 c.day ++ 84 ∷ hour in
    let month : List ℕ = pad2 c.month ++ 45 ∷ day in
    let years : List ℕ = pad2 (c.year % 100) ++ 45 ∷ month in
    are_ascii-pad2 (c.year / 100) years (omega (arith, h.date.year_in))
    (are_ascii-pad2 (c.year % 100) (45 ∷ month) (omega arith)
    (are_ascii-pad2 c.month (45 ∷ day) (omega (arith, h.date.month_in))
    (are_ascii-pad2 c.day (84 ∷ hour) (day_below c.year c.month c.day h.date)
    (are_ascii-pad2 c.hour (58 ∷ minute) (omega (arith, h.clock.hour_in))
    (are_ascii-pad2 c.minute (58 ∷ second) (omega (arith, h.clock.minute_in))
    (are_ascii-pad2 c.second (90 ∷ []) (omega (arith, h.clock.second_in)) refl))))))

pub IsUtf8-IsWritten : (text : List ℕ) (time : ℤ) → IsWritten text time → IsUtf8 text
IsUtf8-IsWritten text time h = rw (h.2) (IsUtf8-are_ascii (civil_text h.0) (are_ascii-civil_text h.0 h.1))
