-- No slash stands in an instant.
use Rattle.std.proofs.Common.{◌≡◌, ◌≢◌, inl, inr, ℕ, zero, suc, ◌<◌, ◌/◌, ◌%◌, List, [], ◌∷◌, ◌++◌, All, sym, subst, arith, ℤ}
use Rattle.std.specs.Bool.{⊤}
use Rattle.std.specs.List.{Contains}
use Rattle.edr_axes.specs.Instants.{pad2}
use Rattle.edr_axes.specs.InstantGrammar.{date_text, minutes_text, IsEitherCase, IsFraction, IsSecond, IsOffset, IsZone, IsInstant}

-- no byte is the mark
abbrev pub Lacks : ℕ → List ℕ → Type 0
Lacks mark [] = ⊤
Lacks mark (c ∷ cs) = (c ≢ mark) × Lacks mark cs

pub not_Contains-Lacks : (mark : ℕ) (text : List ℕ) → Lacks mark text → ¬ (Contains text mark)
not_Contains-Lacks mark [] none has = omega (arith, has.1)
not_Contains-Lacks mark (c ∷ cs) none (zero, inside, is) = none.0 is
not_Contains-Lacks mark (c ∷ cs) none (suc k, inside, is) = not_Contains-Lacks mark cs none.1 (k, omega arith, is)

pub Lacks-append : (mark : ℕ) (front back : List ℕ) → Lacks mark front → Lacks mark back → Lacks mark (front ++ back)
Lacks-append mark [] back x y = y
Lacks-append mark (c ∷ front) back x y = (x.0, Lacks-append mark front back x.1 y)

pair_lacks : (n : ℕ) (rest : List ℕ) → Lacks 47 rest → Lacks 47 (pad2 n ++ rest)
pair_lacks n rest none = (λ e. omega (arith, e), (λ e. omega (arith, e), none))

zeros_lack : (zeros : List ℕ) → All (λ byte. byte ≡ 48) zeros → Lacks 47 zeros
zeros_lack [] all = tt
zeros_lack (z ∷ zeros) all =
    let first = all 0 z (omega arith) in
    (λ e. omega (arith, e, first), zeros_lack zeros (λ k d inside. all (suc k) d (omega arith)))

letter_lacks : (capital byte : ℕ) → IsEitherCase capital byte → 48 < capital → byte ≢ 47
letter_lacks capital byte (inl is) high e = omega arith
letter_lacks capital byte (inr is) high e = omega arith

fraction_lacks : (text : List ℕ) → IsFraction text → Lacks 47 text
fraction_lacks text (inl is) = subst (Lacks 47) (sym is) tt
fraction_lacks text (inr is) = subst (Lacks 47) (sym is.text_is) (λ e. omega (arith, e), zeros_lack is.zeros is.all)

second_lacks : (text : List ℕ) (second : ℕ) → IsSecond text second → Lacks 47 text
second_lacks text second (inl is) = subst (Lacks 47) (sym is.0) tt
second_lacks text second (inr is) =
    subst (Lacks 47) (sym is.text_is) (λ e. omega (arith, e), pair_lacks second is.fraction (fraction_lacks is.fraction is.fraction_is))

minutes_lack : (hour minute : ℕ) → Lacks 47 (minutes_text hour minute)
minutes_lack hour minute = pair_lacks hour (58 ∷ pad2 minute) (λ e. omega (arith, e), pair_lacks minute [] tt)

offset_lacks : (text : List ℕ) (seconds : ℤ) → IsOffset text seconds → Lacks 47 text
offset_lacks text seconds is =
    subst (Lacks 47) (sym is.text_is) (minutes_lack is.hour is.minute)

zone_lacks : (text : List ℕ) (ahead : ℤ) → IsZone text ahead → Lacks 47 text
zone_lacks [] ahead is = absurd is
zone_lacks (first ∷ rest) ahead (inl is) = (letter_lacks 90 first is.0 (omega arith), subst (Lacks 47) (sym is.1) tt)
zone_lacks (first ∷ rest) ahead (inr (inl (inl plus, is))) = (λ e. omega (arith, e, plus), offset_lacks rest _ is)
zone_lacks (first ∷ rest) ahead (inr (inl (inr space, is))) = (λ e. omega (arith, e, space), offset_lacks rest _ is)
zone_lacks (first ∷ rest) ahead (inr (inr (minus, is))) = (λ e. omega (arith, e, minus), offset_lacks rest _ is)

day_lacks : (month day : ℕ) → Lacks 47 (pad2 month ++ (45 ∷ pad2 day))
day_lacks month day = pair_lacks month (45 ∷ pad2 day) (λ e. omega (arith, e), pair_lacks day [] tt)

date_lacks : (year month day : ℕ) → Lacks 47 (date_text year month day)
date_lacks year month day =
    pair_lacks (year / 100) (pad2 (year % 100) ++ (45 ∷ (pad2 month ++ (45 ∷ pad2 day))))
    (pair_lacks (year % 100) (45 ∷ (pad2 month ++ (45 ∷ pad2 day))) (λ e. omega (arith, e), day_lacks month day))

pub instant_lacks : (text : List ℕ) (time : ℤ) → IsInstant text time → ¬ (Contains text 47)
instant_lacks text time x =
    let c = x.shown in
    let end = x.second_text ++ x.zone_text in
    let clock = minutes_text c.hour c.minute ++ end in
    let end_lacks : Lacks 47 end = Lacks-append 47 x.second_text x.zone_text (second_lacks x.second_text c.second x.second_is) (zone_lacks x.zone_text x.ahead x.zone_is) in
    let clock_lacks : Lacks 47 clock = Lacks-append 47 (minutes_text c.hour c.minute) end (minutes_lack c.hour c.minute) end_lacks in
    let whole = Lacks-append 47 (date_text c.year c.month c.day) (x.mark ∷ clock) (date_lacks c.year c.month c.day) (letter_lacks 84 x.mark x.mark_is (omega arith), clock_lacks) in
    not_Contains-Lacks 47 text (subst (Lacks 47) (sym x.text_is) whole)
