-- A text stands for one set of times at most.
use Rattle.std.proofs.Common.{◌≡◌, ◌⊎◌, inl, inr, ℕ, ◌+◌, ◌/◌, List, [], ◌∷◌, refl, sym, ap₂, ◌∙◌, subst, arith, ℤ, Option, Some, None, MatchOption, IfSome}
use Rattle.std.specs.List.{Contains}
use Rattle.edr_base.specs.Cuts.{IsCut}
use Rattle.edr_axes.specs.InstantGrammar.{IsInstant}
use Rattle.edr_axes.specs.declared.times.Times.{Times}
use Rattle.edr_axes.specs.declared.times.Times.TheVariants.{All, At, Between}
use Rattle.edr_axes.specs.Times.{AreInOrder, HasNoTimes, IsIntervalText, IsSideText, IsSideTime, IsTimes, IsTimesText, TimesAreUnique, times_between}
use Rattle.edr_base.specs.CutLaws.{Contains-between, cut_unique}
use Rattle.edr_axes.proofs.InstantWholes.{instant_unique}
use Rattle.edr_axes.proofs.SlashLemmas.{Lacks, not_Contains-Lacks, instant_lacks}

-- ---- sides

instant_filled : (text : List ℕ) (time : ℤ) → IsInstant text time → (text ≡ []) ⊎ (text ≡ 46 ∷ 46 ∷ []) → ⊥
instant_filled text time x (inl empty) = cc (x.text_is, empty)
instant_filled text time x (inr dots) = (let first : 48 + x.shown.year / 100 / 10 ≡ 46 = cc (x.text_is, dots) in omega (arith, first))

pub side_unique : (text : List ℕ) (side other : Option ℤ) → IsSideText text side → IsSideText text other → side ≡ other
side_unique text None None p q = refl
side_unique text None (Some time) p q = absurd (instant_filled text time q p)
side_unique text (Some time) None p q = absurd (instant_filled text time p q)
side_unique text (Some time) (Some other) p q = let same = instant_unique text time other p q in cc

side_lacks : (text : List ℕ) (side : Option ℤ) → IsSideText text side → ¬ (Contains text 47)
side_lacks text None (inl empty) = not_Contains-Lacks 47 text (subst (Lacks 47) (sym empty) tt)
side_lacks text None (inr dots) = not_Contains-Lacks 47 text (subst (Lacks 47) (sym dots) (λ e. omega (arith, e), (λ e. omega (arith, e), tt)))
side_lacks text (Some time) is = instant_lacks text time is

-- ---- one instant or two sides

record IsOne (text : List ℕ) (times : Times) : Type 0 where
  time : ℤ
  instant : IsInstant text time
  times_is : times ≡ At time

record IsTwo (text : List ℕ) (times : Times) : Type 0 where
  first : Option ℤ
  last : Option ℤ
  interval : IsIntervalText text first last
  times_is : times ≡ times_between first last

one_or_two : (text : List ℕ) (times : Times) → IsTimesText text times → IsOne text times ⊎ IsTwo text times
one_or_two text All is = inr (record { first = None; last = None; interval = is; times_is = refl })
one_or_two text (At time) is = inl (record { time = time; instant = is; times_is = refl })
one_or_two text (Between None None) is = absurd is.0
one_or_two text (Between None (Some last)) is = inr (record { first = None; last = Some last; interval = is.1; times_is = refl })
one_or_two text (Between (Some first) last) is = inr (record { first = Some first; last = last; interval = is.1; times_is = refl })

interval_contains : (text : List ℕ) (first last : Option ℤ) → IsIntervalText text first last → Contains text 47
interval_contains text first last i = let P : List ℕ → Type 0 = λ t. Contains t 47 in subst P (sym i.text_is) (Contains-between 47 i.front i.back)

-- a text without a slash that is no instant
pub no_times : (text : List ℕ) → ¬ (Contains text 47) → ((time : ℤ) → ¬ (IsInstant text time)) → HasNoTimes text
no_times text lacks none times is = elim (one_or_two text times is) [
  | inl one ↦ none one.time one.instant
  | inr two ↦ lacks (interval_contains text two.first two.last two.interval)
]

-- the sides of the times that a text stands for, where it is cut
pub record AreSides (front back : List ℕ) (times : Times) : Type 0 where
  pub first : Option ℤ
  pub last : Option ℤ
  pub first_is : IsSideText front first
  pub last_is : IsSideText back last
  pub in_order : AreInOrder first last
  pub times_is : times ≡ times_between first last

pub cut_sides : (text front back : List ℕ) → IsCut 47 text front back → (times : Times) → IsTimesText text times → AreSides front back times
cut_sides text front back cut times is = elim (one_or_two text times is) [
  | inl one ↦ (let P : List ℕ → Type 0 = λ t. Contains t 47 in
      absurd (instant_lacks text one.time one.instant (subst P (sym cut.text_is) (Contains-between 47 front back))))
  | inr two ↦ (let i = two.interval in
      let same = cut_unique 47 i.front i.back front back (side_lacks i.front two.first i.first_is) cut.first (sym i.text_is ∙ cut.text_is) in
      let P : List ℕ → Type 0 = λ t. IsSideText t two.first in
      let Q : List ℕ → Type 0 = λ t. IsSideText t two.last in
      record { first = two.first; last = two.last; first_is = subst P same.0 i.first_is; last_is = subst Q same.1 i.last_is; in_order = i.in_order; times_is = two.times_is })
]

interval_times : (text : List ℕ) (first last : Option ℤ) → IsIntervalText text first last → IsTimesText text (times_between first last)
interval_times text None None i = i
interval_times text None (Some last) i = (tt, i)
interval_times text (Some first) last i = (tt, i)

-- what is answered of the two sides is right for the text
pub between_text : (text front back : List ℕ) (first last : Option ℤ) (answer : Option Times) → IsCut 47 text front back → IsSideText front first → IsSideText back last
    → MatchOption answer (¬ (AreInOrder first last)) (λ times. AreInOrder first last × (times ≡ times_between first last))
    → MatchOption answer (HasNoTimes text) (λ times. IsTimesText text times)
between_text text front back first last None cut p q wrong =
    λ times is. let s = cut_sides text front back cut times is in
    wrong (rw (side_unique front first s.first p s.first_is, side_unique back last s.last q s.last_is) s.in_order)
between_text text front back first last (Some times) cut p q right =
    subst (IsTimesText text) (sym right.1)
    (interval_times text first last (record { front = front; back = back; text_is = cut.text_is; first_is = p; last_is = q; in_order = right.0 }))

IsTimes-between : (first last : Option ℤ) → IsSideTime first → IsSideTime last → AreInOrder first last → IsTimes (times_between first last)
IsTimes-between None None p q h = tt
IsTimes-between None (Some last) p q h = (tt, h, p, q)
IsTimes-between (Some first) last p q h = (tt, h, p, q)

pub between_times : (first last : Option ℤ) (answer : Option Times) → IsSideTime first → IsSideTime last
    → MatchOption answer (¬ (AreInOrder first last)) (λ times. AreInOrder first last × (times ≡ times_between first last)) → IfSome answer IsTimes
between_times first last None p q wrong = tt
between_times first last (Some times) p q right = subst IsTimes (sym right.1) (IsTimes-between first last p q right.0)

-- ---- the law

sides_unique : (text : List ℕ) (times other : Times) (x : IsTwo text times) → IsTimesText text other → times ≡ other
sides_unique text times other x is =
    let i = x.interval in
    let cut : IsCut 47 text i.front i.back = record { text_is = i.text_is; first = side_lacks i.front x.first i.first_is } in
    let s = cut_sides text i.front i.back cut other is in
    x.times_is ∙ ap₂ times_between (side_unique i.front x.first s.first i.first_is s.first_is) (side_unique i.back x.last s.last i.last_is s.last_is) ∙ sym s.times_is

pub times_unique : TimesAreUnique
times_unique text times other p q = elim (one_or_two text times p) [
  | inr two ↦ sides_unique text times other two q
  | inl one ↦ elim (one_or_two text other q) [
    | inr two ↦ sym (sides_unique text other times two p)
    | inl one' ↦ (let same = instant_unique text one.time one'.time one.instant one'.instant in
        let is = one.times_is in let is' = one'.times_is in cc)
  ]
]
