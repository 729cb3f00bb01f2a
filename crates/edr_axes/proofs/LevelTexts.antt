-- The marks that stand in the texts of levels, and those that don't.
use Rattle.std.proofs.Common.{◌≡◌, ◌≢◌, ℕ, zero, suc, ◌≤◌, ◌==◌, List, [], ◌∷◌, ◌++◌, length, replicate, refl, sym, subst, arith, ℤ, pos}
use Rattle.std.specs.List.{Contains}
use Rattle.std.proofs.lemmas.Int.{ints}
use Rattle.std.proofs.lemmas.Bool.Decides.{nat_tests}
use Rattle.edr_base.specs.declared.numbers.Whole.{Whole}
use Rattle.edr_base.specs.declared.numbers.Whole.TheVariants.{Value, TooLarge, NotWhole}
use Rattle.edr_base.specs.Limits.{coordinate_limit}
use Rattle.edr_base.specs.Numbers.{IsWhole, MatchWhole}
use Rattle.edr_base.specs.NumberParts.{NonePass}
use Rattle.edr_base.specs.NumberLaws.{IsOutside, numeral-none_pass, whole-unique}
use Rattle.edr_axes.specs.Levels.{IsLevel, IsLevelText, IsRangeText, IsSeriesText, AreLevelTexts}
use Rattle.edr_base.specs.CutLaws.{Contains-between}
use Rattle.edr_axes.proofs.SlashLemmas.{Lacks, Lacks-append}

-- ---- one number

-- a text that isn't answered with a value is no number within the limit
pub level_none : (text : List ℕ) (answer : Whole) → ((value : ℤ) → answer ≢ Value value) → MatchWhole answer (IsWhole text) (pos coordinate_limit) → (level : ℤ) → ¬ (IsLevelText text level)
level_none text (Value v) other m level is = other v refl
level_none text TooLarge other m level is =
    let same = whole-unique text level m.0 is.whole m.1 in
    let within : IsLevel m.0 = subst IsLevel same is.within in
    omega (arith, ints, within, m.2)
level_none text NotWhole other m level is = m level is.whole

pub level_unique : (text : List ℕ) (level other : ℤ) → IsLevelText text level → IsLevelText text other → level ≡ other
level_unique text level other p q = whole-unique text level other p.whole q.whole

-- a byte that stands in no whole number
pub record IsMark (mark : ℕ) : Type 0 where
  pub outside : IsOutside (λ c. c == mark)
  pub no_space : 32 ≢ mark

pub slash : IsMark 47
slash = record { outside = record { plus = refl; minus = refl; point = refl; digit = λ c h. grind (arith, nat_tests) }; no_space = λ e. omega (arith, e) }

pub comma : IsMark 44
comma = record { outside = record { plus = refl; minus = refl; point = refl; digit = λ c h. grind (arith, nat_tests) }; no_space = λ e. omega (arith, e) }

pub letter : IsMark 82
letter = record { outside = record { plus = refl; minus = refl; point = refl; digit = λ c h. grind (arith, nat_tests) }; no_space = λ e. omega (arith, e) }

Lacks-NonePass : (mark : ℕ) (text : List ℕ) → NonePass (λ c. c == mark) text → Lacks mark text
Lacks-NonePass mark [] none = tt
Lacks-NonePass mark (c ∷ cs) none = let fails = none.0 in (λ e. grind (arith, nat_tests), Lacks-NonePass mark cs none.1)

spaces_lack : (mark : ℕ) (n : ℕ) → 32 ≢ mark → Lacks mark (replicate n 32)
spaces_lack mark zero other = tt
spaces_lack mark (suc n) other = (other, spaces_lack mark n other)

pub level_lacks : (mark : ℕ) (text : List ℕ) (level : ℤ) → IsMark mark → IsLevelText text level → Lacks mark text
level_lacks mark text level m is =
    let w = is.whole in
    let word = Lacks-NonePass mark w.numeral (numeral-none_pass (λ c. c == mark) w.numeral level m.outside w.is_numeral) in
    let end = Lacks-append mark w.numeral (replicate w.after 32) word (spaces_lack mark w.after m.no_space) in
    subst (Lacks mark) (sym w.text_is) (Lacks-append mark (replicate w.before 32) (w.numeral ++ replicate w.after 32) (spaces_lack mark w.before m.no_space) end)

-- ---- several

pub range_lacks : (mark : ℕ) (text : List ℕ) (low high : ℤ) → IsMark mark → 47 ≢ mark → IsRangeText text low high → Lacks mark text
range_lacks mark text low high m other is =
    subst (Lacks mark) (sym is.text_is) (Lacks-append mark is.front (47 ∷ is.back) (level_lacks mark is.front low m is.low_is) (other, level_lacks mark is.back high m is.high_is))

pub series_lacks : (text : List ℕ) (n first step : ℤ) → IsSeriesText text n first step → Lacks 44 text
series_lacks text n first step is =
    let end = Lacks-append 44 is.start (47 ∷ is.rise) (level_lacks 44 is.start first comma is.first_is) (λ e. omega (arith, e), level_lacks 44 is.rise step comma is.step_is) in
    let all = Lacks-append 44 is.count (47 ∷ (is.start ++ 47 ∷ is.rise)) (level_lacks 44 is.count n comma is.count_is) (λ e. omega (arith, e), end) in
    subst (Lacks 44) (sym is.text_is) (λ e. omega (arith, e), all)

pub list_lacks : (mark : ℕ) (text : List ℕ) (levels : List ℤ) → IsMark mark → 44 ≢ mark → AreLevelTexts text levels → Lacks mark text
list_lacks mark text [] m other is = absurd is
list_lacks mark text (level ∷ []) m other is = level_lacks mark text level m is
list_lacks mark text (level ∷ (next ∷ levels)) m other (front, back, text_is, first, rest) =
    subst (Lacks mark) (sym text_is) (Lacks-append mark front (44 ∷ back) (level_lacks mark front level m first) (other, list_lacks mark back (next ∷ levels) m other rest))

contains_mark : (mark : ℕ) (text front back : List ℕ) → text ≡ front ++ mark ∷ back → Contains text mark
contains_mark mark text front back is = let P : List ℕ → Type 0 = λ t. Contains t mark in subst P (sym is) (Contains-between mark front back)

pub range_contains : (text : List ℕ) (low high : ℤ) → IsRangeText text low high → Contains text 47
range_contains text low high is = contains_mark 47 text is.front is.back is.text_is

pub series_contains : (text : List ℕ) (n first step : ℤ) → IsSeriesText text n first step → Contains text 82
series_contains text n first step is = contains_mark 82 text [] _ is.text_is

pub list_contains : (text : List ℕ) (levels : List ℤ) → 2 ≤ length levels → AreLevelTexts text levels → Contains text 44
list_contains text [] some is = absurd is
list_contains text (level ∷ []) some is = absurd (omega arith)
list_contains text (level ∷ (next ∷ levels)) some (front, back, text_is, first, rest) = contains_mark 44 text front back text_is
