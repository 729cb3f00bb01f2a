-- A text stands for one set of levels at most.
use Rattle.std.proofs.Common.{◌≡◌, ℕ, zero, suc, ◌≤◌, List, [], ◌∷◌, ◌++◌, length, All, refl, sym, ap, ap₂, ◌∙◌, subst, arith, ℤ, ◌<ℤ◌}
use Rattle.std.specs.List.{Contains}
use Rattle.jiff_core.proofs.SignedLemmas.{signed_arith}
use Rattle.edr_axes.specs.declared.levels.Levels.{Levels}
use Rattle.edr_axes.specs.declared.levels.Levels.TheVariants as variants
use Rattle.edr_axes.specs.declared.levels.Levels.TheVariants.{At, Between, Series}
use Rattle.edr_base.specs.Cuts.{IsCut}
use Rattle.edr_axes.specs.Levels.{IsLevel, IsLevels, IsLevelText, IsRangeText, IsSeries, IsSeriesText, AreLevelTexts, IsLevelsText, HasNoLevels, LevelsAreUnique}
use Rattle.edr_base.specs.CutLaws.{Contains-between, cut_unique}
use Rattle.edr_axes.proofs.SlashLemmas.{not_Contains-Lacks}
use Rattle.edr_axes.proofs.LevelTexts.{level_unique, slash, comma, letter, level_lacks, range_lacks, series_lacks, range_contains, series_contains, list_contains}

-- ---- the parts of a text, where it is cut

pub range_parts : (text front back : List ℕ) (low high : ℤ) → IsCut 47 text front back → IsRangeText text low high → IsLevelText front low × IsLevelText back high
range_parts text front back low high cut is =
    let same = cut_unique 47 is.front is.back front back (not_Contains-Lacks 47 is.front (level_lacks 47 is.front low slash is.low_is)) cut.first (sym is.text_is ∙ cut.text_is) in
    let P : List ℕ → Type 0 = λ t. IsLevelText t low in
    let Q : List ℕ → Type 0 = λ t. IsLevelText t high in
    (subst P same.0 is.low_is, subst Q same.1 is.high_is)

-- an interval whose numbers aren't in order
pub range_high : (text front back : List ℕ) (low high : ℤ) → IsCut 47 text front back → IsLevelText front low → IsLevelText back high → high <ℤ low
    → (l h : ℤ) → ¬ (IsRangeText text l h)
range_high text front back low high cut p q out l h is =
    let parts = range_parts text front back l h cut is in
    let low_is = level_unique front low l p parts.0 in
    let high_is = level_unique back high h q parts.1 in
    omega (arith, signed_arith, out, low_is, high_is, is.in_order)

-- the three texts of a series
pub record AreSeriesTexts (count start rise : List ℕ) (n first step : ℤ) : Type 0 where
  pub count_is : IsLevelText count n
  pub first_is : IsLevelText start first
  pub step_is : IsLevelText rise step

-- where a series is cut
pub record IsSeriesCut (text count start rise : List ℕ) : Type 0 where
  pub behind : List ℕ
  pub rest : List ℕ
  pub letter_is : text ≡ 82 ∷ behind
  pub first_cut : IsCut 47 behind count rest
  pub second_cut : IsCut 47 rest start rise

series_behind : (text behind : List ℕ) (n first step : ℤ) → text ≡ 82 ∷ behind → (is : IsSeriesText text n first step) → is.count ++ 47 ∷ (is.start ++ 47 ∷ is.rise) ≡ behind
series_behind text behind n first step e is = let t = is.text_is in cc

-- what stands behind the first number of a series
pub series_first : (text behind count rest : List ℕ) (n first step : ℤ) → text ≡ 82 ∷ behind → IsCut 47 behind count rest → (is : IsSeriesText text n first step)
    → IsLevelText count n × (is.start ++ 47 ∷ is.rise ≡ rest)
series_first text behind count rest n first step e cut is =
    let bare = not_Contains-Lacks 47 is.count (level_lacks 47 is.count n slash is.count_is) in
    let same = cut_unique 47 is.count (is.start ++ 47 ∷ is.rise) count rest bare cut.first (series_behind text behind n first step e is ∙ cut.text_is) in
    let P : List ℕ → Type 0 = λ t. IsLevelText t n in
    (subst P same.0 is.count_is, same.1)

-- what stands behind the letter of a series has a slash, and so has what stands behind that
pub series_slash : (text behind : List ℕ) (n first step : ℤ) → text ≡ 82 ∷ behind → IsSeriesText text n first step → Contains behind 47
series_slash text behind n first step e is =
    let P : List ℕ → Type 0 = λ t. Contains t 47 in
    subst P (series_behind text behind n first step e is) (Contains-between 47 is.count (is.start ++ 47 ∷ is.rise))

pub series_second : (text behind count rest : List ℕ) (n first step : ℤ) → text ≡ 82 ∷ behind → IsCut 47 behind count rest → IsSeriesText text n first step → Contains rest 47
series_second text behind count rest n first step e cut is =
    let P : List ℕ → Type 0 = λ t. Contains t 47 in
    subst P (series_first text behind count rest n first step e cut is).1 (Contains-between 47 is.start is.rise)

pub series_parts : (text count start rise : List ℕ) (n first step : ℤ) → IsSeriesCut text count start rise → IsSeriesText text n first step → AreSeriesTexts count start rise n first step
series_parts text count start rise n first step cut is =
    let one = series_first text cut.behind count cut.rest n first step cut.letter_is cut.first_cut is in
    let bare = not_Contains-Lacks 47 is.start (level_lacks 47 is.start first slash is.first_is) in
    let same = cut_unique 47 is.start is.rise start rise bare cut.second_cut.first (one.1 ∙ cut.second_cut.text_is) in
    let P : List ℕ → Type 0 = λ t. IsLevelText t first in
    let Q : List ℕ → Type 0 = λ t. IsLevelText t step in
    record { count_is = one.0; first_is = subst P same.0 is.first_is; step_is = subst Q same.1 is.step_is }

pub series_from : (text count start rise : List ℕ) (n first step : ℤ) → IsSeriesCut text count start rise → AreSeriesTexts count start rise n first step → IsSeries n first step → IsSeriesText text n first step
series_from text count start rise n first step cut are series =
    let texts : cut.behind ≡ count ++ 47 ∷ (start ++ 47 ∷ rise) = cut.first_cut.text_is ∙ ap (λ t. count ++ 47 ∷ t) cut.second_cut.text_is in
    record {
      count = count;
      start = start;
      rise = rise;
      text_is = cut.letter_is ∙ ap (λ t. 82 ∷ t) texts;
      count_is = are.count_is;
      first_is = are.first_is;
      step_is = are.step_is;
      series = series;
    }

-- three numbers that are no series
pub series_wrong : (text count start rise : List ℕ) (n first step : ℤ) → IsSeriesCut text count start rise → AreSeriesTexts count start rise n first step → ¬ (IsSeries n first step)
    → (m f s : ℤ) → ¬ (IsSeriesText text m f s)
series_wrong text count start rise n first step cut are wrong m f s is =
    let parts = series_parts text count start rise m f s cut is in
    let one = level_unique count n m are.count_is parts.count_is in
    let two = level_unique start first f are.first_is parts.first_is in
    let three = level_unique rise step s are.step_is parts.step_is in
    wrong (rw (one, two, three) is.series)

-- ---- lists

-- the first of a list that has a comma, and the others
pub list_parts : (text front back : List ℕ) (levels : List ℤ) → IsCut 44 text front back → AreLevelTexts text levels
    → (level : ℤ) × (rest : List ℤ) × (levels ≡ level ∷ rest) × IsLevelText front level × AreLevelTexts back rest
list_parts text front back [] cut is = absurd is
list_parts text front back (level ∷ []) cut is =
    let P : List ℕ → Type 0 = λ t. Contains t 44 in
    absurd (not_Contains-Lacks 44 text (level_lacks 44 text level comma is) (subst P (sym cut.text_is) (Contains-between 44 front back)))
list_parts text front back (level ∷ (next ∷ levels)) cut (front', back', text_is, first, rest) =
    let same = cut_unique 44 front' back' front back (not_Contains-Lacks 44 front' (level_lacks 44 front' level comma first)) cut.first (sym text_is ∙ cut.text_is) in
    let P : List ℕ → Type 0 = λ t. IsLevelText t level in
    let Q : List ℕ → Type 0 = λ t. AreLevelTexts t (next ∷ levels) in
    (level, next ∷ levels, refl, subst P same.0 first, subst Q same.1 rest)

pub list_from : (text front back : List ℕ) (level : ℤ) (rest : List ℤ) → IsCut 44 text front back → IsLevelText front level → AreLevelTexts back rest → AreLevelTexts text (level ∷ rest)
list_from text front back level [] cut first is = absurd is
list_from text front back level (next ∷ levels) cut first is = (front, back, cut.text_is, first, is)

-- a list without a comma is one number
pub list_one : (text : List ℕ) (levels : List ℤ) → ¬ (Contains text 44) → AreLevelTexts text levels → (level : ℤ) × IsLevelText text level
list_one text [] lacks is = absurd is
list_one text (level ∷ []) lacks is = (level, is)
list_one text (level ∷ (next ∷ levels)) lacks is = absurd (lacks (list_contains text (level ∷ (next ∷ levels)) (omega arith) is))

list_unique : (text : List ℕ) (levels other : List ℤ) → AreLevelTexts text levels → AreLevelTexts text other → levels ≡ other
list_unique text [] other p q = absurd p
list_unique text (level ∷ []) other p q = (let lacks = not_Contains-Lacks 44 text (level_lacks 44 text level comma p) in alone level other lacks p q)
  where
    alone : (one : ℤ) (others : List ℤ) → ¬ (Contains text 44) → IsLevelText text one → AreLevelTexts text others → one ∷ [] ≡ others
    alone one [] lacks p' q' = absurd q'
    alone one (other' ∷ []) lacks p' q' = ap (λ l. l ∷ []) (level_unique text one other' p' q')
    alone one (other' ∷ (next' ∷ others)) lacks p' q' = absurd (lacks (list_contains text (other' ∷ (next' ∷ others)) (omega arith) q'))
list_unique text (level ∷ (next ∷ levels)) other (front, back, text_is, first, rest) q =
    let cut : IsCut 44 text front back = record { text_is = text_is; first = not_Contains-Lacks 44 front (level_lacks 44 front level comma first) } in
    let s = list_parts text front back other cut q in
    ap₂ (λ l ls. l ∷ ls) (level_unique front level s.0 first s.3) (list_unique back (next ∷ levels) s.1 rest s.4) ∙ sym s.2

-- ---- the law

at_same : (text : List ℕ) (level : ℤ) → IsLevelText text level → (other : Levels) → IsLevelsText text other → At level ≡ other
at_same text level p variants.All q = absurd q
at_same text level p (At only) q = ap At (level_unique text level only p q)
at_same text level p (Between low high) q = absurd (not_Contains-Lacks 47 text (level_lacks 47 text level slash p) (range_contains text low high q))
at_same text level p (variants.List levels) q = absurd (not_Contains-Lacks 44 text (level_lacks 44 text level comma p) (list_contains text levels q.0 q.1))
at_same text level p (Series n first step) q = absurd (not_Contains-Lacks 82 text (level_lacks 82 text level letter p) (series_contains text n first step q))

range_same : (text : List ℕ) (low high : ℤ) → IsRangeText text low high → (other : Levels) → IsLevelsText text other → Between low high ≡ other
range_same text low high p variants.All q = absurd q
range_same text low high p (At only) q = sym (at_same text only q (Between low high) p)
range_same text low high p (Between l h) q =
    let cut : IsCut 47 text p.front p.back = record { text_is = p.text_is; first = not_Contains-Lacks 47 p.front (level_lacks 47 p.front low slash p.low_is) } in
    let s = range_parts text p.front p.back l h cut q in
    ap₂ Between (level_unique p.front low l p.low_is s.0) (level_unique p.back high h p.high_is s.1)
range_same text low high p (variants.List levels) q = absurd (not_Contains-Lacks 44 text (range_lacks 44 text low high comma (λ e. omega (arith, e)) p) (list_contains text levels q.0 q.1))
range_same text low high p (Series n first step) q = absurd (not_Contains-Lacks 82 text (range_lacks 82 text low high letter (λ e. omega (arith, e)) p) (series_contains text n first step q))

list_same : (text : List ℕ) (levels : List ℤ) → 2 ≤ length levels → AreLevelTexts text levels → (other : Levels) → IsLevelsText text other → variants.List levels ≡ other
list_same text levels some p variants.All q = absurd q
list_same text levels some p (At only) q = sym (at_same text only q (variants.List levels) (some, p))
list_same text levels some p (Between low high) q = sym (range_same text low high q (variants.List levels) (some, p))
list_same text levels some p (variants.List others) q = ap variants.List (list_unique text levels others p q.1)
list_same text levels some p (Series n first step) q = absurd (not_Contains-Lacks 44 text (series_lacks text n first step q) (list_contains text levels some p))

series_same : (text : List ℕ) (n first step : ℤ) → IsSeriesText text n first step → (other : Levels) → IsLevelsText text other → Series n first step ≡ other
series_same text n first step p variants.All q = absurd q
series_same text n first step p (At only) q = sym (at_same text only q (Series n first step) p)
series_same text n first step p (Between low high) q = sym (range_same text low high q (Series n first step) p)
series_same text n first step p (variants.List levels) q = sym (list_same text levels q.0 q.1 (Series n first step) p)
series_same text n first step p (Series m f s) q =
    let cut : IsSeriesCut text p.count p.start p.rise = record {
      behind = p.count ++ 47 ∷ (p.start ++ 47 ∷ p.rise);
      rest = p.start ++ 47 ∷ p.rise;
      letter_is = p.text_is;
      first_cut = record { text_is = refl; first = not_Contains-Lacks 47 p.count (level_lacks 47 p.count n slash p.count_is) };
      second_cut = record { text_is = refl; first = not_Contains-Lacks 47 p.start (level_lacks 47 p.start first slash p.first_is) };
    } in
    let are = series_parts text p.count p.start p.rise m f s cut q in
    let one = level_unique p.count n m p.count_is are.count_is in
    let two = level_unique p.start first f p.first_is are.first_is in
    let three = level_unique p.rise step s p.step_is are.step_is in
    cc

pub levels_unique : LevelsAreUnique
levels_unique text variants.All other p q = absurd p
levels_unique text (At only) other p q = at_same text only p other q
levels_unique text (Between low high) other p q = range_same text low high p other q
levels_unique text (variants.List levels) other p q = list_same text levels p.0 p.1 other q
levels_unique text (Series n first step) other p q = series_same text n first step p other q

-- ---- what is read is within the limits

list_within : (text : List ℕ) (levels : List ℤ) → AreLevelTexts text levels → All IsLevel levels
list_within text [] is k d inside = absurd is
list_within text (level ∷ []) is zero d inside = is.within
list_within text (level ∷ []) is (suc k) d inside = absurd (omega arith)
list_within text (level ∷ (next ∷ levels)) (front, back, text_is, first, rest) zero d inside = first.within
list_within text (level ∷ (next ∷ levels)) (front, back, text_is, first, rest) (suc k) d inside = list_within back (next ∷ levels) rest k d (omega arith)

text_levels : (text : List ℕ) (levels : Levels) → IsLevelsText text levels → IsLevels levels
text_levels text variants.All is = absurd is
text_levels text (At only) is = is.within
text_levels text (Between low high) is = (is.low_is.within, is.high_is.within, is.in_order)
text_levels text (variants.List levels) is = (is.0, list_within text levels is.1)
text_levels text (Series n first step) is = (is.count_is.within, is.first_is.within, is.step_is.within, is.series)

-- a text that is no number, no interval, no series and no list
pub no_levels : (text : List ℕ) → ((level : ℤ) → ¬ (IsLevelText text level)) → ((low high : ℤ) → ¬ (IsRangeText text low high)) → ((n first step : ℤ) → ¬ (IsSeriesText text n first step))
    → ((levels : List ℤ) → ¬ (AreLevelTexts text levels)) → HasNoLevels text
no_levels text one range series list variants.All is = is
no_levels text one range series list (At only) is = one only is
no_levels text one range series list (Between low high) is = range low high is
no_levels text one range series list (variants.List levels) is = list levels is.1
no_levels text one range series list (Series n first step) is = series n first step is

-- a list that isn't one number has two or more
two_or_more : (text : List ℕ) (levels : List ℤ) → ((level : ℤ) → ¬ (IsLevelText text level)) → AreLevelTexts text levels → 2 ≤ length levels
two_or_more text [] none is = absurd is
two_or_more text (level ∷ []) none is = absurd (none level is)
two_or_more text (level ∷ (next ∷ levels)) none is = omega arith

-- a text without a comma that is no number is no list
pub no_list : (text : List ℕ) → ((level : ℤ) → ¬ (IsLevelText text level)) → ¬ (Contains text 44) → (levels : List ℤ) → ¬ (AreLevelTexts text levels)
no_list text none lacks levels is = lacks (list_contains text levels (two_or_more text levels none is) is)

pub list_levels : (text : List ℕ) (levels list : List ℤ) → list ≡ levels → ((level : ℤ) → ¬ (IsLevelText text level)) → AreLevelTexts text levels
    → IsLevelsText text (variants.List list) × IsLevels (variants.List list)
list_levels text levels list e none is =
    let both : IsLevelsText text (variants.List levels) = (two_or_more text levels none is, is) in
    let P : List ℤ → Type 0 = λ l. IsLevelsText text (variants.List l) × IsLevels (variants.List l) in
    subst P (sym e) (both, text_levels text (variants.List levels) both)
