-- The places among a station's values of what passes: they lie among these, stand apart, and with those that don't pass they are
-- as many as the times and levels.
use Rattle.std.proofs.Common.{ap, append-nil, take, All, Bool, Contains, List, None, Some, [], ap₂, arith, false, get_or, inl, inr, length, length-append, map, mul-le-mul_right, refl, subst, suc, sym, true, zero, zero-mul, ℕ, ◌*◌, ◌++◌, ◌+◌, ◌-◌, ◌<◌, ◌||◌, ◌∙◌, ◌∷◌, ◌≡◌, ◌≤◌}
use Rattle.std.specs.List.{flat_map, list_any, range_with_len}
use Rattle.std.specs.Prelude.{option_to_list, ⊤, ◌&&◌}
use Rattle.std.specs.declared.option.Option.{Option}
use Rattle.std.proofs.lemmas.Bool.{cases_lt}
use Rattle.std.proofs.lemmas.Grind.{flat_map-append}
use Rattle.std.proofs.lemmas.List.{length-map, append-nil, take_more}
use Rattle.std.proofs.lemmas.List.Elements.{All-append, All-cons, All-filter, All-head, All-map, All-nil, All-tail, All-weaker}
use Rattle.std.proofs.lemmas.List.Kept.{AllPairs-cons}
use Rattle.edr_axes.specs.Axes.{axis_length}
use Rattle.edr_select.specs.KeptLaws.{all_below, contains_kept}
use Rattle.edr_select.specs.ListLaws.{any-flat_map, any-map, any_agree, any_range, member_here, member_later, no_member, passes_at}
use Rattle.edr_select.specs.Listings.{NumbersRise}
use Rattle.edr_select.specs.Series.{cells_taken, RiseApart}
use Rattle.edr_select.specs.RiseLaws.{numbers_rise}
use Rattle.edr_station.specs.Stations.{StationValue, values_along}
use Rattle.edr_plan.specs.StationPlaces.{ChoiceValue, Test, cell_if, cell_of, cells_by, choice_by, has_level, has_some, has_time}
use Rattle.edr_plan.specs.StationPlans.{IsChoiceOf}

-- lists that agree piece by piece
pub flat_map_agree_in : {X Y : Type 0} (f g : X → List Y) (xs : List X) → ((x : X) → Contains xs x → f x ≡ g x) → flat_map f xs ≡ flat_map g xs
flat_map_agree_in f g [] same = refl
flat_map_agree_in f g (x ∷ xs) same = ap₂ (λ r rs. r ++ rs) (same x (member_here x xs)) (flat_map_agree_in f g xs (λ y m. same y (member_later x y xs m)))

-- with the next place of some
pub more_taken : {X : Type 0} (f : ℕ → List X) (places : List ℕ) (i d : ℕ) (old : List X) → i < length places → old ≡ flat_map f (take i places)
    → old ++ f (get_or places i d) ≡ flat_map f (take (i + 1) places)
more_taken f places i d old inside so_far =
    ap₂ (λ xs ys. xs ++ ys) so_far (sym (append-nil (f (get_or places i d))))
    ∙ sym (ap (flat_map f) (take_more places i d inside) ∙ flat_map-append f (take i places) (get_or places i d ∷ []))

pub row_added : {X : Type 0} (row : ℕ → List ℕ → List X) (times levels read others : List ℕ) (i d : ℕ) (old new : List X) → read ≡ times → others ≡ levels → i < length read
    → old ≡ flat_map (λ t. row t levels) (take i times) → new ≡ old ++ row (get_or read i d) others → new ≡ flat_map (λ t. row t levels) (take (i + 1) times)
row_added row times levels read others i d old new same alike inside so_far added =
    added
    ∙ (ap₂ (λ ts ls. old ++ row (get_or ts i d) ls) same alike ∙ more_taken (λ t. row t levels) times i d old (subst (λ (ts : List ℕ). i < length ts) same inside) so_far)

-- the places of times and levels, where there are so many levels
abbrev pub cells_over : ℕ → List ℕ → List ℕ → List ℕ
cells_over w times levels = flat_map (λ t. map (λ z. t * w + z) levels) times

-- ---- they lie in rows

in_rows : (w h t z : ℕ) → t < h → z < w → t * w + z < h * w
in_rows w h t z ht hz =
    let next : suc t * w ≤ h * w = mul-le-mul_right w (omega (arith, ht)) in
    omega (arith, next, hz, row t w)
  where
    row : (t w : ℕ) → suc t * w ≡ t * w + w
    row t w = omega arith

pub all_in_rows : (w h : ℕ) (times levels : List ℕ) → All (λ t. t < h) times → All (λ z. z < w) levels → All (λ cell. cell < h * w) (cells_over w times levels)
all_in_rows w h [] levels ht hz = All-nil (λ cell. cell < h * w)
all_in_rows w h (t ∷ times) levels ht hz =
    All-append (λ cell. cell < h * w) (map (λ z. t * w + z) levels) (cells_over w times levels)
    (All-map (λ cell. cell < h * w) (λ z. t * w + z) levels
    (All-weaker (λ z. z < w) (λ z. t * w + z < h * w) (λ z. in_rows w h t z (All-head (λ t. t < h) t times ht)) levels hz))
    (all_in_rows w h times levels (All-tail (λ t. t < h) t times ht) hz)

-- ---- they rise

pub rise_tail : (x : ℕ) (xs : List ℕ) → NumbersRise (x ∷ xs) → NumbersRise xs
rise_tail x xs h i j d lt l = h (suc i) (suc j) d (omega (arith, lt)) (omega (arith, l))

pub rise_head : (x : ℕ) (xs : List ℕ) → NumbersRise (x ∷ xs) → All (λ y. x < y) xs
rise_head x xs h k d l = h 0 (suc k) d (omega arith) (omega (arith, l))

rise_append : (m : ℕ) (xs ys : List ℕ) → NumbersRise xs → NumbersRise ys → All (λ x. x < m) xs → All (λ y. m ≤ y) ys → NumbersRise (xs ++ ys)
rise_append m [] ys hx hy below from = hy
rise_append m (x ∷ xs) ys hx hy below from =
    let first : x < m = All-head (λ x. x < m) x xs below in
    AllPairs-cons (λ x y. x < y) x (xs ++ ys)
    (All-append (λ y. x < y) xs ys (rise_head x xs hx) (All-weaker (λ y. m ≤ y) (λ y. x < y) (λ y h. omega (arith, first, h)) ys from))
    (rise_append m xs ys (rise_tail x xs hx) hy (All-tail (λ x. x < m) x xs below) from)

rise_shifted : (a : ℕ) (zs : List ℕ) → NumbersRise zs → NumbersRise (map (λ z. a + z) zs)
rise_shifted a [] h = λ i j d lt l. absurd (omega (arith, l))
rise_shifted a (z ∷ zs) h =
    AllPairs-cons (λ x y. x < y) (a + z) (map (λ z. a + z) zs)
    (All-map (λ y. a + z < y) (λ z. a + z) zs (All-weaker (λ y. z < y) (λ y. a + z < a + y) (λ y l. omega (arith, l)) zs (rise_head z zs h)))
    (rise_shifted a zs (rise_tail z zs h))

-- the rows of times from one on stand from its row on
all_from_row : (w m : ℕ) (times levels : List ℕ) → All (λ t. m ≤ t) times → All (λ cell. m * w ≤ cell) (cells_over w times levels)
all_from_row w m [] levels h = All-nil (λ cell. m * w ≤ cell)
all_from_row w m (t ∷ times) levels h =
    let low : m * w ≤ t * w = mul-le-mul_right w (All-head (λ t. m ≤ t) t times h) in
    All-append (λ cell. m * w ≤ cell) (map (λ z. t * w + z) levels) (cells_over w times levels)
    (All-map (λ cell. m * w ≤ cell) (λ z. t * w + z) levels (λ k d l. omega (arith, low)))
    (all_from_row w m times levels (All-tail (λ t. m ≤ t) t times h))

pub rows_rise : (w : ℕ) (times levels : List ℕ) → NumbersRise times → NumbersRise levels → All (λ z. z < w) levels → NumbersRise (cells_over w times levels)
rows_rise w [] levels ht hz below = λ i j d lt l. absurd (omega (arith, l))
rows_rise w (t ∷ times) levels ht hz below =
    rise_append (suc t * w) (map (λ z. t * w + z) levels) (cells_over w times levels) (rise_shifted (t * w) levels hz)
    (rows_rise w times levels (rise_tail t times ht) hz below)
    (All-map (λ cell. cell < suc t * w) (λ z. t * w + z) levels
    (All-weaker (λ z. z < w) (λ z. t * w + z < suc t * w) (λ z. in_rows w (suc t) t z (omega arith)) levels below))
    (all_from_row w (suc t) times levels (All-weaker (λ y. t < y) (λ y. suc t ≤ y) (λ y l. omega (arith, l)) times (rise_head t times ht)))

-- ---- they are as many as the times and levels

pub rows_count : (w : ℕ) (times levels : List ℕ) → length (cells_over w times levels) ≡ length times * length levels
rows_count w [] levels = sym (zero-mul (length levels))
rows_count w (t ∷ times) levels =
    length-append (map (λ z. t * w + z) levels) (cells_over w times levels)
    ∙ (ap₂ (λ a b. a + b) (length-map levels (λ z. t * w + z)) (rows_count w times levels) ∙ more (length levels) (length times))
  where
    more : (n m : ℕ) → n + m * n ≡ suc m * n
    more n m = omega arith

-- ---- numbers of which some aren't taken

-- each number is that at its place, or none
abbrev Shadows : List (Option ℕ) → List ℕ → Type 0
Shadows [] [] = ⊤
Shadows [] (u ∷ us) = ⊥
Shadows (x ∷ xs) [] = ⊥
Shadows (x ∷ xs) (u ∷ us) = ((one : ℕ) → x ≡ Some one → u ≡ one) × Shadows xs us

shadow_length : (xs : List (Option ℕ)) (us : List ℕ) → Shadows xs us → length xs ≡ length us
shadow_length [] [] h = refl
shadow_length [] (u ∷ us) h = absurd h
shadow_length (x ∷ xs) [] h = absurd h
shadow_length (x ∷ xs) (u ∷ us) h = let rest : length xs ≡ length us = shadow_length xs us h.1 in omega (arith, rest)

shadow_append : (xs ys : List (Option ℕ)) (us vs : List ℕ) → Shadows xs us → Shadows ys vs → Shadows (xs ++ ys) (us ++ vs)
shadow_append [] ys [] vs h k = k
shadow_append [] ys (u ∷ us) vs h k = absurd h
shadow_append (x ∷ xs) ys [] vs h k = absurd h
shadow_append (x ∷ xs) ys (u ∷ us) vs h k = (h.0, shadow_append xs ys us vs h.1 k)

shadow_at : (xs : List (Option ℕ)) (us : List ℕ) → Shadows xs us → (i one : ℕ) → i < length xs → get_or xs i None ≡ Some one → get_or us i 0 ≡ one
shadow_at [] us h i one l e = absurd (omega arith)
shadow_at (x ∷ xs) [] h i one l e = absurd h
shadow_at (x ∷ xs) (u ∷ us) h zero one l e = h.0 one e
shadow_at (x ∷ xs) (u ∷ us) h (suc i) one l e = shadow_at xs us h.1 i one (omega arith) e

shadow_below : (n : ℕ) (xs : List (Option ℕ)) (us : List ℕ) → Shadows xs us → All (λ u. u < n) us → All (λ cell. cell < n) (cells_taken xs)
shadow_below n [] us h below = All-nil (λ cell. cell < n)
shadow_below n (x ∷ xs) [] h below = absurd h
shadow_below n (None ∷ xs) (u ∷ us) h below = shadow_below n xs us h.1 (All-tail (λ u. u < n) u us below)
shadow_below n (Some one ∷ xs) (u ∷ us) h below =
    All-cons (λ cell. cell < n) one (cells_taken xs) (subst (λ (k : ℕ). k < n) (h.0 one refl) (All-head (λ u. u < n) u us below))
    (shadow_below n xs us h.1 (All-tail (λ u. u < n) u us below))

-- numbers that rise are as far apart as their places
rise_far : (us : List ℕ) → NumbersRise us → (i j : ℕ) → i < j → j < length us → get_or us i 0 + (j - i) ≤ get_or us j 0
rise_far us rise i zero lt l = absurd (omega arith)
rise_far us rise i (suc j) lt l =
    let step : get_or us j 0 < get_or us (suc j) 0 = rise j (suc j) 0 (omega arith) l in
    elim (cases_lt i j) [
      | inl less ↦ (let before : get_or us i 0 + (j - i) ≤ get_or us j 0 = rise_far us rise i j less (omega arith) in omega (arith, step, before, less))
      | inr from ↦ (let same : i ≡ j = omega (arith, from, lt) in subst (λ (k : ℕ). get_or us k 0 + (suc j - k) ≤ get_or us (suc j) 0) (sym same) (omega (arith, step)))
    ]

shadow_rises : (xs : List (Option ℕ)) (us : List ℕ) → Shadows xs us → NumbersRise us → RiseApart xs
shadow_rises xs us h rise i j one other lt l e f =
    let inside : j < length us = omega (arith, l, shadow_length xs us h) in
    let far : get_or us i 0 + (j - i) ≤ get_or us j 0 = rise_far us rise i j lt inside in
    let low : get_or us i 0 ≡ one = shadow_at xs us h i one (omega (arith, lt, l)) e in
    let high : get_or us j 0 ≡ other = shadow_at xs us h j other l f in
    omega (arith, far, low, high)

-- ---- the cells of times and levels by a test

abbrev masked : (ℕ → ℕ → Bool) → ℕ → List ℕ → List ℕ → List (Option ℕ)
masked takes w times levels = flat_map (λ t. map (λ z. cell_if (takes t z) (t * w + z)) levels) times

module _ (takes : ℕ → ℕ → Bool) (w : ℕ) where
  cell_shadow : (b : Bool) (cell one : ℕ) → cell_if b cell ≡ Some one → cell ≡ one
  cell_shadow true cell one e = cc
  cell_shadow false cell one e = cc

  row_shadows : (t : ℕ) (levels : List ℕ) → Shadows (map (λ z. cell_if (takes t z) (t * w + z)) levels) (map (λ z. t * w + z) levels)
  row_shadows t [] = tt
  row_shadows t (z ∷ levels) = (cell_shadow (takes t z) (t * w + z), row_shadows t levels)

  masked_shadows : (times levels : List ℕ) → Shadows (masked takes w times levels) (cells_over w times levels)
  masked_shadows [] levels = tt
  masked_shadows (t ∷ times) levels =
      shadow_append (map (λ z. cell_if (takes t z) (t * w + z)) levels) (masked takes w times levels) (map (λ z. t * w + z) levels) (cells_over w times levels) (row_shadows t levels)
      (masked_shadows times levels)

any_if : (v : ℕ → Bool) (b : Bool) (cell : ℕ) → list_any v (option_to_list (cell_if b cell)) ≡ (b && v cell)
any_if v true cell = or_none (v cell)
  where
    or_none : (b : Bool) → (b || false) ≡ b
    or_none true = refl
    or_none false = refl
any_if v false cell = refl

-- ---- what passes of a station

module _ (s : StationValue) (takes : Test) where
  abbrev choice : ChoiceValue
  choice = choice_by s takes

  -- a time and a level of it
  pub record TakenAt : Type 0 where
    pub time : ℕ
    pub level : ℕ
    pub time_in : time < length s.ts
    pub level_in : level < axis_length s.zs
    pub taken : takes time level ≡ true

  pub taken_at : has_some s takes ≡ true → TakenAt
  taken_at h =
      let ft = passes_at (has_time s takes) 0 (length s.ts) h in
      let fz = passes_at (λ z. takes ft.place z) 0 (axis_length s.zs) ft.passes in
      record { time = ft.place; level = fz.place; time_in = omega (arith, ft.high); level_in = omega (arith, fz.high); taken = fz.passes }

  module _ (t z : ℕ) (ht : t < length s.ts) (hz : z < axis_length s.zs) (taken : takes t z ≡ true) where
    time_taken : has_time s takes t ≡ true
    time_taken = any_range (λ z. takes t z) 0 (axis_length s.zs) z (omega arith) (omega (arith, hz)) taken

    -- its time and its level occur, and something is taken
    pub time_occurs : Contains choice.times t
    time_occurs = contains_kept (has_time s takes) (length s.ts) t ht time_taken

    pub level_occurs : Contains choice.levels z
    level_occurs =
        contains_kept (has_level s takes) (axis_length s.zs) z hz (any_range (λ t. takes t z) 0 (length s.ts) t (omega arith) (omega (arith, ht)) taken)

    pub some_taken_at : has_some s takes ≡ true
    some_taken_at = any_range (has_time s takes) 0 (length s.ts) t (omega arith) (omega (arith, ht)) time_taken

  times_in : All (λ t. t < length s.ts) choice.times
  times_in = All-filter (has_time s takes) (λ t. t < length s.ts) (range_with_len 0 (length s.ts)) (all_below (length s.ts))

  levels_in : All (λ z. z < axis_length s.zs) choice.levels
  levels_in = All-filter (has_level s takes) (λ z. z < axis_length s.zs) (range_with_len 0 (axis_length s.zs)) (all_below (axis_length s.zs))

  times_rise : NumbersRise choice.times
  times_rise = numbers_rise (has_time s takes) 0 (length s.ts)

  levels_rise : NumbersRise choice.levels
  levels_rise = numbers_rise (has_level s takes) 0 (axis_length s.zs)

  -- where something is taken its times and levels are a choice
  pub passes_chosen : has_some s takes ≡ true → IsChoiceOf s choice
  passes_chosen h =
      let at = taken_at h in
      record {
        times_in = times_in;
        times_rise = times_rise;
        times = λ none. no_member choice.times at.time none (time_occurs at.time at.level at.time_in at.level_in at.taken);
        levels_in = levels_in;
        levels_rise = levels_rise;
        levels = λ none. no_member choice.levels at.level none (level_occurs at.time at.level at.time_in at.level_in at.taken);
      }

  shadows : Shadows (cells_by s takes) (cells_over (axis_length s.zs) choice.times choice.levels)
  shadows = masked_shadows (takes) (axis_length s.zs) choice.times choice.levels

  pub passes_count : length (cells_by s takes) ≡ length choice.times * length choice.levels
  passes_count =
      shadow_length (cells_by s takes) (cells_over (axis_length s.zs) choice.times choice.levels) shadows ∙ rows_count (axis_length s.zs) choice.times choice.levels

  pub passes_rise : RiseApart (cells_by s takes)
  passes_rise =
      shadow_rises (cells_by s takes) (cells_over (axis_length s.zs) choice.times choice.levels) shadows
      (rows_rise (axis_length s.zs) choice.times choice.levels times_rise levels_rise levels_in)

  pub passes_below : All (λ cell. cell < values_along s) (cells_taken (cells_by s takes))
  passes_below =
      shadow_below (values_along s) (cells_by s takes) (cells_over (axis_length s.zs) choice.times choice.levels) shadows
      (all_in_rows (axis_length s.zs) (length s.ts) choice.times choice.levels times_in levels_in)

  -- a cell that is taken passes where the place of a time and a level that is taken does
  pub any_cell : (v : ℕ → Bool) → list_any v (cells_taken (cells_by s takes))
      ≡ list_any (λ t. list_any (λ z. takes t z && v (cell_of s t z)) choice.levels) choice.times
  any_cell v =
      let row : ℕ → List (Option ℕ) = λ t. map (λ z. cell_if (takes t z) (cell_of s t z)) choice.levels in
      let told : Option ℕ → Bool = λ x. list_any v (option_to_list x) in
      any-flat_map v option_to_list (cells_by s takes)
      ∙ (any-flat_map told row choice.times
      ∙ any_agree (λ t. list_any told (row t)) (λ t. list_any (λ z. takes t z && v (cell_of s t z)) choice.levels)
      (λ t. any-map told (λ z. cell_if (takes t z) (cell_of s t z)) choice.levels
      ∙ any_agree (λ z. told (cell_if (takes t z) (cell_of s t z))) (λ z. takes t z && v (cell_of s t z)) (λ z. any_if v (takes t z) (cell_of s t z)) choice.levels)
      choice.times)
