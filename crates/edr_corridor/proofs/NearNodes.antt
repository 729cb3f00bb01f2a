-- Rectangles of the nodes of a plane near a segment, line by line.
use Rattle.std.proofs.Common.{◌≡◌, ℕ, ◌+◌, ◌<◌, ◌≤◌, arith, Bool, true, false, refl, ap, ap₂, sym, subst, ◌∙◌, inl, inr, eqb, List, [], ◌∷◌, ◌++◌, length, ℤ, nat_lt}
use Rattle.std.specs.Prelude.{◌&&◌, ◌||◌, nat_le}
use Rattle.std.specs.List.{All}
use Rattle.std.proofs.Math.Bool.{or-false, and-false}
use Rattle.std.proofs.lemmas.Bool.{cases_lt, cases_eq, and_left, and_right, eq-eqb, ne_eqb, le-leb, lt-leb, lt-ltb, le-ltb}
use Rattle.std.proofs.lemmas.Bool.Decides.{nat_tests}
use Rattle.std.proofs.lemmas.List.Elements.{All-push, All-nil}
use Rattle.std.proofs.lemmas.List.Folds.{list_any-append}
use Rattle.edr_base.specs.declared.places.Spot.{Spot}
use Rattle.edr_base.specs.Limits.{IsMetres}
use Rattle.edr_axes.specs.Axes.{value_at}
use Rattle.edr_geometry.specs.Masks.{spot_at}
use Rattle.edr_geometry.specs.Planar.{spot_of, near_segment}
use Rattle.edr_geometry.specs.Ranges.{StripValue, NearIsExchanged, lies_in, lies_in_some, exchanged, IsRange}
use Rattle.edr_geometry.specs.declared.strips.NearRanges.{NearRanges}
use Rattle.edr_corridor.specs.declared.bands.Band.{Band}
use Rattle.edr_corridor.specs.declared.boxes.Rectangle.{Rectangle}
use Rattle.edr_corridor.specs.declared.segment.Segment.{Segment}
use Rattle.edr_corridor.specs.Segments.{within_half}
use Rattle.edr_corridor.specs.Boxes.{have_place, IsWithin}
use Rattle.edr_corridor.specs.Parts.{IsAbout, HasPlaces, HaveSpots, HaveMore, HaveNear, AreNear, AreAlong, band_has, has_along, have_along, has_spot, near_x, near_y, rectangle_along}
use Rattle.edr_corridor.proofs.Near.{far_row, far_column, near_within}

-- ---- ranges

pub one_lies : (line l : ℕ) → lies_in (line, line + 1) l ≡ eqb l line
one_lies line l = elim (cases_eq l line) [
  | inl e ↦ ap₂ (λ a b. a && b) (le-leb line l (omega (arith, e))) (lt-ltb l (line + 1) (omega (arith, e))) ∙ sym (eq-eqb l line e)
  | inr differs ↦ elim (cases_lt l line) [
    | inl lt ↦ and_left (nat_le line l) (nat_lt l (line + 1)) (lt-leb line l lt) ∙ sym (ne_eqb l line differs)
    | inr ge ↦ and_right (nat_le line l) (nat_lt l (line + 1)) (le-ltb l (line + 1) (over ge differs)) ∙ sym (ne_eqb l line differs)
  ]
]
  where
    over : line ≤ l → (l ≡ line → ⊥) → line + 1 ≤ l
    over ge differs = elim (cases_lt line l) [
      | inl lt ↦ omega (arith, lt)
      | inr le ↦ absurd (differs (omega (arith, ge, le)))
    ]

pub none_lies : (range : ℕ × ℕ) (place : ℕ) → range.1 ≤ range.0 → lies_in range place ≡ false
none_lies range place none = elim (cases_lt place range.0) [
  | inl lt ↦ and_left (nat_le range.0 place) (nat_lt place range.1) (lt-leb range.0 place lt)
  | inr ge ↦ and_right (nat_le range.0 place) (nat_lt place range.1) (le-ltb place range.1 (omega (arith, none, ge)))
]

range_more : (first end l : ℕ) → first ≤ end → lies_in (first, end + 1) l ≡ (lies_in (first, end) l || eqb l end)
range_more first end l ordered = grind (arith, nat_tests)

-- ---- a rectangle more

and_turned : (a b : Bool) → (a && b) ≡ (b && a)
and_turned true true = refl
and_turned true false = refl
and_turned false true = refl
and_turned false false = refl

along_is : (upright : Bool) (line : ℕ) (range : ℕ × ℕ) (l p : ℕ) → has_along upright (rectangle_along upright line range) l p ≡ (eqb l line && lies_in range p)
along_is true line range l p = ap (λ b. lies_in range p && b) (one_lies line l) ∙ and_turned (lies_in range p) (eqb l line)
along_is false line range l p = ap (λ b. b && lies_in range p) (one_lies line l)

pub with_range : (upright : Bool) (line : ℕ) (range : ℕ × ℕ) (rectangle : Rectangle) (old new : List Rectangle) → rectangle ≡ rectangle_along upright line range → new ≡ old ++ rectangle ∷ []
    → HaveMore upright line range old new
with_range upright line range rectangle old new is pushed l p =
    ap (λ (rs : List Rectangle). have_along upright rs l p) pushed
    ∙ list_any-append (λ r. has_along upright r l p) old (rectangle ∷ [])
    ∙ ap (λ b. have_along upright old l p || b) (or-false (has_along upright rectangle l p) ∙ ap (λ r. has_along upright r l p) is ∙ along_is upright line range l p)

or_nothing : (a b c : Bool) → c ≡ false → a ≡ (a || (b && c))
or_nothing true b c h = refl
or_nothing false true c h = sym h
or_nothing false false c h = refl

pub without_range : (upright : Bool) (line : ℕ) (range : ℕ × ℕ) (old : List Rectangle) → range.1 ≤ range.0 → HaveMore upright line range old old
without_range upright line range old none l p = or_nothing (have_along upright old l p) (eqb l line) (lies_in range p) (none_lies range p none)

pub along_more : (upright : Bool) (line : ℕ) (range : ℕ × ℕ) (rectangle : Rectangle) (old new : List Rectangle) → rectangle ≡ rectangle_along upright line range → new ≡ old ++ rectangle ∷ []
    → range.0 < range.1 → (lines places : ℕ) → line < lines → IsRange places range → AreAlong upright lines places old → AreAlong upright lines places new
along_more true line range rectangle old new is pushed some lines places inside within h =
    subst (λ (rs : List Rectangle). All (IsWithin places lines) rs) (sym pushed)
    (All-push (IsWithin places lines) old rectangle h (subst (λ (r : Rectangle). IsWithin places lines r) (sym is) (record { rows = (some, within.1); columns = (omega arith, omega (arith, inside)) })))
along_more false line range rectangle old new is pushed some lines places inside within h =
    subst (λ (rs : List Rectangle). All (IsWithin lines places) rs) (sym pushed)
    (All-push (IsWithin lines places) old rectangle h (subst (λ (r : Rectangle). IsWithin lines places r) (sym is) (record { rows = (omega arith, omega (arith, inside)); columns = (some, within.1) })))

pub none_along : (upright : Bool) (lines places : ℕ) → AreAlong upright lines places []
none_along true lines places = All-nil (IsWithin places lines)
none_along false lines places = All-nil (IsWithin lines places)

-- ---- a line more

gathered : (o e b s h : Bool) → (((o || (e && b)) || (e && s)) || (e && h)) ≡ (o || (e && (b || (s || h))))
gathered true e b s h = refl
gathered false true true s h = refl
gathered false true false true h = refl
gathered false true false false h = refl
gathered false false b s h = refl

pub with_ranges : (upright : Bool) (line : ℕ) (ranges : NearRanges) (old one two new : List Rectangle) → HaveMore upright line ranges.before old one → HaveMore upright line ranges.beside one two
    → HaveMore upright line ranges.behind two new → (l p : ℕ) → have_along upright new l p ≡ (have_along upright old l p || (eqb l line && lies_in_some ranges p))
with_ranges upright line ranges old one two new before beside behind l p =
    behind l p
    ∙ ap (λ b. b || (eqb l line && lies_in ranges.behind p)) (beside l p ∙ ap (λ b. b || (eqb l line && lies_in ranges.beside p)) (before l p))
    ∙ gathered (have_along upright old l p) (eqb l line) (lies_in ranges.before p) (lies_in ranges.beside p) (lies_in ranges.behind p)

apart : (a e n m : Bool) → (e ≡ true → m ≡ n) → ((a && n) || (e && m)) ≡ ((a || e) && n)
apart true true n m same = here n m (same refl)
  where
    here : (n m : Bool) → m ≡ n → (n || m) ≡ n
    here true m h = refl
    here false m h = h
apart true false n m same = or-false n
apart false true n m same = same refl
apart false false n m same = refl

module _ (upright : Bool) (strip : StripValue) (lines values : List ℤ) where
  abbrev near : ℕ → ℕ → Bool
  near l p = near_segment (spot_at (value_at lines l) (value_at values p)) strip.a strip.b strip.width

  pub no_lines : (first : ℕ) → HaveNear upright strip lines values (first, first) []
  no_lines first l p l_in p_in = sym (and_left (lies_in (first, first) l) (near l p) (none_lies (first, first) l (omega arith)))

  pub line_more : (first line : ℕ) (ranges : NearRanges) (old new : List Rectangle) → first ≤ line → HaveNear upright strip lines values (first, line) old
      → ((l p : ℕ) → have_along upright new l p ≡ (have_along upright old l p || (eqb l line && lies_in_some ranges p)))
      → ((p : ℕ) → p < length values → lies_in_some ranges p ≡ near line p) → HaveNear upright strip lines values (first, line + 1) new
  line_more first line ranges old new ordered before more is l p l_in p_in =
      more l p
      ∙ ap₂ (λ a b. a || (eqb l line && b)) (before l p l_in p_in) (is p p_in)
      ∙ apart (lies_in (first, line) l) (eqb l line) (near l p) (near line p) (λ e. ap (λ k. near k p) (sym (here e)))
      ∙ ap (λ b. b && near l p) (sym (range_more first line l ordered))
    where
      here : eqb l line ≡ true → l ≡ line
      here e = grind (arith, nat_tests)

-- ---- the nodes of a plane

pub has_places : (values : List ℤ) (band : Band) (one other whole : ℤ) (range : ℕ × ℕ) → IsAbout band one other whole → IsRange (length values) range
    → ((place : ℕ) → place < length values → lies_in range place ≡ band_has band (value_at values place)) → HasPlaces values (within_half one other whole) range
has_places values band one other whole range is inside lies = record { inside = inside; lies = λ place inner. lies place inner ∙ is (value_at values place) }

only_near : (b n : Bool) → (b ≡ false → n ≡ false) → (b && n) ≡ n
only_near true n far = refl
only_near false n far = sym (far refl)

module _ (segment : Segment) (ys xs : List ℤ) (wide : IsMetres segment.rule.width) where
  abbrev start : Spot
  start = spot_of segment.start

  abbrev end : Spot
  end = spot_of segment.end

  abbrev width : ℤ
  width = segment.rule.width

  pub rows_spots : (rows : ℕ × ℕ) (rectangles : List Rectangle) (strip : StripValue) → strip ≡ record { a = start; b = end; width = width } → HasPlaces ys (near_y segment) rows
      → HaveNear false strip ys xs rows rectangles → HaveSpots segment ys xs rectangles
  rows_spots rows rectangles strip is places near y x y_in x_in =
      near y x y_in x_in
      ∙ ap (λ (s : StripValue). lies_in rows y && near_segment (spot_at (value_at ys y) (value_at xs x)) s.a s.b s.width) is
      ∙ only_near (lies_in rows y) (has_spot segment (value_at ys y) (value_at xs x))
      (λ out. far_row (spot_at (value_at ys y) (value_at xs x)) start end width wide.least (sym (places.lies y y_in) ∙ out))

  pub columns_spots : NearIsExchanged → (columns : ℕ × ℕ) (rectangles : List Rectangle) (strip : StripValue) → strip ≡ record { a = exchanged start; b = exchanged end; width = width }
      → HasPlaces xs (near_x segment) columns → HaveNear true strip xs ys columns rectangles → HaveSpots segment ys xs rectangles
  columns_spots law columns rectangles strip is places near y x y_in x_in =
      near x y x_in y_in
      ∙ ap (λ (s : StripValue). lies_in columns x && near_segment (spot_at (value_at xs x) (value_at ys y)) s.a s.b s.width) is
      ∙ ap (λ b. lies_in columns x && b) (law (spot_at (value_at ys y) (value_at xs x)) start end width)
      ∙ only_near (lies_in columns x) (has_spot segment (value_at ys y) (value_at xs x))
      (λ out. far_column (spot_at (value_at ys y) (value_at xs x)) start end width wide.least (sym (places.lies x x_in) ∙ out))

  -- the node of one row and one column
  module _ (rows columns : ℕ × ℕ) (down : HasPlaces ys (near_y segment) rows) (across : HasPlaces xs (near_x segment) columns) (one_row : rows.1 ≡ rows.0 + 1) (one_column : columns.1 ≡ columns.0 + 1) where
    abbrev here : Bool
    here = has_spot segment (value_at ys rows.0) (value_at xs columns.0)

    only : (range : ℕ × ℕ) (k : ℕ) → range.1 ≡ range.0 + 1 → lies_in range k ≡ true → k ≡ range.0
    only range k one h = grind (arith, nat_tests, one)

    -- elsewhere nothing is near
    spot_is : (y x : ℕ) → y < length ys → x < length xs → has_spot segment (value_at ys y) (value_at xs x) ≡ ((lies_in rows y && lies_in columns x) && here)
    spot_is y x y_in x_in = by_rows (lies_in rows y) refl
      where
        by_columns : (b : Bool) → lies_in columns x ≡ b → lies_in rows y ≡ true → has_spot segment (value_at ys y) (value_at xs x) ≡ ((lies_in rows y && lies_in columns x) && here)
        by_columns true h k =
            ap₂ (λ i j. has_spot segment (value_at ys i) (value_at xs j)) (only rows y one_row k) (only columns x one_column h)
            ∙ sym (ap₂ (λ a b. (a && b) && here) k h)
        by_columns false h k =
            far_column (spot_at (value_at ys y) (value_at xs x)) start end width wide.least (sym (across.lies x x_in) ∙ h)
            ∙ sym (ap₂ (λ a b. (a && b) && here) k h)

        by_rows : (b : Bool) → lies_in rows y ≡ b → has_spot segment (value_at ys y) (value_at xs x) ≡ ((lies_in rows y && lies_in columns x) && here)
        by_rows true h = by_columns (lies_in columns x) refl h
        by_rows false h =
            far_row (spot_at (value_at ys y) (value_at xs x)) start end width wide.least (sym (down.lies y y_in) ∙ h)
            ∙ sym (ap (λ a. (a && lies_in columns x) && here) h)

    pub node_spots : here ≡ true → (rectangles : List Rectangle) → rectangles ≡ record { rows = rows; columns = columns } ∷ [] → HaveSpots segment ys xs rectangles
    node_spots near rectangles is y x y_in x_in =
        ap (λ (rs : List Rectangle). have_place rs y x) is ∙ or-false (lies_in rows y && lies_in columns x)
        ∙ with_true (lies_in rows y && lies_in columns x) here near ∙ sym (spot_is y x y_in x_in)
      where
        with_true : (a b : Bool) → b ≡ true → a ≡ (a && b)
        with_true true b h = sym h
        with_true false b h = refl

    pub no_spots : here ≡ false → (rectangles : List Rectangle) → rectangles ≡ [] → HaveSpots segment ys xs rectangles
    no_spots far rectangles is y x y_in x_in =
        ap (λ (rs : List Rectangle). have_place rs y x) is
        ∙ sym (spot_is y x y_in x_in ∙ ap (λ b. (lies_in rows y && lies_in columns x) && b) far ∙ and-false (lies_in rows y && lies_in columns x))

    pub node_within : (rectangles : List Rectangle) → rectangles ≡ record { rows = rows; columns = columns } ∷ [] → All (IsWithin (length ys) (length xs)) rectangles
    node_within rectangles is =
        subst (λ (rs : List Rectangle). All (IsWithin (length ys) (length xs)) rs) (sym is)
        (All-push (IsWithin (length ys) (length xs)) [] (record { rows = rows; columns = columns }) (All-nil (IsWithin (length ys) (length xs)))
        (record { rows = (omega (arith, one_row), down.inside.1); columns = (omega (arith, one_column), across.inside.1) }))

  -- without a row, or without a column, nothing is near
  pub no_row : (rows : ℕ × ℕ) → HasPlaces ys (near_y segment) rows → rows.1 ≤ rows.0 → (rectangles : List Rectangle) → rectangles ≡ [] → HaveSpots segment ys xs rectangles
  no_row rows down none rectangles is y x y_in x_in =
      ap (λ (rs : List Rectangle). have_place rs y x) is
      ∙ sym (far_row (spot_at (value_at ys y) (value_at xs x)) start end width wide.least (sym (down.lies y y_in) ∙ none_lies rows y none))

  pub no_column : (columns : ℕ × ℕ) → HasPlaces xs (near_x segment) columns → columns.1 ≤ columns.0 → (rectangles : List Rectangle) → rectangles ≡ [] → HaveSpots segment ys xs rectangles
  no_column columns across none rectangles is y x y_in x_in =
      ap (λ (rs : List Rectangle). have_place rs y x) is
      ∙ sym (far_column (spot_at (value_at ys y) (value_at xs x)) start end width wide.least (sym (across.lies x x_in) ∙ none_lies columns x none))

  pub spots_near : (rectangles : List Rectangle) → HaveSpots segment ys xs rectangles → AreNear segment ys xs rectangles
  spots_near rectangles spots = record {
    rows = λ y x y_in x_in has. (near_within (spot_at (value_at ys y) (value_at xs x)) start end width wide.least (sym (spots y x y_in x_in) ∙ has)).1;
    columns = λ y x y_in x_in has. (near_within (spot_at (value_at ys y) (value_at xs x)) start end width wide.least (sym (spots y x y_in x_in) ∙ has)).0;
  }

pub none_near : (segment : Segment) (ys xs : List ℤ) (rectangles : List Rectangle) → rectangles ≡ [] → AreNear segment ys xs rectangles
none_near segment ys xs rectangles none = subst (λ (rs : List Rectangle). AreNear segment ys xs rs) (sym none) (record {
  rows = λ y x y_in x_in has. cc;
  columns = λ y x y_in x_in has. cc;
})
