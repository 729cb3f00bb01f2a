-- The values of a strip, put in place row by row and tile by tile.
use Rattle.std.proofs.Common.{◌≡◌, ℕ, zero, suc, ◌+◌, ◌-◌, ◌*◌, ◌/◌, ◌<◌, ◌≤◌, List, ◌++◌, length, take, drop, get_or, ℤ, Option, None, ap, sym, ◌∙◌, subst, arith, inl, inr, get_or-take, get_or-drop, length-take, length-drop}
use Rattle.std.specs.Prelude.{map, if◌then◌else◌, ◌⊎◌}
use Rattle.std.specs.List.{flat_map, range_with_len}
use Rattle.std.proofs.lemmas.Bool.{cases_order}
use Rattle.std.proofs.Math.Nat.{mul-le-mul_right}
use Rattle.std.proofs.lemmas.List.{take-append-drop, nil_from_length, get_or_default}
use Rattle.edr_chunk.specs.Grids as chunk
use Rattle.edr_chunk.specs.Tiles.{TileValue, value_in}
use Rattle.edr_select.specs.Framings.{FrameValue, is_set, cell_at, row_cells, strip_cells, cell_value}
use Rattle.edr_send.specs.Strips.{shown}
use Rattle.edr_select.specs.ListLaws.{map-map, map-flat_map, flat_map_agree}
use Rattle.edr_send.proofs.Puts.{told_by_items}

-- ---- one row

-- of a row those columns are filled that stand below one
pub record RowFilled (tile : TileValue) (frame : FrameValue) (y left x first : ℕ) (old now : List (Option ℤ)) : Type 0 where
  pub long : length now ≡ length old
  pub here : (k : ℕ) → left ≤ k → k < x → get_or now (first + (k - frame.column)) None ≡ (if is_set frame y k then value_in tile y k else get_or old (first + (k - frame.column)) None)
  pub before : (k : ℕ) → k + frame.column < first + left → get_or now k None ≡ get_or old k None
  pub behind : (k : ℕ) → first + x ≤ k + frame.column → get_or now k None ≡ get_or old k None

-- ---- the rows of a tile

pub record RowsFilled (tile : TileValue) (frame : FrameValue) (from y left right : ℕ) (old now : List (Option ℤ)) : Type 0 where
  pub long : length now ≡ length old
  pub here : (j x : ℕ) → from ≤ j → j < y → left ≤ x → x < right → shown frame from now j x ≡ (if is_set frame j x then value_in tile j x else shown frame from old j x)
  pub other : (j x : ℕ) → from ≤ j → frame.column ≤ x → x < frame.column + frame.columns → (x < left) ⊎ (right ≤ x) → shown frame from now j x ≡ shown frame from old j x
  pub later : (j x : ℕ) → from ≤ j → y ≤ j → frame.column ≤ x → x < frame.column + frame.columns → shown frame from now j x ≡ shown frame from old j x

-- a row's places stand before those of the next
before_row : (from j y columns : ℕ) → from ≤ j → j < y → (j - from) * columns + columns ≤ (y - from) * columns
before_row from j y columns low l = let m : (j - from + 1) * columns ≤ (y - from) * columns = mul-le-mul_right columns (omega (arith, low, l)) in omega (arith, m, more (j - from) columns)
  where
    more : (a b : ℕ) → (a + 1) * b ≡ a * b + b
    more a b = omega arith

pub rows_more : (tile : TileValue) (frame : FrameValue) (from y left right : ℕ) (old now next : List (Option ℤ)) → from ≤ y → frame.column ≤ left → left ≤ right → right ≤ frame.column + frame.columns
    → RowsFilled tile frame from y left right old now → RowFilled tile frame y left right ((y - from) * frame.columns) now next → RowsFilled tile frame from (y + 1) left right old next
rows_more tile frame from y left right old now next start low order high f r = record {
  long = r.long ∙ f.long;
  here = λ j x l h a b. elim (cases_order j y) [
    | inl same ↦ subst (λ (i : ℕ). shown frame from next i x ≡ (if is_set frame i x then value_in tile i x else shown frame from old i x)) (sym same)
        (r.here x a b ∙ ap (λ (v : Option ℤ). if is_set frame y x then value_in tile y x else v) (f.later y x start (omega arith) (omega (arith, low, a)) (omega (arith, high, b))))
    | inr (inl lt) ↦ earlier j x l lt (omega (arith, high, b)) (omega (arith, low, a)) ∙ f.here j x l lt a b
    | inr (inr gt) ↦ absurd (omega (arith, gt, h))
  ];
  other = λ j x l a b o. unchanged j x l a b o ∙ f.other j x l a b o;
  later = λ j x l up a b. afterwards j x (omega (arith, up)) a b ∙ f.later j x l (omega (arith, up)) a b;
}
  where
    earlier : (j x : ℕ) → from ≤ j → j < y → x < frame.column + frame.columns → frame.column ≤ x → shown frame from next j x ≡ shown frame from now j x
    earlier j x l lt h a = r.before ((j - from) * frame.columns + (x - frame.column)) (omega (arith, before_row from j y frame.columns l lt, h, a, low))

    afterwards : (j x : ℕ) → y < j → frame.column ≤ x → x < frame.column + frame.columns → shown frame from next j x ≡ shown frame from now j x
    afterwards j x gt a h = r.behind ((j - from) * frame.columns + (x - frame.column)) (omega (arith, before_row from y j frame.columns start gt, h, a, high))

    unchanged : (j x : ℕ) → from ≤ j → frame.column ≤ x → x < frame.column + frame.columns → (x < left) ⊎ (right ≤ x) → shown frame from next j x ≡ shown frame from now j x
    unchanged j x l a b o = elim (cases_order j y) [
      | inl same ↦ subst (λ (i : ℕ). shown frame from next i x ≡ shown frame from now i x) (sym same) (in_row o)
      | inr (inl lt) ↦ earlier j x l lt b a
      | inr (inr gt) ↦ afterwards j x gt a b
    ]
      where
        in_row : (x < left) ⊎ (right ≤ x) → shown frame from next y x ≡ shown frame from now y x
        in_row (inl under) = r.before ((y - from) * frame.columns + (x - frame.column)) (omega (arith, under, a))
        in_row (inr over) = r.behind ((y - from) * frame.columns + (x - frame.column)) (omega (arith, over, a))

-- ---- the tiles of a strip

-- the values below a column of tiles are read, and there is none from it on
pub record TilesFilled (grid : chunk.Values) (frame : FrameValue) (p t z from to across : ℕ) (now : List (Option ℤ)) : Type 0 where
  pub long : length now ≡ (to - from) * frame.columns
  pub here : (y x : ℕ) → from ≤ y → y < to → frame.column ≤ x → x < frame.column + frame.columns → x / 64 < across → shown frame from now y x ≡ cell_value grid p (cell_at frame t z y x)
  pub blank : (y x : ℕ) → from ≤ y → y < to → frame.column ≤ x → x < frame.column + frame.columns → across ≤ x / 64 → shown frame from now y x ≡ None

pub tiles_more : (grid : chunk.Values) (frame : FrameValue) (p t z from to across : ℕ) (now next : List (Option ℤ)) → TilesFilled grid frame p t z from to across now → length next ≡ length now
    → ((y x : ℕ) → from ≤ y → y < to → frame.column ≤ x → x < frame.column + frame.columns → x / 64 ≡ across → shown frame from next y x ≡ cell_value grid p (cell_at frame t z y x))
    → ((y x : ℕ) → from ≤ y → y < to → frame.column ≤ x → x < frame.column + frame.columns → (x / 64 ≡ across → ⊥) → shown frame from next y x ≡ shown frame from now y x)
    → TilesFilled grid frame p t z from to (across + 1) next
tiles_more grid frame p t z from to across now next f long here other = record {
  long = long ∙ f.long;
  here = λ y x low high left right under. elim (cases_order (x / 64) across) [
    | inl same ↦ here y x low high left right same
    | inr (inl lt) ↦ other y x low high left right (λ e. omega (arith, e, lt)) ∙ f.here y x low high left right lt
    | inr (inr gt) ↦ absurd (omega (arith, gt, under))
  ];
  blank = λ y x low high left right over. other y x low high left right (λ e. omega (arith, e, over)) ∙ f.blank y x low high left right (omega (arith, over));
}

-- ---- values in rows

-- a list is told by its rows
told_by_rows : (g : ℕ → ℕ → Option ℤ) (columns column : ℕ) (rows from : ℕ) (values : List (Option ℤ)) → length values ≡ rows * columns
    → ((i j : ℕ) → i < rows → j < columns → get_or values (i * columns + j) None ≡ g (from + i) (column + j))
    → values ≡ flat_map (λ y. map (g y) (range_with_len column columns)) (range_with_len from rows)
told_by_rows g columns column zero from values long told = nil_from_length values (long ∙ none columns)
  where
    none : (c : ℕ) → 0 * c ≡ 0
    none c = omega arith
told_by_rows g columns column (suc rows) from values long told =
    sym (take-append-drop columns values)
    ∙ ap (λ (l : List (Option ℤ)). l ++ drop columns values) first
    ∙ ap (λ (l : List (Option ℤ)). map (g from) (range_with_len column columns) ++ l)
    (told_by_rows g columns column rows (from + 1) (drop columns values) rest (λ i j l h. get_or-drop columns values (i * columns + j) None ∙ ap (λ (k : ℕ). get_or values k None) (place i columns j) ∙ told (suc i) j (omega (arith, l)) h ∙ ap (λ (k : ℕ). g k (column + j)) (next from i)))
  where
    place : (i c j : ℕ) → c + (i * c + j) ≡ suc i * c + j
    place i c j = omega arith

    next : (from i : ℕ) → from + suc i ≡ from + 1 + i
    next from i = omega arith

    whole : (rows columns : ℕ) → suc rows * columns ≡ columns + rows * columns
    whole rows columns = omega arith

    here : (from j columns : ℕ) → 0 * columns + j ≡ j
    here from j columns = omega arith

    same : (from : ℕ) → from + 0 ≡ from
    same from = omega arith

    some : zero < suc rows
    some = omega arith

    rest : length (drop columns values) ≡ rows * columns
    rest = omega (arith, length-drop columns values, long, whole rows columns)

    short : length (take columns values) ≡ columns
    short = omega (arith, length-take columns values, long, whole rows columns)

    item : (n : ℕ) (d : Option ℤ) → n < length (take columns values) → get_or (take columns values) n d ≡ g from (column + n)
    item n d l =
        let low : n < columns = omega (arith, short, l) in
        get_or_default (take columns values) n d None l
        ∙ get_or-take columns values n None low ∙ sym (ap (λ (k : ℕ). get_or values k None) (here from n columns)) ∙ told zero n some low
        ∙ ap (λ (k : ℕ). g k (column + n)) (same from)

    first : take columns values ≡ map (g from) (range_with_len column columns)
    first = told_by_items (g from) (take columns values) column item ∙ ap (λ (k : ℕ). map (g from) (range_with_len column k)) short

-- the values of a strip are those that it shows
pub strip_is : (grid : chunk.Values) (frame : FrameValue) (p t z from to : ℕ) (now : List (Option ℤ)) → length now ≡ (to - from) * frame.columns → from ≤ to
    → ((y x : ℕ) → from ≤ y → y < to → frame.column ≤ x → x < frame.column + frame.columns → shown frame from now y x ≡ cell_value grid p (cell_at frame t z y x))
    → now ≡ map (cell_value grid p) (strip_cells frame t z from (to - from))
strip_is grid frame p t z from to now long order all =
    told_by_rows (λ y x. cell_value grid p (cell_at frame t z y x)) frame.columns frame.column (to - from) from now long
    (λ i j l h.
    sym (ap (λ (k : ℕ). get_or now (k * frame.columns + j) None) (up from i)) ∙ sym (ap (λ (k : ℕ). get_or now ((from + i - from) * frame.columns + k) None) (up frame.column j))
    ∙ all (from + i) (frame.column + j) (omega arith) (omega (arith, l)) (omega arith) (omega (arith, h)))
    ∙ sym (map-flat_map (cell_value grid p) (row_cells frame t z) (range_with_len from (to - from))
    ∙ flat_map_agree (λ y. map (cell_value grid p) (row_cells frame t z y)) (λ y. map (λ x. cell_value grid p (cell_at frame t z y x)) (range_with_len frame.column frame.columns))
    (λ y. map-map (cell_value grid p) (cell_at frame t z y) (range_with_len frame.column frame.columns)) (range_with_len from (to - from)))
  where
    up : (a b : ℕ) → a + b - a ≡ b
    up a b = omega arith
