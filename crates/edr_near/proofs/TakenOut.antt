-- Items that are taken out of their cell.
use Rattle.std.proofs.Common.{◌≡◌, ◌≢◌, ℕ, ◌<◌, Bool, true, false, not, ◌&&◌, inl, inr, List, [], ◌∷◌, length, get_or, Contains, Some, None, bytes_eq, refl, sym, ap, ap₂, ◌∙◌, subst, arith}
use Rattle.std.specs.Prelude.{◌↔◌}
use Rattle.std.specs.Ordering.{int_eq}
use Rattle.std.specs.List.{filter}
use Rattle.std.proofs.lemmas.Bool.{cases_Bool, false≢true, and_parts}
use Rattle.std.proofs.lemmas.Bool.Decides.{Decides-int_eq}
use Rattle.std.proofs.lemmas.Slice.Eq.{bytes_eq-Decides}
use Rattle.std.proofs.lemmas.List.Elements.{All-cons, All-append, All-filter, All-contains, Contains-get_or}
use Rattle.edr_base.specs.declared.places.Spot.{Spot}
use Rattle.edr_ids.specs.Ids.{AscendBy, AreById, item_of, with_item, without_id, has_id, is_below, is_above}
use Rattle.edr_ids.specs.ListLaws.{AscendBy-with_item, AscendBy-without_id}
use Rattle.edr_near.specs.Squares.{strip_of}
use Rattle.edr_near.specs.Near.{is_it}
use Rattle.edr_near.specs.Cells.{CellValue, key_of, cell_key, IsIn, IsCell, AreCells, Has}
use Rattle.edr_near.specs.Kept.{IsLeft}
use Rattle.edr_near.proofs.Puts.{column_same, row_same}

is_one : {V : Type 0} (a b : V) → Some a ≡ Some b → a ≡ b
is_one a b e = cc

module _ {V : Type 0} (id_of : V → List ℕ) (spot_of : V → Spot) (spot : Spot) (id : List ℕ) (cells : List (CellValue V)) (are : AreCells spot_of cells) (by : AreById (cell_key {V = V})) where
  abbrev key : List ℕ
  key = key_of (strip_of spot.x) (strip_of spot.y)

  abbrev test : V → Bool
  test = is_it id_of spot_of spot id

  own_key : (c : CellValue V) → Contains cells c → (v : V) → Contains c.items v → cell_key c ≡ key_of (strip_of (spot_of v).x) (strip_of (spot_of v).y)
  own_key c there v stands =
      let inside = All-contains (IsIn spot_of c.column c.row) c.items v (All-contains (IsCell spot_of) cells c are.each there).inside stands in
      ap₂ key_of (sym inside.along) (sym inside.across)

  it_here : (v : V) → test v ≡ true → key_of (strip_of (spot_of v).x) (strip_of (spot_of v).y) ≡ key
  it_here v is =
      let s = spot_of v in
      let here = (and_parts (bytes_eq (id_of v) id) (int_eq s.x spot.x && int_eq s.y spot.y) is).1 in
      let both = and_parts (int_eq s.x spot.x) (int_eq s.y spot.y) here in
      ap₂ (λ x y. key_of (strip_of x) (strip_of y)) ((Decides-int_eq s.x spot.x).0 both.0) ((Decides-int_eq s.y spot.y).0 both.1)

  -- what stands in another square isn't it
  passes : (c : CellValue V) → Contains cells c → (v : V) → Contains c.items v → cell_key c ≢ key → test v ≡ false
  passes c there v stands apart = elim (cases_Bool (test v)) [
    | inl is ↦ absurd (apart (own_key c there v stands ∙ it_here v is))
    | inr other ↦ other
  ]

  found_in : (list : List (CellValue V)) → AscendBy cell_key list → (c : CellValue V) → Contains list c → item_of cell_key (cell_key c) list ≡ Some c
  found_in list up c there = (by.found (cell_key c) list c up).1 (there, refl)

  there_in : (list : List (CellValue V)) → AscendBy cell_key list → (c : CellValue V) → item_of cell_key (cell_key c) list ≡ Some c → Contains list c
  there_in list up c found = ((by.found (cell_key c) list c up).0 found).0

  same_key : (a b : List ℕ) → bytes_eq a b ≡ true → a ≡ b
  same_key a b h = (bytes_eq-Decides a b).0 h

  other_key : (a b : List ℕ) → bytes_eq a b ≡ false → a ≢ b
  other_key a b h e = false≢true (sym h ∙ (bytes_eq-Decides a b).1 e)

  -- ---- where the square has no cell

  pub none_to_take : item_of cell_key key cells ≡ None → (v : V) → Has cells v ↔ (Has cells v × (test v ≡ false))
  none_to_take none v = (λ has. (has, not_it has), λ both. both.0)
    where
      not_it : Has cells v → test v ≡ false
      not_it has = passes has.cell has.there v has.stands (λ e. contrary (sym none ∙ (ap (λ k. item_of cell_key k cells) (sym e) ∙ found_in cells are.ascending has.cell has.there)))
        where
          contrary : None ≡ Some has.cell → ⊥
          contrary e = cc e

  module _ (had : CellValue V) (some : item_of cell_key key cells ≡ Some had) where
    had_there : Contains cells had
    had_there = ((by.found key cells had are.ascending).0 some).0

    had_key : cell_key had ≡ key
    had_key = ((by.found key cells had are.ascending).0 some).1

    is_had : (c : CellValue V) → Contains cells c → cell_key c ≡ key → c ≡ had
    is_had c there e = is_one c had (sym (found_in cells are.ascending c there) ∙ (ap (λ k. item_of cell_key k cells) e ∙ some))

    -- ---- where nothing is left of it

    module _ (left : IsLeft id_of spot_of spot id had.items []) where
      abbrev fewer : List (CellValue V)
      fewer = without_id cell_key key cells

      fewer_up : AscendBy cell_key fewer
      fewer_up = AscendBy-without_id cell_key key cells are.ascending

      pub without_has : (v : V) → Has fewer v ↔ (Has cells v × (test v ≡ false))
      without_has v = (was, still)
        where
          nothing : (c : CellValue V) → cell_key c ≡ key → Contains fewer c → ⊥
          nothing c e there = contrary (sym (by.taken_out key cells) ∙ (ap (λ k. item_of cell_key k fewer) (sym e) ∙ found_in fewer fewer_up c there))
            where
              contrary : None ≡ Some c → ⊥
              contrary e = cc e

          was : Has fewer v → Has cells v × (test v ≡ false)
          was has =
              let c = has.cell in
              elim (cases_Bool (bytes_eq (cell_key c) key)) [
                | inl same ↦ absurd (nothing c (same_key (cell_key c) key same) has.there)
                | inr differ ↦
                    (let apart = other_key (cell_key c) key differ in
                    let there = there_in cells are.ascending c (sym (by.left (cell_key c) key cells apart) ∙ found_in fewer fewer_up c has.there) in
                    (record { cell = c; there = there; stands = has.stands }, passes c there v has.stands apart))
              ]

          still : Has cells v × (test v ≡ false) → Has fewer v
          still both =
              let has = both.0 in
              let c = has.cell in
              elim (cases_Bool (bytes_eq (cell_key c) key)) [
                | inl same ↦
                    (let e = is_had c has.there (same_key (cell_key c) key same) in
                    absurd (omega (arith, ((left v).1 (subst (λ (x : CellValue V). Contains x.items v) e has.stands, both.1)).1)))
                | inr differ ↦
                    (let apart = other_key (cell_key c) key differ in
                    record {
                      cell = c;
                      there = there_in fewer fewer_up c (by.left (cell_key c) key cells apart ∙ found_in cells are.ascending c has.there);
                      stands = has.stands;
                    })
              ]

      pub without_cells : AreCells spot_of fewer
      without_cells = record { ascending = fewer_up; each = All-filter (λ c. not (has_id cell_key key c)) (IsCell spot_of) cells are.each }

    -- ---- where some items are left

    module _ (cell : CellValue V) (key_is : cell_key cell ≡ cell_key had) (some_left : 0 < length cell.items) (left : IsLeft id_of spot_of spot id had.items cell.items) where
      abbrev changed : List (CellValue V)
      changed = with_item cell_key cell cells

      changed_up : AscendBy cell_key changed
      changed_up = AscendBy-with_item cell_key cell cells are.ascending

      own : cell_key cell ≡ key
      own = key_is ∙ had_key

      cell_there : Contains changed cell
      cell_there = there_in changed changed_up cell (by.set cell cells)

      others_stay : (c : CellValue V) → cell_key c ≢ key → item_of cell_key (cell_key c) changed ≡ item_of cell_key (cell_key c) cells
      others_stay c apart = by.set_others (cell_key c) cell cells (λ e. apart (sym e ∙ own))

      pub changed_has : (v : V) → Has changed v ↔ (Has cells v × (test v ≡ false))
      changed_has v = (was, still)
        where
          was : Has changed v → Has cells v × (test v ≡ false)
          was has =
              let c = has.cell in
              elim (cases_Bool (bytes_eq (cell_key c) key)) [
                | inl same ↦
                    (let e : cell_key c ≡ cell_key cell = same_key (cell_key c) key same ∙ sym own in
                    let is : c ≡ cell = is_one c cell (sym (found_in changed changed_up c has.there) ∙ (ap (λ k. item_of cell_key k changed) e ∙ by.set cell cells)) in
                    let old = (left v).0 (subst (λ (x : CellValue V). Contains x.items v) is has.stands) in
                    (record { cell = had; there = had_there; stands = old.0 }, old.1))
                | inr differ ↦
                    (let apart = other_key (cell_key c) key differ in
                    let there = there_in cells are.ascending c (sym (others_stay c apart) ∙ found_in changed changed_up c has.there) in
                    (record { cell = c; there = there; stands = has.stands }, passes c there v has.stands apart))
              ]

          still : Has cells v × (test v ≡ false) → Has changed v
          still both =
              let has = both.0 in
              let c = has.cell in
              elim (cases_Bool (bytes_eq (cell_key c) key)) [
                | inl same ↦
                    (let e = is_had c has.there (same_key (cell_key c) key same) in
                    record { cell = cell; there = cell_there; stands = (left v).1 (subst (λ (x : CellValue V). Contains x.items v) e has.stands, both.1) })
                | inr differ ↦
                    (let apart = other_key (cell_key c) key differ in
                    record {
                      cell = c;
                      there = there_in changed changed_up c (others_stay c apart ∙ found_in cells are.ascending c has.there);
                      stands = has.stands;
                    })
              ]

      column_is : cell.column ≡ had.column
      column_is = column_same cell.column cell.row had.column had.row key_is

      row_is : cell.row ≡ had.row
      row_is = row_same cell.column cell.row had.column had.row key_is

      is_cell : IsCell spot_of cell
      is_cell =
          let was = All-contains (IsCell spot_of) cells had are.each had_there in
          record {
            column_in = subst (λ c. c < 4096) (sym column_is) was.column_in;
            row_in = subst (λ r. r < 4096) (sym row_is) was.row_in;
            some = some_left;
            inside = λ k d inside.
                let item = get_or cell.items k d in
                let old = ((left item).0 (Contains-get_or cell.items k d inside)).0 in
                let stands : IsIn spot_of had.column had.row item = All-contains (IsIn spot_of had.column had.row) had.items item was.inside old in
                subst (λ r. IsIn spot_of cell.column r item) (sym row_is) (subst (λ c. IsIn spot_of c had.row item) (sym column_is) stands);
          }

      pub changed_cells : AreCells spot_of changed
      changed_cells = record {
        ascending = changed_up;
        each = All-append (IsCell spot_of) (filter (is_below cell_key (cell_key cell)) cells) (cell ∷ filter (is_above cell_key (cell_key cell)) cells)
            (All-filter (is_below cell_key (cell_key cell)) (IsCell spot_of) cells are.each)
            (All-cons (IsCell spot_of) cell (filter (is_above cell_key (cell_key cell)) cells) is_cell
            (All-filter (is_above cell_key (cell_key cell)) (IsCell spot_of) cells are.each));
      }
