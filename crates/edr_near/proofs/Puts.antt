-- One more item in its cell.
use Rattle.std.proofs.Common.{◌≡◌, ◌≢◌, ◌⊎◌, ℕ, ◌/◌, ◌%◌, ◌<◌, inl, inr, List, [], ◌∷◌, All, Contains, get_or, Option, Some, None, bytes_eq, MatchOption, Result, Ok, Err, IfOk, OnOk, OnErr, refl, sym, ap, ◌∙◌, subst, arith}
use Rattle.std.specs.Prelude.{◌↔◌, ⊤}
use Rattle.std.specs.List.{filter}
use Rattle.std.proofs.lemmas.Bool.{cases_Bool, false≢true}
use Rattle.std.proofs.lemmas.Slice.Eq.{bytes_eq-Decides}
use Rattle.std.proofs.lemmas.List.Elements.{All-nil, All-cons, All-append, All-filter, All-contains, Contains-get_or}
use Rattle.edr_base.specs.declared.places.Spot.{Spot}
use Rattle.edr_ids.specs.Ids.{AscendBy, AreById, item_of, with_item, is_below, is_above}
use Rattle.edr_ids.specs.ListLaws.{AscendBy-with_item, item_found}
use Rattle.edr_near.specs.Squares.{strips}
use Rattle.edr_near.specs.Cells.{CellValue, key_of, cell_key, IsIn, IsCell, AreCells, Has}
use Rattle.edr_near.specs.Kept.{IsMore, IsWith}
use Rattle.edr_near.proofs.Nearest.{only_one}

number_same : (m n : ℕ) → m / 256 ≡ n / 256 → m % 256 ≡ n % 256 → m ≡ n
number_same m n h k = omega (arith, h, k)

pub column_same : (c r c' r' : ℕ) → key_of c r ≡ key_of c' r' → c ≡ c'
column_same c r c' r' e = number_same c c' (cc e) (cc e)

pub row_same : (c r c' r' : ℕ) → key_of c r ≡ key_of c' r' → r ≡ r'
row_same c r c' r' e = number_same r r' (cc e) (cc e)

is_some : {V : Type 0} (a b : V) → Some a ≡ Some b → a ≡ b
is_some a b e = cc

module _ {V : Type 0} (spot_of : V → Spot) (cells : List (CellValue V)) (are : AreCells spot_of cells) (by : AreById (cell_key {V = V}))
    (column row : ℕ) (item : V) (cell : CellValue V) (with : IsWith cells column row item cell) where
  abbrev new : List (CellValue V)
  new = with_item cell_key cell cells

  new_up : AscendBy cell_key new
  new_up = AscendBy-with_item cell_key cell cells are.ascending

  -- what the new cell has
  has_item : Contains cell.items item
  has_item = by_match (item_of cell_key (key_of column row) cells) with.items
    where
      by_match : (had : Option (CellValue V)) → MatchOption had (cell.items ≡ item ∷ []) (λ had. IsMore had.items item cell.items) → Contains cell.items item
      by_match None is = subst (λ (l : List V). Contains l item) (sym is) (0, omega arith, refl)
      by_match (Some had) is = (is item).1 (inl refl)

  in_new_cell : (v : V) → Contains cell.items v → (v ≡ item) ⊎ Has cells v
  in_new_cell v there = by_match (item_of cell_key (key_of column row) cells) refl with.items
    where
      by_match : (had : Option (CellValue V)) → item_of cell_key (key_of column row) cells ≡ had → MatchOption had (cell.items ≡ item ∷ []) (λ had. IsMore had.items item cell.items)
          → (v ≡ item) ⊎ Has cells v
      by_match None e is = inl (sym (only_one item v (subst (λ (l : List V). Contains l v) is there)))
      by_match (Some had) e is = elim ((is v).0 there) [
        | inl own ↦ inl own
        | inr old ↦ inr (record { cell = had; there = ((by.found (key_of column row) cells had are.ascending).0 e).0; stands = old })
      ]

  still_in_cell : (v : V) (had : CellValue V) → Contains cells had → cell_key had ≡ key_of column row → Contains had.items v → Contains cell.items v
  still_in_cell v had there own stands =
      let e : item_of cell_key (key_of column row) cells ≡ Some had = (by.found (key_of column row) cells had are.ascending).1 (there, own) in
      let is : IsMore had.items item cell.items = subst (λ o. MatchOption o (cell.items ≡ item ∷ []) (λ (h : CellValue V). IsMore h.items item cell.items)) e with.items in
      (is v).1 (inr stands)

  cell_there : Contains new cell
  cell_there = ((by.found (cell_key cell) new cell new_up).0 (by.set cell cells)).0

  others_stay : (c : CellValue V) → cell_key c ≢ cell_key cell → item_of cell_key (cell_key c) new ≡ item_of cell_key (cell_key c) cells
  others_stay c apart = by.set_others (cell_key c) cell cells (λ e. apart (sym e))

  pub was_or_is : (v : V) → Has new v → (v ≡ item) ⊎ Has cells v
  was_or_is v has =
      let c = has.cell in
      let found : item_of cell_key (cell_key c) new ≡ Some c = (by.found (cell_key c) new c new_up).1 (has.there, refl) in
      elim (cases_Bool (bytes_eq (cell_key c) (cell_key cell))) [
        | inl same ↦
            (let e : cell_key c ≡ cell_key cell = (bytes_eq-Decides (cell_key c) (cell_key cell)).0 same in
            let is : c ≡ cell = is_some c cell (sym found ∙ (ap (λ k. item_of cell_key k new) e ∙ by.set cell cells)) in
            in_new_cell v (subst (λ (x : CellValue V). Contains x.items v) is has.stands))
        | inr differ ↦
            (let apart : cell_key c ≢ cell_key cell = λ e. false≢true (sym differ ∙ (bytes_eq-Decides (cell_key c) (cell_key cell)).1 e) in
            inr (record { cell = c; there = ((by.found (cell_key c) cells c are.ascending).0 (sym (others_stay c apart) ∙ found)).0; stands = has.stands }))
      ]

  pub is_there : Has new item
  is_there = record { cell = cell; there = cell_there; stands = has_item }

  pub stays : (v : V) → Has cells v → Has new v
  stays v has =
      let c = has.cell in
      elim (cases_Bool (bytes_eq (cell_key c) (cell_key cell))) [
        | inl same ↦
            record { cell = cell; there = cell_there; stands = still_in_cell v c has.there ((bytes_eq-Decides (cell_key c) (cell_key cell)).0 same ∙ with.key) has.stands }
        | inr differ ↦
            (let apart : cell_key c ≢ cell_key cell = λ e. false≢true (sym differ ∙ (bytes_eq-Decides (cell_key c) (cell_key cell)).1 e) in
            let found : item_of cell_key (cell_key c) cells ≡ Some c = (by.found (cell_key c) cells c are.ascending).1 (has.there, refl) in
            record { cell = c; there = ((by.found (cell_key c) new c new_up).0 (others_stay c apart ∙ found)).0; stands = has.stands })
      ]

  pub put_has : (v : V) → Has new v ↔ ((v ≡ item) ⊎ Has cells v)
  put_has v = (
    was_or_is v,
    λ either. elim either [
      | inl is ↦ subst (Has new) (sym is) is_there
      | inr had ↦ stays v had
    ],
  )

  -- ---- they are cells

  module _ (column_in : column < strips) (row_in : row < strips) (inside : IsIn spot_of column row item) where
    column_is : cell.column ≡ column
    column_is = column_same cell.column cell.row column row with.key

    row_is : cell.row ≡ row
    row_is = row_same cell.column cell.row column row with.key

    all_inside : All (IsIn spot_of column row) cell.items
    all_inside = by_match (item_of cell_key (key_of column row) cells) refl with.items
      where
        by_match : (had : Option (CellValue V)) → item_of cell_key (key_of column row) cells ≡ had → MatchOption had (cell.items ≡ item ∷ []) (λ had. IsMore had.items item cell.items)
            → All (IsIn spot_of column row) cell.items
        by_match None e is = subst (All (IsIn spot_of column row)) (sym is) (All-cons (IsIn spot_of column row) item [] inside (All-nil (IsIn spot_of column row)))
        by_match (Some had) e is =
            let found = (by.found (key_of column row) cells had are.ascending).0 e in
            let was : All (IsIn spot_of had.column had.row) had.items = (All-contains (IsCell spot_of) cells had are.each found.0).inside in
            let same : All (IsIn spot_of column row) had.items =
            subst (λ r. All (IsIn spot_of column r) had.items) (row_same had.column had.row column row found.1)
            (subst (λ c. All (IsIn spot_of c had.row) had.items) (column_same had.column had.row column row found.1) was) in
            λ k d low. elim ((is (get_or cell.items k d)).0 (Contains-get_or cell.items k d low)) [
              | inl own ↦ subst (IsIn spot_of column row) (sym own) inside
              | inr old ↦ All-contains (IsIn spot_of column row) had.items (get_or cell.items k d) same old
            ]

    is_cell : IsCell spot_of cell
    is_cell = record {
      column_in = subst (λ c. c < strips) (sym column_is) column_in;
      row_in = subst (λ r. r < strips) (sym row_is) row_in;
      some = omega (arith, has_item.1);
      inside = subst (λ r. All (IsIn spot_of cell.column r) cell.items) (sym row_is) (subst (λ c. All (IsIn spot_of c row) cell.items) (sym column_is) all_inside);
    }

    pub are_cells : AreCells spot_of new
    are_cells = record {
      ascending = new_up;
      each = All-append (IsCell spot_of) (filter (is_below cell_key (cell_key cell)) cells) (cell ∷ filter (is_above cell_key (cell_key cell)) cells)
          (All-filter (is_below cell_key (cell_key cell)) (IsCell spot_of) cells are.each)
          (All-cons (IsCell spot_of) cell (filter (is_above cell_key (cell_key cell)) cells) is_cell
          (All-filter (is_above cell_key (cell_key cell)) (IsCell spot_of) cells are.each));
    }

-- ---- results

pub on_ok : {E A B : Type 0} (r : Result ⊤ E) → OnOk r A → (A → B) → OnOk r B
on_ok (Ok x) a f = f a
on_ok (Err e) a f = tt

pub either_way : {E C : Type 0} (P : C → Type 0) (new a b : C) (r : Result ⊤ E) → OnOk r (new ≡ a) → OnErr r (new ≡ b) → P a → P b → P new
either_way P now a b (Ok x) ok err pa pb = subst P (sym ok) pa
either_way P now a b (Err e) ok err pa pb = subst P (sym err) pb

module _ {V E : Type 0} (cells : List (CellValue V)) (column row : ℕ) (item : V) where
  pub new_is : (r : Result (CellValue V) E) → item_of cell_key (key_of column row) cells ≡ None → IfOk r (λ cell. cell ≡ record { column = column; row = row; items = item ∷ [] })
      → IfOk r (λ cell. IsWith cells column row item cell)
  new_is (Ok cell) none is = record {
    key = ap cell_key is;
    items = subst (λ o. MatchOption o (cell.items ≡ item ∷ []) (λ (had : CellValue V). IsMore had.items item cell.items)) (sym none) (ap (λ (c : CellValue V). c.items) is);
  }
  new_is (Err e) none is = tt

  pub had_is : (had : CellValue V) (r : Result (CellValue V) E) → item_of cell_key (key_of column row) cells ≡ Some had
      → IfOk r (λ cell. cell_key cell ≡ cell_key had) → IfOk r (λ cell. IsMore had.items item cell.items) → IfOk r (λ cell. IsWith cells column row item cell)
  had_is had (Ok cell) some own is = record {
    key = own ∙ (item_found cell_key (key_of column row) cells had some).1;
    items = subst (λ o. MatchOption o (cell.items ≡ item ∷ []) (λ (h : CellValue V). IsMore h.items item cell.items)) (sym some) is;
  }
  had_is had (Err e) some own is = tt
