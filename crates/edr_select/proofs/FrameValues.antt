-- The values that are found at the nodes of a frame: the grid's where a node is taken, and none elsewhere.
use Rattle.std.proofs.Common.{◌≡◌, ◌≢◌, ℕ, ◌+◌, ◌*◌, ◌<◌, Bool, true, false, List, [], length, refl, ap, ap₂, sym, ◌∙◌, arith, mod-lt, Contains, Option, None, Some}
use Rattle.std.specs.Prelude.{◌&&◌, option_map, unwrap_or, if◌then◌else◌}
use Rattle.std.specs.List.{list_any, range_with_len}
use Rattle.std.proofs.lemmas.Bool.{false≢true, false_from_ne_true}
use Rattle.std.proofs.lemmas.Nat.{div-mul-add, mod-mul-add, mul-add-lt, div_below}
use Rattle.covjson_value.specs.Samples.{is_of}
use Rattle.edr_chunk.specs.declared.shapes.GridPlace.{GridPlace}
use Rattle.edr_chunk.specs.AllPlaces.{at}
use Rattle.edr_chunk.specs.Places.{Within}
use Rattle.edr_edition.specs.Values.{InstanceValue}
use Rattle.edr_query.specs.declared.shapes.Shape.{Shape}
use Rattle.edr_query.specs.Values.{QueryValue}
use Rattle.edr_select.specs.Samples.{Stored, id_at, node_at}
use Rattle.edr_select.specs.Documents.{same_station, value_in}
use Rattle.edr_select.specs.Choices.{TakesEach, takes_node, spots_in, Chosen, chosen, row_of, column_of}
use Rattle.edr_select.specs.Framings.{FrameValue, is_set, cell_at, cell_value}
use Rattle.edr_select.specs.Masks.{MaskValue, NoneTaken, IsMask, frame_with}
use Rattle.edr_select.specs.ListLaws.{find_none, filter_none, no_member}
use Rattle.edr_select.specs.KeptLaws.{contains_kept, kept_agree}
use Rattle.edr_select.specs.BoxLaws.{from_contains}
use Rattle.edr_select.specs.GridLaws.{IsGrid, same_stored}
use Rattle.edr_select.proofs.Picks.{picks_at, Taken, pick_found}
use Rattle.edr_select.proofs.Values.{value_at_place}
use Rattle.edr_select.proofs.ChosenLaws as laws

-- at the node of a place that isn't taken there is no value
pub absent_at_place : (i : InstanceValue) (q : QueryValue) → TakesEach q.shape → (a : GridPlace) → IsGrid i → Within i.grid.shape a → takes_node i q.shape a.y a.x ≡ false
    → value_in (picks_at i q) None (id_at i.parameters a.parameter) (node_at i a) ≡ None
absent_at_place i q each a g within none =
    let test : Stored → Bool = λ x. same_station x.station None && is_of (id_at i.parameters a.parameter) (node_at i a) x.sample in
    ap (λ (o : Option Stored). unwrap_or (option_map (λ (x : Stored). x.sample.value) o) None)
    (find_none test (picks_at i q) (false_from_ne_true (list_any test (picks_at i q)) (λ h.
    let f = pick_found i q each test h in
    let same : f.place ≡ a = same_stored i g a f.place within f.within f.passes in
    absurd (false≢true (sym none ∙ (ap (λ (b : GridPlace). takes_node i q.shape b.y b.x) (sym same) ∙ f.taken.near))))))

module _ (i : InstanceValue) (q : QueryValue) (each : TakesEach q.shape) (g : IsGrid i) (mask : MaskValue) (m : IsMask i q.shape mask) where
  abbrev c : Chosen
  c = chosen i q

  abbrev frame : FrameValue
  frame = frame_with i q mask

  abbrev rows : List ℕ
  rows = range_with_len mask.row mask.rows

  abbrev columns : List ℕ
  columns = range_with_len mask.column mask.columns

  pub row_below : (y : ℕ) → Contains rows y → y < length i.ys
  row_below y my = omega (arith, (from_contains mask.row mask.rows y my).1, m.rows)

  pub column_below : (x : ℕ) → Contains columns x → x < length i.xs
  column_below x mx = omega (arith, (from_contains mask.column mask.columns x mx).1, m.columns)

  -- a node of the frame is set where it is taken
  pub set_is : (y x : ℕ) → Contains rows y → Contains columns x → is_set frame y x ≡ takes_node i q.shape y x
  set_is y x my mx =
      let b = from_contains mask.row mask.rows y my in
      let a = from_contains mask.column mask.columns x mx in
      m.bits y x b.0 b.1 (omega (arith, m.left, a.0)) (omega (arith, m.right, a.1))

  pub node_within : (p t z y x : ℕ) → Contains c.parameters p → Contains c.times t → Contains c.levels z → Contains rows y → Contains columns x
      → Within i.grid.shape (at p t z y x)
  node_within p t z y x mp mt mz my mx = record {
    parameter = omega (arith, laws.parameter_below i q each g p mp, g.parameters);
    t = omega (arith, laws.time_below i q each g t mt, g.times);
    z = omega (arith, laws.level_below i q each g z mz, g.levels);
    y = omega (arith, row_below y my, g.rows);
    x = omega (arith, column_below x mx, g.columns);
  }

  -- a place of what is chosen whose node is taken
  pub node_taken : (p t z y x : ℕ) → Contains c.parameters p → Contains c.times t → Contains c.levels z → takes_node i q.shape y x ≡ true → Taken i q (at p t z y x)
  node_taken p t z y x mp mt mz h = record {
    asked = laws.parameter_asked i q each g p mp;
    time = laws.time_taken i q each g t mt;
    level = laws.level_taken i q each g z mz;
    near = h;
  }

  -- the value at a node
  pub value_at_node : (p t z y x : ℕ) → Contains c.parameters p → Contains c.times t → Contains c.levels z → Contains rows y → Contains columns x
      → value_in (picks_at i q) None (id_at i.parameters p) (node_at i (at 0 t z y x)) ≡ cell_value i.grid p (cell_at frame t z y x)
  value_at_node p t z y x mp mt mz my mx = here (takes_node i q.shape y x) refl
    where
      here : (b : Bool) → takes_node i q.shape y x ≡ b
          → value_in (picks_at i q) None (id_at i.parameters p) (node_at i (at 0 t z y x)) ≡ cell_value i.grid p (cell_at frame t z y x)
      here true e =
          value_at_place i q each (at p t z y x) g (node_within p t z y x mp mt mz my mx) (node_taken p t z y x mp mt mz e)
          ∙ sym (ap (λ (b : Bool). cell_value i.grid p (if b then Some (record { t = t; z = z; y = y; x = x }) else None)) (set_is y x my mx ∙ e))
      here false e =
          absent_at_place i q each (at p t z y x) g (node_within p t z y x mp mt mz my mx) e
          ∙ sym (ap (λ (b : Bool). cell_value i.grid p (if b then Some (record { t = t; z = z; y = y; x = x }) else None)) (set_is y x my mx ∙ e))

  -- ---- the numbers of nodes that are taken

  pub spot_in : (y x : ℕ) → y < length i.ys → x < length i.xs → takes_node i q.shape y x ≡ true → Contains c.spots (y * length i.xs + x)
  spot_in y x hy hx h =
      contains_kept (λ spot. takes_node i q.shape (row_of i.xs spot) (column_of i.xs spot)) (length i.ys * length i.xs) (y * length i.xs + x)
      (omega (arith, mul-add-lt y (length i.xs) x (length i.ys) hy hx))
      (ap₂ (λ a b. takes_node i q.shape a b) (div-mul-add y (length i.xs) x hx) (mod-mul-add y (length i.xs) x hx) ∙ h)

  -- there are some
  pub some_spots : c.spots ≢ []
  some_spots none =
      let r = m.first_row in
      no_member c.spots (mask.row * length i.xs + r.column) none (spot_in mask.row r.column (omega (arith, m.rows, m.some_rows)) r.inside r.takes)

-- and none where no node is taken
pub no_spots : (i : InstanceValue) (shape : Shape) → IsGrid i → NoneTaken i shape → spots_in i shape ≡ []
no_spots i shape g none =
    kept_agree (λ spot. takes_node i shape (row_of i.xs spot) (column_of i.xs spot)) (λ spot. false) 0 (length i.ys * length i.xs)
    (λ k low high. none (row_of i.xs k) (column_of i.xs k) (div_below k (length i.xs) (length i.ys) g.xs.some (omega (arith, high))) (mod-lt k g.xs.some))
    ∙ filter_none (range_with_len 0 (length i.ys * length i.xs))
