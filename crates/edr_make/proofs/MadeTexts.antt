-- The texts of the made feed, piece by piece.
use Rattle.std.proofs.Common.{◌≡◌, ℕ, ◌+◌, ◌-◌, ◌*◌, ◌<◌, ◌≤◌, List, [], ◌∷◌, ◌++◌, codes, length, sym, subst, ap, ◌∙◌, append_assoc, append-nil, arith}
use Rattle.std.specs.declared.option.Option.{Option}
use Rattle.std.specs.Prelude.{ℤ, Result, IsErr}
use Rattle.std.specs.List.{flat_map, range_with_len}
use Rattle.std.specs.Io.KnownBytes.{append_known}
use Rattle.std.proofs.lemmas.Result.{IfOk-from_err}
use Rattle.std.proofs.lemmas.List.{length-map}
use Rattle.std.proofs.Math.Nat.{zero-mul, one-mul, add-mul, mul-le-mul_right}
use Rattle.edr_base.specs.Calls.{Front, Writes}
use Rattle.edr_base.specs.KnownBytes.{grew_on, front_on, front_more, writes_on}
use Rattle.covjson_value.specs.declared.domains.Domain.{Domain}
use Rattle.covjson_value.specs.declared.coverages.Coverage.{Coverage}
use Rattle.covjson_value.specs.declared.coverages.Parameter.{Parameter}
use Rattle.covjson_value.specs.Coverages.{ids_of, IsValid}
use Rattle.covjson_value.specs.Trees.{coverage_text}
use Rattle.covjson_write.specs.Pieces.{head_of, range_begin, range_end, coverage_begin, values_from}
use Rattle.covjson_write.specs.PieceLaws.{coverage_parts, values_on}
use Rattle.covjson_write.specs.Writers.{WriterValue, with_values}
use Rattle.edr_make.specs.Made.{coverage_over, row_values, grid_values, grid_text, series_values, series_text, grid_domain, series_domain, station_line, station_lines}
use Rattle.edr_make.specs.MadeParts.{opening, closing, around}
use Rattle.edr_make.proofs.MadeLists.{next_list}
use Rattle.edr_make.proofs.MadeHeads.{row_long, grid_is_valid, series_is_valid}

-- a head has a key for each parameter
pub as_many_keys : (coverage : Coverage) → length (head_of coverage).keys ≡ length coverage.parameters
as_many_keys coverage = length-map (ids_of coverage.parameters) _ ∙ length-map coverage.parameters (λ (p : Parameter). p.id)

-- ---- pieces in a row

-- of the first piece a beginning was written, and the call ended by a fault
pub stops : {T E : Type 0} (r : Result T E) (a b : Option (List ℕ)) (xs ys : List ℕ) → IsErr r → Front xs a b → Writes r (xs ++ ys) a b
stops r a b xs ys fails f = record { whole = IfOk-from_err r _ fails; front = front_more a b xs ys f }

-- the first pieces were written, and a beginning of the next one
pub stopped : {T E : Type 0} (r : Result T E) (a b c : Option (List ℕ)) (xs ys zs : List ℕ) → IsErr r → b ≡ append_known a xs → Front ys b c → Writes r ((xs ++ ys) ++ zs) a c
stopped r a b c xs ys zs fails p f = stops r a c (xs ++ ys) zs fails (front_on a b c xs ys p f)

-- of the first piece a beginning
pub stopped_first : {T E : Type 0} (r : Result T E) (a b : Option (List ℕ)) (xs ys zs : List ℕ) → IsErr r → Front xs a b → Writes r ((xs ++ ys) ++ zs) a b
stopped_first r a b xs ys zs fails f = stops r a b (xs ++ ys) zs fails (front_more a b xs ys f)

-- two pieces were written, and the third one is
pub wrote_third : {T E : Type 0} (r : Result T E) (a b c d : Option (List ℕ)) (xs ys zs : List ℕ) → b ≡ append_known a xs → c ≡ append_known b ys → Writes r zs c d
    → Writes r ((xs ++ ys) ++ zs) a d
wrote_third r a b c d xs ys zs p q w = writes_on r a c d (xs ++ ys) zs (grew_on a b c xs ys p q) w

-- nothing more stands behind them
pub ended : {T E : Type 0} (r : Result T E) (a b c : Option (List ℕ)) (xs : List ℕ) → b ≡ append_known a xs → Writes r [] b c → Writes r xs a c
ended r a b c xs p w = subst (λ (l : List ℕ). Writes r l a c) (append-nil xs) (writes_on r a b c xs [] p w)

-- ---- coverages

-- the text of a coverage of one parameter is what stands before its values, they, and what stands behind them
parts_over : (domain : Domain) (id unit : List ℕ) (values : List (Option ℤ)) → IsValid (coverage_over domain id unit (record { values = values } ∷ []))
    → coverage_text (coverage_over domain id unit (record { values = values } ∷ []))
    ≡ around (coverage_over domain id unit []) values
unfolding opening closing
parts_over domain id unit values valid =
    let head = coverage_over domain id unit [] in
    let begin : List ℕ = range_begin (head_of head) 0 in
    let text : List ℕ = values_from 0 values in
    let end : List ℕ = range_end (head_of head) 0 in
    coverage_parts (coverage_over domain id unit (record { values = values } ∷ [])) valid
    ∙ ap (λ (l : List ℕ). coverage_begin head ++ l) (append-nil (begin ++ (text ++ end)))
    ∙ regroup (coverage_begin head) begin text end
  where
    regroup : (a b c d : List ℕ) → a ++ (b ++ (c ++ d)) ≡ ((a ++ b) ++ c) ++ d
    regroup a b c d = sym (append_assoc a b (c ++ d)) ∙ sym (append_assoc (a ++ b) c d)

pub grid_parts : (head : Coverage) (number rows columns : ℕ) → 0 < rows → rows ≤ 1_000_000 → 0 < columns → columns ≤ 1_000_000
    → head ≡ coverage_over (grid_domain rows columns) (codes "temp") (codes "Cel") []
    → around head (grid_values number rows columns) ≡ grid_text number rows columns
unfolding grid_text
grid_parts head number rows columns some few some_columns few_columns is =
    ap (λ (h : Coverage). around h (grid_values number rows columns)) is
    ∙ sym (parts_over (grid_domain rows columns) (codes "temp") (codes "Cel") (grid_values number rows columns) (grid_is_valid number rows columns some few some_columns few_columns))

pub series_parts : (head : Coverage) (number times station : ℕ) → 0 < times → times ≤ 1_000_000 → station < 100
    → head ≡ coverage_over (series_domain times station) (codes "level") (codes "m") []
    → around head (series_values number times station) ≡ series_text number times station
unfolding series_text
series_parts head number times station some few low is =
    ap (λ (h : Coverage). around h (series_values number times station)) is
    ∙ sym (parts_over (series_domain times station) (codes "level") (codes "m") (series_values number times station) (series_is_valid number times station some few low))

-- ---- values that were written

-- none
pub none_written : (w : WriterValue) (n : ℕ) → w ≡ with_values w (0 * n)
none_written w n = ap (λ (k : ℕ). record { many = w.many; begun = w.begun; stage = w.stage; head = w.head; ranges = w.ranges; values = k }) (same w.values n)
  where
    same : (v n : ℕ) → v ≡ v + 0 * n
    same v n = rw (zero-mul n) (omega arith)

-- those of one more row
pub row_written : (w : WriterValue) (row columns : ℕ) → with_values (with_values w (row * columns)) columns ≡ with_values w ((row + 1) * columns)
row_written w row columns =
    ap (λ (k : ℕ). record { many = w.many; begun = w.begun; stage = w.stage; head = w.head; ranges = w.ranges; values = k }) (same w.values row columns)
  where
    same : (v m n : ℕ) → v + m * n + n ≡ v + (m + 1) * n
    same v m n = omega (arith, add-mul m 1 n, one-mul n)

-- there is room for another row
pub row_room : (k rows columns count : ℕ) → k < rows → rows * columns ≤ count → k * columns + columns ≤ count
row_room k rows columns count inside room =
    let less : (k + 1) * columns ≤ rows * columns = mul-le-mul_right columns (omega (arith, inside)) in
    omega (arith, less, room, add-mul k 1 columns, one-mul columns)

-- the values of a row and those of the rows behind it
pub next_row : (number rows columns row : ℕ) → row < rows
    → values_from (row * columns) (flat_map (row_values number columns) (range_with_len row (rows - row)))
    ≡ values_from (row * columns) (row_values number columns row) ++ values_from ((row + 1) * columns) (flat_map (row_values number columns) (range_with_len (row + 1) (rows - (row + 1))))
next_row number rows columns row inside =
    let rest : List (Option ℤ) = flat_map (row_values number columns) (range_with_len (row + 1) (rows - (row + 1))) in
    ap (values_from (row * columns)) (next_list (row_values number columns) row rows inside)
    ∙ values_on (row * columns) (row_values number columns row) rest
    ∙ ap (λ (k : ℕ). values_from (row * columns) (row_values number columns row) ++ values_from k rest)
    (ap (λ (k : ℕ). row * columns + k) (row_long number columns row) ∙ next row columns)
  where
    next : (m n : ℕ) → m * n + n ≡ (m + 1) * n
    next m n = omega (arith, add-mul m 1 n, one-mul n)

-- of all rows
pub all_rows : (number rows columns : ℕ) → values_from (0 * columns) (flat_map (row_values number columns) (range_with_len 0 (rows - 0))) ≡ values_from 0 (grid_values number rows columns)
unfolding grid_values
all_rows number rows columns =
    ap (λ (k : ℕ). values_from k (flat_map (row_values number columns) (range_with_len 0 (rows - 0)))) (zero-mul columns)
    ∙ ap (λ (k : ℕ). values_from 0 (flat_map (row_values number columns) (range_with_len 0 k))) (whole rows)
  where
    whole : (n : ℕ) → n - 0 ≡ n
    whole n = omega arith

-- ---- stations

-- the lines of all of them
pub all_stations : (number times stations : ℕ) → flat_map (station_line number times) (range_with_len 0 (stations - 0)) ≡ station_lines number times stations
unfolding station_lines
all_stations number times stations = ap (λ (k : ℕ). flat_map (station_line number times) (range_with_len 0 k)) (whole stations)
  where
    whole : (n : ℕ) → n - 0 ≡ n
    whole n = omega arith
