-- Rows of places along the fastest axis of a domain, a step from each other in a tree.
use Rattle.std.proofs.Common.{◌≡◌, ℕ, zero, suc, ◌+◌, ◌-◌, ◌*◌, ◌/◌, ◌%◌, ◌<◌, ◌≤◌, ℤ, Bool, true, false, if◌then◌else◌, List, [], ◌∷◌, ◌++◌, length, map, get_or, Option, None, refl, sym, ap, ◌∙◌, append_assoc, append-nil, add-one, arith}
use Rattle.std.proofs.Math.Nat.{div-one}
use Rattle.std.proofs.lemmas.List.{map-append}
use Rattle.std.proofs.lemmas.Nat.{mul-add-lt, div-mul-add, mod-mul-add, mod_below}
use Rattle.covjson_value.specs.declared.domains.Domain.{Domain}
use Rattle.covjson_value.specs.Domains.{count_of}
use Rattle.covjson_checks.specs.declared.turned.Turned.{Turned}
use Rattle.covjson_checks.specs.Turns.{unturned}
use Rattle.covjson_ranges.specs.declared.orders.Row.{Row}
use Rattle.covjson_ranges.specs.declared.places.Places.{Places}
use Rattle.covjson_value.specs.declared.axis_names.AxisName.{AxisName}
use Rattle.covjson_value.specs.declared.axis_names.AxisName.TheVariants.{T, Z, Y, X, Composite}
use Rattle.covjson_ranges.specs.Ranges.{length_of, tree_place, tree_number, AreInside, AreRangeAxes}
use Rattle.edr_chunk.specs.RowMajor.{row_major}
use Rattle.covjson_ranges.specs.Orders.{below, places_at, value_in_tree, in_row, StaysInside, AreRows}
use Rattle.covjson_ranges.proofs.PlaceLemmas.{count_whole, all_some, tree_number_inside, places_at_inside}

-- ---- numbers that are steps on

-- steps on from one number are steps on from the next
next_on : (a b k n l p q u : ℕ) → n ≡ a + k * b → q ≡ p + k * u → n * l + q ≡ a * l + p + k * (b * l + u)
next_on a b k n l p q u from there = rw (from, there) (omega arith)

-- where each place is some steps on from another, so is the number
row_major_on : (lengths near far steps : AxisName → ℕ) (k : ℕ) → ((name : AxisName) → far name ≡ near name + k * steps name)
    → (names : List AxisName) (a b n : ℕ) → n ≡ a + k * b
    → row_major lengths far names n ≡ row_major lengths near names a + k * row_major lengths steps names b
row_major_on lengths near far steps k each [] a b n from = from
row_major_on lengths near far steps k each (name ∷ names) a b n from =
    row_major_on lengths near far steps k each names (a * lengths name + near name) (b * lengths name + steps name) (n * lengths name + far name)
    (next_on a b k n (lengths name) (near name) (far name) (steps name) from (each name))

-- and in a tree
tree_number_on : (domain : Domain) (turned : Turned) (names : List AxisName) (near far second : Places) (k : ℕ)
    → ((name : AxisName) → tree_place domain turned far name ≡ tree_place domain turned near name + k * tree_place domain unturned second name)
    → tree_number domain turned names far ≡ tree_number domain turned names near + k * tree_number domain unturned names second
tree_number_on domain turned names near far second k each =
    row_major_on (length_of domain) (tree_place domain turned near) (tree_place domain turned far) (tree_place domain unturned second) k each names 0 0 0 (omega arith)

-- ---- tuples

-- the second tuple
abbrev pub second_tuple : Places
second_tuple = record { t = 0; z = 0; y = 0; x = 0; tuple = 1 }

pub second_tuple_inside : (domain : Domain) → 0 < count_of domain → 1 < length_of domain Composite → AreInside domain second_tuple
second_tuple_inside domain some long T = (all_some domain 0 some).0
second_tuple_inside domain some long Z = (all_some domain 0 some).1
second_tuple_inside domain some long Y = (all_some domain 0 some).2
second_tuple_inside domain some long X = (all_some domain 0 some).3
second_tuple_inside domain some long Composite = long

-- a tuple at a node
abbrev tuple_at : Domain → ℕ → ℕ → Places
tuple_at domain node tuple = record {
  tuple = tuple;
  x = node % length_of domain X;
  y = node / length_of domain X % length_of domain Y;
  z = node / length_of domain X / length_of domain Y % length_of domain Z;
  t = node / length_of domain X / length_of domain Y / length_of domain Z;
}

-- by its number
tuple_there : (domain : Domain) (number node tuple : ℕ) → number / length_of domain Composite ≡ node → number % length_of domain Composite ≡ tuple
    → places_at domain number ≡ tuple_at domain node tuple
tuple_there domain number node tuple is_node is_tuple = rw (is_node, is_tuple) refl

-- tuples are steps on from the first
tuple_on : (domain : Domain) (turned : Turned) (node k : ℕ) (name : AxisName)
    → tree_place domain turned (tuple_at domain node k) name ≡ tree_place domain turned (tuple_at domain node 0) name + k * tree_place domain unturned second_tuple name
tuple_on domain turned node k T = omega arith
tuple_on domain turned node k Z = omega arith
tuple_on domain turned node k Y = omega arith
tuple_on domain turned node k X = omega arith
tuple_on domain turned node k Composite = omega arith

-- ---- columns

-- the second column
abbrev pub second_column : Places
second_column = record { t = 0; z = 0; y = 0; x = 1; tuple = 0 }

pub second_column_inside : (domain : Domain) → 0 < count_of domain → 1 < length_of domain X → AreInside domain second_column
second_column_inside domain some long T = (all_some domain 0 some).0
second_column_inside domain some long Z = (all_some domain 0 some).1
second_column_inside domain some long Y = (all_some domain 0 some).2
second_column_inside domain some long X = long
second_column_inside domain some long Composite = (all_some domain 0 some).4

-- a column in a line
abbrev column_at : Domain → ℕ → ℕ → Places
column_at domain line column = record {
  tuple = 0;
  x = column;
  y = line % length_of domain Y;
  z = line / length_of domain Y % length_of domain Z;
  t = line / length_of domain Y / length_of domain Z;
}

-- by its number, where there is one tuple
column_there : (domain : Domain) (line k : ℕ) → length_of domain Composite ≡ 1 → k < length_of domain X
    → places_at domain (line * length_of domain X + k) ≡ column_at domain line k
column_there domain line k one h =
    let number = line * length_of domain X + k in
    let node : number / length_of domain Composite ≡ number = ap (λ n. number / n) one ∙ div-one number in
    let tuple : number % length_of domain Composite ≡ 0 = ap (λ n. number % n) one ∙ omega (arith, mod_below number 1 (omega arith)) in
    tuple_there domain number number 0 node tuple
    ∙ rw (div-mul-add line (length_of domain X) k h, mod-mul-add line (length_of domain X) k h) refl

-- the first in a line
first_column : (domain : Domain) (line : ℕ) → length_of domain Composite ≡ 1 → 0 < length_of domain X
    → places_at domain (line * length_of domain X) ≡ column_at domain line 0
first_column domain line one some =
    let start : line * length_of domain X ≡ line * length_of domain X + 0 = omega arith in
    ap (places_at domain) start ∙ column_there domain line 0 one some

-- columns are steps on from the first
column_on : (domain : Domain) (turned : Turned) (line k : ℕ) → turned.x ≡ false → (name : AxisName)
    → tree_place domain turned (column_at domain line k) name ≡ tree_place domain turned (column_at domain line 0) name + k * tree_place domain unturned second_column name
column_on domain turned line k on T = omega arith
column_on domain turned line k on Z = omega arith
column_on domain turned line k on Y = omega arith
column_on domain turned line k on X = rw on (omega arith)
column_on domain turned line k on Composite = omega arith

-- or the first is steps on from them, where they are turned
column_back : (domain : Domain) (turned : Turned) (line k : ℕ) → turned.x ≡ true → k < length_of domain X → (name : AxisName)
    → tree_place domain turned (column_at domain line 0) name ≡ tree_place domain turned (column_at domain line k) name + k * tree_place domain unturned second_column name
column_back domain turned line k back h T = omega arith
column_back domain turned line k back h Z = omega arith
column_back domain turned line k back h Y = omega arith
column_back domain turned line k back h X = rw back (omega arith)
column_back domain turned line k back h Composite = omega arith

-- ---- rows

-- a product is whole rows of its last factor
whole_rows : (count rows length : ℕ) → 0 < length → count ≡ rows * length → count / length * length ≡ count
whole_rows count rows length some is =
    let quotient : count / length ≡ rows = ap (λ n. n / length) (omega (arith, is)) ∙ div-mul-add rows length 0 some in
    rw quotient (sym is)

-- steps on, or back where it is turned
by_turn : (first reach far : ℕ) (turned : Bool) → (turned ≡ true → first ≡ far + reach) → (turned ≡ false → far ≡ first + reach)
    → far ≡ (if turned then first - reach else first + reach)
by_turn first reach far true back on = omega (arith, back refl)
by_turn first reach far false back on = on refl

-- the number of a tuple in a tree, by that of the first at its node
tuple_number : (domain : Domain) (turned : Turned) (names : List AxisName) (node k : ℕ) → k < length_of domain Composite
    → tree_number domain turned names (places_at domain (node * length_of domain Composite + k))
    ≡ tree_number domain turned names (places_at domain (node * length_of domain Composite)) + k * tree_number domain unturned names second_tuple
tuple_number domain turned names node k h =
    let tuples = length_of domain Composite in
    let here : places_at domain (node * tuples + k) ≡ tuple_at domain node k =
    tuple_there domain (node * tuples + k) node k (div-mul-add node tuples k h) (mod-mul-add node tuples k h) in
    let start : node * tuples ≡ node * tuples + 0 = omega arith in
    let first : places_at domain (node * tuples) ≡ tuple_at domain node 0 =
    ap (places_at domain) start
    ∙ tuple_there domain (node * tuples + 0) node 0 (div-mul-add node tuples 0 (omega arith)) (mod-mul-add node tuples 0 (omega arith)) in
    ap (tree_number domain turned names) here
    ∙ tree_number_on domain turned names (tuple_at domain node 0) (tuple_at domain node k) second_tuple k (tuple_on domain turned node k)
    ∙ ap (λ p. tree_number domain turned names p + k * tree_number domain unturned names second_tuple) (sym first)

-- tuples are rows
tuples_in_rows : (domain : Domain) (turned : Turned) (names : List AxisName) → 1 < length_of domain Composite
    → AreRows domain turned names (record { length = length_of domain Composite; step = tree_number domain unturned names second_tuple; turned = false })
tuples_in_rows domain turned names long = record {
  some = omega arith;
  whole = whole_rows (count_of domain) (length_of domain T * (length_of domain Z * (length_of domain Y * length_of domain X))) (length_of domain Composite) (omega arith)
      (omega (arith, count_whole domain));
  back = λ number place h turned_back. cc (turned_back);
  steps = λ number place h. tuple_number domain turned names number place h;
}

-- the number of a column in a tree is steps on from that of the first in its line
column_number : (domain : Domain) (turned : Turned) (names : List AxisName) (line k : ℕ) → length_of domain Composite ≡ 1 → k < length_of domain X
    → turned.x ≡ false
    → tree_number domain turned names (places_at domain (line * length_of domain X + k))
    ≡ tree_number domain turned names (places_at domain (line * length_of domain X)) + k * tree_number domain unturned names second_column
column_number domain turned names line k one h on =
    ap (tree_number domain turned names) (column_there domain line k one h)
    ∙ tree_number_on domain turned names (column_at domain line 0) (column_at domain line k) second_column k (column_on domain turned line k on)
    ∙ ap (λ p. tree_number domain turned names p + k * tree_number domain unturned names second_column) (sym (first_column domain line one (omega arith)))

-- or that of the first from it, where columns are turned
column_turned : (domain : Domain) (turned : Turned) (names : List AxisName) (line k : ℕ) → length_of domain Composite ≡ 1 → k < length_of domain X
    → turned.x ≡ true
    → tree_number domain turned names (places_at domain (line * length_of domain X))
    ≡ tree_number domain turned names (places_at domain (line * length_of domain X + k)) + k * tree_number domain unturned names second_column
column_turned domain turned names line k one h back =
    ap (tree_number domain turned names) (first_column domain line one (omega arith))
    ∙ tree_number_on domain turned names (column_at domain line k) (column_at domain line 0) second_column k (column_back domain turned line k back h)
    ∙ ap (λ p. tree_number domain turned names p + k * tree_number domain unturned names second_column) (sym (column_there domain line k one h))

-- with the length and the step that are told
pub tuple_rows : (domain : Domain) (turned : Turned) (names : List AxisName) (length step : ℕ) → 1 < length → length ≡ length_of domain Composite
    → step ≡ tree_number domain unturned names second_tuple → AreRows domain turned names (record { length = length; step = step; turned = false })
tuple_rows domain turned names length step long is_length is_step =
    rw (is_length, is_step) (tuples_in_rows domain turned names (omega (arith, is_length)))

-- where there are any places and not several tuples, there is one
one_tuple : (domain : Domain) → 0 < count_of domain → length_of domain Composite ≤ 1 → length_of domain Composite ≡ 1
one_tuple domain some short = let all = all_some domain 0 some in omega (arith, all.4)

-- columns are rows, where there is one tuple
columns_in_rows : (domain : Domain) (turned : Turned) (names : List AxisName) → 1 < length_of domain X → length_of domain Composite ≡ 1
    → AreRows domain turned names (record { length = length_of domain X; step = tree_number domain unturned names second_column; turned = turned.x })
columns_in_rows domain turned names long one =
    let number = tree_number domain turned names in
    let columns = length_of domain X in
    let step = tree_number domain unturned names second_column in
    record {
      some = omega arith;
      whole = whole_rows (count_of domain) (length_of domain T * (length_of domain Z * length_of domain Y)) columns (omega arith)
          (count_whole domain ∙ rw one (omega arith));
      back = λ line k h back. omega (arith, column_turned domain turned names line k one h back);
      steps = λ line k h. by_turn (number (places_at domain (line * columns))) (k * step) (number (places_at domain (line * columns + k))) turned.x
          (column_turned domain turned names line k one h)
          (column_number domain turned names line k one h);
    }

-- with the length and the step that are told
pub column_rows : (domain : Domain) (turned : Turned) (names : List AxisName) (length step : ℕ) → 1 < length → length ≡ length_of domain X
    → step ≡ tree_number domain unturned names second_column → length_of domain Composite ≤ 1 → 0 < count_of domain
    → AreRows domain turned names (record { length = length; step = step; turned = turned.x })
column_rows domain turned names length step long is_length is_step short some =
    rw (is_length, is_step) (columns_in_rows domain turned names (omega (arith, is_length)) (one_tuple domain some short))

-- ---- rows of values

-- each place of a row is below the count
row_inside : (domain : Domain) (turned : Turned) (names : List AxisName) (row : Row) (number place : ℕ) → AreRows domain turned names row
    → number < count_of domain / row.length → place < row.length → number * row.length + place < count_of domain
row_inside domain turned names row number place rows below h =
    omega (arith, mul-add-lt number row.length place (count_of domain / row.length) below h, rows.whole)

-- and so is each number in it
pub row_stays : (domain : Domain) (turned : Turned) (names : List AxisName) (row : Row) (number first count : ℕ) → AreRangeAxes domain names
    → AreRows domain turned names row → number < count_of domain / row.length → count ≡ count_of domain
    → first ≡ tree_number domain turned names (places_at domain (number * row.length)) → StaysInside row first count
row_stays domain turned names row number first count axes rows below is_count is_first = rw (is_count, is_first) (record {
  back = rows.back number;
  inside = λ place h.
      let there = places_at_inside domain (number * row.length + place) (row_inside domain turned names row number place rows below h) in
      rw (sym (rows.steps number place h)) (tree_number_inside domain turned names (places_at domain (number * row.length + place)) axes there);
})

-- one value more
pub value_more : (value : ℕ → Option ℤ) (place : ℕ) → map value (below (place + 1)) ≡ map value (below place) ++ value place ∷ []
value_more value place = ap (λ n. map value (below n)) (add-one place) ∙ map-append value (below place) (place ∷ [])

-- the values of a row more
values_more : (value there : ℕ → Option ℤ) (start len : ℕ) → ((k : ℕ) → k < len → there k ≡ value (start + k))
    → map value (below (start + len)) ≡ map value (below start) ++ map there (below len)
values_more value there start zero each =
    let none : start + 0 ≡ start = omega arith in
    ap (λ n. map value (below n)) none ∙ sym (append-nil (map value (below start)))
values_more value there start (suc len) each =
    let next : start + suc len ≡ start + len + 1 = omega arith in
    ap (λ n. map value (below n)) next
    ∙ value_more value (start + len)
    ∙ ap (λ (vs : List (Option ℤ)). vs ++ value (start + len) ∷ []) (values_more value there start len (λ k h. each k (omega arith)))
    ∙ append_assoc (map value (below start)) (map there (below len)) (value (start + len) ∷ [])
    ∙ ap (λ v. map value (below start) ++ (map there (below len) ++ v ∷ [])) (sym (each len (omega arith)))
    ∙ ap (λ (vs : List (Option ℤ)). map value (below start) ++ vs) (sym (map-append there (below len) (len ∷ [])))

-- one row more
pub row_more : (domain : Domain) (turned : Turned) (names : List AxisName) (values found new : List (Option ℤ)) (row : Row) (number first : ℕ)
    → AreRows domain turned names row → first ≡ tree_number domain turned names (places_at domain (number * row.length))
    → new ≡ found ++ map (λ place. get_or values (in_row row first place) None) (below row.length)
    → found ≡ map (λ k. value_in_tree domain turned names values (places_at domain k)) (below (number * row.length))
    → new ≡ map (λ k. value_in_tree domain turned names values (places_at domain k)) (below ((number + 1) * row.length))
row_more domain turned names values found new row number first rows is_first pushed before =
    let value = λ (k : ℕ). value_in_tree domain turned names values (places_at domain k) in
    let there = λ (k : ℕ). get_or values (in_row row first k) None in
    let each : (k : ℕ) → k < row.length → there k ≡ value (number * row.length + k) = λ k h. ap (λ n. get_or values n None) (rw is_first (sym (rows.steps number k h))) in
    let next : number * row.length + row.length ≡ (number + 1) * row.length = omega arith in
    pushed ∙ ap (λ (vs : List (Option ℤ)). vs ++ map there (below row.length)) before
    ∙ sym (values_more value there (number * row.length) row.length each)
    ∙ ap (λ n. map value (below n)) next
