use Rattle.std.proofs.Common.{arith, ◌≡◌, ℕ, ◌*◌, ◌/◌, ◌<◌, ◌++◌, map, get_or, length, None, Ok, ap, ◌∙◌, sym}
use Rattle.std.proofs.lemmas.Nat.{mul-add-lt}
use Rattle.covjson_value.specs.Domains.{count_of}
use Rattle.covjson_ranges.specs.Ranges.{tree_number}
use Rattle.covjson_ranges.specs.Orders.{below, in_row, places_at, value_in_tree}
use Rattle.covjson_ranges.proofs.RowLemmas.{row_stays, row_more}
use Rattle.covjson_ranges.proofs.orders.arranged.Goals as goal

-- a row begins within the places
starts_inside : (number size count : ℕ) → 0 < size → number < count / size → count / size * size ≡ count → number * size < count
starts_inside number size count some inside whole = omega (arith, mul-add-lt number size 0 (count / size) inside some, whole)

pub row_of-row-requires-clause-axes : goal.row_of-row-requires-clause-axes
row_of-row-requires-clause-axes c = c.requires.axes

pub row_of-row-requires-clause-few : goal.row_of-row-requires-clause-few
row_of-row-requires-clause-few c = omega (arith, c.requires.counted)

pub nonzero_div-number-end : goal.nonzero_div-number-end
nonzero_div-number-end c = omega (arith, c.row_of-row.ensures.some)

pub places_of-requires : goal.places_of-requires
places_of-requires c =
    let row = c.row_of-row.result in
    let inside : c.loop-number.number < count_of c.args.domain.now / row.length = rw (sym c.requires.counted) c.loop-number-test.true in
    starts_inside c.loop-number.number row.length (count_of c.args.domain.now) c.row_of-row.ensures.some inside c.row_of-row.ensures.whole

pub overflow_mul-number : goal.overflow_mul-number
overflow_mul-number c =
    let row = c.row_of-row.result in
    let inside : c.loop-number.number < count_of c.args.domain.now / row.length = rw (sym c.requires.counted) c.loop-number-test.true in
    omega (arith, starts_inside c.loop-number.number row.length (count_of c.args.domain.now) c.row_of-row.ensures.some inside c.row_of-row.ensures.whole, c.requires.counted)

pub tree_number-first-requires : goal.tree_number-first-requires
tree_number-first-requires c = record { inside = c.places_of.ensures.inside; axes = c.requires.axes; few = omega (arith, c.requires.counted) }

pub push_row-requires : goal.push_row-requires
push_row-requires c =
    let d = c.args.domain.now in
    let row = c.row_of-row.result in
    let inside : c.loop-number.number < count_of d / row.length = rw (sym c.requires.counted) c.loop-number-test.true in
    row_stays d c.args.turned c.args.names.now row c.loop-number.number c.tree_number-first.result (length c.args.values.now)
    c.requires.axes c.row_of-row.ensures inside c.requires.counted
    (c.tree_number-first.ensures.number ∙ ap (tree_number d c.args.turned c.args.names.now) c.places_of.ensures.places)

pub loop-number-preserved : goal.loop-number-preserved
loop-number-preserved c =
    let d = c.args.domain.now in
    let values = c.args.values.now in
    let row = c.row_of-row.result in
    let first = c.tree_number-first.result in
    let pushed : c.push_row.new.found.items ≡ c.loop-number.found.items ++ map (λ place. get_or values (in_row row first place) None) (below row.length) = c.in_ok-push_row.ensures.ok in
    row_more d c.args.turned c.args.names.now values c.loop-number.found.items c.push_row.new.found.items row c.loop-number.number first
    c.row_of-row.ensures
    (c.tree_number-first.ensures.number ∙ ap (tree_number d c.args.turned c.args.names.now) c.places_of.ensures.places)
    pushed c.loop-number.invariant

pub returns : goal.returns
returns c =
    let d = c.args.domain.now in
    let size = c.row_of-row.result.length in
    let ended : c.loop-number.number ≡ length c.args.values.now / size = omega arith in
    let whole : c.loop-number.number * size ≡ count_of d = ap (λ n. n * size) (ended ∙ ap (λ n. n / size) c.requires.counted) ∙ c.row_of-row.ensures.whole in
    sym (ap Ok (c.loop-number.invariant ∙ ap (λ n. map (λ k. value_in_tree d c.args.turned c.args.names.now c.args.values.now (places_at d k)) (below n)) whole))
