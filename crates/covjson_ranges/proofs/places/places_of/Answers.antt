use Rattle.std.proofs.Common.{◌<◌, arith, refl}
use Rattle.covjson_ranges.proofs.PlaceLemmas.{all_some, places_at_inside, places_at_number}
use Rattle.covjson_ranges.proofs.places.places_of.Goals as goal

pub nonzero_div-node : goal.nonzero_div-node
nonzero_div-node c =
    let some : 0 < c.axis_len-tuples.result = rw c.axis_len-tuples.ensures (all_some c.args.domain.now c.args.number c.requires).4 in
    omega (arith, some)

pub nonzero_div-row : goal.nonzero_div-row
nonzero_div-row c =
    let some : 0 < c.axis_len-columns.result = rw c.axis_len-columns.ensures (all_some c.args.domain.now c.args.number c.requires).3 in
    omega (arith, some)

pub nonzero_div-level : goal.nonzero_div-level
nonzero_div-level c =
    let some : 0 < c.axis_len-rows.result = rw c.axis_len-rows.ensures (all_some c.args.domain.now c.args.number c.requires).2 in
    omega (arith, some)

pub nonzero_div-result : goal.nonzero_div-result
nonzero_div-result c =
    let some : 0 < c.axis_len-levels.result = rw c.axis_len-levels.ensures (all_some c.args.domain.now c.args.number c.requires).1 in
    omega (arith, some)

pub nonzero_rem-result : goal.nonzero_rem-result
nonzero_rem-result c =
    let some : 0 < c.axis_len-levels.result = rw c.axis_len-levels.ensures (all_some c.args.domain.now c.args.number c.requires).1 in
    omega (arith, some)

pub nonzero_rem-result-2 : goal.nonzero_rem-result-2
nonzero_rem-result-2 c =
    let some : 0 < c.axis_len-rows.result = rw c.axis_len-rows.ensures (all_some c.args.domain.now c.args.number c.requires).2 in
    omega (arith, some)

pub nonzero_rem-result-3 : goal.nonzero_rem-result-3
nonzero_rem-result-3 c =
    let some : 0 < c.axis_len-columns.result = rw c.axis_len-columns.ensures (all_some c.args.domain.now c.args.number c.requires).3 in
    omega (arith, some)

pub nonzero_rem-result-4 : goal.nonzero_rem-result-4
nonzero_rem-result-4 c =
    let some : 0 < c.axis_len-tuples.result = rw c.axis_len-tuples.ensures (all_some c.args.domain.now c.args.number c.requires).4 in
    omega (arith, some)

pub returns-clause-places : goal.returns-clause-places
returns-clause-places c =
    rw (c.axis_len-tuples.ensures, c.axis_len-columns.ensures, c.axis_len-rows.ensures, c.axis_len-levels.ensures) refl

pub returns-clause-inside : goal.returns-clause-inside
returns-clause-inside c =
    rw (c.axis_len-tuples.ensures, c.axis_len-columns.ensures, c.axis_len-rows.ensures, c.axis_len-levels.ensures)
    (places_at_inside c.args.domain.now c.args.number c.requires)

pub returns-clause-number : goal.returns-clause-number
returns-clause-number c =
    rw (c.axis_len-tuples.ensures, c.axis_len-columns.ensures, c.axis_len-rows.ensures, c.axis_len-levels.ensures)
    (places_at_number c.args.domain.now c.args.number)
