use Rattle.std.proofs.Common.{◌≡◌, ◌∙◌, ◌+◌, ◌-◌, ◌*◌, ◌<◌, ◌≤◌, ℕ, length, subst, sym, arith, rules, ap}
use borrow.Rule.Slice.PartMut.{put_mid}
use Rattle.edr_select.specs.Stacks.{SidesValue}
use Rattle.edr_lines.specs.Bits.{PlaneSet, is_in_row}
use Rattle.edr_lines.proofs.SetPlanes.{row_set, stands, as_row, as_columns, as_full}
use Rattle.edr_lines.proofs.stack_masks.set_row.Goals as goal

pub overflow_sub-start : goal.overflow_sub-start
overflow_sub-start c =
    let row : ℕ = c.args.row in let in_ = c.sides.inside in
    let sides : SidesValue = record { times = in_.times; levels = in_.levels; row = in_.row; rows = in_.rows; column = in_.column; columns = in_.columns } in
    let r = stands sides c.args.sides.now c.sides.view_is row c.args.plane.now c.requires.small c.requires.full c.requires.row in
    let f = as_row sides c.args.sides.now c.sides.view_is row c.requires.row in
    let k = as_columns sides c.args.sides.now c.sides.view_is c.args.columns c.requires.columns in
    f.low

pub overflow_mul-start : goal.overflow_mul-start
overflow_mul-start c =
    let row : ℕ = c.args.row in let in_ = c.sides.inside in
    let sides : SidesValue = record { times = in_.times; levels = in_.levels; row = in_.row; rows = in_.rows; column = in_.column; columns = in_.columns } in
    let r = stands sides c.args.sides.now c.sides.view_is row c.args.plane.now c.requires.small c.requires.full c.requires.row in
    let f = as_row sides c.args.sides.now c.sides.view_is row c.requires.row in
    let k = as_columns sides c.args.sides.now c.sides.view_is c.args.columns c.requires.columns in
    let below : (row - sides.row) * sides.columns ≤ 16_000_000_000_000 = omega (arith, r.small) in
    search rules

pub overflow_add-values : goal.overflow_add-values
overflow_add-values c =
    let row : ℕ = c.args.row in let in_ = c.sides.inside in
    let sides : SidesValue = record { times = in_.times; levels = in_.levels; row = in_.row; rows = in_.rows; column = in_.column; columns = in_.columns } in
    let r = stands sides c.args.sides.now c.sides.view_is row c.args.plane.now c.requires.small c.requires.full c.requires.row in
    let f = as_row sides c.args.sides.now c.sides.view_is row c.requires.row in
    let k = as_columns sides c.args.sides.now c.sides.view_is c.args.columns c.requires.columns in
    let below : (row - sides.row) * sides.columns + sides.columns ≤ 16_000_000_000_000 = r.small in
    search rules

pub slice_bounds-values-end : goal.slice_bounds-values-end
slice_bounds-values-end c =
    let row : ℕ = c.args.row in let in_ = c.sides.inside in
    let sides : SidesValue = record { times = in_.times; levels = in_.levels; row = in_.row; rows = in_.rows; column = in_.column; columns = in_.columns } in
    let r = stands sides c.args.sides.now c.sides.view_is row c.args.plane.now c.requires.small c.requires.full c.requires.row in
    let f = as_row sides c.args.sides.now c.sides.view_is row c.requires.row in
    let k = as_columns sides c.args.sides.now c.sides.view_is c.args.columns c.requires.columns in
    r.end

pub set_range-requires-clause-ordered : goal.set_range-requires-clause-ordered
set_range-requires-clause-ordered c =
    let row : ℕ = c.args.row in let in_ = c.sides.inside in
    let sides : SidesValue = record { times = in_.times; levels = in_.levels; row = in_.row; rows = in_.rows; column = in_.column; columns = in_.columns } in
    let r = stands sides c.args.sides.now c.sides.view_is row c.args.plane.now c.requires.small c.requires.full c.requires.row in
    let f = as_row sides c.args.sides.now c.sides.view_is row c.requires.row in
    let k = as_columns sides c.args.sides.now c.sides.view_is c.args.columns c.requires.columns in
    omega (arith, k.ordered)

pub set_range-requires-clause-inside : goal.set_range-requires-clause-inside
set_range-requires-clause-inside c =
    let row : ℕ = c.args.row in let in_ = c.sides.inside in
    let sides : SidesValue = record { times = in_.times; levels = in_.levels; row = in_.row; rows = in_.rows; column = in_.column; columns = in_.columns } in
    let r = stands sides c.args.sides.now c.sides.view_is row c.args.plane.now c.requires.small c.requires.full c.requires.row in
    let f = as_row sides c.args.sides.now c.sides.view_is row c.requires.row in
    let k = as_columns sides c.args.sides.now c.sides.view_is c.args.columns c.requires.columns in
    omega (arith, r.long, k.right)

pub returns : goal.returns
returns c =
    let row : ℕ = c.args.row in let in_ = c.sides.inside in
    let sides : SidesValue = record { times = in_.times; levels = in_.levels; row = in_.row; rows = in_.rows; column = in_.column; columns = in_.columns } in
    let r = stands sides c.args.sides.now c.sides.view_is row c.args.plane.now c.requires.small c.requires.full c.requires.row in
    let f = as_row sides c.args.sides.now c.sides.view_is row c.requires.row in
    let k = as_columns sides c.args.sides.now c.sides.view_is c.args.columns c.requires.columns in
    let start : ℕ = (row - sides.row) * sides.columns in
    subst (λ (s : SidesValue). PlaneSet s (is_in_row row c.args.columns) c.args.plane.now (put_mid start (start + sides.columns - start) c.args.plane.now c.set_range.new.values)) c.sides.view_is
    (row_set sides row c.args.columns f k c.args.plane.now c.set_range.new.values (as_full sides c.args.sides.now c.sides.view_is c.args.plane.now c.requires.full) c.set_range.ensures)
