use Rattle.std.proofs.Common.{◌≤◌, arith}
use Rattle.covjson_value.specs.declared.axis_names.AxisName.TheVariants.{Composite}
use Rattle.covjson_ranges.specs.Ranges.{length_of}
use Rattle.covjson_ranges.proofs.RowLemmas.{second_tuple_inside, second_column_inside, tuple_rows, column_rows}
use Rattle.covjson_ranges.proofs.orders.row_of.Goals as goal

pub tree_number-requires : goal.tree_number-requires
tree_number-requires c = record {
  axes = c.requires.axes;
  few = c.requires.few;
  inside = second_tuple_inside c.args.domain.now c.requires.some (omega (arith, c.axis_len-tuples.ensures, c.if-tuples-gt1.true));
}

pub tree_number-requires-then-columns-gt1 : goal.tree_number-requires-then-columns-gt1
tree_number-requires-then-columns-gt1 c = record {
  axes = c.requires.axes;
  few = c.requires.few;
  inside = second_column_inside c.args.domain.now c.requires.some (omega (arith, c.axis_len-columns.ensures, c.if-columns-gt1.true));
}

pub returns-then-tuples-gt1 : goal.returns-then-tuples-gt1
returns-then-tuples-gt1 c =
    tuple_rows c.args.domain.now c.args.turned c.args.names.now c.axis_len-tuples.result c.tree_number.result
    c.if-tuples-gt1.true c.axis_len-tuples.ensures c.tree_number.ensures.number

pub returns-then-columns-gt1 : goal.returns-then-columns-gt1
returns-then-columns-gt1 c =
    let d = c.args.domain.now in
    let short : length_of d Composite ≤ 1 = omega (arith, c.axis_len-tuples.ensures, c.if-tuples-gt1.false) in
    column_rows d c.args.turned c.args.names.now c.axis_len-columns.result c.tree_number-then-columns-gt1.result
    c.if-columns-gt1.true c.axis_len-columns.ensures c.tree_number-then-columns-gt1.ensures.number short c.requires.some
