use Rattle.std.proofs.Common.{arith, sym}
use Rattle.covjson_value.specs.CountLaws.{count_is}
use Rattle.covjson_ranges.proofs.RangeCounts.{lengths_few}
use Rattle.covjson_ranges.proofs.ranges.wanted_count.Goals as goal

pub overflow_mul-result-3 : goal.overflow_mul-result-3
overflow_mul-result-3 c =
    let few = lengths_few c.args.domain.now c.axis_len-times.result c.axis_len-levels.result c.axis_len-rows.result c.axis_len-columns.result c.axis_len-tuples.result
    c.requires.axes c.requires.tuples c.axis_len-times.ensures c.axis_len-levels.ensures c.axis_len-rows.ensures c.axis_len-columns.ensures c.axis_len-tuples.ensures in
    omega (arith, few.levels)

pub overflow_mul-result-4 : goal.overflow_mul-result-4
overflow_mul-result-4 c =
    let few = lengths_few c.args.domain.now c.axis_len-times.result c.axis_len-levels.result c.axis_len-rows.result c.axis_len-columns.result c.axis_len-tuples.result
    c.requires.axes c.requires.tuples c.axis_len-times.ensures c.axis_len-levels.ensures c.axis_len-rows.ensures c.axis_len-columns.ensures c.axis_len-tuples.ensures in
    omega (arith, few.times)

pub returns : goal.returns
returns c =
    rw (c.axis_len-times.ensures, c.axis_len-levels.ensures, c.axis_len-rows.ensures, c.axis_len-columns.ensures, c.axis_len-tuples.ensures) (sym (count_is c.args.domain.now))
