use Rattle.edr_samples.specs.Trees.{tree_view}
use Rattle.covjson_ranges.proofs.RangeLaws.{result_stands, result_valid, fault_follows, nothing_stands}
use Rattle.covjson_ranges.proofs.ranges.range_of.Goals as goal

pub returns : goal.returns
returns c =
    let read = c.args.read.now in
    let tree = tree_view c.args.tree.now in
    let result = c.range_read.result in
    let answer = c.range_read.ensures in record {
      stands = result_stands read tree result answer;
      fault = fault_follows read tree result answer;
      stands_not = nothing_stands read tree result answer;
      answer = answer;
      valid = result_valid read tree result answer;
    }
