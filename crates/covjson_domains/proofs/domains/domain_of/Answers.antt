use Rattle.std.proofs.Common.{option_map}
use Rattle.edr_samples.specs.Trees.{tree_view}
use Rattle.covjson_domains.proofs.DomainRowLaws.{result_stands, result_refused, result_stands_not, result_axes, result_tuples}
use Rattle.covjson_domains.proofs.domains.domain_of.Goals as goal

pub returns : goal.returns
returns c =
    let found = option_map (λ v. tree_view v.now) c.args.found in
    let tree = tree_view c.args.tree.now in
    let instants = c.instants_are_read.ensures in
    let result = c.domain_read.result in
    let answer = c.domain_read.ensures.answer in record {
      stands = result_stands instants found tree result answer;
      refused = result_refused instants found tree result answer;
      stands_not = result_stands_not instants found tree result answer;
      axes = result_axes instants found tree result answer;
      tuples = result_tuples instants found tree result answer c.domain_read.ensures.counted;
      answer = answer;
    }
