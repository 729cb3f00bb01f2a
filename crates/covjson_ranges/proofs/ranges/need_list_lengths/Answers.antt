use Rattle.std.proofs.Common.{sym, ◌∙◌}
use Rattle.edr_samples.specs.Tokens.{sample_data}
use Rattle.edr_samples.specs.Trees.{tree_view}
use Rattle.edr_json.specs.TreeLaws.{count_seen}
use Rattle.covjson_ranges.proofs.ranges.need_list_lengths.Goals as goal

pub need_sample_lengths-requires : goal.need_sample_lengths-requires
need_sample_lengths-requires c = sym (count_seen sample_data c.in-Samples.samples.now) ∙ (rw c.in-Samples.is at c.requires)

pub need_lengths-requires : goal.need_lengths-requires
need_lengths-requires c = sym (count_seen tree_view c.in-Items.items.now.items) ∙ (rw c.in-Items.is at c.requires)
