use Rattle.std.proofs.Common.{◌≡◌, length, rules, sym, ◌∙◌}
use Rattle.edr_samples.specs.Tokens.{sample_data}
use Rattle.edr_samples.specs.Trees.{tree_view}
use Rattle.edr_json.specs.TreeLaws.{count_seen}
use Rattle.edr_json.proofs.trees.count_items.Goals as goal

pub returns-in-Samples : goal.returns-in-Samples
returns-in-Samples c = rw c.in-Samples.is (c.len.ensures ∙ sym (count_seen sample_data c.in-Samples.samples.now))

pub returns-in-Items : goal.returns-in-Items
returns-in-Items c =
    let counted : c.len-in-Items.result ≡ length c.in-Items.items.now.items = search rules in
    rw c.in-Items.is (counted ∙ sym (count_seen tree_view c.in-Items.items.now.items))
