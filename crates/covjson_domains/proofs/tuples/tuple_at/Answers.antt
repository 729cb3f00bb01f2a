use Rattle.std.proofs.Common.{◌≡◌, true, Some, sym, ap, ◌∙◌}
use Rattle.serde_json.specs.Find.{as_array}
use Rattle.edr_samples.specs.Tokens.{sample_data}
use Rattle.edr_samples.specs.Trees.{tree_view, list_view}
use Rattle.edr_json.specs.AnswerLaws.{or_fault_ok}
use Rattle.covjson_domains.specs.declared.tuples.Test.TheVariants.{Within}
use Rattle.covjson_domains.specs.TupleAnswers.{list_passes}
use Rattle.covjson_domains.proofs.TupleLists.{seen_counted}
use Rattle.covjson_domains.proofs.tuples.tuple_at.Goals as goal

pub tuple_of_samples-requires : goal.tuple_of_samples-requires
tuple_of_samples-requires c =
    let names = c.args.names.now in
    let is_list = or_fault_ok (as_array (tree_view c.args.tuple.now)) _ _ c.in_ok-list.ensures in
    let pass : list_passes Within names (Some (list_view c.in_ok-list.list)) ≡ true = ap (list_passes Within names) (sym is_list) ∙ c.requires in
    sym (seen_counted sample_data Within names c.in-Samples.samples.now (rw c.in-Samples.is at pass))

pub tuple_of_items-requires-clause-counted : goal.tuple_of_items-requires-clause-counted
tuple_of_items-requires-clause-counted c =
    let names = c.args.names.now in
    let is_list = or_fault_ok (as_array (tree_view c.args.tuple.now)) _ _ c.in_ok-list.ensures in
    let pass : list_passes Within names (Some (list_view c.in_ok-list.list)) ≡ true = ap (list_passes Within names) (sym is_list) ∙ c.requires in
    sym (seen_counted tree_view Within names c.in-Items.items.now.items (rw c.in-Items.is at pass))
