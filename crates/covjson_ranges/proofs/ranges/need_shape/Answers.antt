use Rattle.std.proofs.Common.{◌≡◌, length, codes, Some, Ok, sym, ◌∙◌}
use Rattle.serde_json.specs.Find.{get}
use Rattle.edr_samples.specs.Trees.{tree_view, list_view}
use Rattle.covjson_checks.specs.declared.faults.Member.TheVariants.{Shape}
use Rattle.covjson_checks.specs.Members.{list_at}
use Rattle.edr_json.specs.Trees.{count_items}
use Rattle.covjson_ranges.proofs.RangeLemmas.{shape_counted, shape_miscounted}
use Rattle.covjson_ranges.proofs.ranges.need_shape.Goals as goal

pub returns-then-count-names : goal.returns-then-count-names
returns-then-count-names c =
    let ds = list_view c.in_ok-items.items in
    let some : get (codes "shape") (tree_view c.args.tree.now) ≡ Some (tree_view c.in-Some.list.now) = sym c.in-Some.ensures in
    let listed : list_at Shape (tree_view c.in-Some.list.now) ≡ Ok ds = c.in_ok-items.ensures in
    shape_miscounted c.args.domain.now c.args.names.now _ (tree_view c.in-Some.list.now) ds _ c.count_items-count.result some listed
    (sym c.in_ok-need_form.ensures) c.count_items-count.ensures c.if-count-names.true

pub returns : goal.returns
returns c =
    let ds = list_view c.in_ok-items.items in
    let some : get (codes "shape") (tree_view c.args.tree.now) ≡ Some (tree_view c.in-Some.list.now) = sym c.in-Some.ensures in
    let listed : list_at Shape (tree_view c.in-Some.list.now) ≡ Ok ds = c.in_ok-items.ensures in
    let counted : count_items ds ≡ length c.args.names.now = sym c.count_items-count.ensures ∙ c.if-count-names.false in
    c.need_list_lengths.ensures
    ∙ sym (shape_counted c.args.domain.now c.args.names.now _ (tree_view c.in-Some.list.now) ds _ some listed (sym c.in_ok-need_form.ensures) counted)
