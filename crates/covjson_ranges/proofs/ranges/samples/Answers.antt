use Rattle.std.proofs.Common.{◌≡◌, inl, codes, Ok, sym, ◌∙◌}
use Rattle.edr_samples.specs.Trees.{tree_view, list_view}
use Rattle.covjson_checks.specs.declared.faults.Member.TheVariants.{Values}
use Rattle.covjson_checks.specs.Members.{need, list_at}
use Rattle.edr_json.specs.Trees.{count_items}
use Rattle.covjson_ranges.proofs.RangeLemmas.{samples_counted, samples_miscounted}
use Rattle.covjson_ranges.proofs.ranges.samples.Goals as goal

pub returns-then-found-wanted : goal.returns-then-found-wanted
returns-then-found-wanted c =
    let ds = list_view c.in_ok-items.items in
    let list = tree_view c.in_ok-list.list.now in
    let needed : need (codes "values") Values (tree_view c.args.tree.now) ≡ Ok list = c.in_ok-list.ensures in
    let listed : list_at Values list ≡ Ok ds = c.in_ok-items.ensures in
    inl (samples_miscounted c.args.wanted (tree_view c.args.tree.now) list ds c.count_items-found.result needed listed c.count_items-found.ensures c.if-found-wanted.true)

pub returns : goal.returns
returns c =
    let ds = list_view c.in_ok-items.items in
    let list = tree_view c.in_ok-list.list.now in
    let needed : need (codes "values") Values (tree_view c.args.tree.now) ≡ Ok list = c.in_ok-list.ensures in
    let listed : list_at Values list ≡ Ok ds = c.in_ok-items.ensures in
    let counted : count_items ds ≡ c.args.wanted = sym c.count_items-found.ensures ∙ c.if-found-wanted.false in
    rw (samples_counted c.args.wanted (tree_view c.args.tree.now) list ds needed listed counted) c.samples_of.ensures
