use Rattle.std.proofs.Common.{rules, ◌≡◌, List, codes, Ok, subst, sym}
use Rattle.serde_json.specs.Find.{get}
use Rattle.edr_samples.specs.Trees.{tree_view}
use Rattle.covjson_value.specs.declared.axis_names.AxisName.{AxisName}
use Rattle.covjson_value.specs.Domains.{count_of}
use Rattle.covjson_checks.specs.FaultLaws.{fault_answers, stops_here, stops_after}
use Rattle.covjson_ranges.specs.Ranges.{AreRangeAxes}
use Rattle.covjson_ranges.specs.RangeAnswers.{shape_in}
use Rattle.covjson_ranges.proofs.ShapeParts.{names_stand}
use Rattle.covjson_ranges.proofs.RangeLemmas.{read_counted}
use Rattle.covjson_ranges.proofs.ranges.range_read.Goals as goal

pub in_order-requires-clause-axes : goal.in_order-requires-clause-axes
in_order-requires-clause-axes c =
    let domain = c.args.read.now.domain in
    let named = names_stand domain (get (codes "axisNames") (tree_view c.args.tree.now)) c.in_ok-names.names.items c.in_ok-names.ensures in
    subst (λ (names : List AxisName). AreRangeAxes domain names) (sym c.deref-2.ensures.value) named.1

pub in_order-requires-clause-counted : goal.in_order-requires-clause-counted
in_order-requires-clause-counted c =
    read_counted (tree_view c.args.tree.now) c.wanted_count.result (count_of c.args.read.now.domain) c.in_ok-values.values.items c.in_ok-values.ensures c.wanted_count.ensures

pub returns-in_err-values : goal.returns-in_err-values
returns-in_err-values c =
    let fault = c.in_err-values.field-0.0 in
    let shape : shape_in c.args.read.now.domain c.in_ok-names.names.items (get (codes "shape") (tree_view c.args.tree.now)) ≡ Ok tt = search rules in
    fault_answers (λ r. r) c.from_residual-in_err-values.result fault _ c.from_residual-in_err-values.ensures.1
    (stops_after _ _ fault _ c.in_ok-need_array.ensures (stops_after _ _ fault _ c.in_ok-need_integers.ensures (stops_after _ _ fault _ c.in_ok-names.ensures (stops_after _ _ fault tt shape
    (stops_here _ _ fault (rw c.wanted_count.ensures at c.in_err-values.ensures))))))
