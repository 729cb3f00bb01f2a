use Rattle.std.proofs.Common.{codes, sym, ap, ◌∙◌}
use Rattle.serde_json.specs.Data.{object}
use Rattle.serde_json.specs.View.{members_view}
use Rattle.serde_json.proofs.Views.{view-Object}
use Rattle.covjson_value.specs.declared.coverages.Parameter.{Parameter}
use Rattle.covjson_value.specs.Trees.{members_in_order}
use Rattle.covjson_value.proofs.Gathered.{put_gathered}
use Rattle.covjson_value.proofs.NamedParts.{put_parts, ranges_more, ranges_all}
use Rattle.covjson_value.proofs.range_trees.put_ranges.Goals as goal

pub returns : goal.returns
returns c =
    put_gathered c.put_tree-2.result (codes "ranges") _ _ (members_view c.args.members.now.entries) _
    (view-Object c.loop-place.by_id
    ∙ ap object (c.loop-place.invariant ∙ ap members_in_order (ranges_all c.args.domain.now c.args.parameters.now c.args.ranges.now c.loop-place.place c.requires.as_many c.loop-place-test.false)))
    c.put_tree-2.ensures

pub loop-place-preserved : goal.loop-place-preserved
loop-place-preserved c =
    let more = ranges_more c.args.domain.now c.args.parameters.now c.args.ranges.now c.loop-place.place c.index-parameters-place.result c.index-ranges-place.result c.loop-place-test.true c.requires.as_many c.requires.ascending c.index-parameters-place.is c.index-ranges-place.is in
    c.in_ok-put_tree.ensures ∙ put_parts _ _ _ _ _ _ (c.text_of-id.ensures ∙ c.bytes.ensures ∙ ap (λ (p : Parameter). p.id) (sym c.index-parameters-place.is)) c.in_ok-tree.ensures c.loop-place.invariant ∙ more
