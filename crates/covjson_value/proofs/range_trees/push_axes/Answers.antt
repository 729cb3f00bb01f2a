use Rattle.std.proofs.lemmas.Result.{on_ok_weaker}
use Rattle.covjson_value.specs.Domains.{range_axis_of, range_tuples_of}
use Rattle.covjson_value.specs.Trees.{name_data, length_data}
use Rattle.covjson_value.proofs.AxesGathered.{axes_gathered}
use Rattle.covjson_value.proofs.range_trees.push_axes.Goals as goal

pub returns : goal.returns
returns c =
    let domain = c.args.domain.now in
    record {
      names = on_ok_weaker c.push_composite.result
          (axes_gathered name_data (range_axis_of domain) (range_tuples_of domain) _ _ _ _ _ _ c.in_ok-push_axis.ensures.names c.in_ok-push_axis-2.ensures.names c.in_ok-push_axis-3.ensures.names c.in_ok-push_axis-4.ensures.names)
          c.push_composite.ensures.names;
      lengths = on_ok_weaker c.push_composite.result
          (axes_gathered length_data (range_axis_of domain) (range_tuples_of domain) _ _ _ _ _ _ c.in_ok-push_axis.ensures.lengths c.in_ok-push_axis-2.ensures.lengths c.in_ok-push_axis-3.ensures.lengths c.in_ok-push_axis-4.ensures.lengths)
          c.push_composite.ensures.lengths;
    }
