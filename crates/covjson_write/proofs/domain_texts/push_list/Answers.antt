use Rattle.std.proofs.Common.{◌++◌, get_or, pos, codes, FitsSigned, w64, ap, ◌∙◌, rules}
use Rattle.std.proofs.lemmas.Int.{to_z-of_z}
use Rattle.std.proofs.lemmas.Result.{on_ok_weaker}
use Rattle.serde_json.specs.Written.{compact_text}
use Rattle.covjson_value.specs.Trees.{axis_value_data}
use Rattle.covjson_write.proofs.HeadTextLemmas.{item_put, list_axis_put}
use Rattle.covjson_write.proofs.domain_texts.push_list.Goals as goal

pub loop-place-preserved : goal.loop-place-preserved
loop-place-preserved c =
    let fits : FitsSigned w64 (get_or c.args.values.now c.loop-place.place (pos 0)) = search rules in
    item_put (λ item. compact_text (axis_value_data c.args.name item)) c.args.values.now c.loop-place.place _ (c.args.text.now.items ++ codes "{\"values\":[") c.loop-place.text.items c.push_comma.new.text.items _ c.loop-place-test.true c.loop-place.invariant c.in_ok-push_comma.ensures
    (c.in_ok-push_axis_value.ensures ∙ ap (λ v. c.push_comma.new.text.items ++ compact_text (axis_value_data c.args.name v)) (to_z-of_z w64 (get_or c.args.values.now c.loop-place.place (pos 0)) fits))

pub returns : goal.returns
returns c =
    on_ok_weaker c.push_bytes-2.result (list_axis_put c.args.name c.args.values.now c.loop-place.place c.args.text.now.items c.loop-place.text.items _ c.loop-place-test.false c.loop-place.invariant) c.push_bytes-2.ensures

pub push_axis_value-requires : goal.push_axis_value-requires
push_axis_value-requires c =
    let fits : FitsSigned w64 (get_or c.args.values.now c.loop-place.place (pos 0)) = search rules in
    rw (to_z-of_z w64 (get_or c.args.values.now c.loop-place.place (pos 0)) fits) (c.requires c.loop-place.place (pos 0) c.loop-place-test.true)
