use Rattle.std.proofs.Common.{◌++◌, get_or, codes, w64, ap, ◌∙◌}
use Rattle.std.proofs.lemmas.Int.{to_z-of_z}
use Rattle.std.proofs.lemmas.Result.{on_ok_weaker}
use Rattle.covjson_value.specs.declared.domains.CoordinateName.TheVariants.{T}
use Rattle.serde_json.specs.Written.{compact_text}
use Rattle.covjson_value.specs.Domains.{coordinate}
use Rattle.covjson_value.specs.Trees.{axis_value_data}
use Rattle.covjson_write.proofs.HeadTextLemmas.{item_put, list_put}
use Rattle.covjson_write.proofs.domain_texts.push_tuple.Goals as goal

pub loop-place-preserved : goal.loop-place-preserved
loop-place-preserved c =
    item_put (λ name. compact_text (axis_value_data name (coordinate name c.args.tuple.now))) c.args.names.now c.loop-place.place _ (c.args.text.now.items ++ codes "[") c.loop-place.text.items c.push_comma.new.text.items _ c.loop-place-test.true c.loop-place.invariant c.in_ok-push_comma.ensures
    (c.in_ok-push_axis_value.ensures ∙ ap (λ v. c.push_comma.new.text.items ++ compact_text (axis_value_data (get_or c.args.names.now c.loop-place.place T) v)) (to_z-of_z w64 c.coordinate.result (record { sfits = c.coordinate.type_inv }) ∙ c.coordinate.ensures))

pub returns : goal.returns
returns c =
    on_ok_weaker c.push_bytes-2.result (list_put (λ name. axis_value_data name (coordinate name c.args.tuple.now)) c.args.names.now c.loop-place.place c.args.text.now.items c.loop-place.text.items _ c.loop-place-test.false c.loop-place.invariant) c.push_bytes-2.ensures

pub push_axis_value-requires : goal.push_axis_value-requires
push_axis_value-requires c = rw (to_z-of_z w64 c.coordinate.result (record { sfits = c.coordinate.type_inv }) ∙ c.coordinate.ensures) (c.requires c.loop-place.place T c.loop-place-test.true)
