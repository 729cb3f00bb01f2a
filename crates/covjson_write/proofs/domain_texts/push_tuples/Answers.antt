use Rattle.std.proofs.Common.{◌++◌, codes}
use Rattle.serde_json.specs.Written.{compact_text}
use Rattle.covjson_value.specs.Trees.{tuple_data}
use Rattle.std.proofs.lemmas.Result.{on_ok_weaker}
use Rattle.covjson_write.proofs.HeadTextLemmas.{item_put, list_put}
use Rattle.covjson_write.proofs.domain_texts.push_tuples.Goals as goal

pub loop-place-preserved : goal.loop-place-preserved
loop-place-preserved c =
    item_put (λ item. compact_text (tuple_data c.args.names.now item)) c.args.tuples.now c.loop-place.place _ (c.args.text.now.items ++ codes "[") c.loop-place.text.items c.push_comma.new.text.items _ c.loop-place-test.true c.loop-place.invariant c.in_ok-push_comma.ensures
    c.in_ok-push_tuple.ensures

pub returns : goal.returns
returns c =
    on_ok_weaker c.push_bytes-2.result (list_put (tuple_data c.args.names.now) c.args.tuples.now c.loop-place.place c.args.text.now.items c.loop-place.text.items _ c.loop-place-test.false c.loop-place.invariant) c.push_bytes-2.ensures

pub push_tuple-requires : goal.push_tuple-requires
push_tuple-requires c = c.requires c.loop-place.place _ c.loop-place-test.true
