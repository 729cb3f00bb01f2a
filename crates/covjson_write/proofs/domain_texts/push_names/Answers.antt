use Rattle.std.proofs.Common.{◌++◌, codes, ap, ◌∙◌}
use Rattle.serde_json.specs.Written.{compact_text}
use Rattle.serde_json.specs.Data.{string}
use Rattle.covjson_value.specs.Domains.{coordinate_key}
use Rattle.std.proofs.lemmas.Result.{on_ok_weaker}
use Rattle.covjson_write.proofs.HeadTextLemmas.{item_put, list_put}
use Rattle.covjson_write.proofs.domain_texts.push_names.Goals as goal

pub loop-place-preserved : goal.loop-place-preserved
loop-place-preserved c =
    item_put (λ name. compact_text (string (coordinate_key name))) c.args.names.now c.loop-place.place _ (c.args.text.now.items ++ codes "[") c.loop-place.text.items c.push_comma.new.text.items _ c.loop-place-test.true c.loop-place.invariant c.in_ok-push_comma.ensures
    (c.in_ok-push_bytes-2.ensures ∙ ap (λ t. c.push_comma.new.text.items ++ t) c.quoted_name.ensures)

pub returns : goal.returns
returns c =
    on_ok_weaker c.push_bytes-2.result (list_put (λ name. string (coordinate_key name)) c.args.names.now c.loop-place.place c.args.text.now.items c.loop-place.text.items _ c.loop-place-test.false c.loop-place.invariant) c.push_bytes-2.ensures
