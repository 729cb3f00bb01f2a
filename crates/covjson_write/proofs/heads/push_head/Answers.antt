use Rattle.std.proofs.Common.{◌++◌, ap, ◌∙◌, refl}
use Rattle.std.proofs.lemmas.Result.{on_ok_weaker}
use Rattle.serde_json.specs.Written.{comma_if, compact_text}
use Rattle.covjson_value.specs.Trees.{parameters_data}
use Rattle.covjson_write.specs.Pieces.{coverage_begin}
use Rattle.covjson_write.proofs.HeadTextLemmas.{put_seven}
use Rattle.covjson_write.proofs.heads.push_head.Goals as goal

pub returns : goal.returns
returns c =
    let whole = comma_if c.args.later ++ coverage_begin c.args.head.now in
    let parameters = c.in_ok-push_parameters.ensures ∙ ap (λ ps. c.push_bytes-2.new.text.items ++ compact_text (parameters_data ps)) c.items.ensures in
    on_ok_weaker c.push_bytes-3.result
    (λ last. put_seven _ _ _ _ _ _ _ _ _ _ _ _ _ _ _ whole c.in_ok-push_comma.ensures c.in_ok-push_bytes.ensures c.in_ok-push_domain.ensures c.in_ok-push_id.ensures c.in_ok-push_bytes-2.ensures parameters last refl)
    c.push_bytes-3.ensures

pub push_parameters-requires : goal.push_parameters-requires
push_parameters-requires c = rw (c.items.ensures) c.requires.valid.parameters
