use Rattle.std.proofs.Common.{◌++◌, codes, ap, ◌∙◌}
use Rattle.std.proofs.lemmas.Result.{on_ok_weaker}
use Rattle.json.specs.Print.{quoted}
use Rattle.covjson_write.proofs.HeadTextLemmas.{parameter_put}
use Rattle.covjson_write.proofs.parameter_texts.push_parameter.Goals as goal

pub returns : goal.returns
returns c =
    on_ok_weaker c.push_bytes-2.result
    (parameter_put c.args.parameter.now c.args.text.now.items _ _ _ _ _ _ (c.in_ok-push_quoted.ensures ∙ ap (λ t. c.args.text.now.items ++ quoted t) c.bytes.ensures)
    (c.in_ok-push_quoted-2.ensures ∙ ap (λ t. c.push_quoted.new.text.items ++ (codes ":{\"observedProperty\":{\"label\":{" ++ quoted t)) c.bytes-2.ensures)
    (c.in_ok-push_quoted-3.ensures ∙ ap (λ t. c.push_quoted-2.new.text.items ++ (codes ":" ++ quoted t)) c.bytes-3.ensures)
    c.in_ok-push_bytes.ensures c.in_ok-push_unit.ensures) c.push_bytes-2.ensures
