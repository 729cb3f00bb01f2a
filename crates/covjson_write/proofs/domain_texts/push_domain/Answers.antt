use Rattle.std.proofs.Common.{◌++◌, ap, ◌∙◌}
use Rattle.std.proofs.lemmas.Result.{on_ok_weaker}
use Rattle.covjson_write.proofs.HeadTextLemmas.{domain_put}
use Rattle.covjson_write.proofs.domain_texts.push_domain.Goals as goal

pub returns : goal.returns
returns c =
    on_ok_weaker c.push_bytes-5.result
    (domain_put c.args.domain.now c.args.referencing.now c.args.text.now.items _ _ _ _ _ _ _ c.in_ok-push_bytes.ensures c.in_ok-push_axes.ensures c.in_ok-push_bytes-2.ensures
    (c.in_ok-push_bytes-3.ensures ∙ ap (λ t. c.push_bytes-2.new.text.items ++ t) (c.as_bytes.ensures.value ∙ c.type_name.ensures)) c.in_ok-push_bytes-4.ensures c.in_ok-push_referencing.ensures) c.push_bytes-5.ensures
