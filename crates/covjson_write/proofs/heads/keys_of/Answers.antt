use Rattle.std.proofs.Common.{[], ◌∷◌, ◌++◌, sym, ap₂, subst, ◌∙◌}
use Rattle.covjson_value.specs.Coverages.{IsParameter}
use Rattle.covjson_write.proofs.HeadLemmas.{keys_all, keys_more}
use Rattle.covjson_write.proofs.heads.keys_of.Goals as goal

pub returns : goal.returns
returns c = c.of.ensures ∙ c.loop-parameter.invariant ∙ keys_all c.args.parameters.now c.loop-parameter.parameter-index c.loop-parameter-test.false

pub loop-parameter-preserved : goal.loop-parameter-preserved
loop-parameter-preserved c =
    let more = keys_more c.args.parameters.now c.loop-parameter.parameter-index c.parameter-item.result _ c.loop-parameter-test.true c.parameter-item.is in
    c.in_ok-push.ensures.items ∙ ap₂ (λ keys key. keys ++ key ∷ []) c.loop-parameter.invariant c.in_ok-key.ensures ∙ sym more

pub quoted_text-requires : goal.quoted_text-requires
quoted_text-requires c =
    let valid : IsParameter c.parameter-item.result = subst IsParameter (sym c.parameter-item.is) (c.requires c.loop-parameter.parameter-index _ c.loop-parameter-test.true) in
    valid.id.utf8
