use Rattle.std.proofs.Common.{◌++◌, codes, sym, ap, subst, ◌∙◌}
use Rattle.std.proofs.lemmas.Result.{on_ok_weaker}
use Rattle.covjson_value.specs.declared.coverages.Parameter.{Parameter}
use Rattle.covjson_value.specs.Coverages.{IsParameter}
use Rattle.covjson_write.specs.HeadTexts.{keyed_parameter}
use Rattle.covjson_write.proofs.HeadTextLemmas.{item_put, parameters_put}
use Rattle.covjson_write.proofs.parameter_texts.push_parameters.Goals as goal

pub loop-place-preserved : goal.loop-place-preserved
loop-place-preserved c =
    item_put keyed_parameter c.args.parameters.now c.loop-place.place _ (c.args.text.now.items ++ codes "{") c.loop-place.text.items c.push_comma.new.text.items _ c.loop-place-test.true c.loop-place.invariant c.in_ok-push_comma.ensures
    (c.in_ok-push_parameter.ensures ∙ ap (λ (p : Parameter). c.push_comma.new.text.items ++ keyed_parameter p) c.index-parameters-place.is)

pub returns : goal.returns
returns c =
    on_ok_weaker c.push_bytes-2.result (parameters_put c.args.parameters.now c.loop-place.place c.args.text.now.items c.loop-place.text.items _ c.loop-place-test.false c.loop-place.invariant) c.push_bytes-2.ensures

pub push_parameter-requires : goal.push_parameter-requires
push_parameter-requires c = subst IsParameter (sym c.index-parameters-place.is) (c.requires c.loop-place.place _ c.loop-place-test.true)
