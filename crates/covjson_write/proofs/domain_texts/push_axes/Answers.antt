use Rattle.std.proofs.lemmas.Result.{on_ok_weaker}
use Rattle.covjson_value.specs.declared.domains.CoordinateName.TheVariants.{T, X, Y, Z}
use Rattle.covjson_write.proofs.HeadTextLemmas.{axes_put}
use Rattle.covjson_write.proofs.domain_texts.push_axes.Goals as goal

pub returns : goal.returns
returns c =
    on_ok_weaker c.push_bytes-2.result
    (axes_put c.args.domain.now c.args.text.now.items _ _ _ _ _ _ _ _ _ _ _ c.in_ok-composite.ensures.later c.in_ok-times.ensures.later c.in_ok-columns.ensures.later c.in_ok-rows.ensures.later
    c.in_ok-push_bytes.ensures c.in_ok-composite.ensures.text c.in_ok-times.ensures.text c.in_ok-columns.ensures.text c.in_ok-rows.ensures.text c.in_ok-push_axis.ensures.text) c.push_bytes-2.ensures

pub push_axis-requires : goal.push_axis-requires
push_axis-requires c = c.requires.axes T

pub push_axis-requires-2 : goal.push_axis-requires-2
push_axis-requires-2 c = c.requires.axes X

pub push_axis-requires-3 : goal.push_axis-requires-3
push_axis-requires-3 c = c.requires.axes Y

pub push_axis-requires-4 : goal.push_axis-requires-4
push_axis-requires-4 c = c.requires.axes Z
