use Rattle.std.proofs.Common.{codes}
use Rattle.std.proofs.lemmas.Result.{on_ok_weaker}
use Rattle.covjson_value.specs.Trees.{name_data}
use Rattle.covjson_write.proofs.HeadTextLemmas.{axes_listed}
use Rattle.covjson_write.proofs.axis_texts.push_names.Goals as goal

pub returns : goal.returns
returns c =
    on_ok_weaker c.push_end.result
    (axes_listed name_data (codes "\"axisNames\":") (codes ",") c.args.domain.now c.args.text.now.items _ _ _ _ _ _ _ _ _ _ _ c.in_ok-times.ensures.later c.in_ok-levels.ensures.later c.in_ok-rows.ensures.later c.in_ok-columns.ensures.later c.in_ok-some.ensures.later
    c.in_ok-times.ensures.text c.in_ok-levels.ensures.text c.in_ok-rows.ensures.text c.in_ok-columns.ensures.text c.in_ok-some.ensures.text) c.push_end.ensures
