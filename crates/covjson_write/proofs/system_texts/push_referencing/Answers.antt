use Rattle.std.proofs.lemmas.Result.{on_ok_weaker}
use Rattle.covjson_write.proofs.HeadTextLemmas.{referencing_put}
use Rattle.covjson_write.proofs.system_texts.push_referencing.Goals as goal

pub returns : goal.returns
returns c =
    on_ok_weaker c.push_bytes-2.result
    (referencing_put c.args.domain.now c.args.referencing.now c.args.text.now.items _ _ _ _ _ c.in_ok-push_bytes.ensures c.in_ok-push_horizontal.ensures c.in_ok-push_levels.ensures c.in_ok-push_times.ensures)
    c.push_bytes-2.ensures
