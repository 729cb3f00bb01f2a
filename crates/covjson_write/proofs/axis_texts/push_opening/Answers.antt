use Rattle.std.proofs.Common.{◌++◌, codes, refl}
use Rattle.std.proofs.lemmas.Result.{on_ok_weaker}
use Rattle.covjson_value.specs.Domains.{range_axes}
use Rattle.covjson_write.specs.Pieces.{array_begin}
use Rattle.covjson_write.proofs.HeadTextLemmas.{put_five}
use Rattle.covjson_write.proofs.axis_texts.push_opening.Goals as goal

pub returns : goal.returns
returns c =
    on_ok_weaker c.push_bytes-3.result
    (λ last. put_five _ _ _ _ _ _ _ _ _ _ _ (codes ":" ++ array_begin (range_axes c.args.domain.now)) c.in_ok-push_bytes.ensures c.in_ok-push_names.ensures c.in_ok-push_bytes-2.ensures c.in_ok-push_shape.ensures last refl)
    c.push_bytes-3.ensures
