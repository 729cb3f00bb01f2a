use Rattle.covjson_write.proofs.SendLemmas.{three_written}
use Rattle.covjson_write.proofs.sending.send_short_range.Goals as goal

pub returns-clause-bytes : goal.returns-clause-bytes
returns-clause-bytes g c = three_written c.send.result _ _ c.place_comma-start.ensures c.place_slice-middle.ensures c.place_slice-end.ensures c.send.ensures.bytes
