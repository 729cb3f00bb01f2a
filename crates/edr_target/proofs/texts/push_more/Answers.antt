use Rattle.std.proofs.Common.{arith}
use Rattle.std.proofs.lemmas.Grind.{take_at_read, flat_map-append}
use Rattle.std.proofs.lemmas.List.{append_assoc, append-nil}
use Rattle.edr_target.proofs.texts.push_more.Goals as goal

pub loop-number-preserved : goal.loop-number-preserved
loop-number-preserved c = grind (arith, take_at_read, flat_map-append, append_assoc, append-nil)
