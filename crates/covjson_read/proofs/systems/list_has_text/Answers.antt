use Rattle.std.proofs.Common.{sym}
use Rattle.covjson_read.proofs.SampleEntries.{no_text}
use Rattle.covjson_read.proofs.systems.list_has_text.Goals as goal

pub returns-in-Samples : goal.returns-in-Samples
returns-in-Samples c = rw c.in-Samples.is (sym (no_text c.args.text.now c.in-Samples._samples.now))
