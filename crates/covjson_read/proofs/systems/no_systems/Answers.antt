use Rattle.std.proofs.Common.{arith}
use Rattle.std.proofs.lemmas.Bool.Decides.{nat_tests}
use Rattle.covjson_read.proofs.SampleEntries.{systems_empty, systems_some}
use Rattle.covjson_read.proofs.systems.no_systems.Goals as goal

pub returns-then-len-eq0 : goal.returns-then-len-eq0
returns-then-len-eq0 c = λ has_z. systems_empty has_z c.args.samples.now (grind (arith, nat_tests))

pub returns-else-len-eq0 : goal.returns-else-len-eq0
returns-else-len-eq0 c = λ has_z. systems_some has_z c.args.samples.now (λ e. grind (arith, nat_tests))
