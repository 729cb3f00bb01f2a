use Rattle.std.proofs.Common.{inl, arith}
use Rattle.std.proofs.lemmas.Bool.Decides.{nat_tests}
use Rattle.covjson_domains.proofs.SampleItems.{times_some}
use Rattle.covjson_domains.proofs.axes.times_in.Goals as goal

pub returns-then-len-ne0 : goal.returns-then-len-ne0
returns-then-len-ne0 c = rw c.in-Samples.is (inl (times_some c.in-Samples.samples.now (λ e. grind (arith, nat_tests))))
