use Rattle.std.proofs.Common.{inl, arith}
use Rattle.std.proofs.lemmas.Bool.Decides.{nat_tests}
use Rattle.covjson_domains.proofs.SampleItems.{tuples_some}
use Rattle.covjson_domains.proofs.tuples.tuples_of_list.Goals as goal

pub returns-then-len-ne0 : goal.returns-then-len-ne0
returns-then-len-ne0 c = rw c.in-Samples.is (inl (tuples_some c.args.names.now c.in-Samples.samples.now (λ e. grind (arith, nat_tests))))
