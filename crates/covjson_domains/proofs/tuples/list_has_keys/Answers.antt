use Rattle.std.proofs.Common.{arith, sym, ◌∙◌}
use Rattle.std.proofs.lemmas.Bool.{ne_eqb}
use Rattle.std.proofs.lemmas.Bool.Decides.{nat_tests}
use Rattle.covjson_domains.proofs.SampleItems.{keys_none, keys_some}
use Rattle.covjson_domains.proofs.tuples.list_has_keys.Goals as goal

pub returns-then-len-eq0 : goal.returns-then-len-eq0
returns-then-len-eq0 c = rw c.in-Samples.is (c.is_empty.ensures ∙ sym (keys_none c.args.names.now c.in-Samples.samples.now (grind (arith, nat_tests))))

pub returns-else-len-eq0 : goal.returns-else-len-eq0
returns-else-len-eq0 c = rw c.in-Samples.is (ne_eqb c.len.result 0 c.if-len-eq0.false ∙ sym (keys_some c.args.names.now c.in-Samples.samples.now (λ e. grind (arith, nat_tests))))
