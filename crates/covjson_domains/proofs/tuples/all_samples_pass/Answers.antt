use Rattle.std.proofs.Common.{arith, sym}
use Rattle.std.proofs.lemmas.Bool.{false_from_ne_true}
use Rattle.edr_samples.specs.Tokens.{sample_data}
use Rattle.covjson_domains.proofs.TupleLists.{seen_counted}
use Rattle.covjson_domains.proofs.tuples.all_samples_pass.Goals as goal

pub returns-then-len-names : goal.returns-then-len-names
returns-then-len-names c =
    sym (false_from_ne_true _ (λ e. omega (arith, seen_counted sample_data c.args.test c.args.names.now c.args.samples.now e)))
