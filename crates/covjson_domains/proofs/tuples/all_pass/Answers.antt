use Rattle.std.proofs.Common.{arith, sym}
use Rattle.std.proofs.lemmas.Bool.{false_from_ne_true}
use Rattle.covjson_domains.proofs.TupleLists.{pass_counted}
use Rattle.covjson_domains.proofs.tuples.all_pass.Goals as goal

pub returns-then-len-names : goal.returns-then-len-names
returns-then-len-names c =
    let items = c.args.items.now in
    sym (false_from_ne_true _ (λ e. omega (arith, pass_counted c.args.test c.args.names.now items.items e, items.ok)))
