use Rattle.std.proofs.Common.{◌≡◌, length, ap, arith}
use Rattle.std.proofs.lemmas.Bool.Decides.{nat_tests}
use Rattle.edr_query.proofs.PathLemmas.{first_cut, first_whole}
use Rattle.edr_query.proofs.paths.first_part.Goals as goal

pub returns-in-Some : goal.returns-in-Some
returns-in-Some c = first_cut c.args.text.now c.in-Some.front.now c.in-Some.back.now c.in-Some.ensures

pub returns-in-None : goal.returns-in-None
returns-in-None c = first_whole c.args.text.now c.in-None.ensures (λ e. (let l : length c.args.text.now ≡ 0 = ap length e in grind (arith, nat_tests, l)))
