use Rattle.std.proofs.Common.{subst, List, ℕ}
use Rattle.std.specs.Prelude.{MatchOption}
use Rattle.std.specs.declared.option.Option.{Option}
use Rattle.edr_query.specs.declared.addresses.Address.{Address}
use Rattle.edr_query.specs.Paths.{IsPath}
use Rattle.edr_query.specs.PathReads.{HasNoAddress}
use Rattle.edr_query.proofs.TargetLemmas.{at_page}
use Rattle.edr_query.proofs.reading.read_target.Goals as goal

abbrev Found : List ℕ → Option Address → Type 0
Found path o = MatchOption o (HasNoAddress path) (λ named. IsPath path named)

pub returns : goal.returns
returns c =
    let path = c.cut_target.result.0.now in let text = c.cut_target.result.1.now in
    at_page c.args.target.now path text c.in-Some.address c.read_page.result
    c.cut_target.ensures.path c.cut_target.ensures.query (subst (Found path) c.in-Some.is c.in_ok-address.ensures) c.read_page.ensures
