use Rattle.std.proofs.Common.{[], ◌∷◌, sym, subst}
use Rattle.edrd.specs.Serving.{Continues}
use Rattle.edrd.proofs.SayLemmas.{last_continues}
use Rattle.edrd.proofs.choosing.begin_with.Goals as goal

pub returns-then-last-clause-numbers : goal.returns-then-last-clause-numbers
returns-then-last-clause-numbers c = subst (Continues (c.unwrap-newest.result ∷ [])) (sym c.clear.ensures.items) (last_continues c.unwrap-newest.result)
