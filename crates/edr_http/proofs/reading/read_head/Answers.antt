use Rattle.std.proofs.Common.{List, ℕ, subst, sym}
use Rattle.edr_http.specs.Finding.{HasTree}
use Rattle.edr_http.proofs.HeadLemmas.{some_tree}
use Rattle.edr_http.proofs.RestLemmas.{no_more_than}
use Rattle.edr_http.proofs.reading.read_head.Goals as goal

pub returns-clause-kept : goal.returns-clause-kept
returns-clause-kept g c h =
    let t = some_tree c.args.inbox.now h in
    c.take_head.ensures.kept t.0 (subst (λ (w : List ℕ). HasTree w t.0) (sym c.inbox.view_is) t.1)

pub returns-clause-less : goal.returns-clause-less
returns-clause-less g c h =
    let t = some_tree c.args.inbox.now h in
    no_more_than _ _ _ c.inbox.view_is (c.take_head.ensures.less t.0 (subst (λ (w : List ℕ). HasTree w t.0) (sym c.inbox.view_is) t.1))
