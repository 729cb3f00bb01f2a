use Rattle.std.proofs.Common.{◌≡◌, ap}
use Rattle.httparse.specs.declared.spans.RequestSpans.{RequestSpans}
use Rattle.edr_http.proofs.HeadLemmas.{has_tree}
use Rattle.edr_http.proofs.RestLemmas.{got_short}
use Rattle.edr_http.proofs.filling.fill.Goals as goal

pub returns-in-Got-clause-short : goal.returns-in-Got-clause-short
returns-in-Got-clause-short g c spans e =
    let here = rw c.bytes.ensures at c.in-Got.ensures in
    let same : c.in-Got.spans ≡ spans = cc in
    got_short _ _ c.args.held.now c.loop.held c.in-Got.spans.len spans.len c.loop.invariant.fresh (has_tree _ _ c.in-Got.spans here) (ap (λ (s : RequestSpans). s.len) same)
