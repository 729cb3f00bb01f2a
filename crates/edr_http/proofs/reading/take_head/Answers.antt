use Rattle.std.proofs.Common.{List, ℕ, Ok, take, refl, subst, sym, ap, ◌∙◌}
use Rattle.httparse.specs.Spans.{IsRequestAt}
use Rattle.edr_http.proofs.RestLemmas.{finds_got, finds_bad, rest_after, rest_same, head_or_short, no_more, fewer}
use Rattle.edr_http.proofs.reading.take_head.Goals as goal

pub returns-in_err-spans-clause-less : goal.returns-in_err-spans-clause-less
returns-in_err-spans-clause-less g c n has = no_more _ _ (c.fill.ensures.same n has)

pub returns-in_err-head-in-Got-clause-behind : goal.returns-in_err-head-in-Got-clause-behind
returns-in_err-head-in-Got-clause-behind g c = rest_same _ _ c.fill.ensures.rest

pub returns-in_err-head-in-Got-clause-less : goal.returns-in_err-head-in-Got-clause-less
returns-in_err-head-in-Got-clause-less g c n has = no_more _ _ (c.fill.ensures.same n has)

pub returns-in_ok-head-in-Got-clause-done : goal.returns-in_ok-head-in-Got-clause-done
returns-in_ok-head-in-Got-clause-done g c =
    let f = rw c.in-Got.is at c.in_ok-spans.ensures.front in
    let P : List ℕ → Type 0 = λ w. IsRequestAt w c.fill.new.fields c.in-Got.spans f.tree in
    finds_got _ _ _ _ _ c.in-Got.spans.len c.in_ok-head-in-Got.head f.tree f.rest c.fill.ensures.rest f.begins f.at.len (c.in_ok-head-in-Got.ensures f.tree (subst P (sym (c.window.ensures ∙ ap (take 16384) c.bytes.ensures)) f.at)) c.take.ensures

pub returns-in_ok-head-in-Got-clause-behind : goal.returns-in_ok-head-in-Got-clause-behind
returns-in_ok-head-in-Got-clause-behind g c = rest_after _ _ _ _ _ c.in-Got.spans.len c.fill.ensures.rest c.take.ensures

pub returns-in_ok-head-in-Got-clause-short : goal.returns-in_ok-head-in-Got-clause-short
returns-in_ok-head-in-Got-clause-short g c got =
    let told = c.fill.ensures.short c.in-Got.spans (c.in_ok-spans.was ∙ ap Ok c.in-Got.is) in
    head_or_short c.args.held.now c.fill.new.held c.take.new.self c.in-Got.spans.len told c.take.ensures

pub returns-in_ok-head-in-Got-clause-less : goal.returns-in_ok-head-in-Got-clause-less
returns-in_ok-head-in-Got-clause-less g c n has = fewer _ _ _ c.in-Got.spans.len (c.fill.ensures.same n has) c.take.ensures

pub returns-in-BadHead-clause-done : goal.returns-in-BadHead-clause-done
returns-in-BadHead-clause-done g c =
    let f = rw c.in-BadHead.is at c.in_ok-spans.ensures.front in
    (refl, finds_bad _ _ _ _ c.fill.ensures.rest f.0 f.1)

pub returns-in-BadHead-clause-less : goal.returns-in-BadHead-clause-less
returns-in-BadHead-clause-less g c n has = no_more _ _ (c.fill.ensures.same n has)
