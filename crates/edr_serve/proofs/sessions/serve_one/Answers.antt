use Rattle.std.proofs.Common.{ap, rules}
use Rattle.edr_serve.proofs.OneReply.{on_err}
use Rattle.edr_serve.proofs.OneRequest.{served_head, served_refused, broken_head, broken_bad, head_lost, head_ahead, head_short}
use Rattle.edr_serve.proofs.sessions.serve_one.Goals as goal

pub returns-in_err-head-clause-none : goal.returns-in_err-head-clause-none
returns-in_err-head-clause-none g c read = c.in_err-head.ensures.none (search rules)

pub returns-in_err-answer_head-in-Got-clause-fault : goal.returns-in_err-answer_head-in-Got-clause-fault
returns-in_err-answer_head-in-Got-clause-fault g c =
    let found = rw c.in-Got.is at c.in_ok-head.ensures.done in
    on_err c.from_residual-in_err-answer_head-in-Got.result _ (broken_head c.args.turns c.in-Got.head _ _ _ _ c.in_err-answer_head-in-Got.ensures.broke found)

pub returns-in_err-answer_head-in-Got-clause-lost : goal.returns-in_err-answer_head-in-Got-clause-lost
returns-in_err-answer_head-in-Got-clause-lost g c =
    let found = rw c.in-Got.is at c.in_ok-head.ensures.done in
    on_err c.from_residual-in_err-answer_head-in-Got.result _ (head_lost c.in-Got.head _ _ found)

pub returns-in_err-answer_head-in-Got-clause-ahead : goal.returns-in_err-answer_head-in-Got-clause-ahead
returns-in_err-answer_head-in-Got-clause-ahead g c =
    let found = rw c.in-Got.is at c.in_ok-head.ensures.done in
    head_ahead c.in-Got.head c.args.inbox.now c.read_head.new.inbox (g.S.Source.left c.args.source.now) (g.S.Source.left c.read_head.new.source) c.read_head.ensures.behind found
    (c.read_head.ensures.short (search rules)) (λ has. ap g.S.Source.left (c.read_head.ensures.kept has))

pub returns-in_err-refuse-in-Refused-clause-fault : goal.returns-in_err-refuse-in-Refused-clause-fault
returns-in_err-refuse-in-Refused-clause-fault g c =
    let found = rw c.in-Refused.is at c.in_ok-head.ensures.done in
    on_err c.from_residual-in_err-refuse-in-Refused.result _ (broken_bad c.args.turns c.in-Refused.refusal _ _ _ _ _ _ found.0 found.1 c.in_err-refuse-in-Refused.ensures.bytes.front)

pub returns-in_ok-answer_head-in-Got-clause-done : goal.returns-in_ok-answer_head-in-Got-clause-done
returns-in_ok-answer_head-in-Got-clause-done g c =
    let found = rw c.in-Got.is at c.in_ok-head.ensures.done in
    let answered = c.in_ok-answer_head-in-Got.ensures in
    served_head c.args.turns c.in-Got.head _ _ _ _ c.in_ok-answer_head-in-Got.field-0 answered.done answered.going found

pub returns-in_ok-answer_head-in-Got-clause-short : goal.returns-in_ok-answer_head-in-Got-clause-short
returns-in_ok-answer_head-in-Got-clause-short g c =
    head_short c.args.inbox.now c.read_head.new.inbox c.in_ok-answer_head-in-Got.field-0 (c.read_head.ensures.short (search rules)) c.read_head.ensures.less c.in_ok-answer_head-in-Got.ensures.going

pub returns-in_ok-answer_head-in-Got-clause-ahead : goal.returns-in_ok-answer_head-in-Got-clause-ahead
returns-in_ok-answer_head-in-Got-clause-ahead g c =
    let found = rw c.in-Got.is at c.in_ok-head.ensures.done in
    head_ahead c.in-Got.head c.args.inbox.now c.read_head.new.inbox (g.S.Source.left c.args.source.now) (g.S.Source.left c.read_head.new.source) c.read_head.ensures.behind found
    (c.read_head.ensures.short (search rules)) (λ has. ap g.S.Source.left (c.read_head.ensures.kept has))

pub returns-in_ok-refuse-in-Refused-clause-done : goal.returns-in_ok-refuse-in-Refused-clause-done
returns-in_ok-refuse-in-Refused-clause-done g c =
    let found = rw c.in-Refused.is at c.in_ok-head.ensures.done in
    let refused = c.in_ok-refuse-in-Refused.ensures in
    served_refused c.args.turns c.in-Refused.refusal _ _ _ _ _ _ c.in_ok-refuse-in-Refused.field-0 found.0 found.1 refused.bytes.whole refused.report
