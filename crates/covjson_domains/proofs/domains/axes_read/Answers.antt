use Rattle.covjson_checks.specs.FaultLaws.{fault_answers, stops_here, stops_after}
use Rattle.covjson_domains.proofs.domains.axes_read.Goals as goal

pub returns-in_err-t-clause-answer : goal.returns-in_err-t-clause-answer
returns-in_err-t-clause-answer c =
    let fault = c.in_err-t.field-0.0 in
    fault_answers (λ read. read) c.from_residual.result fault _ c.from_residual.ensures.1 (stops_here _ _ fault c.in_err-t.ensures.answer)

pub returns-in_err-z-clause-answer : goal.returns-in_err-z-clause-answer
returns-in_err-z-clause-answer c =
    let fault = c.in_err-z.field-0.0 in
    fault_answers (λ read. read) c.from_residual-in_err-z.result fault _ c.from_residual-in_err-z.ensures.1
    (stops_after _ _ fault _ c.in_ok-t.ensures.answer (stops_here _ _ fault c.in_err-z.ensures.answer))

pub returns-in_err-y-clause-answer : goal.returns-in_err-y-clause-answer
returns-in_err-y-clause-answer c =
    let fault = c.in_err-y.field-0.0 in
    fault_answers (λ read. read) c.from_residual-in_err-y.result fault _ c.from_residual-in_err-y.ensures.1
    (stops_after _ _ fault _ c.in_ok-t.ensures.answer (stops_after _ _ fault _ c.in_ok-z.ensures.answer (stops_here _ _ fault c.in_err-y.ensures.answer)))

pub returns-in_err-x-clause-answer : goal.returns-in_err-x-clause-answer
returns-in_err-x-clause-answer c =
    let fault = c.in_err-x.field-0.0 in
    fault_answers (λ read. read) c.from_residual-in_err-x.result fault _ c.from_residual-in_err-x.ensures.1
    (stops_after _ _ fault _ c.in_ok-t.ensures.answer (stops_after _ _ fault _ c.in_ok-z.ensures.answer (stops_after _ _ fault _ c.in_ok-y.ensures.answer (stops_here _ _ fault c.in_err-x.ensures.answer))))
