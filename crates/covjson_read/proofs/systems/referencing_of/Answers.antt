use Rattle.std.proofs.Common.{inl}
use Rattle.covjson_checks.specs.FaultLaws.{fault_answers, stops_here, stops_after}
use Rattle.covjson_read.proofs.systems.referencing_of.Goals as goal

pub returns-in_err-list-clause-answer : goal.returns-in_err-list-clause-answer
returns-in_err-list-clause-answer c =
    let fault = c.in_err-list.field-0.0 in
    fault_answers (λ given. given) c.from_residual.result fault _ c.from_residual.ensures.1 (stops_here _ _ fault (inl c.in_err-list.ensures))

pub returns-in_err-entries-clause-answer : goal.returns-in_err-entries-clause-answer
returns-in_err-entries-clause-answer c =
    let fault = c.in_err-entries.field-0.0 in
    fault_answers (λ given. given) c.from_residual-in_err-entries.result fault _ c.from_residual-in_err-entries.ensures.1 (stops_after _ _ fault _ c.in_ok-list.ensures (stops_here _ _ fault (inl c.in_err-entries.ensures)))
