use Rattle.std.proofs.Common.{inl, inr, subst}
use Rattle.edr_base.specs.Names.{IsName}
use Rattle.covjson_read.proofs.RowAnswers.{same_ok}
use Rattle.covjson_checks.specs.FaultLaws.{fault_answers, memory_alone, stops_here, stops_after}
use Rattle.covjson_read.proofs.parameters.parameter_of.Goals as goal

pub returns-in_err-lang-clause-answer : goal.returns-in_err-lang-clause-answer
returns-in_err-lang-clause-answer c =
    let fault = c.in_err-lang.field-0.0 in
    fault_answers (λ given. given) c.from_residual.result fault _ c.from_residual.ensures.1 (stops_here _ _ fault (inl c.in_err-lang.ensures))

pub returns-in_err-unit-clause-answer : goal.returns-in_err-unit-clause-answer
returns-in_err-unit-clause-answer c =
    let fault = c.in_err-unit.field-0.0 in
    fault_answers (λ given. given) c.from_residual-in_err-unit.result fault _ c.from_residual-in_err-unit.ensures.1 (stops_after _ _ fault _ c.in_ok-lang.ensures (stops_here _ _ fault (inl c.in_err-unit.ensures)))

pub returns-in_err-id-clause-answer : goal.returns-in_err-id-clause-answer
returns-in_err-id-clause-answer c =
    let fault = c.in_err-id.field-0.0 in
    fault_answers (λ given. given) c.from_residual-in_err-id.result fault _ c.from_residual-in_err-id.ensures.1 (inr (memory_alone _ fault c.in_err-id.ensures.value))

pub returns-in_err-lang-2-clause-answer : goal.returns-in_err-lang-2-clause-answer
returns-in_err-lang-2-clause-answer c =
    let fault = c.in_err-lang-2.field-0.0 in
    fault_answers (λ given. given) c.from_residual-in_err-lang-2.result fault _ c.from_residual-in_err-lang-2.ensures.1 (inr (memory_alone _ fault c.in_err-lang-2.ensures.value))

pub returns-in_err-label-clause-answer : goal.returns-in_err-label-clause-answer
returns-in_err-label-clause-answer c =
    let fault = c.in_err-label.field-0.0 in
    fault_answers (λ given. given) c.from_residual-in_err-label.result fault _ c.from_residual-in_err-label.ensures.1 (inr (memory_alone _ fault c.in_err-label.ensures.value))

pub returns-in_err-unit-2-clause-answer : goal.returns-in_err-unit-2-clause-answer
returns-in_err-unit-2-clause-answer c =
    let fault = c.in_err-unit-2.field-0.0 in
    fault_answers (λ given. given) c.from_residual-in_err-unit-2.result fault _ c.from_residual-in_err-unit-2.ensures.1 (inr (memory_alone _ fault c.in_err-unit-2.ensures.value))

pub returns-clause-valid : goal.returns-clause-valid
returns-clause-valid c = λ named. record {
  id = subst IsName (same_ok _ _ c.in_ok-id.ensures.value) named;
  lang = c.in_ok-lang-2.ensures.utf8;
  label = c.in_ok-label.ensures.utf8;
  unit = c.in_ok-unit-2.ensures.utf8;
}
