use Rattle.std.specs.Prelude.{is_ok}
use Rattle.std.proofs.Common.{rules, ◌≡◌, true, inr}
use Rattle.edr_samples.specs.Trees.{items_view}
use Rattle.covjson_checks.specs.FaultLaws.{fault_answers, memory_alone, stops_here}
use Rattle.covjson_read.specs.SystemAnswers.{plane_in}
use Rattle.covjson_read.proofs.ResultLaws.{stops_behind}
use Rattle.covjson_read.proofs.systems.systems_of.Goals as goal

pub returns-in_err-plane-clause-answer : goal.returns-in_err-plane-clause-answer
returns-in_err-plane-clause-answer c =
    let fault = c.in_err-plane.field-0.0 in
    fault_answers (λ given. given) c.from_residual.result fault _ c.from_residual.ensures.1 (stops_here _ _ fault c.in_err-plane.ensures)

pub returns-in_err-only_gregorian-clause-answer : goal.returns-in_err-only_gregorian-clause-answer
returns-in_err-only_gregorian-clause-answer c =
    let fault = c.in_err-only_gregorian.field-0.0 in
    let entries = items_view c.args.entries.now.items in
    let has_plane : is_ok (plane_in entries) ≡ true = search rules in
    fault_answers (λ given. given) c.from_residual-in_err-only_gregorian.result fault _ c.from_residual-in_err-only_gregorian.ensures.1
    (stops_behind (plane_in entries) _ fault has_plane (λ plane. stops_here _ _ fault c.in_err-only_gregorian.ensures))

pub returns-in_err-crs-clause-answer : goal.returns-in_err-crs-clause-answer
returns-in_err-crs-clause-answer c =
    let fault = c.in_err-crs.field-0.0 in
    fault_answers (λ given. given) c.from_residual-in_err-crs.result fault _ c.from_residual-in_err-crs.ensures.1 (inr (memory_alone _ fault c.in_err-crs.ensures.value))

pub returns-in_err-vertical-clause-answer : goal.returns-in_err-vertical-clause-answer
returns-in_err-vertical-clause-answer c =
    let fault = c.in_err-vertical.field-0.0 in
    fault_answers (λ given. given) c.from_residual-in_err-vertical.result fault _ c.from_residual-in_err-vertical.ensures.1 (inr (memory_alone _ fault c.in_err-vertical.ensures.value))
