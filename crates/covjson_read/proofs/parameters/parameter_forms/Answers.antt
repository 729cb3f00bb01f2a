use Rattle.std.proofs.Common.{refl, sym}
use Rattle.std.proofs.lemmas.Result.{err_from_is_err_and}
use Rattle.edr_json.specs.AnswerLaws.{and_then_given}
use Rattle.covjson_read.proofs.ParameterSteps.{form_stops, form_passes}
use Rattle.covjson_read.proofs.parameters.parameter_forms.Goals as goal

pub returns-in_err-_label : goal.returns-in_err-_label
returns-in_err-_label c =
    let p = err_from_is_err_and c.from_residual.result c.from_residual.ensures.1 in
    rw (p.1, p.2) (sym (form_stops _ _ _ _ _ c.in-Some.ensures.steps c.loop-tree.invariant c.in_err-_label.field-0.0 (rw c.in_err-_label.ensures refl)))

pub returns-in_err-_unit : goal.returns-in_err-_unit
returns-in_err-_unit c =
    let p = err_from_is_err_and c.from_residual-in_err-_unit.result c.from_residual-in_err-_unit.ensures.1 in
    rw (p.1, p.2) (sym (form_stops _ _ _ _ _ c.in-Some.ensures.steps c.loop-tree.invariant c.in_err-_unit.field-0.0
    (and_then_given _ _ _ _ c.in_ok-_label.ensures (rw c.in_err-_unit.ensures refl))))

pub loop-tree-preserved : goal.loop-tree-preserved
loop-tree-preserved c =
    form_passes _ _ _ _ _ c.in-Some.ensures.steps c.loop-tree.invariant
    (and_then_given _ _ _ _ c.in_ok-_label.ensures (and_then_given _ _ _ _ c.in_ok-_unit.ensures refl))
