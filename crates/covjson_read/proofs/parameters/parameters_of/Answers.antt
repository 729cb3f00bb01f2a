use Rattle.std.proofs.Common.{refl, sym, ◌∙◌}
use Rattle.edr_json.specs.AnswerLaws.{and_then_given}
use Rattle.covjson_read.proofs.parameters.parameters_of.Goals as goal

pub returns-then-not-all_named_objects : goal.returns-then-not-all_named_objects
returns-then-not-all_named_objects c =
    and_then_given _ _ _ _ c.in_ok-found.ensures (and_then_given _ _ _ _ c.in_ok-members.ensures (rw (sym c.all_named_objects.ensures ∙ c.if-not-all_named_objects.true) refl))

pub returns : goal.returns
returns c =
    and_then_given _ _ _ _ c.in_ok-found.ensures
    (and_then_given _ _ _ _ c.in_ok-members.ensures
    (rw (sym c.all_named_objects.ensures ∙ c.if-not-all_named_objects.false) (and_then_given _ _ _ _ (sym c.in_ok-parameter_forms.ensures) refl)))
