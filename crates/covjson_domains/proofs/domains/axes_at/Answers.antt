use Rattle.std.proofs.Common.{refl, sym, ◌∙◌}
use Rattle.edr_samples.specs.Trees.{tree_view, members_view}
use Rattle.edr_json.specs.AnswerLaws.{and_then_given}
use Rattle.covjson_domains.proofs.domains.axes_at.Goals as goal

pub returns-then-not-has_no_others : goal.returns-then-not-has_no_others
returns-then-not-has_no_others c =
    and_then_given _ _ (tree_view c.in_ok-axes.axes.now) _ c.in_ok-axes.ensures
    (and_then_given _ _ (members_view c.in_ok-members.members.now.entries) _ c.in_ok-members.ensures
    (rw (sym c.has_no_others.ensures ∙ c.if-not-has_no_others.true) refl))

pub returns : goal.returns
returns c =
    and_then_given _ _ (tree_view c.in_ok-axes.axes.now) _ c.in_ok-axes.ensures
    (and_then_given _ _ (members_view c.in_ok-members.members.now.entries) _ c.in_ok-members.ensures
    (rw (sym c.has_no_others.ensures ∙ c.if-not-has_no_others.false) refl))
