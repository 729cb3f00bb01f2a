use Rattle.std.proofs.Common.{rules, ◌≡◌, codes, is_some, true, false, refl, sym}
use Rattle.serde_json.specs.Find.{get}
use Rattle.edr_samples.specs.Trees.{tree_view, list_view}
use Rattle.edr_base.specs.Limits.{coordinate_limit}
use Rattle.edr_json.specs.AnswerLaws.{and_then_given}
use Rattle.covjson_checks.specs.Answers.{each_from}
use Rattle.covjson_checks.specs.Members.{whole_within}
use Rattle.covjson_domains.specs.AxisAnswers.{axis_numbers, spanned}
use Rattle.covjson_domains.proofs.axes.axis_numbers.Goals as goal

pub returns-then-is_none : goal.returns-then-is_none
returns-then-is_none c =
    let axis = tree_view c.args.axis.now in
    let no_list : is_some (get (codes "values") axis) ≡ false = search rules in
    let answer : axis_numbers c.args.member axis ≡ spanned c.args.member axis = and_then_given _ _ _ _ c.in_ok-_members.ensures (rw no_list refl) in
    rw answer c.spanned.ensures

pub returns : goal.returns
returns c =
    let axis = tree_view c.args.axis.now in
    let listed : is_some (get (codes "values") axis) ≡ true = search rules in
    let answer : axis_numbers c.args.member axis ≡ each_from (whole_within c.args.member coordinate_limit) 0 (list_view c.in_ok-items.items) =
    and_then_given _ _ _ _ c.in_ok-_members.ensures
    (rw listed (and_then_given _ _ _ _ c.in_ok-items.ensures (and_then_given _ _ _ _ (sym c.in_ok-need_form.ensures) (and_then_given _ _ _ _ (sym c.in_ok-need_wholes.ensures) refl)))) in
    rw answer c.wholes.ensures
