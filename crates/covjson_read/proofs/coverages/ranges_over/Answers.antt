use Rattle.std.proofs.Common.{◌≡◌, inl, Ok, codes, option_map, sym, ap, ◌∙◌}
use Rattle.edr_samples.specs.Trees.{tree_view}
use Rattle.covjson_checks.specs.Members.{lent}
use Rattle.covjson_read.specs.ParameterAnswers.{parameters_of}
use Rattle.covjson_read.proofs.ParameterLaws.{parameters_are}
use Rattle.covjson_read.proofs.ParameterNames.{have_names}
use Rattle.covjson_read.proofs.RangeSome.{some_given}
use Rattle.covjson_checks.specs.FaultLaws.{fault_answers, stops_here}
use Rattle.covjson_read.proofs.coverages.ranges_over.Goals as goal

pub ranges_in-requires-clause-named : goal.ranges_in-requires-clause-named
ranges_in-requires-clause-named c =
    let d = tree_view c.in_ok-parameters.parameters.now in
    let found = option_map (λ v. tree_view v.now) c.lent.result in
    have_names d ((parameters_are found d).0 c.in_ok-parameters.ensures).1

pub returns-in_err-parameters-clause-answer : goal.returns-in_err-parameters-clause-answer
returns-in_err-parameters-clause-answer c =
    let fault = c.in_err-parameters.field-0.0 in
    fault_answers (λ r. r) c.from_residual.result fault _ c.from_residual.ensures.1 (stops_here _ _ fault (inl (ap parameters_of (sym c.lent.ensures) ∙ c.in_err-parameters.ensures)))

pub returns-clause-answer : goal.returns-clause-answer
returns-clause-answer c =
    let found : parameters_of (lent (codes "parameters") (tree_view c.args.tree.now) (tree_view c.args.collection.now)) ≡ Ok (tree_view c.in_ok-parameters.parameters.now) =
    ap parameters_of (sym c.lent.ensures) ∙ c.in_ok-parameters.ensures in
    rw found c.ranges_in.ensures.answer

pub returns-clause-some : goal.returns-clause-some
returns-clause-some c = some_given c.args.read.now (tree_view c.in_ok-parameters.parameters.now) (tree_view c.args.tree.now) c.ranges_in.result c.ranges_in.ensures.answer
