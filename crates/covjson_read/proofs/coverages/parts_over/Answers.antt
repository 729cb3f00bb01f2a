use Rattle.std.proofs.Common.{codes, sym, ap₂, ◌∙◌}
use Rattle.edr_samples.specs.Trees.{tree_view}
use Rattle.covjson_checks.specs.Members.{lent}
use Rattle.covjson_read.specs.CollectedAnswers.{ranges_in}
use Rattle.covjson_read.specs.CoverageParts.{with_domain}
use Rattle.covjson_read.specs.ParameterAnswers.{parameters_of}
use Rattle.covjson_read.specs.SystemAnswers.{referencing_of}
use Rattle.covjson_checks.specs.FaultLaws.{fault_answers, stops_after, both_stop}
use Rattle.covjson_read.proofs.coverages.parts_over.Goals as goal

pub returns-clause-valid : goal.returns-clause-valid
returns-clause-valid c =
    let valid = c.in_ok-ranges.ensures.valid in
    record {
      id = c.in_ok-id.ensures.utf8;
      axes = c.requires.axes;
      tuples = c.requires.tuples;
      referencing = c.in_ok-referencing.ensures.valid;
      vertical = λ given. sym c.has-levels.ensures ∙ c.in_ok-referencing.ensures.vertical given;
      some = c.in_ok-ranges.ensures.some;
      parameters = valid.parameters;
      ascending = valid.ascending;
      as_many = valid.as_many;
      ranges = valid.ranges;
    }

pub returns-in_err-ranges-clause-answer : goal.returns-in_err-ranges-clause-answer
returns-in_err-ranges-clause-answer c =
    let fault = c.in_err-ranges.field-0.0 in
    let tree = tree_view c.args.tree.now in
    let referencing = ap₂ referencing_of (sym c.has-levels.ensures) (sym c.lent.ensures) ∙ c.in_ok-referencing.ensures.answer in
    fault_answers (with_domain c.args.read.now.domain) c.from_residual-in_err-ranges.result fault _ c.from_residual-in_err-ranges.ensures.1 (stops_after _ _ fault _ referencing
    (both_stop (parameters_of (lent (codes "parameters") tree (tree_view c.args.collection.now))) (λ parameters. ranges_in c.args.read.now parameters tree) _ fault c.in_err-ranges.ensures.answer))
