use Rattle.std.proofs.Common.{Err, subst}
use Rattle.serde_json.specs.Data.{null}
use Rattle.edr_samples.specs.Trees.{tree_view}
use Rattle.covjson_value.specs.declared.coverages.Coverage.{Coverage}
use Rattle.covjson_checks.specs.CheckLaws.{if_gives}
use Rattle.covjson_read.specs.Standing.{Stands}
use Rattle.covjson_read.specs.Rows.{CoverageRows}
use Rattle.covjson_read.specs.CoverageAnswers.{coverage_in}
use Rattle.covjson_read.proofs.ResultLaws.{fault_given}
use Rattle.covjson_read.proofs.coverages.coverage_of.Goals as goal

pub returns-clause-stands : goal.returns-clause-stands
returns-clause-stands c =
    let tree = tree_view c.args.tree.now in
    if_gives c.coverage_alone.result (λ d. d) (coverage_in null tree) (Stands tree) (λ d. (c.answers_are_what_stands.ensures null tree d).0) c.coverage_alone.ensures.answer

pub returns-clause-none : goal.returns-clause-none
returns-clause-none c =
    let tree = tree_view c.args.tree.now in
    fault_given c.coverage_alone.result (λ d. d) (coverage_in null tree) (λ f. (d : Coverage) → ¬ (Stands tree d))
    (λ f e d stands. let given = (c.answers_are_what_stands.ensures null tree d).1 stands in cc) c.coverage_alone.ensures.answer

pub returns-clause-first_fault : goal.returns-clause-first_fault
returns-clause-first_fault c =
    let tree = tree_view c.args.tree.now in
    fault_given c.coverage_alone.result (λ d. d) (coverage_in null tree) (λ f. CoverageRows null tree (Err f))
    (λ f e. subst (CoverageRows null tree) e (c.coverage_answers_follow_rows.ensures null tree)) c.coverage_alone.ensures.answer
