use Rattle.std.proofs.Common.{rules, ◌≡◌, ◌<◌, length, get_or, ◌∙◌}
use Rattle.covjson_value.specs.Coverages.{IsValid}
use Rattle.edr_samples.specs.Trees.{tree_view}
use Rattle.covjson_read.specs.CoverageAnswers.{coverage_in}
use Rattle.edr_json.specs.AnswerLaws.{All-push}
use Rattle.covjson_read.proofs.DocumentLemmas.{each_more, each_stopped, each_found}
use Rattle.covjson_read.proofs.documents.coverages_in.Goals as goal

pub returns-in_err-coverage-clause-answer : goal.returns-in_err-coverage-clause-answer
returns-in_err-coverage-clause-answer c =
    let within : c.loop-item.item-index < length c.args.items.now.items = search rules in
    let here : c.item-item.result ≡ get_or c.args.items.now.items c.loop-item.item-index c.item-item.result = search rules in
    each_stopped (λ v. v.items) c.from_residual.result (coverage_in (tree_view c.args.collection.now)) c.args.items.now.items c.loop-item.item-index c.item-item.result c.loop-item.coverages.items
    c.in_err-coverage.field-0.0 _ within here c.in_err-coverage.ensures.answer c.from_residual.ensures.1 c.loop-item.invariant.answer

pub loop-item-preserved : goal.loop-item-preserved
loop-item-preserved c =
    let one = c.in_ok-coverage.coverage in
    let pushed = c.in_ok-push.ensures.items in
    let within : c.loop-item.item-index < length c.args.items.now.items = search rules in
    let here : c.item-item.result ≡ get_or c.args.items.now.items c.loop-item.item-index c.item-item.result = search rules in
    record {
      answer = each_more (coverage_in (tree_view c.args.collection.now)) c.args.items.now.items c.loop-item.item-index c.item-item.result c.loop-item.coverages.items
          c.push.new.self.items one within here c.in_ok-coverage.ensures.answer pushed ∙ c.loop-item.invariant.answer;
      valid = All-push IsValid c.loop-item.coverages.items c.push.new.self.items one pushed c.loop-item.invariant.valid c.in_ok-coverage.ensures.valid;
    }

pub returns-clause-answer : goal.returns-clause-answer
returns-clause-answer c =
    each_found (coverage_in (tree_view c.args.collection.now)) c.args.items.now.items c.loop-item.item-index c.loop-item.coverages.items _ (rw c.deref-item-items.ensures.value at c.loop-item-test.false)
    c.loop-item.invariant.answer
