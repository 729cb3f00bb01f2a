use Rattle.std.proofs.Common.{rules, ◌++◌, ℕ, List, get_or, subst, sym}
use Rattle.std.specs.List.{flat_map}
use Rattle.std.proofs.lemmas.Result.{err_from_is_err_and}
use Rattle.edr_base.specs.Calls.{Front, Gathered}
use Rattle.covjson_value.specs.declared.coverages.Coverage.{Coverage}
use Rattle.edr_table.specs.Tables.{coverage_lines, line_text}
use Rattle.edr_table.proofs.GatherLemmas.{gathered_on, gathered_stop}
use Rattle.edr_table.proofs.LineLemmas.{coverages_more, coverages_all}
use Rattle.edr_table.proofs.tables.put_coverages.Goals as goal

pub returns-in_err-put_coverage-clause-lines : goal.returns-in_err-put_coverage-clause-lines
returns-in_err-put_coverage-clause-lines g c =
    let fault = err_from_is_err_and c.from_residual.result c.from_residual.ensures.1 in
    let old = g.K.Sink.written c.args.sink.now in
    let mid = g.K.Sink.written c.loop-coverage.sink in
    let now = g.K.Sink.written c.put_coverage.new.sink in
    let p : List ℕ = c.args.lines.now.gathered.items in
    let q : List ℕ = c.loop-coverage.lines.gathered.items in
    let stopped : Front (q ++ flat_map line_text (coverage_lines (get_or c.args.coverages.now c.loop-coverage.coverage-index c.coverage-item.result))) mid now =
    subst (λ (d : Coverage). Front (q ++ flat_map line_text (coverage_lines d)) mid now) c.coverage-item.is c.in_err-put_coverage.ensures.lines.stopped in
    rw fault.1 (record {
      gathered = tt;
      stopped = subst (λ (t : List ℕ). Front (p ++ t) old now) (sym (coverages_all c.args.coverages.now c.loop-coverage.coverage-index c.coverage-item.result c.loop-coverage-test.true))
          (gathered_stop old mid now p q _ _ _ c.loop-coverage.invariant.gathered stopped);
    })

pub loop-coverage-preserved : goal.loop-coverage-preserved
loop-coverage-preserved g c =
    let old = g.K.Sink.written c.args.sink.now in
    let mid = g.K.Sink.written c.loop-coverage.sink in
    let now = g.K.Sink.written c.put_coverage.new.sink in
    let p : List ℕ = c.args.lines.now.gathered.items in
    let q : List ℕ = c.loop-coverage.lines.gathered.items in
    let r : List ℕ = c.put_coverage.new.lines.gathered.items in
    let put : Gathered mid now r (q ++ flat_map line_text (coverage_lines (get_or c.args.coverages.now c.loop-coverage.coverage-index c.coverage-item.result))) =
    subst (λ (d : Coverage). Gathered mid now r (q ++ flat_map line_text (coverage_lines d))) c.coverage-item.is c.in_ok-put_coverage.ensures.lines.gathered in
    record {
      gathered = subst (λ (t : List ℕ). Gathered old now r (p ++ t)) (sym (coverages_more c.args.coverages.now c.loop-coverage.coverage-index c.coverage-item.result c.loop-coverage-test.true))
          (gathered_on old mid now p q r _ _ c.loop-coverage.invariant.gathered put);
      flushed = search rules;
      lent = search rules;
    }
