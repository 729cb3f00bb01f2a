use Rattle.std.proofs.Common.{rules, ◌++◌, ℕ, List, get_or, subst, sym}
use Rattle.std.proofs.lemmas.Result.{err_from_is_err_and}
use Rattle.edr_base.specs.Calls.{Front, Gathered}
use Rattle.covjson_value.specs.declared.coverages.Coverage.{Coverage}
use Rattle.edr_csv.specs.Turns.{coverage_text}
use Rattle.edr_csv.proofs.GatherLemmas.{gathered_on, gathered_stop}
use Rattle.edr_csv.proofs.RecordLemmas.{texts_more, texts_all}
use Rattle.edr_csv.proofs.writing.put_coverages.Goals as goal

pub returns-in_err-put_coverage-clause-records : goal.returns-in_err-put_coverage-clause-records
returns-in_err-put_coverage-clause-records g c =
    let fault = err_from_is_err_and c.from_residual.result c.from_residual.ensures.1 in
    let old = g.K.Sink.written c.args.sink.now in
    let mid = g.K.Sink.written c.loop-coverage.sink in
    let now = g.K.Sink.written c.put_coverage.new.sink in
    let p : List ℕ = c.args.records.now.gathered.items in
    let q : List ℕ = c.loop-coverage.records.gathered.items in
    let stopped : Front (q ++ coverage_text ((get_or c.args.coverages.now c.loop-coverage.coverage-index c.coverage-item.result))) mid now =
    subst (λ (d : Coverage). Front (q ++ coverage_text d) mid now) c.coverage-item.is c.in_err-put_coverage.ensures.records.stopped in
    rw fault.1 (record {
      gathered = tt;
      stopped = subst (λ (t : List ℕ). Front (p ++ t) old now) (sym (texts_all coverage_text c.args.coverages.now c.loop-coverage.coverage-index c.coverage-item.result c.loop-coverage-test.true))
          (gathered_stop old mid now p q _ _ _ c.loop-coverage.invariant.gathered stopped);
    })

pub loop-coverage-preserved : goal.loop-coverage-preserved
loop-coverage-preserved g c =
    let old = g.K.Sink.written c.args.sink.now in
    let mid = g.K.Sink.written c.loop-coverage.sink in
    let now = g.K.Sink.written c.put_coverage.new.sink in
    let p : List ℕ = c.args.records.now.gathered.items in
    let q : List ℕ = c.loop-coverage.records.gathered.items in
    let r : List ℕ = c.put_coverage.new.records.gathered.items in
    let put : Gathered mid now r (q ++ coverage_text ((get_or c.args.coverages.now c.loop-coverage.coverage-index c.coverage-item.result))) =
    subst (λ (d : Coverage). Gathered mid now r (q ++ coverage_text d)) c.coverage-item.is c.in_ok-put_coverage.ensures.records.gathered in
    record {
      gathered = subst (λ (t : List ℕ). Gathered old now r (p ++ t)) (sym (texts_more coverage_text c.args.coverages.now c.loop-coverage.coverage-index c.coverage-item.result c.loop-coverage-test.true))
          (gathered_on old mid now p q r _ _ c.loop-coverage.invariant.gathered put);
      flushed = search rules;
      lent = search rules;
    }
