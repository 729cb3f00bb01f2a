use Rattle.std.proofs.Common.{rules, ◌++◌, ℕ, ℤ, List, Option, get_or, subst, sym}
use Rattle.std.proofs.lemmas.Result.{err_from_is_err_and}
use Rattle.edr_base.specs.Calls.{Front, Gathered}
use Rattle.covjson_value.specs.declared.coverages.Parameter.{Parameter}
use Rattle.covjson_value.specs.declared.coverages.NdArray.{NdArray}
use Rattle.covjson_value.specs.Samples.{nodes_of}
use Rattle.edr_csv.specs.Turns.{records_along}
use Rattle.edr_csv.proofs.GatherLemmas.{gathered_on, gathered_stop}
use Rattle.edr_csv.proofs.RecordLemmas.{parameters_more, parameters_all}
use Rattle.edr_csv.proofs.writing.put_parameters.Goals as goal

pub returns-in_err-put_parameter-clause-records : goal.returns-in_err-put_parameter-clause-records
returns-in_err-put_parameter-clause-records g c =
    let fault = err_from_is_err_and c.from_residual.result c.from_residual.ensures.1 in
    let old = g.K.Sink.written c.args.sink.now in
    let mid = g.K.Sink.written c.loop-place.sink in
    let now = g.K.Sink.written c.put_parameter.new.sink in
    let nodes = nodes_of c.args.domain.now in
    let p : List ℕ = c.args.records.now.gathered.items in
    let q : List ℕ = c.loop-place.records.gathered.items in
    let parameter : Parameter = get_or c.args.parameters.now c.loop-place.place c.index-parameters-place.result in
    let range : NdArray = get_or c.args.ranges.now c.loop-place.place c.index-ranges-place.result in
    let stopped : Front (q ++ records_along c.args.id.now parameter.id nodes range.values) mid now =
    subst (λ (id : List ℕ). Front (q ++ records_along c.args.id.now id nodes range.values) mid now) c.bytes-parameter.ensures
    (subst (λ (values : List (Option ℤ)). Front (q ++ records_along c.args.id.now c.bytes-parameter.result.now nodes values) mid now) c.items.ensures c.in_err-put_parameter.ensures.records.stopped) in
    rw fault.1 (record {
      gathered = tt;
      stopped = subst (λ (t : List ℕ). Front (p ++ t) old now)
          (sym (parameters_all c.args.id.now nodes c.args.parameters.now c.args.ranges.now c.loop-place.place c.index-parameters-place.result c.index-ranges-place.result c.loop-place-test.true c.requires.as_many))
          (gathered_stop old mid now p q _ _ _ c.loop-place.invariant.gathered stopped);
    })

pub loop-place-preserved : goal.loop-place-preserved
loop-place-preserved g c =
    let old = g.K.Sink.written c.args.sink.now in
    let mid = g.K.Sink.written c.loop-place.sink in
    let now = g.K.Sink.written c.put_parameter.new.sink in
    let nodes = nodes_of c.args.domain.now in
    let p : List ℕ = c.args.records.now.gathered.items in
    let q : List ℕ = c.loop-place.records.gathered.items in
    let r : List ℕ = c.put_parameter.new.records.gathered.items in
    let parameter : Parameter = get_or c.args.parameters.now c.loop-place.place c.index-parameters-place.result in
    let range : NdArray = get_or c.args.ranges.now c.loop-place.place c.index-ranges-place.result in
    let put : Gathered mid now r (q ++ records_along c.args.id.now parameter.id nodes range.values) =
    subst (λ (id : List ℕ). Gathered mid now r (q ++ records_along c.args.id.now id nodes range.values)) c.bytes-parameter.ensures
    (subst (λ (values : List (Option ℤ)). Gathered mid now r (q ++ records_along c.args.id.now c.bytes-parameter.result.now nodes values)) c.items.ensures c.in_ok-put_parameter.ensures.records.gathered) in
    record {
      gathered = subst (λ (t : List ℕ). Gathered old now r (p ++ t))
          (sym (parameters_more c.args.id.now nodes c.args.parameters.now c.args.ranges.now c.loop-place.place c.index-parameters-place.result c.index-ranges-place.result c.loop-place-test.true c.requires.as_many))
          (gathered_on old mid now p q r _ _ c.loop-place.invariant.gathered put);
      flushed = search rules;
      lent = search rules;
    }
