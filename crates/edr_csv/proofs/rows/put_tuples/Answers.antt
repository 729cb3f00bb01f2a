use Rattle.std.proofs.Common.{rules, ◌∷◌, [], get_or, pos, sym, ap}
use Rattle.std.proofs.lemmas.List.{nil_from_length}
use Rattle.std.proofs.lemmas.Result.{err_from_is_err_and}
use Rattle.edr_base.specs.declared.places.Position.{Position}
use Rattle.covjson_value.specs.Domains.{coordinates_of}
use Rattle.covjson_value.specs.Samples.{Node, tuple_node}
use Rattle.edr_csv.specs.Turns.{records_along}
use Rattle.edr_csv.proofs.TurnLemmas.{node_left, node_put, node_stop, node_out}
use Rattle.edr_csv.proofs.rows.put_tuples.Goals as goal

pub returns-in_default-clause-records : goal.returns-in_default-clause-records
returns-in_default-clause-records g c = record {
  gathered = node_out c.args.id.now c.args.parameter.now (tuple_node (coordinates_of c.args.domain.now) c.args.turn.t c.args.turn.z) c.args.tuples.now c.loop-tuple.tuple-index c.args.values.now c.loop-tuple.left.now
      (g.K.Sink.written c.args.sink.now) (g.K.Sink.written c.loop-tuple.sink) c.args.records.now.gathered.items c.loop-tuple.records.gathered.items c.loop-tuple.invariant.left
      (nil_from_length c.loop-tuple.left.now c.in_default.ensures.cases) c.loop-tuple.invariant.gathered;
  stopped = tt;
}

pub returns-in_err-put_tuple-clause-records : goal.returns-in_err-put_tuple-clause-records
returns-in_err-put_tuple-clause-records g c =
    let fault = err_from_is_err_and c.from_residual.result c.from_residual.ensures.1 in
    let f : Position → Node = tuple_node (coordinates_of c.args.domain.now) c.args.turn.t c.args.turn.z in
    let none : Position = record { x = pos 0; y = pos 0; z = pos 0; m = pos 0 } in
    rw fault.1 (record {
      gathered = tt;
      stopped = node_stop c.args.id.now c.args.parameter.now f c.args.tuples.now c.loop-tuple.tuple-index none c.args.values.now c.loop-tuple.left.now _ (g.K.Sink.written c.args.sink.now) (g.K.Sink.written c.loop-tuple.sink)
          (g.K.Sink.written c.put_tuple.new.sink) c.args.records.now.gathered.items c.loop-tuple.records.gathered.items c.loop-tuple-test.true c.loop-tuple.invariant.left
          (ap (records_along c.args.id.now c.args.parameter.now (f (get_or c.args.tuples.now c.loop-tuple.tuple-index none) ∷ [])) (sym c.in-Some.ensures.cases.0)) c.loop-tuple.invariant.gathered c.in_err-put_tuple.ensures.line.stopped;
    })

pub loop-tuple-preserved : goal.loop-tuple-preserved
loop-tuple-preserved g c =
    let f : Position → Node = tuple_node (coordinates_of c.args.domain.now) c.args.turn.t c.args.turn.z in
    let none : Position = record { x = pos 0; y = pos 0; z = pos 0; m = pos 0 } in
    record {
      left = node_left f c.args.tuples.now c.loop-tuple.tuple-index none c.args.values.now c.loop-tuple.left.now c.in-Some.rest.now c.in-Some.value.now c.loop-tuple-test.true c.loop-tuple.invariant.left
          c.in-Some.ensures.cases.0;
      gathered = node_put c.args.id.now c.args.parameter.now f c.args.tuples.now c.loop-tuple.tuple-index none c.args.values.now c.loop-tuple.left.now _ (g.K.Sink.written c.args.sink.now) (g.K.Sink.written c.loop-tuple.sink)
          (g.K.Sink.written c.put_tuple.new.sink) c.args.records.now.gathered.items c.loop-tuple.records.gathered.items c.put_tuple.new.records.gathered.items c.loop-tuple-test.true c.loop-tuple.invariant.left
          (ap (records_along c.args.id.now c.args.parameter.now (f (get_or c.args.tuples.now c.loop-tuple.tuple-index none) ∷ [])) (sym c.in-Some.ensures.cases.0)) c.loop-tuple.invariant.gathered c.in_ok-put_tuple.ensures.line.gathered;
      flushed = search rules;
      lent = search rules;
    }
