use Rattle.std.proofs.Common.{rules, ◌≡◌, ◌<◌, ◌++◌, ℕ, ℤ, List, Option, None, get_or, drop, length, arith}
use Rattle.std.proofs.lemmas.Result.{err_from_is_err_and}
use Rattle.edr_base.specs.Calls.{Front, Gathered}
use Rattle.covjson_value.specs.declared.domains.CoordinateName.TheVariants.{Z}
use Rattle.covjson_value.specs.Domains.{axis_of}
use Rattle.covjson_value.specs.Samples.{values_or_absent}
use Rattle.edr_csv.specs.Turns.{records_along, turn_nodes}
use Rattle.edr_csv.proofs.TurnLemmas.{turn_left, turn_put, turn_stop}
use Rattle.edr_csv.proofs.turns.put_levels.Goals as goal

pub returns-in_err-left-clause-records : goal.returns-in_err-left-clause-records
returns-in_err-left-clause-records g c =
    let fault = err_from_is_err_and c.from_residual.result c.from_residual.ensures.1 in
    let old = g.K.Sink.written c.args.sink.now in
    let mid = g.K.Sink.written c.loop-place.sink in
    let now = g.K.Sink.written c.put_turn.new.sink in
    let zs : List (Option ℤ) = values_or_absent (axis_of c.args.domain.now Z) in
    let q : List ℕ = c.loop-place.records.gathered.items in
    let inside : c.loop-place.place < length zs = omega (arith, c.turns-place-end.ensures) in
    let stopped : Front (q ++ records_along c.args.id.now c.args.parameter.now (turn_nodes c.args.domain.now c.args.t (get_or zs c.loop-place.place None)) c.loop-place.left.now) mid now =
    rw c.turn_value-z.ensures at c.in_err-left.ensures.records.stopped in
    rw fault.1 (record {
      gathered = tt;
      stopped = turn_stop c.args.id.now c.args.parameter.now (turn_nodes c.args.domain.now c.args.t) zs c.loop-place.place None c.args.values.now c.loop-place.left.now old mid now c.args.records.now.gathered.items q inside
          c.loop-place.invariant.left c.loop-place.invariant.gathered stopped;
    })

pub loop-place-preserved : goal.loop-place-preserved
loop-place-preserved g c =
    let old = g.K.Sink.written c.args.sink.now in
    let mid = g.K.Sink.written c.loop-place.sink in
    let now = g.K.Sink.written c.put_turn.new.sink in
    let zs : List (Option ℤ) = values_or_absent (axis_of c.args.domain.now Z) in
    let q : List ℕ = c.loop-place.records.gathered.items in
    let r : List ℕ = c.put_turn.new.records.gathered.items in
    let inside : c.loop-place.place < length zs = omega (arith, c.turns-place-end.ensures) in
    let put : Gathered mid now r (q ++ records_along c.args.id.now c.args.parameter.now (turn_nodes c.args.domain.now c.args.t (get_or zs c.loop-place.place None)) c.loop-place.left.now) =
    rw c.turn_value-z.ensures at c.in_ok-left.ensures.records.gathered in
    let left : c.in_ok-left.left.now ≡ drop (length (turn_nodes c.args.domain.now c.args.t (get_or zs c.loop-place.place None))) c.loop-place.left.now =
    rw c.turn_value-z.ensures at c.in_ok-left.ensures.left in
    record {
      left = turn_left (turn_nodes c.args.domain.now c.args.t) zs c.loop-place.place None c.args.values.now c.loop-place.left.now c.in_ok-left.left.now inside c.loop-place.invariant.left left;
      gathered = turn_put c.args.id.now c.args.parameter.now (turn_nodes c.args.domain.now c.args.t) zs c.loop-place.place None c.args.values.now c.loop-place.left.now old mid now c.args.records.now.gathered.items q r inside
          c.loop-place.invariant.left c.loop-place.invariant.gathered put;
      flushed = search rules;
      lent = search rules;
    }
