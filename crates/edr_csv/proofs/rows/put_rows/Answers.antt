use Rattle.std.proofs.Common.{rules, ◌≡◌, ◌++◌, ℕ, ℤ, pos, List, get_or, drop, length, FitsSigned, w64}
use Rattle.std.proofs.lemmas.Result.{err_from_is_err_and}
use Rattle.edr_base.specs.Calls.{Front, Gathered}
use Rattle.edr_csv.specs.Turns.{records_along, row_nodes}
use Rattle.edr_csv.proofs.TurnLemmas.{passed, turn_left, turn_put, turn_stop}
use Rattle.edr_csv.proofs.rows.put_rows.Goals as goal

pub returns-in_err-left-clause-records : goal.returns-in_err-left-clause-records
returns-in_err-left-clause-records g c =
    let fault = err_from_is_err_and c.from_residual.result c.from_residual.ensures.1 in
    let mid = g.K.Sink.written c.loop-y.sink in
    let now = g.K.Sink.written c.put_row.new.sink in
    let q : List ℕ = c.loop-y.records.gathered.items in
    let y : ℤ = get_or c.args.ys.now c.loop-y.y-index (pos 0) in
    let fits : FitsSigned w64 y = search rules in
    let stopped : Front (q ++ records_along c.args.id.now c.args.parameter.now (row_nodes c.args.turn.t c.args.turn.z c.args.xs.now y) c.loop-y.left.now) mid now =
    passed (λ (n : ℤ). Front (q ++ records_along c.args.id.now c.args.parameter.now (row_nodes c.args.turn.t c.args.turn.z c.args.xs.now n) c.loop-y.left.now) mid now) y fits c.in_err-left.ensures.records.stopped in
    rw fault.1 (record {
      gathered = tt;
      stopped = turn_stop c.args.id.now c.args.parameter.now (row_nodes c.args.turn.t c.args.turn.z c.args.xs.now) c.args.ys.now c.loop-y.y-index (pos 0) c.args.values.now c.loop-y.left.now (g.K.Sink.written c.args.sink.now) mid now
          c.args.records.now.gathered.items q c.loop-y-test.true c.loop-y.invariant.left c.loop-y.invariant.gathered stopped;
    })

pub loop-y-preserved : goal.loop-y-preserved
loop-y-preserved g c =
    let mid = g.K.Sink.written c.loop-y.sink in
    let now = g.K.Sink.written c.put_row.new.sink in
    let q : List ℕ = c.loop-y.records.gathered.items in
    let r : List ℕ = c.put_row.new.records.gathered.items in
    let y : ℤ = get_or c.args.ys.now c.loop-y.y-index (pos 0) in
    let fits : FitsSigned w64 y = search rules in
    let put : Gathered mid now r (q ++ records_along c.args.id.now c.args.parameter.now (row_nodes c.args.turn.t c.args.turn.z c.args.xs.now y) c.loop-y.left.now) =
    passed (λ (n : ℤ). Gathered mid now r (q ++ records_along c.args.id.now c.args.parameter.now (row_nodes c.args.turn.t c.args.turn.z c.args.xs.now n) c.loop-y.left.now)) y fits c.in_ok-left.ensures.records.gathered in
    let left : c.in_ok-left.left.now ≡ drop (length (row_nodes c.args.turn.t c.args.turn.z c.args.xs.now y)) c.loop-y.left.now =
    passed (λ (n : ℤ). c.in_ok-left.left.now ≡ drop (length (row_nodes c.args.turn.t c.args.turn.z c.args.xs.now n)) c.loop-y.left.now) y fits c.in_ok-left.ensures.left in
    record {
      left = turn_left (row_nodes c.args.turn.t c.args.turn.z c.args.xs.now) c.args.ys.now c.loop-y.y-index (pos 0) c.args.values.now c.loop-y.left.now c.in_ok-left.left.now c.loop-y-test.true c.loop-y.invariant.left left;
      gathered = turn_put c.args.id.now c.args.parameter.now (row_nodes c.args.turn.t c.args.turn.z c.args.xs.now) c.args.ys.now c.loop-y.y-index (pos 0) c.args.values.now c.loop-y.left.now (g.K.Sink.written c.args.sink.now) mid now
          c.args.records.now.gathered.items q r c.loop-y-test.true c.loop-y.invariant.left c.loop-y.invariant.gathered put;
      flushed = search rules;
      lent = search rules;
    }
