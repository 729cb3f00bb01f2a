use Rattle.std.proofs.Common.{rules, ◌≡◌, ◌++◌, ℕ, ℤ, pos, List, [], ◌∷◌, Option, get_or, map, FitsSigned, w64, to_z, of_z, sym, ap, ◌∙◌}
use Rattle.std.proofs.lemmas.List.{nil_from_length}
use Rattle.std.proofs.lemmas.Result.{err_from_is_err_and}
use Rattle.edr_base.specs.Calls.{Front, Gathered}
use Rattle.covjson_value.specs.Samples.{node}
use Rattle.edr_csv.specs.Turns.{sample_text, sample_at, records_along}
use Rattle.edr_csv.proofs.RecordLemmas.{line_is}
use Rattle.edr_csv.proofs.TurnLemmas.{passed, node_left, node_put, node_stop, node_out}
use Rattle.edr_csv.proofs.rows.put_row.Goals as goal

-- the record of a value is that of its node
row_record : (own : Option (List ℕ)) (id : List ℕ) (t z : Option ℤ) (y x : ℤ) (v : Option ℤ) (rest left : List (Option ℤ)) → left ≡ v ∷ rest
    → sample_text own (sample_at id (node t z y x) v) ≡ records_along own id (node t z y x ∷ []) left
row_record own id t z y x v rest left p = line_is own id (node t z y x) v rest ∙ ap (records_along own id (node t z y x ∷ [])) (sym p)

pub returns-in_default-clause-records : goal.returns-in_default-clause-records
returns-in_default-clause-records g c =
    let old = g.K.Sink.written c.args.sink.now in
    let now = g.K.Sink.written c.loop-x.sink in
    let p : List ℕ = c.args.records.now.gathered.items in
    let q : List ℕ = c.loop-x.records.gathered.items in
    let y : ℤ = to_z w64 (of_z w64 c.args.y) in
    let all : Gathered old now q (p ++ records_along c.args.id.now c.args.parameter.now (map (node c.args.turn.t c.args.turn.z y) c.args.xs.now) c.args.values.now) =
    node_out c.args.id.now c.args.parameter.now (node c.args.turn.t c.args.turn.z y) c.args.xs.now c.loop-x.x-index c.args.values.now c.loop-x.left.now old now p q c.loop-x.invariant.left
    (nil_from_length c.loop-x.left.now c.in_default.ensures.cases) c.loop-x.invariant.gathered in
    record {
      gathered = passed (λ (n : ℤ). Gathered old now q (p ++ records_along c.args.id.now c.args.parameter.now (map (node c.args.turn.t c.args.turn.z n) c.args.xs.now) c.args.values.now)) c.args.y c.ranges.y all;
      stopped = tt;
    }

pub returns-in_err-put_value-clause-records : goal.returns-in_err-put_value-clause-records
returns-in_err-put_value-clause-records g c =
    let fault = err_from_is_err_and c.from_residual.result c.from_residual.ensures.1 in
    let old = g.K.Sink.written c.args.sink.now in
    let mid = g.K.Sink.written c.loop-x.sink in
    let now = g.K.Sink.written c.put_value.new.sink in
    let p : List ℕ = c.args.records.now.gathered.items in
    let q : List ℕ = c.loop-x.records.gathered.items in
    let y : ℤ = to_z w64 (of_z w64 c.args.y) in
    let x : ℤ = get_or c.args.xs.now c.loop-x.x-index (pos 0) in
    let fits : FitsSigned w64 x = search rules in
    let stopped : Front (q ++ sample_text c.args.id.now (sample_at c.args.parameter.now (node c.args.turn.t c.args.turn.z y x) c.in-Some.value.now)) mid now =
    passed (λ (n : ℤ). Front (q ++ sample_text c.args.id.now (sample_at c.args.parameter.now (node c.args.turn.t c.args.turn.z y n) c.in-Some.value.now)) mid now) x fits c.in_err-put_value.ensures.record.stopped in
    let all : Front (p ++ records_along c.args.id.now c.args.parameter.now (map (node c.args.turn.t c.args.turn.z y) c.args.xs.now) c.args.values.now) old now =
    node_stop c.args.id.now c.args.parameter.now (node c.args.turn.t c.args.turn.z y) c.args.xs.now c.loop-x.x-index (pos 0) c.args.values.now c.loop-x.left.now _ old mid now p q c.loop-x-test.true c.loop-x.invariant.left
    (row_record c.args.id.now c.args.parameter.now c.args.turn.t c.args.turn.z y x c.in-Some.value.now c.in-Some.rest.now c.loop-x.left.now c.in-Some.ensures.cases.0)
    c.loop-x.invariant.gathered stopped in
    rw fault.1 (record {
      gathered = tt;
      stopped = passed (λ (n : ℤ). Front (p ++ records_along c.args.id.now c.args.parameter.now (map (node c.args.turn.t c.args.turn.z n) c.args.xs.now) c.args.values.now) old now) c.args.y c.ranges.y all;
    })

pub loop-x-preserved : goal.loop-x-preserved
loop-x-preserved g c =
    let mid = g.K.Sink.written c.loop-x.sink in
    let now = g.K.Sink.written c.put_value.new.sink in
    let q : List ℕ = c.loop-x.records.gathered.items in
    let r : List ℕ = c.put_value.new.records.gathered.items in
    let y : ℤ = to_z w64 (of_z w64 c.args.y) in
    let x : ℤ = get_or c.args.xs.now c.loop-x.x-index (pos 0) in
    let fits : FitsSigned w64 x = search rules in
    let put : Gathered mid now r (q ++ sample_text c.args.id.now (sample_at c.args.parameter.now (node c.args.turn.t c.args.turn.z y x) c.in-Some.value.now)) =
    passed (λ (n : ℤ). Gathered mid now r (q ++ sample_text c.args.id.now (sample_at c.args.parameter.now (node c.args.turn.t c.args.turn.z y n) c.in-Some.value.now))) x fits c.in_ok-put_value.ensures.record.gathered in
    record {
      left = node_left (node c.args.turn.t c.args.turn.z y) c.args.xs.now c.loop-x.x-index (pos 0) c.args.values.now c.loop-x.left.now c.in-Some.rest.now c.in-Some.value.now c.loop-x-test.true c.loop-x.invariant.left c.in-Some.ensures.cases.0;
      gathered = node_put c.args.id.now c.args.parameter.now (node c.args.turn.t c.args.turn.z y) c.args.xs.now c.loop-x.x-index (pos 0) c.args.values.now c.loop-x.left.now _ (g.K.Sink.written c.args.sink.now) mid now c.args.records.now.gathered.items q r
          c.loop-x-test.true c.loop-x.invariant.left
          (row_record c.args.id.now c.args.parameter.now c.args.turn.t c.args.turn.z y x c.in-Some.value.now c.in-Some.rest.now c.loop-x.left.now c.in-Some.ensures.cases.0)
          c.loop-x.invariant.gathered put;
      flushed = search rules;
      lent = search rules;
    }
