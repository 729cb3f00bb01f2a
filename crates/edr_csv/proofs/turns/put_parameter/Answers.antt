use Rattle.std.proofs.Common.{rules, ◌≡◌, ◌<◌, ◌++◌, ℕ, ℤ, List, Option, None, get_or, take, drop, length, subst, arith, sym, ap, ◌∙◌}
use Rattle.std.specs.List.{flat_map}
use Rattle.std.proofs.lemmas.List.{take_all}
use Rattle.std.proofs.lemmas.Result.{err_from_is_err_and}
use Rattle.edr_base.specs.Calls.{Front, Gathered}
use Rattle.covjson_value.specs.declared.domains.CoordinateName.TheVariants.{T}
use Rattle.covjson_value.specs.Domains.{axis_of}
use Rattle.covjson_value.specs.Samples.{Node, values_or_absent, nodes_of}
use Rattle.edr_csv.specs.Turns.{records_along, level_nodes}
use Rattle.edr_csv.proofs.DomainLemmas.{nodes_are_levels, turn_time}
use Rattle.edr_csv.proofs.TurnLemmas.{turn_left, turn_put, turn_stop}
use Rattle.edr_csv.proofs.turns.put_parameter.Goals as goal

pub put_levels-requires-clause-time : goal.put_levels-requires-clause-time
put_levels-requires-clause-time g c =
    rw (c.turn_value-t.ensures) (turn_time (axis_of c.args.domain.now T) c.loop-place.place (c.requires.axes T) (omega (arith, c.turns-place-end.ensures)))

pub returns-in_err-left-clause-records : goal.returns-in_err-left-clause-records
returns-in_err-left-clause-records g c =
    let fault = err_from_is_err_and c.from_residual.result c.from_residual.ensures.1 in
    let old = g.K.Sink.written c.args.sink.now in
    let mid = g.K.Sink.written c.loop-place.sink in
    let now = g.K.Sink.written c.put_levels.new.sink in
    let ts : List (Option ℤ) = values_or_absent (axis_of c.args.domain.now T) in
    let q : List ℕ = c.loop-place.records.gathered.items in
    let inside : c.loop-place.place < length ts = omega (arith, c.turns-place-end.ensures) in
    let stopped : Front (q ++ records_along c.args.id.now c.args.parameter.now (level_nodes c.args.domain.now (get_or ts c.loop-place.place None)) c.loop-place.left.now) mid now =
    rw c.turn_value-t.ensures at c.in_err-left.ensures.records.stopped in
    rw fault.1 (record {
      gathered = tt;
      stopped = subst (λ (ns : List Node). Front (c.args.records.now.gathered.items ++ records_along c.args.id.now c.args.parameter.now ns c.args.values.now) old now) (sym (nodes_are_levels c.args.domain.now))
          (turn_stop c.args.id.now c.args.parameter.now (level_nodes c.args.domain.now) ts c.loop-place.place None c.args.values.now c.loop-place.left.now old mid now c.args.records.now.gathered.items q inside
          c.loop-place.invariant.left c.loop-place.invariant.gathered stopped);
    })

pub loop-place-preserved : goal.loop-place-preserved
loop-place-preserved g c =
    let old = g.K.Sink.written c.args.sink.now in
    let mid = g.K.Sink.written c.loop-place.sink in
    let now = g.K.Sink.written c.put_levels.new.sink in
    let ts : List (Option ℤ) = values_or_absent (axis_of c.args.domain.now T) in
    let q : List ℕ = c.loop-place.records.gathered.items in
    let r : List ℕ = c.put_levels.new.records.gathered.items in
    let inside : c.loop-place.place < length ts = omega (arith, c.turns-place-end.ensures) in
    let put : Gathered mid now r (q ++ records_along c.args.id.now c.args.parameter.now (level_nodes c.args.domain.now (get_or ts c.loop-place.place None)) c.loop-place.left.now) =
    rw c.turn_value-t.ensures at c.in_ok-left.ensures.records.gathered in
    let left : c.in_ok-left.left.now ≡ drop (length (level_nodes c.args.domain.now (get_or ts c.loop-place.place None))) c.loop-place.left.now =
    rw c.turn_value-t.ensures at c.in_ok-left.ensures.left in
    record {
      left = turn_left (level_nodes c.args.domain.now) ts c.loop-place.place None c.args.values.now c.loop-place.left.now c.in_ok-left.left.now inside c.loop-place.invariant.left left;
      gathered = turn_put c.args.id.now c.args.parameter.now (level_nodes c.args.domain.now) ts c.loop-place.place None c.args.values.now c.loop-place.left.now old mid now c.args.records.now.gathered.items q r inside
          c.loop-place.invariant.left c.loop-place.invariant.gathered put;
      flushed = search rules;
      lent = search rules;
    }

pub returns-clause-records : goal.returns-clause-records
returns-clause-records g c =
    let old = g.K.Sink.written c.args.sink.now in
    let now = g.K.Sink.written c.loop-place.sink in
    let ts : List (Option ℤ) = values_or_absent (axis_of c.args.domain.now T) in
    let all : flat_map (level_nodes c.args.domain.now) (take c.loop-place.place ts) ≡ nodes_of c.args.domain.now =
    ap (flat_map (level_nodes c.args.domain.now)) (take_all c.loop-place.place ts (omega (arith, c.turns-place-end.ensures))) ∙ sym (nodes_are_levels c.args.domain.now) in
    record {
      gathered = subst (λ (ns : List Node). Gathered old now c.loop-place.records.gathered.items (c.args.records.now.gathered.items ++ records_along c.args.id.now c.args.parameter.now ns c.args.values.now)) all c.loop-place.invariant.gathered;
      stopped = tt;
    }
