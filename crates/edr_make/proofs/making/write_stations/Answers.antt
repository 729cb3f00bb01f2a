use Rattle.std.proofs.Common.{rules, ◌+◌, ◌-◌, ℕ, List, [], Ok, refl, sym, subst}
use Rattle.std.specs.List.{flat_map, range_with_len}
use Rattle.edr_base.specs.Calls.{Writes}
use Rattle.edr_base.specs.declared.sending.SendFault.{SendFault}
use Rattle.edr_base.specs.KnownBytes.{append_nothing, front_none, writes_on}
use Rattle.edr_make.specs.Made.{station_line}
use Rattle.edr_make.proofs.MadeLists.{next_list, no_list}
use Rattle.edr_make.proofs.MadeTexts.{all_stations, stops}
use Rattle.edr_make.proofs.making.write_stations.Goals as goal

pub loop-station-init : goal.loop-station-init
loop-station-init g c = record {
  text = λ result new wrote.
      subst (λ (l : List ℕ). Writes result l (g.K.Sink.written c.args.sink.now) new) (all_stations c.args.number c.args.times c.args.stations) wrote;
  lent = search rules;
}

pub returns-in_err-write_station-clause-text : goal.returns-in_err-write_station-clause-text
returns-in_err-write_station-clause-text g c =
    let line = station_line c.args.number c.args.times in
    let station : ℕ = c.loop-station.station in
    let before = g.K.Sink.written c.loop-station.sink in
    let after = g.K.Sink.written c.write_station.new.sink in
    let rest : List ℕ = flat_map line (range_with_len (station + 1) (c.args.stations - (station + 1))) in
    c.loop-station.invariant.text c.from_residual.result after
    (subst (λ (l : List ℕ). Writes c.from_residual.result l before after) (sym (next_list line station c.args.stations c.loop-station-test.true))
    (stops c.from_residual.result before after (line station) rest c.from_residual.ensures.0 c.write_station.ensures.text.front))

pub loop-station-preserved : goal.loop-station-preserved
loop-station-preserved g c =
    let line = station_line c.args.number c.args.times in
    let station : ℕ = c.loop-station.station in
    let before = g.K.Sink.written c.loop-station.sink in
    let after = g.K.Sink.written c.write_station.new.sink in
    let rest : List ℕ = flat_map line (range_with_len (station + 1) (c.args.stations - (station + 1))) in
    record {
      text = λ result new wrote.
          c.loop-station.invariant.text result new
          (subst (λ (l : List ℕ). Writes result l before new) (sym (next_list line station c.args.stations c.loop-station-test.true))
          (writes_on result before after new (line station) rest c.in_ok-write_station.ensures.text.whole wrote));
      lent = search rules;
    }

pub returns-clause-text : goal.returns-clause-text
returns-clause-text g c =
    let now = g.K.Sink.written c.loop-station.sink in
    let none = no_list (station_line c.args.number c.args.times) c.loop-station.station c.args.stations c.loop-station-test.false in
    c.loop-station.invariant.text (Ok tt) now
    (subst (λ (l : List ℕ). Writes {T = Unit {0}} {E = SendFault} (Ok tt) l now now) (sym none)
    (record { whole = append_nothing now; front = front_none now now [] refl }))
