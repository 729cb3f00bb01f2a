use Rattle.std.proofs.Common.{◌++◌, ℕ, List, codes, subst, ◌∙◌}
use Rattle.edr_base.specs.Calls.{Writes}
use Rattle.edr_make.specs.Made.{series_text, station_line, station_id}
use Rattle.edr_make.proofs.MadeTexts.{stopped_first, stopped, wrote_third}
use Rattle.edr_make.proofs.making.write_station.Goals as goal

pub returns-in_err-send-clause-text : goal.returns-in_err-send-clause-text
unfolding station_line
returns-in_err-send-clause-text g c =
    stopped_first c.from_residual-in_err-send.result _ _ (codes "{\"station\":{\"collection\":\"sites\",\"coverage\":") (series_text c.args.number c.args.times c.args.station) (codes ",\"id\":\"" ++ station_id c.args.station ++ codes "\",\"label\":\"" ++ station_id c.args.station ++ codes "\"}}\n")
    c.from_residual-in_err-send.ensures.0 c.send.ensures.bytes.front

pub returns-in_err-write_series-clause-text : goal.returns-in_err-write_series-clause-text
unfolding station_line
returns-in_err-write_series-clause-text g c =
    stopped c.from_residual-in_err-write_series.result _ _ _ (codes "{\"station\":{\"collection\":\"sites\",\"coverage\":") (series_text c.args.number c.args.times c.args.station) (codes ",\"id\":\"" ++ station_id c.args.station ++ codes "\",\"label\":\"" ++ station_id c.args.station ++ codes "\"}}\n")
    c.from_residual-in_err-write_series.ensures.0 c.in_ok-send.ensures.bytes.whole c.write_series.ensures.text.front

pub returns-clause-text : goal.returns-clause-text
unfolding station_line
returns-clause-text g c =
    let done = g.K.Sink.written c.write_series.new.sink in
    let after = g.K.Sink.written c.send-2.new.sink in
    wrote_third c.send-2.result _ _ done after (codes "{\"station\":{\"collection\":\"sites\",\"coverage\":") (series_text c.args.number c.args.times c.args.station) (codes ",\"id\":\"" ++ station_id c.args.station ++ codes "\",\"label\":\"" ++ station_id c.args.station ++ codes "\"}}\n")
    c.in_ok-send.ensures.bytes.whole c.in_ok-write_series.ensures.text.whole (subst (λ (l : List ℕ). Writes c.send-2.result l done after) (c.deref.ensures.value ∙ c.in_ok-end.ensures) c.send-2.ensures.bytes)
