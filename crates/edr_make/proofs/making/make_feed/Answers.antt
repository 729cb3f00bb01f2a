use Rattle.std.proofs.Common.{◌≡◌, ◌++◌, ℕ, List, codes}
use Rattle.std.specs.Io.KnownBytes.{append_known}
use Rattle.edr_base.specs.KnownBytes.{grew_on, front_on, front_more}
use Rattle.edr_make.specs.Made.{collection_line, grid_line, station_lines, made}
use Rattle.edr_make.proofs.MadeTexts.{stopped_first, stopped, wrote_third}
use Rattle.edr_make.proofs.making.make_feed.Goals as goal

pub returns-in_err-send-clause-text : goal.returns-in_err-send-clause-text
unfolding made
returns-in_err-send-clause-text g c =
    let number : ℕ = c.args.number in
    let grids : List ℕ = collection_line (codes "grid") (codes "grid") in
    let grid : List ℕ = grid_line number 500 1_040 in
    let sites : List ℕ = collection_line (codes "sites") (codes "station") in
    let stations : List ℕ = station_lines number 300 40 in
    let publish : List ℕ = codes "{\"publish\":{}}\n" in
    let before = g.K.Sink.written c.args.sink.now in
    let first = g.K.Sink.written c.send.new.sink in
    stopped_first c.from_residual.result before first ((grids ++ grid) ++ sites) stations publish c.from_residual.ensures.0
    (front_more before first (grids ++ grid) sites (front_more before first grids grid c.send.ensures.bytes.front))

pub returns-in_err-write_grid_line-clause-text : goal.returns-in_err-write_grid_line-clause-text
unfolding made
returns-in_err-write_grid_line-clause-text g c =
    let number : ℕ = c.args.number in
    let grids : List ℕ = collection_line (codes "grid") (codes "grid") in
    let grid : List ℕ = grid_line number 500 1_040 in
    let sites : List ℕ = collection_line (codes "sites") (codes "station") in
    let stations : List ℕ = station_lines number 300 40 in
    let publish : List ℕ = codes "{\"publish\":{}}\n" in
    let before = g.K.Sink.written c.args.sink.now in
    let first = g.K.Sink.written c.send.new.sink in
    let second = g.K.Sink.written c.write_grid_line.new.sink in
    stopped_first c.from_residual-in_err-write_grid_line.result before second ((grids ++ grid) ++ sites) stations publish c.from_residual-in_err-write_grid_line.ensures.0
    (front_more before second (grids ++ grid) sites (front_on before first second grids grid c.in_ok-send.ensures.bytes.whole c.write_grid_line.ensures.text.front))

pub returns-in_err-send-2-clause-text : goal.returns-in_err-send-2-clause-text
unfolding made
returns-in_err-send-2-clause-text g c =
    let number : ℕ = c.args.number in
    let grids : List ℕ = collection_line (codes "grid") (codes "grid") in
    let grid : List ℕ = grid_line number 500 1_040 in
    let sites : List ℕ = collection_line (codes "sites") (codes "station") in
    let stations : List ℕ = station_lines number 300 40 in
    let publish : List ℕ = codes "{\"publish\":{}}\n" in
    let before = g.K.Sink.written c.args.sink.now in
    let first = g.K.Sink.written c.send.new.sink in
    let second = g.K.Sink.written c.write_grid_line.new.sink in
    let third = g.K.Sink.written c.send-2.new.sink in
    let two : second ≡ append_known before (grids ++ grid) = grew_on before first second grids grid c.in_ok-send.ensures.bytes.whole c.in_ok-write_grid_line.ensures.text.whole in
    stopped_first c.from_residual-in_err-send-2.result before third ((grids ++ grid) ++ sites) stations publish c.from_residual-in_err-send-2.ensures.0
    (front_on before second third (grids ++ grid) sites two c.send-2.ensures.bytes.front)

pub returns-in_err-write_stations-clause-text : goal.returns-in_err-write_stations-clause-text
unfolding made
returns-in_err-write_stations-clause-text g c =
    let number : ℕ = c.args.number in
    let grids : List ℕ = collection_line (codes "grid") (codes "grid") in
    let grid : List ℕ = grid_line number 500 1_040 in
    let sites : List ℕ = collection_line (codes "sites") (codes "station") in
    let stations : List ℕ = station_lines number 300 40 in
    let publish : List ℕ = codes "{\"publish\":{}}\n" in
    let before = g.K.Sink.written c.args.sink.now in
    let first = g.K.Sink.written c.send.new.sink in
    let second = g.K.Sink.written c.write_grid_line.new.sink in
    let third = g.K.Sink.written c.send-2.new.sink in
    let two : second ≡ append_known before (grids ++ grid) = grew_on before first second grids grid c.in_ok-send.ensures.bytes.whole c.in_ok-write_grid_line.ensures.text.whole in
    let fourth = g.K.Sink.written c.write_stations.new.sink in
    let three : third ≡ append_known before ((grids ++ grid) ++ sites) = grew_on before second third (grids ++ grid) sites two c.in_ok-send-2.ensures.bytes.whole in
    stopped c.from_residual-in_err-write_stations.result before third fourth ((grids ++ grid) ++ sites) stations publish c.from_residual-in_err-write_stations.ensures.0 three c.write_stations.ensures.text.front

pub returns-clause-text : goal.returns-clause-text
unfolding made
returns-clause-text g c =
    let number : ℕ = c.args.number in
    let grids : List ℕ = collection_line (codes "grid") (codes "grid") in
    let grid : List ℕ = grid_line number 500 1_040 in
    let sites : List ℕ = collection_line (codes "sites") (codes "station") in
    let stations : List ℕ = station_lines number 300 40 in
    let publish : List ℕ = codes "{\"publish\":{}}\n" in
    let before = g.K.Sink.written c.args.sink.now in
    let first = g.K.Sink.written c.send.new.sink in
    let second = g.K.Sink.written c.write_grid_line.new.sink in
    let third = g.K.Sink.written c.send-2.new.sink in
    let two : second ≡ append_known before (grids ++ grid) = grew_on before first second grids grid c.in_ok-send.ensures.bytes.whole c.in_ok-write_grid_line.ensures.text.whole in
    let fourth = g.K.Sink.written c.write_stations.new.sink in
    let three : third ≡ append_known before ((grids ++ grid) ++ sites) = grew_on before second third (grids ++ grid) sites two c.in_ok-send-2.ensures.bytes.whole in
    wrote_third c.send-3.result before third fourth (g.K.Sink.written c.send-3.new.sink) ((grids ++ grid) ++ sites) stations publish three
    c.in_ok-write_stations.ensures.text.whole c.send-3.ensures.bytes
