use Rattle.std.proofs.Common.{rules, ◌≡◌, ◌++◌, ◌+◌, ◌<◌, ◌≤◌, ℕ, List, length, take, drop, subst, ap, sym, ◌∙◌, refl, arith, append-nil, zero-add, ℤ, Option, All}
use Rattle.std.specs.Prelude.{map, Ok}
use Rattle.std.specs.List.{slice_range}
use Rattle.std.specs.Io.KnownBytes.{append_known}
use Rattle.std.proofs.lemmas.List.{take_all}
use Rattle.edr_base.specs.Calls.{Front}
use Rattle.covjson_write.specs.Pieces.{values_from}
use Rattle.covjson_write.specs.Writers.{WriterValue, with_values}
use Rattle.edr_station.specs.Stations.{StationsValue, values_along}
use Rattle.edr_edition.specs.Stores.{Subject}
use Rattle.edr_select.specs.Samples.{ascending_once}
use Rattle.edr_select.specs.Series.{StationSeriesValue, series_value, series_range, block_at, cells_taken, RiseApart}
use Rattle.edr_send.specs.Filling.{Added}
use Rattle.edr_send.specs.SeriesTexts.{collection_of, blocks_in, station_of, BlocksApart}
use Rattle.edr_send.proofs.Additions.{adds_all, adds_fault, added_on}
use Rattle.edr_send.proofs.Ascending.{once_none}
use Rattle.edr_send.proofs.BlockRuns.{apart_next, run_some, run_below, run_next, run_whole}
use Rattle.edr_send.proofs.SeriesSteps.{run_text, run_blocks}
use Rattle.edr_send.proofs.TextSteps.{all_but_same, all_but_on, all_but_front, all_but_all, writes_fault}
use Rattle.edr_send.proofs.TileSteps.{length-range}
use Rattle.edr_send.proofs.RunSteps.{values_next, with_none, with_more}
use Rattle.edr_send.proofs.WriterSteps.{lent_on}
use Rattle.edr_send.proofs.block_runs.write_runs.Goals as goal

pub loop-at-init : goal.loop-at-init
loop-at-init g c =
    let series : StationSeriesValue = c.args.series.now in
    let s = station_of (collection_of c.args.store.now.subject.held) series in
    record {
      high = omega arith;
      apart = λ k j one other low high behind inside e f. absurd (omega (arith, high));
      writer = with_none c.args.writer.now;
      subject = refl;
      text = all_but_all (values_from 0 (map (series_value s c.args.parameter) series.cells)) (g.K.Sink.written c.args.sink.now);
      reads = sym (ap (λ (l : List ℕ). c.args.store.now.numbers ++ l) (once_none (blocks_in (collection_of c.args.store.now.subject.held))) ∙ append-nil c.args.store.now.numbers);
      lent = search rules;
    }

pub run_end-end-requires-clause-rise : goal.run_end-end-requires-clause-rise
run_end-end-requires-clause-rise g c =
    let listed : c.items-cells.result.now ≡ c.args.series.now.cells = search rules in
    subst (λ (l : List (Option ℕ)). RiseApart l) (sym listed) c.requires.over.rise

pub write_run-requires-clause-some : goal.write_run-requires-clause-some
write_run-requires-clause-some g c = run_some c.items-cells.result.now c.loop-at.at c.run_end-end.result c.run_end-end.ensures.more c.run_end-end.ensures.end

pub write_run-requires-clause-cells : goal.write_run-requires-clause-cells
write_run-requires-clause-cells g c =
    let series : StationSeriesValue = c.args.series.now in
    let listed : c.items-cells.result.now ≡ series.cells = search rules in
    let below : All (λ cell. cell < values_along (station_of (collection_of c.args.store.now.subject.held) series)) (cells_taken c.items-cells.result.now) =
    subst (λ (l : List (Option ℕ)). All (λ cell. cell < values_along (station_of (collection_of c.args.store.now.subject.held) series)) (cells_taken l)) (sym listed) c.requires.over.station.cells in
    subst (λ (x : Subject). All (λ cell. cell < values_along (station_of (collection_of x.held) series)) (cells_taken (slice_range c.items-cells.result.now c.loop-at.at c.run_end-end.result))) (sym c.loop-at.invariant.subject)
    (run_below c.items-cells.result.now c.loop-at.at c.run_end-end.result c.run_end-end.ensures.more c.run_end-end.ensures.end
    (λ cell. cell < values_along (station_of (collection_of c.args.store.now.subject.held) series)) below)

pub loop-at-preserved : goal.loop-at-preserved
loop-at-preserved g c =
    let series : StationSeriesValue = c.args.series.now in
    let cells : List (Option ℕ) = series.cells in
    let subject : Subject = c.args.store.now.subject in
    let collection : StationsValue = collection_of subject.held in
    let p : ℕ = c.args.parameter in
    let written = g.K.Sink.written in
    let at : ℕ = c.loop-at.at in
    let next : ℕ = c.run_end-end.result in
    let listed : c.items-cells.result.now ≡ cells = search rules in
    let f : Option ℕ → Option ℤ = series_value (station_of collection series) p in
    let b : List (Option ℕ) → List ℕ = λ l. map (block_at series p) (cells_taken l) in
    let more : at < next = c.run_end-end.ensures.more in
    let inside : next ≤ length cells = subst (λ (l : List (Option ℕ)). next ≤ length l) listed c.run_end-end.ensures.end in
    let apart : BlocksApart cells at next = subst (λ (l : List (Option ℕ)). BlocksApart l at next) listed c.run_end-end.ensures.apart in
    let count : c.loop-at.writer.values ≡ at = ap (λ (w : WriterValue). w.values) c.loop-at.invariant.writer ∙ ap (λ (n : ℕ). n + at) c.requires.none ∙ zero-add at in
    let part : slice_range c.items-cells.result.now at next ≡ slice_range cells at next = ap (λ (l : List (Option ℕ)). slice_range l at next) listed in
    let whole = values_from 0 (map f cells) in
    let piece = values_from at (map f (slice_range cells at next)) in
    let rest = values_from next (map f (drop next cells)) in
    let wrote : written c.write_run.new.sink ≡ append_known (written c.loop-at.sink) (values_from c.loop-at.writer.values (series_range (station_of (collection_of c.loop-at.store.subject.held) series) (slice_range c.items-cells.result.now at next) p).values) =
    c.in_ok-write_run.ensures.bytes.whole in
    let told : written c.write_run.new.sink ≡ append_known (written c.loop-at.sink) piece =
    wrote
    ∙ ap (append_known (written c.loop-at.sink))
    (run_text c.loop-at.store.subject subject series p c.loop-at.writer.values at (slice_range c.items-cells.result.now at next) (slice_range cells at next) c.loop-at.invariant.subject count part) in
    record {
      high = inside;
      apart = apart_next cells at next more c.loop-at.invariant.apart apart;
      writer = c.in_ok-write_run.ensures.writer ∙ with_more c.loop-at.writer c.args.writer.now at (length (slice_range c.items-cells.result.now at next)) c.loop-at.invariant.writer
          ∙ ap (λ (n : ℕ). with_values c.args.writer.now n) (omega (arith, ap length part, length-range cells at next (omega (arith, more)) inside, more));
      subject = c.write_run.ensures.subject ∙ c.loop-at.invariant.subject;
      text = all_but_on piece rest whole (written c.args.sink.now) (written c.loop-at.sink) (written c.write_run.new.sink)
          (all_but_same (values_from at (map f (drop at cells))) (piece ++ rest) whole (written c.args.sink.now) (written c.loop-at.sink) (values_next f cells at next (omega (arith, more)) inside) c.loop-at.invariant.text)
          told;
      reads = added_on (ascending_once (blocks_in collection) (b (take at cells))) (ascending_once (blocks_in collection) (b (slice_range cells at next))) (ascending_once (blocks_in collection) (b (take next cells)))
          c.args.store.now.numbers c.loop-at.store.numbers c.write_run.new.store.numbers c.loop-at.invariant.reads
          (c.in_ok-write_run.ensures.reads.all ∙ ap (λ (l : List ℕ). c.loop-at.store.numbers ++ l) (run_blocks c.loop-at.store.subject subject series p (slice_range c.items-cells.result.now at next) (slice_range cells at next) c.loop-at.invariant.subject part))
          (run_next collection series c.requires.over.station p c.requires.parameter at next more c.loop-at.invariant.apart);
      lent = lent_on c.loop-at.invariant.lent c.write_run.ensures.lent;
    }

pub returns-in_err-write_run-clause-bytes : goal.returns-in_err-write_run-clause-bytes
returns-in_err-write_run-clause-bytes g c =
    let series : StationSeriesValue = c.args.series.now in
    let cells : List (Option ℕ) = series.cells in
    let subject : Subject = c.args.store.now.subject in
    let collection : StationsValue = collection_of subject.held in
    let p : ℕ = c.args.parameter in
    let written = g.K.Sink.written in
    let at : ℕ = c.loop-at.at in
    let next : ℕ = c.run_end-end.result in
    let listed : c.items-cells.result.now ≡ cells = search rules in
    let f : Option ℕ → Option ℤ = series_value (station_of collection series) p in
    let more : at < next = c.run_end-end.ensures.more in
    let inside : next ≤ length cells = subst (λ (l : List (Option ℕ)). next ≤ length l) listed c.run_end-end.ensures.end in
    let count : c.loop-at.writer.values ≡ at = ap (λ (w : WriterValue). w.values) c.loop-at.invariant.writer ∙ ap (λ (n : ℕ). n + at) c.requires.none ∙ zero-add at in
    let part : slice_range c.items-cells.result.now at next ≡ slice_range cells at next = ap (λ (l : List (Option ℕ)). slice_range l at next) listed in
    let whole = values_from 0 (map f cells) in
    let piece = values_from at (map f (slice_range cells at next)) in
    let rest = values_from next (map f (drop next cells)) in
    let front : Front piece (written c.loop-at.sink) (written c.write_run.new.sink) =
    subst (λ (l : List ℕ). Front l (written c.loop-at.sink) (written c.write_run.new.sink))
    (run_text c.loop-at.store.subject subject series p c.loop-at.writer.values at (slice_range c.items-cells.result.now at next) (slice_range cells at next) c.loop-at.invariant.subject count part)
    c.write_run.ensures.bytes.front in
    writes_fault c.from_residual.result whole (written c.args.sink.now) (written c.write_run.new.sink) (search rules)
    (all_but_front piece rest whole (written c.args.sink.now) (written c.loop-at.sink) (written c.write_run.new.sink)
    (all_but_same (values_from at (map f (drop at cells))) (piece ++ rest) whole (written c.args.sink.now) (written c.loop-at.sink) (values_next f cells at next (omega (arith, more)) inside) c.loop-at.invariant.text)
    front)

pub returns-in_err-write_run-clause-reads : goal.returns-in_err-write_run-clause-reads
returns-in_err-write_run-clause-reads g c =
    let series : StationSeriesValue = c.args.series.now in
    let cells : List (Option ℕ) = series.cells in
    let subject : Subject = c.args.store.now.subject in
    let collection : StationsValue = collection_of subject.held in
    let n : ℕ = blocks_in collection in
    let p : ℕ = c.args.parameter in
    let at : ℕ = c.loop-at.at in
    let next : ℕ = c.run_end-end.result in
    let listed : c.items-cells.result.now ≡ cells = search rules in
    let b : List (Option ℕ) → List ℕ = λ l. map (block_at series p) (cells_taken l) in
    let more : at < next = c.run_end-end.ensures.more in
    let apart : BlocksApart cells at next = subst (λ (l : List (Option ℕ)). BlocksApart l at next) listed c.run_end-end.ensures.apart in
    let part : slice_range c.items-cells.result.now at next ≡ slice_range cells at next = ap (λ (l : List (Option ℕ)). slice_range l at next) listed in
    adds_fault c.from_residual.result (ascending_once n (b (take at cells))) (ascending_once n (b (slice_range cells at next))) (ascending_once n (b (drop next cells))) (ascending_once n (b cells)) c.args.store.now.numbers c.loop-at.store.numbers c.write_run.new.store.numbers (search rules) c.loop-at.invariant.reads
    (run_whole collection series c.requires.over.station p c.requires.parameter at next more c.loop-at.invariant.apart (apart_next cells at next more c.loop-at.invariant.apart apart))
    (subst (λ (l : List ℕ). Added l c.loop-at.store.numbers c.write_run.new.store.numbers)
    (run_blocks c.loop-at.store.subject subject series p (slice_range c.items-cells.result.now at next) (slice_range cells at next) c.loop-at.invariant.subject part) c.write_run.ensures.reads.begun)

pub returns-clause-reads : goal.returns-clause-reads
returns-clause-reads g c =
    let series : StationSeriesValue = c.args.series.now in
    let n : ℕ = blocks_in (collection_of c.args.store.now.subject.held) in
    let listed : c.items-cells.result.now ≡ series.cells = search rules in
    let past : length series.cells ≤ c.loop-at.at = subst (λ (l : List (Option ℕ)). length l ≤ c.loop-at.at) listed c.loop-at-test.false in
    adds_all (Ok tt) (ascending_once n (map (block_at series c.args.parameter) (cells_taken (take c.loop-at.at series.cells)))) (ascending_once n (map (block_at series c.args.parameter) (cells_taken series.cells)))
    c.args.store.now.numbers c.loop-at.store.numbers (ap (λ (l : List (Option ℕ)). ascending_once n (map (block_at series c.args.parameter) (cells_taken l))) (take_all c.loop-at.at series.cells past)) c.loop-at.invariant.reads
