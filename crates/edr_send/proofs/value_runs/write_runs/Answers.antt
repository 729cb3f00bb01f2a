use Rattle.std.proofs.Common.{rules, ◌≡◌, ◌++◌, ◌+◌, ◌<◌, ◌≤◌, ℕ, List, length, take, drop, subst, ap, sym, ◌∙◌, refl, arith, append-nil, zero-add, ℤ, Option, [], ◌-◌}
use Rattle.std.specs.List.{slice_range}
use Rattle.std.specs.Io.KnownBytes.{append_known}
use Rattle.edr_base.specs.Calls.{Front}
use Rattle.covjson_write.specs.Pieces.{values_from}
use Rattle.covjson_write.specs.Writers.{WriterValue, with_values}
use Rattle.edr_chunk.specs.Grids as chunk
use Rattle.edr_chunk.specs.Grids.{value}
use Rattle.edr_chunk.specs.Tiles.{tile_shape, tiles}
use Rattle.edr_edition.specs.Stores.{Subject}
use Rattle.edr_select.specs.declared.plans.GridNode.{GridNode}
use Rattle.edr_select.specs.Samples.{ascending_once}
use Rattle.edr_select.specs.Listings.{place_at, range_over, tiles_of_range}
use Rattle.edr_send.specs.Filling.{grid_of}
use Rattle.edr_send.proofs.Additions.{adds_fault, added_on, adds_all}
use Rattle.edr_send.proofs.Ascending.{once_none}
use Rattle.edr_send.proofs.TextSteps.{all_but_same, all_but_on, all_but_front, all_but_all, writes_fault, all_but_none}
use Rattle.edr_send.proofs.TileSteps.{length-range}
use Rattle.edr_send.proofs.RunSteps.{cut_next, run_step, run_begun, values_next, with_none, with_more}
use Rattle.edr_send.proofs.WriterSteps.{lent_on, all_met}
use Rattle.std.specs.Prelude.{Ok}
use Rattle.std.proofs.lemmas.List.{take_all, drop_all}
use Rattle.edr_send.proofs.value_runs.write_runs.Goals as goal

abbrev no_node : GridNode
no_node = record { t = 0; z = 0; y = 0; x = 0 }

room_in_range : (values at next n count count' cut : ℕ) → values ≡ at → cut ≡ next - at → at < next → next ≤ n → n ≡ count → count' ≡ count → values + cut ≤ count'
room_in_range values at next n count count' cut here long more inside whole same = omega arith

at_most : (at next : ℕ) → at < next → at ≤ next
at_most at next more = omega arith

nearer : (n at next : ℕ) → at < next → next ≤ n → n - next < n - at
nearer n at next more inside = omega arith

pub loop-at-init : goal.loop-at-init
loop-at-init g c = record {
  high = omega arith;
  cut = λ i j d low high inside. absurd (omega arith);
  writer = with_none c.args.writer.now;
  subject = refl;
  text = all_but_all (values_from 0 (range_over (grid_of c.args.store.now.subject.held) c.args.cells.now c.args.parameter).values) (g.K.Sink.written c.args.sink.now);
  reads = sym (ap (λ (l : List ℕ). c.args.store.now.numbers ++ l) (once_none (tiles c.args.shape)) ∙ append-nil c.args.store.now.numbers);
  lent = search rules;
}

pub loop-at-preserved : goal.loop-at-preserved
loop-at-preserved g c =
    let cells : List GridNode = c.args.cells.now in
    let shape = c.args.shape in
    let p : ℕ = c.args.parameter in
    let grid : chunk.Values = grid_of c.args.store.now.subject.held in
    let written = g.K.Sink.written in
    let at : ℕ = c.loop-at.at in
    let next : ℕ = c.run_end-end.result in
    let f : GridNode → Option ℤ = λ cell. value grid (place_at p cell) in
    let more : at < next = c.run_end-end.ensures.more in
    let inside : next ≤ length cells = c.run_end-end.ensures.end in
    let whole = values_from 0 (range_over grid cells p).values in
    let piece = values_from at (range_over grid (slice_range cells at next) p).values in
    let rest = values_from next (range_over grid (drop next cells) p).values in
    let count : c.loop-at.writer.values ≡ at = ap (λ (w : WriterValue). w.values) c.loop-at.invariant.writer ∙ ap (λ (n : ℕ). n + at) c.requires.none ∙ zero-add at in
    let told : written c.write_run.new.sink ≡ append_known (written c.loop-at.sink) (values_from c.loop-at.writer.values (range_over (grid_of c.loop-at.store.subject.held) (slice_range cells at next) p).values) = c.in_ok-write_run.ensures.bytes.whole in
    let wrote : written c.write_run.new.sink ≡ append_known (written c.loop-at.sink) piece =
    subst (λ (n : ℕ). written c.write_run.new.sink ≡ append_known (written c.loop-at.sink) (values_from n (range_over grid (slice_range cells at next) p).values)) count
    (subst (λ (s : Subject). written c.write_run.new.sink ≡ append_known (written c.loop-at.sink) (values_from c.loop-at.writer.values (range_over (grid_of s.held) (slice_range cells at next) p).values)) c.loop-at.invariant.subject told) in
    record {
      high = inside;
      cut = cut_next shape cells next c.requires.rise (omega (arith, more)) c.run_end-end.ensures.other;
      writer = c.in_ok-write_run.ensures.writer ∙ with_more c.loop-at.writer c.args.writer.now at (length (slice_range cells at next)) c.loop-at.invariant.writer
          ∙ ap (λ (n : ℕ). with_values c.args.writer.now n) (omega (arith, length-range cells at next (omega (arith, more)) inside, more));
      subject = c.write_run.ensures.subject ∙ c.loop-at.invariant.subject;
      text = all_but_on piece rest whole (written c.args.sink.now) (written c.loop-at.sink) (written c.write_run.new.sink)
          (all_but_same (values_from at (range_over grid (drop at cells) p).values) (piece ++ rest) whole (written c.args.sink.now) (written c.loop-at.sink) (values_next f cells at next (omega (arith, more)) inside) c.loop-at.invariant.text)
          wrote;
      reads = added_on (ascending_once (tiles shape) (tiles_of_range shape (take at cells) p)) (ascending_once (tiles shape) (tiles_of_range shape (slice_range cells at next) p))
          (ascending_once (tiles shape) (tiles_of_range shape (take next cells) p)) c.args.store.now.numbers c.loop-at.store.numbers c.write_run.new.store.numbers
          c.loop-at.invariant.reads c.in_ok-write_run.ensures.reads.all
          (run_step shape (c.tiles_are_numbered.ensures shape) (c.numbers_tell_places.ensures (tile_shape shape)) p cells at next no_node c.requires.parameter c.requires.cells c.requires.rise c.loop-at.invariant.cut more inside);
      lent = lent_on c.loop-at.invariant.lent c.write_run.ensures.lent;
    }

pub returns-in_err-write_run-clause-bytes : goal.returns-in_err-write_run-clause-bytes
returns-in_err-write_run-clause-bytes g c =
    let cells : List GridNode = c.args.cells.now in
    let p : ℕ = c.args.parameter in
    let grid : chunk.Values = grid_of c.args.store.now.subject.held in
    let written = g.K.Sink.written in
    let at : ℕ = c.loop-at.at in
    let next : ℕ = c.run_end-end.result in
    let f : GridNode → Option ℤ = λ cell. value grid (place_at p cell) in
    let more : at < next = c.run_end-end.ensures.more in
    let whole = values_from 0 (range_over grid cells p).values in
    let piece = values_from at (range_over grid (slice_range cells at next) p).values in
    let rest = values_from next (range_over grid (drop next cells) p).values in
    let count : c.loop-at.writer.values ≡ at = ap (λ (w : WriterValue). w.values) c.loop-at.invariant.writer ∙ ap (λ (n : ℕ). n + at) c.requires.none ∙ zero-add at in
    let told : Front (values_from c.loop-at.writer.values (range_over (grid_of c.loop-at.store.subject.held) (slice_range cells at next) p).values) (written c.loop-at.sink) (written c.write_run.new.sink) = c.write_run.ensures.bytes.front in
    let front : Front piece (written c.loop-at.sink) (written c.write_run.new.sink) =
    subst (λ (n : ℕ). Front (values_from n (range_over grid (slice_range cells at next) p).values) (written c.loop-at.sink) (written c.write_run.new.sink)) count
    (subst (λ (s : Subject). Front (values_from c.loop-at.writer.values (range_over (grid_of s.held) (slice_range cells at next) p).values) (written c.loop-at.sink) (written c.write_run.new.sink)) c.loop-at.invariant.subject told) in
    writes_fault c.from_residual.result whole (written c.args.sink.now) (written c.write_run.new.sink) (search rules)
    (all_but_front piece rest whole (written c.args.sink.now) (written c.loop-at.sink) (written c.write_run.new.sink)
    (all_but_same (values_from at (range_over grid (drop at cells) p).values) (piece ++ rest) whole (written c.args.sink.now) (written c.loop-at.sink) (values_next f cells at next (omega (arith, more)) c.run_end-end.ensures.end) c.loop-at.invariant.text)
    front)

pub returns-in_err-write_run-clause-reads : goal.returns-in_err-write_run-clause-reads
returns-in_err-write_run-clause-reads g c =
    let cells : List GridNode = c.args.cells.now in
    let shape = c.args.shape in
    let p : ℕ = c.args.parameter in
    let at : ℕ = c.loop-at.at in
    let next : ℕ = c.run_end-end.result in
    let more : at < next = c.run_end-end.ensures.more in
    adds_fault c.from_residual.result (ascending_once (tiles shape) (tiles_of_range shape (take at cells) p)) (ascending_once (tiles shape) (tiles_of_range shape (slice_range cells at next) p)) (ascending_once (tiles shape) (tiles_of_range shape (drop next cells) p)) (ascending_once (tiles shape) (tiles_of_range shape cells p)) c.args.store.now.numbers c.loop-at.store.numbers c.write_run.new.store.numbers (search rules) c.loop-at.invariant.reads
    (run_begun shape (c.tiles_are_numbered.ensures shape) (c.numbers_tell_places.ensures (tile_shape shape)) p cells at next no_node c.requires.parameter c.requires.cells c.requires.rise c.loop-at.invariant.cut
    (cut_next shape cells next c.requires.rise (omega (arith, more)) c.run_end-end.ensures.other) more c.run_end-end.ensures.end)
    c.write_run.ensures.reads.begun

pub write_run-requires-clause-grid : goal.write_run-requires-clause-grid
write_run-requires-clause-grid g c = c.requires.grid ∙ ap (λ (s : Subject). (grid_of s.held).shape) (sym c.loop-at.invariant.subject)

pub write_run-requires-clause-open : goal.write_run-requires-clause-open
write_run-requires-clause-open g c = ap (λ (w : WriterValue). w.stage) c.loop-at.invariant.writer ∙ c.requires.open

pub write_run-requires-clause-room : goal.write_run-requires-clause-room
write_run-requires-clause-room g c =
    let cells : List GridNode = c.args.cells.now in
    let at : ℕ = c.loop-at.at in
    let next : ℕ = c.run_end-end.result in
    let count : c.loop-at.writer.values ≡ at = ap (λ (w : WriterValue). w.values) c.loop-at.invariant.writer ∙ ap (λ (n : ℕ). n + at) c.requires.none ∙ zero-add at in
    room_in_range c.loop-at.writer.values at next (length cells) c.args.writer.now.head.count c.loop-at.writer.head.count (length (slice_range cells at next)) count (length-range cells at next (at_most at next c.run_end-end.ensures.more) c.run_end-end.ensures.end) c.run_end-end.ensures.more c.run_end-end.ensures.end c.requires.whole (ap (λ (w : WriterValue). w.head.count) c.loop-at.invariant.writer)

pub loop-at-smaller : goal.loop-at-smaller
loop-at-smaller g c = nearer (length c.args.cells.now) c.loop-at.at c.run_end-end.result c.run_end-end.ensures.more c.run_end-end.ensures.end

pub returns-clause-bytes : goal.returns-clause-bytes
returns-clause-bytes g c =
    let cells : List GridNode = c.args.cells.now in
    let at : ℕ = c.loop-at.at in
    let grid : chunk.Values = grid_of c.args.store.now.subject.held in
    let p : ℕ = c.args.parameter in
    let whole = values_from 0 (range_over grid cells p).values in
    all_but_none (Ok tt) whole (g.K.Sink.written c.args.sink.now) (g.K.Sink.written c.loop-at.sink)
    (all_but_same (values_from at (range_over grid (drop at cells) p).values) [] whole (g.K.Sink.written c.args.sink.now) (g.K.Sink.written c.loop-at.sink) (ap (λ (xs : List GridNode). values_from at (range_over grid xs p).values) (drop_all at cells c.loop-at-test.false)) c.loop-at.invariant.text)

pub returns-clause-writer : goal.returns-clause-writer
returns-clause-writer g c =
    let cells : List GridNode = c.args.cells.now in
    let at : ℕ = c.loop-at.at in
    c.loop-at.invariant.writer ∙ ap (with_values c.args.writer.now) (all_met at (length cells) c.loop-at.invariant.high c.loop-at-test.false)

pub returns-clause-reads : goal.returns-clause-reads
returns-clause-reads g c =
    let cells : List GridNode = c.args.cells.now in
    let at : ℕ = c.loop-at.at in
    let shape = c.args.shape in
    let p : ℕ = c.args.parameter in
    adds_all (Ok tt) (ascending_once (tiles shape) (tiles_of_range shape (take at cells) p)) (ascending_once (tiles shape) (tiles_of_range shape cells p)) c.args.store.now.numbers c.loop-at.store.numbers
    (ap (λ (l : List GridNode). ascending_once (tiles shape) (tiles_of_range shape l p)) (take_all at cells c.loop-at-test.false)) c.loop-at.invariant.reads
