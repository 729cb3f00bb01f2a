use Rattle.std.proofs.Common.{rules, ◌+◌, ◌-◌, ◌<◌, ◌≤◌, ℕ, [], length, ◌∙◌, refl, arith, ap, sym}
use Rattle.std.specs.List.{flat_map, range_with_len}
use Rattle.edr_chunk.specs.declared.shapes.GridShape.{GridShape}
use Rattle.edr_edition.specs.Stores.{Subject}
use Rattle.edr_select.specs.Stacks.{StackValue, cells_of_plane}
use Rattle.edr_send.proofs.TextSteps.{writes_fault}
use Rattle.edr_send.proofs.FrameSteps.{Cells, text_from, sent_none, sent_room, sent_more, sent_front, sent_begun, sent_text, sent_writer, sent_reads}
use Rattle.edr_send.proofs.StackTiles.{range_rest, range_done, range_none, range_all, levels_apart}
use Rattle.edr_send.proofs.WriterSteps.{lent_on}
use Rattle.edr_send.specs.Filling.{grid_of}
use Rattle.edr_send.proofs.stack_streams.write_levels.Goals as goal

pub loop-j-init : goal.loop-j-init
loop-j-init g c =
    let shape : GridShape = c.args.stacking.now.shape in
    let subject : Subject = c.args.store.now.subject in
    let p : ℕ = c.args.parameter in
    let stack : StackValue = c.args.stacking.now.stack in
    let n : ℕ = length stack.sides.levels in
    let cells_of : ℕ → Cells = cells_of_plane stack c.args.i in
    let whole : Cells = flat_map cells_of (range_with_len 0 n) in
    record {
      sent = sent_none shape subject p whole c.args.writer.now (g.K.Sink.written c.args.sink.now) c.args.store.now.numbers [] (flat_map cells_of (range_with_len 0 (n - 0))) refl (range_all cells_of n);
      subject = refl;
      lent = search rules;
    }

pub write_stacked-requires-clause-room : goal.write_stacked-requires-clause-room
write_stacked-requires-clause-room g c =
    let shape : GridShape = c.args.stacking.now.shape in
    let subject : Subject = c.args.store.now.subject in
    let p : ℕ = c.args.parameter in
    let stack : StackValue = c.args.stacking.now.stack in
    let n : ℕ = length stack.sides.levels in
    let cells_of : ℕ → Cells = cells_of_plane stack c.args.i in
    let whole : Cells = flat_map cells_of (range_with_len 0 n) in
    let k : ℕ = c.loop-j.j in
    let done : Cells = flat_map cells_of (range_with_len 0 k) in
    let rest : Cells = flat_map cells_of (range_with_len k (n - k)) in
    let inside : k < n = search rules in
    let piece : Cells = cells_of k in
    let later : Cells = flat_map cells_of (range_with_len (k + 1) (n - (k + 1))) in
    sent_room shape subject p whole c.args.writer.now (g.K.Sink.written c.args.sink.now) c.args.store.now.numbers done rest piece later c.loop-j.writer (g.K.Sink.written c.loop-j.sink) c.loop-j.store.numbers c.loop-j.invariant.sent (range_rest cells_of k n inside) c.requires.room

pub loop-j-preserved : goal.loop-j-preserved
loop-j-preserved g c =
    let shape : GridShape = c.args.stacking.now.shape in
    let subject : Subject = c.args.store.now.subject in
    let p : ℕ = c.args.parameter in
    let stack : StackValue = c.args.stacking.now.stack in
    let n : ℕ = length stack.sides.levels in
    let cells_of : ℕ → Cells = cells_of_plane stack c.args.i in
    let whole : Cells = flat_map cells_of (range_with_len 0 n) in
    let k : ℕ = c.loop-j.j in
    let done : Cells = flat_map cells_of (range_with_len 0 k) in
    let rest : Cells = flat_map cells_of (range_with_len k (n - k)) in
    let inside : k < n = search rules in
    let piece : Cells = cells_of k in
    let later : Cells = flat_map cells_of (range_with_len (k + 1) (n - (k + 1))) in
    let next : Cells = flat_map cells_of (range_with_len 0 (k + 1)) in
    record {
      sent = sent_more shape subject p whole c.args.writer.now (g.K.Sink.written c.args.sink.now) c.args.store.now.numbers done next rest piece later c.loop-j.writer c.write_stacked.new.writer (g.K.Sink.written c.loop-j.sink) (g.K.Sink.written c.write_stacked.new.sink) c.loop-j.store.numbers c.write_stacked.new.store.numbers c.loop-j.store.subject
          c.loop-j.invariant.sent (range_rest cells_of k n inside) (range_done cells_of k) (levels_apart shape stack c.stacking_stands.ensures.is.stack (c.tiles_are_numbered.ensures shape) p c.requires.parameter c.args.i k c.requires.time (omega (arith, inside))) c.loop-j.invariant.subject c.in_ok-write_stacked.ensures.bytes.whole c.in_ok-write_stacked.ensures.writer c.in_ok-write_stacked.ensures.reads.all;
      subject = c.write_stacked.ensures.subject ∙ c.loop-j.invariant.subject;
      lent = lent_on c.loop-j.invariant.lent c.write_stacked.ensures.lent;
    }

pub returns-in_err-write_stacked-clause-bytes : goal.returns-in_err-write_stacked-clause-bytes
returns-in_err-write_stacked-clause-bytes g c =
    let shape : GridShape = c.args.stacking.now.shape in
    let subject : Subject = c.args.store.now.subject in
    let p : ℕ = c.args.parameter in
    let stack : StackValue = c.args.stacking.now.stack in
    let n : ℕ = length stack.sides.levels in
    let cells_of : ℕ → Cells = cells_of_plane stack c.args.i in
    let whole : Cells = flat_map cells_of (range_with_len 0 n) in
    let k : ℕ = c.loop-j.j in
    let done : Cells = flat_map cells_of (range_with_len 0 k) in
    let rest : Cells = flat_map cells_of (range_with_len k (n - k)) in
    let inside : k < n = search rules in
    let piece : Cells = cells_of k in
    let later : Cells = flat_map cells_of (range_with_len (k + 1) (n - (k + 1))) in
    writes_fault c.from_residual.result (text_from c.args.writer.now.values subject p whole) (g.K.Sink.written c.args.sink.now) (g.K.Sink.written c.write_stacked.new.sink) (search rules)
    (sent_front shape subject p whole c.args.writer.now (g.K.Sink.written c.args.sink.now) c.args.store.now.numbers done rest piece later c.loop-j.writer (g.K.Sink.written c.loop-j.sink) (g.K.Sink.written c.write_stacked.new.sink) c.loop-j.store.numbers c.loop-j.store.subject c.loop-j.invariant.sent (range_rest cells_of k n inside) c.loop-j.invariant.subject c.write_stacked.ensures.bytes.front)

pub returns-in_err-write_stacked-clause-reads : goal.returns-in_err-write_stacked-clause-reads
returns-in_err-write_stacked-clause-reads g c =
    let shape : GridShape = c.args.stacking.now.shape in
    let subject : Subject = c.args.store.now.subject in
    let p : ℕ = c.args.parameter in
    let stack : StackValue = c.args.stacking.now.stack in
    let n : ℕ = length stack.sides.levels in
    let cells_of : ℕ → Cells = cells_of_plane stack c.args.i in
    let whole : Cells = flat_map cells_of (range_with_len 0 n) in
    let k : ℕ = c.loop-j.j in
    let done : Cells = flat_map cells_of (range_with_len 0 k) in
    let rest : Cells = flat_map cells_of (range_with_len k (n - k)) in
    let inside : k < n = search rules in
    let piece : Cells = cells_of k in
    let later : Cells = flat_map cells_of (range_with_len (k + 1) (n - (k + 1))) in
    let next : Cells = flat_map cells_of (range_with_len 0 (k + 1)) in
    sent_begun shape subject p whole c.args.writer.now (g.K.Sink.written c.args.sink.now) c.args.store.now.numbers c.from_residual.result done next rest piece later c.loop-j.writer (g.K.Sink.written c.loop-j.sink) c.loop-j.store.numbers c.write_stacked.new.store.numbers (search rules)
    c.loop-j.invariant.sent (range_rest cells_of k n inside) (range_done cells_of k) (levels_apart shape stack c.stacking_stands.ensures.is.stack (c.tiles_are_numbered.ensures shape) p c.requires.parameter c.args.i k c.requires.time (omega (arith, inside))) (levels_apart shape stack c.stacking_stands.ensures.is.stack (c.tiles_are_numbered.ensures shape) p c.requires.parameter c.args.i (k + 1) c.requires.time (omega (arith, inside))) c.write_stacked.ensures.reads.begun

pub returns-clause-bytes : goal.returns-clause-bytes
returns-clause-bytes g c =
    let shape : GridShape = c.args.stacking.now.shape in
    let subject : Subject = c.args.store.now.subject in
    let p : ℕ = c.args.parameter in
    let stack : StackValue = c.args.stacking.now.stack in
    let n : ℕ = length stack.sides.levels in
    let cells_of : ℕ → Cells = cells_of_plane stack c.args.i in
    let whole : Cells = flat_map cells_of (range_with_len 0 n) in
    let k : ℕ = c.loop-j.j in
    let done : Cells = flat_map cells_of (range_with_len 0 k) in
    let rest : Cells = flat_map cells_of (range_with_len k (n - k)) in
    let past : n ≤ k = search rules in
    sent_text shape subject p whole c.args.writer.now (g.K.Sink.written c.args.sink.now) c.args.store.now.numbers _ done rest c.loop-j.writer (g.K.Sink.written c.loop-j.sink) c.loop-j.store.numbers c.loop-j.invariant.sent (range_none cells_of k n past)

pub returns-clause-writer : goal.returns-clause-writer
returns-clause-writer g c =
    let shape : GridShape = c.args.stacking.now.shape in
    let subject : Subject = c.args.store.now.subject in
    let p : ℕ = c.args.parameter in
    let stack : StackValue = c.args.stacking.now.stack in
    let n : ℕ = length stack.sides.levels in
    let cells_of : ℕ → Cells = cells_of_plane stack c.args.i in
    let whole : Cells = flat_map cells_of (range_with_len 0 n) in
    let k : ℕ = c.loop-j.j in
    let done : Cells = flat_map cells_of (range_with_len 0 k) in
    let rest : Cells = flat_map cells_of (range_with_len k (n - k)) in
    let past : n ≤ k = search rules in
    sent_writer shape subject p whole c.args.writer.now (g.K.Sink.written c.args.sink.now) c.args.store.now.numbers done rest c.loop-j.writer (g.K.Sink.written c.loop-j.sink) c.loop-j.store.numbers c.loop-j.invariant.sent (range_none cells_of k n past)

pub returns-clause-reads : goal.returns-clause-reads
returns-clause-reads g c =
    let shape : GridShape = c.args.stacking.now.shape in
    let subject : Subject = c.args.store.now.subject in
    let p : ℕ = c.args.parameter in
    let stack : StackValue = c.args.stacking.now.stack in
    let n : ℕ = length stack.sides.levels in
    let cells_of : ℕ → Cells = cells_of_plane stack c.args.i in
    let whole : Cells = flat_map cells_of (range_with_len 0 n) in
    let k : ℕ = c.loop-j.j in
    let done : Cells = flat_map cells_of (range_with_len 0 k) in
    let rest : Cells = flat_map cells_of (range_with_len k (n - k)) in
    let past : n ≤ k = search rules in
    sent_reads shape subject p whole c.args.writer.now (g.K.Sink.written c.args.sink.now) c.args.store.now.numbers _ done rest c.loop-j.writer (g.K.Sink.written c.loop-j.sink) c.loop-j.store.numbers c.loop-j.invariant.sent (range_none cells_of k n past)

pub write_stacked-requires-clause-grid : goal.write_stacked-requires-clause-grid
write_stacked-requires-clause-grid g c = c.requires.grid ∙ ap (λ (s : Subject). (grid_of s.held).shape) (sym c.loop-j.invariant.subject)
