use Rattle.std.proofs.Common.{rules, ◌+◌, ◌-◌, ◌<◌, ◌≤◌, ℕ, [], length, ◌∙◌, refl, arith, ap, sym}
use Rattle.std.specs.List.{flat_map, range_with_len}
use Rattle.edr_chunk.specs.declared.shapes.GridShape.{GridShape}
use Rattle.edr_edition.specs.Stores.{Subject}
use Rattle.edr_select.specs.Stacks.{StackValue, cells_of_time}
use Rattle.edr_send.proofs.TextSteps.{writes_fault}
use Rattle.edr_send.proofs.FrameSteps.{Cells, text_from, sent_none, sent_room, sent_more, sent_front, sent_begun, sent_text, sent_writer, sent_reads}
use Rattle.edr_send.proofs.StackTiles.{range_rest, range_done, range_none, range_all, times_apart}
use Rattle.edr_send.proofs.WriterSteps.{lent_on}
use Rattle.edr_send.specs.Filling.{grid_of}
use Rattle.edr_send.proofs.stack_streams.write_times.Goals as goal

pub loop-i-init : goal.loop-i-init
loop-i-init g c =
    let shape : GridShape = c.args.stacking.now.shape in
    let subject : Subject = c.args.store.now.subject in
    let p : ℕ = c.args.parameter in
    let stack : StackValue = c.args.stacking.now.stack in
    let n : ℕ = length stack.sides.times in
    let cells_of : ℕ → Cells = cells_of_time stack in
    let whole : Cells = flat_map cells_of (range_with_len 0 n) in
    record {
      sent = sent_none shape subject p whole c.args.writer.now (g.K.Sink.written c.args.sink.now) c.args.store.now.numbers [] (flat_map cells_of (range_with_len 0 (n - 0))) refl (range_all cells_of n);
      subject = refl;
      lent = search rules;
    }

pub write_levels-requires-clause-room : goal.write_levels-requires-clause-room
write_levels-requires-clause-room g c =
    let shape : GridShape = c.args.stacking.now.shape in
    let subject : Subject = c.args.store.now.subject in
    let p : ℕ = c.args.parameter in
    let stack : StackValue = c.args.stacking.now.stack in
    let n : ℕ = length stack.sides.times in
    let cells_of : ℕ → Cells = cells_of_time stack in
    let whole : Cells = flat_map cells_of (range_with_len 0 n) in
    let k : ℕ = c.loop-i.i in
    let done : Cells = flat_map cells_of (range_with_len 0 k) in
    let rest : Cells = flat_map cells_of (range_with_len k (n - k)) in
    let inside : k < n = search rules in
    let piece : Cells = cells_of k in
    let later : Cells = flat_map cells_of (range_with_len (k + 1) (n - (k + 1))) in
    sent_room shape subject p whole c.args.writer.now (g.K.Sink.written c.args.sink.now) c.args.store.now.numbers done rest piece later c.loop-i.writer (g.K.Sink.written c.loop-i.sink) c.loop-i.store.numbers c.loop-i.invariant.sent (range_rest cells_of k n inside) c.requires.room

pub loop-i-preserved : goal.loop-i-preserved
loop-i-preserved g c =
    let shape : GridShape = c.args.stacking.now.shape in
    let subject : Subject = c.args.store.now.subject in
    let p : ℕ = c.args.parameter in
    let stack : StackValue = c.args.stacking.now.stack in
    let n : ℕ = length stack.sides.times in
    let cells_of : ℕ → Cells = cells_of_time stack in
    let whole : Cells = flat_map cells_of (range_with_len 0 n) in
    let k : ℕ = c.loop-i.i in
    let done : Cells = flat_map cells_of (range_with_len 0 k) in
    let rest : Cells = flat_map cells_of (range_with_len k (n - k)) in
    let inside : k < n = search rules in
    let piece : Cells = cells_of k in
    let later : Cells = flat_map cells_of (range_with_len (k + 1) (n - (k + 1))) in
    let next : Cells = flat_map cells_of (range_with_len 0 (k + 1)) in
    record {
      sent = sent_more shape subject p whole c.args.writer.now (g.K.Sink.written c.args.sink.now) c.args.store.now.numbers done next rest piece later c.loop-i.writer c.write_levels.new.writer (g.K.Sink.written c.loop-i.sink) (g.K.Sink.written c.write_levels.new.sink) c.loop-i.store.numbers c.write_levels.new.store.numbers c.loop-i.store.subject
          c.loop-i.invariant.sent (range_rest cells_of k n inside) (range_done cells_of k) (times_apart shape stack c.stacking_stands.ensures.is.stack (c.tiles_are_numbered.ensures shape) p c.requires.parameter k (omega (arith, inside))) c.loop-i.invariant.subject c.in_ok-write_levels.ensures.bytes.whole c.in_ok-write_levels.ensures.writer c.in_ok-write_levels.ensures.reads.all;
      subject = c.write_levels.ensures.subject ∙ c.loop-i.invariant.subject;
      lent = lent_on c.loop-i.invariant.lent c.write_levels.ensures.lent;
    }

pub returns-in_err-write_levels-clause-bytes : goal.returns-in_err-write_levels-clause-bytes
returns-in_err-write_levels-clause-bytes g c =
    let shape : GridShape = c.args.stacking.now.shape in
    let subject : Subject = c.args.store.now.subject in
    let p : ℕ = c.args.parameter in
    let stack : StackValue = c.args.stacking.now.stack in
    let n : ℕ = length stack.sides.times in
    let cells_of : ℕ → Cells = cells_of_time stack in
    let whole : Cells = flat_map cells_of (range_with_len 0 n) in
    let k : ℕ = c.loop-i.i in
    let done : Cells = flat_map cells_of (range_with_len 0 k) in
    let rest : Cells = flat_map cells_of (range_with_len k (n - k)) in
    let inside : k < n = search rules in
    let piece : Cells = cells_of k in
    let later : Cells = flat_map cells_of (range_with_len (k + 1) (n - (k + 1))) in
    writes_fault c.from_residual.result (text_from c.args.writer.now.values subject p whole) (g.K.Sink.written c.args.sink.now) (g.K.Sink.written c.write_levels.new.sink) (search rules)
    (sent_front shape subject p whole c.args.writer.now (g.K.Sink.written c.args.sink.now) c.args.store.now.numbers done rest piece later c.loop-i.writer (g.K.Sink.written c.loop-i.sink) (g.K.Sink.written c.write_levels.new.sink) c.loop-i.store.numbers c.loop-i.store.subject c.loop-i.invariant.sent (range_rest cells_of k n inside) c.loop-i.invariant.subject c.write_levels.ensures.bytes.front)

pub returns-in_err-write_levels-clause-reads : goal.returns-in_err-write_levels-clause-reads
returns-in_err-write_levels-clause-reads g c =
    let shape : GridShape = c.args.stacking.now.shape in
    let subject : Subject = c.args.store.now.subject in
    let p : ℕ = c.args.parameter in
    let stack : StackValue = c.args.stacking.now.stack in
    let n : ℕ = length stack.sides.times in
    let cells_of : ℕ → Cells = cells_of_time stack in
    let whole : Cells = flat_map cells_of (range_with_len 0 n) in
    let k : ℕ = c.loop-i.i in
    let done : Cells = flat_map cells_of (range_with_len 0 k) in
    let rest : Cells = flat_map cells_of (range_with_len k (n - k)) in
    let inside : k < n = search rules in
    let piece : Cells = cells_of k in
    let later : Cells = flat_map cells_of (range_with_len (k + 1) (n - (k + 1))) in
    let next : Cells = flat_map cells_of (range_with_len 0 (k + 1)) in
    sent_begun shape subject p whole c.args.writer.now (g.K.Sink.written c.args.sink.now) c.args.store.now.numbers c.from_residual.result done next rest piece later c.loop-i.writer (g.K.Sink.written c.loop-i.sink) c.loop-i.store.numbers c.write_levels.new.store.numbers (search rules)
    c.loop-i.invariant.sent (range_rest cells_of k n inside) (range_done cells_of k) (times_apart shape stack c.stacking_stands.ensures.is.stack (c.tiles_are_numbered.ensures shape) p c.requires.parameter k (omega (arith, inside))) (times_apart shape stack c.stacking_stands.ensures.is.stack (c.tiles_are_numbered.ensures shape) p c.requires.parameter (k + 1) (omega (arith, inside))) c.write_levels.ensures.reads.begun

pub returns-clause-bytes : goal.returns-clause-bytes
returns-clause-bytes g c =
    let shape : GridShape = c.args.stacking.now.shape in
    let subject : Subject = c.args.store.now.subject in
    let p : ℕ = c.args.parameter in
    let stack : StackValue = c.args.stacking.now.stack in
    let n : ℕ = length stack.sides.times in
    let cells_of : ℕ → Cells = cells_of_time stack in
    let whole : Cells = flat_map cells_of (range_with_len 0 n) in
    let k : ℕ = c.loop-i.i in
    let done : Cells = flat_map cells_of (range_with_len 0 k) in
    let rest : Cells = flat_map cells_of (range_with_len k (n - k)) in
    let past : n ≤ k = search rules in
    sent_text shape subject p whole c.args.writer.now (g.K.Sink.written c.args.sink.now) c.args.store.now.numbers _ done rest c.loop-i.writer (g.K.Sink.written c.loop-i.sink) c.loop-i.store.numbers c.loop-i.invariant.sent (range_none cells_of k n past)

pub returns-clause-writer : goal.returns-clause-writer
returns-clause-writer g c =
    let shape : GridShape = c.args.stacking.now.shape in
    let subject : Subject = c.args.store.now.subject in
    let p : ℕ = c.args.parameter in
    let stack : StackValue = c.args.stacking.now.stack in
    let n : ℕ = length stack.sides.times in
    let cells_of : ℕ → Cells = cells_of_time stack in
    let whole : Cells = flat_map cells_of (range_with_len 0 n) in
    let k : ℕ = c.loop-i.i in
    let done : Cells = flat_map cells_of (range_with_len 0 k) in
    let rest : Cells = flat_map cells_of (range_with_len k (n - k)) in
    let past : n ≤ k = search rules in
    sent_writer shape subject p whole c.args.writer.now (g.K.Sink.written c.args.sink.now) c.args.store.now.numbers done rest c.loop-i.writer (g.K.Sink.written c.loop-i.sink) c.loop-i.store.numbers c.loop-i.invariant.sent (range_none cells_of k n past)

pub returns-clause-reads : goal.returns-clause-reads
returns-clause-reads g c =
    let shape : GridShape = c.args.stacking.now.shape in
    let subject : Subject = c.args.store.now.subject in
    let p : ℕ = c.args.parameter in
    let stack : StackValue = c.args.stacking.now.stack in
    let n : ℕ = length stack.sides.times in
    let cells_of : ℕ → Cells = cells_of_time stack in
    let whole : Cells = flat_map cells_of (range_with_len 0 n) in
    let k : ℕ = c.loop-i.i in
    let done : Cells = flat_map cells_of (range_with_len 0 k) in
    let rest : Cells = flat_map cells_of (range_with_len k (n - k)) in
    let past : n ≤ k = search rules in
    sent_reads shape subject p whole c.args.writer.now (g.K.Sink.written c.args.sink.now) c.args.store.now.numbers _ done rest c.loop-i.writer (g.K.Sink.written c.loop-i.sink) c.loop-i.store.numbers c.loop-i.invariant.sent (range_none cells_of k n past)

pub write_levels-requires-clause-grid : goal.write_levels-requires-clause-grid
write_levels-requires-clause-grid g c = c.requires.grid ∙ ap (λ (s : Subject). (grid_of s.held).shape) (sym c.loop-i.invariant.subject)
