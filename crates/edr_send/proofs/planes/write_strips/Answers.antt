use Rattle.std.proofs.Common.{rules, ◌≡◌, ◌+◌, ◌-◌, ◌/◌, ◌%◌, ◌*◌, ◌<◌, ◌≤◌, ℕ, ap, sym, ◌∙◌, refl, arith, ◌^◌}
use Rattle.std.specs.Prelude.{min}
use Rattle.edr_chunk.specs.declared.shapes.GridShape.{GridShape}
use Rattle.edr_edition.specs.Stores.{Subject}
use Rattle.edr_select.specs.Framings.{FrameValue, strip_cells, plane_cells}
use Rattle.edr_send.proofs.TextSteps.{writes_fault}
use Rattle.edr_send.proofs.FrameSteps.{Cells, text_from, sent_none, sent_room, sent_more, sent_front, sent_begun, sent_text, sent_writer, sent_reads}
use Rattle.edr_send.proofs.FrameTiles.{edge, strip_rest, strip_done, no_strip, strips_apart}
use Rattle.edr_send.specs.Strips.{HasRows}
use Rattle.edr_send.specs.Filling.{grid_of}
use Rattle.edr_send.proofs.WriterSteps.{lent_on}
use Rattle.covjson_write.specs.Writers.{WriterValue}
use Rattle.edr_base.specs.Limits.{node_limit}
use Rattle.edr_send.proofs.planes.write_strips.Goals as goal

strip_start : (frame : FrameValue) (t z a : ℕ) → a ≡ frame.row → strip_cells frame t z a (frame.row + frame.rows - a) ≡ plane_cells frame t z
strip_start frame t z a e = ap (λ (k : ℕ). strip_cells frame t z k (frame.row + frame.rows - k)) e ∙ ap (strip_cells frame t z frame.row) (all frame.row frame.rows)
  where
    all : (a b : ℕ) → a + b - a ≡ b
    all a b = omega arith

-- where a row of tiles begins in a frame
rows_between : (frame : FrameValue) (down from to : ℕ) → from ≡ edge frame down → to ≡ edge frame (down + 1) → HasRows frame from to
rows_between frame down from to e f = record { low = omega arith; order = omega arith; high = omega arith }

one_row : (frame : FrameValue) (row rows last down from to : ℕ) → row ≡ frame.row → rows ≡ frame.rows → last ≡ (row + rows) / 64 + min 1 ((row + rows) % 64) → down < last → from ≡ edge frame down → to ≡ edge frame (down + 1) → to ≤ from / 64 * 64 + 64
one_row frame row rows last down from to same_row same_rows is before e f = omega arith

first_edge : (frame : FrameValue) (row : ℕ) → row ≡ frame.row → edge frame (row / 64) ≡ frame.row
first_edge frame row same = omega arith

no_row_before : (frame : FrameValue) (row : ℕ) → row ≡ frame.row → edge frame (row / 64) ≤ frame.row
no_row_before frame row same = omega arith

last_edge : (frame : FrameValue) (row rows last down : ℕ) → row ≡ frame.row → rows ≡ frame.rows → last ≡ (row + rows) / 64 + min 1 ((row + rows) % 64) → last ≤ down → frame.row + frame.rows ≤ edge frame down
last_edge frame row rows last down same_row same_rows is past = omega arith

few_rows : (first many rows : ℕ) → first + many ≤ rows → rows ≤ node_limit → first + many < 2 ^ 32
few_rows first many rows inside small = omega arith

few_strips : (frame : FrameValue) (row rows last down many : ℕ) → row ≡ frame.row → rows ≡ frame.rows → last ≡ (row + rows) / 64 + min 1 ((row + rows) % 64) → frame.row + frame.rows ≤ many → many ≤ node_limit → down < last → down + 1 < 2 ^ 26
few_strips frame row rows last down many same_row same_rows is inside small before = omega arith

below_next : (a n : ℕ) → a + 1 < n → a < n
below_next a n below = omega arith

at_most_itself : (a : ℕ) → a ≤ a
at_most_itself a = omega arith

pub loop-down-init : goal.loop-down-init
loop-down-init g c =
    let shape : GridShape = c.args.shape in
    let subject : Subject = c.args.store.now.subject in
    let p : ℕ = c.args.layer.parameter in
    let frame : FrameValue = c.args.frame.now in
    let t : ℕ = c.args.layer.t in
    let z : ℕ = c.args.layer.z in
    let whole : Cells = plane_cells frame t z in
    let end : ℕ = frame.row + frame.rows in
    let same_row : c.frame.inside.row ≡ frame.row = ap (λ (v : FrameValue). v.row) c.frame.view_is in
    let first : ℕ = edge frame (c.frame.inside.row / 64) in
    record {
      sent = sent_none shape subject p whole c.args.writer.now (g.K.Sink.written c.args.sink.now) c.args.store.now.numbers (strip_cells frame t z frame.row (first - frame.row)) (strip_cells frame t z first (end - first)) (no_strip frame t z frame.row first (no_row_before frame c.frame.inside.row same_row)) (strip_start frame t z first (first_edge frame c.frame.inside.row same_row));
      subject = refl;
      lent = record { same = refl; later = at_most_itself (g.K.Faults.faults c.args.sink.now) };
    }

pub write_strip-requires-clause-room : goal.write_strip-requires-clause-room
write_strip-requires-clause-room g c =
    let shape : GridShape = c.args.shape in
    let subject : Subject = c.args.store.now.subject in
    let p : ℕ = c.args.layer.parameter in
    let frame : FrameValue = c.args.frame.now in
    let t : ℕ = c.args.layer.t in
    let z : ℕ = c.args.layer.z in
    let whole : Cells = plane_cells frame t z in
    let end : ℕ = frame.row + frame.rows in
    let down : ℕ = c.loop-down.down in
    let done : Cells = strip_cells frame t z frame.row (edge frame down - frame.row) in
    let rest : Cells = strip_cells frame t z (edge frame down) (end - edge frame down) in
    let from : ℕ = c.strip_edge-from.result in
    let to : ℕ = c.strip_edge-to.result in
    let from_is : from ≡ edge frame down = c.strip_edge-from.ensures in
    let to_is : to ≡ edge frame (down + 1) = c.strip_edge-to.ensures in
    let rows : HasRows frame from to = rows_between frame down from to from_is to_is in
    let piece : Cells = strip_cells frame t z from (to - from) in
    let later : Cells = strip_cells frame t z (edge frame (down + 1)) (end - edge frame (down + 1)) in
    sent_room shape subject p whole c.args.writer.now (g.K.Sink.written c.args.sink.now) c.args.store.now.numbers done rest piece later c.loop-down.writer (g.K.Sink.written c.loop-down.sink) c.loop-down.store.numbers c.loop-down.invariant.sent (strip_rest frame t z (edge frame down) (edge frame (down + 1)) from to end from_is to_is rows.order rows.high) c.requires.room

pub loop-down-preserved : goal.loop-down-preserved
loop-down-preserved g c =
    let shape : GridShape = c.args.shape in
    let subject : Subject = c.args.store.now.subject in
    let p : ℕ = c.args.layer.parameter in
    let frame : FrameValue = c.args.frame.now in
    let t : ℕ = c.args.layer.t in
    let z : ℕ = c.args.layer.z in
    let whole : Cells = plane_cells frame t z in
    let end : ℕ = frame.row + frame.rows in
    let down : ℕ = c.loop-down.down in
    let done : Cells = strip_cells frame t z frame.row (edge frame down - frame.row) in
    let rest : Cells = strip_cells frame t z (edge frame down) (end - edge frame down) in
    let from : ℕ = c.strip_edge-from.result in
    let to : ℕ = c.strip_edge-to.result in
    let from_is : from ≡ edge frame down = c.strip_edge-from.ensures in
    let to_is : to ≡ edge frame (down + 1) = c.strip_edge-to.ensures in
    let rows : HasRows frame from to = rows_between frame down from to from_is to_is in
    let piece : Cells = strip_cells frame t z from (to - from) in
    let later : Cells = strip_cells frame t z (edge frame (down + 1)) (end - edge frame (down + 1)) in
    let next : Cells = strip_cells frame t z frame.row (edge frame (down + 1) - frame.row) in
    record {
      sent = sent_more shape subject p whole c.args.writer.now (g.K.Sink.written c.args.sink.now) c.args.store.now.numbers done next rest piece later c.loop-down.writer c.write_strip.new.writer (g.K.Sink.written c.loop-down.sink) (g.K.Sink.written c.write_strip.new.sink) c.loop-down.store.numbers c.write_strip.new.store.numbers c.loop-down.store.subject
          c.loop-down.invariant.sent (strip_rest frame t z (edge frame down) (edge frame (down + 1)) from to end from_is to_is rows.order rows.high) (strip_done frame t z frame.row (edge frame down) (edge frame (down + 1)) from to from_is to_is rows.low rows.order) (strips_apart shape (c.tiles_are_numbered.ensures shape) frame c.requires.frame p c.requires.parameter t z down c.requires.t c.requires.z) c.loop-down.invariant.subject c.in_ok-write_strip.ensures.bytes.whole c.in_ok-write_strip.ensures.writer c.in_ok-write_strip.ensures.reads.all;
      subject = c.write_strip.ensures.subject ∙ c.loop-down.invariant.subject;
      lent = lent_on c.loop-down.invariant.lent c.write_strip.ensures.lent;
    }

pub returns-in_err-write_strip-clause-bytes : goal.returns-in_err-write_strip-clause-bytes
returns-in_err-write_strip-clause-bytes g c =
    let shape : GridShape = c.args.shape in
    let subject : Subject = c.args.store.now.subject in
    let p : ℕ = c.args.layer.parameter in
    let frame : FrameValue = c.args.frame.now in
    let t : ℕ = c.args.layer.t in
    let z : ℕ = c.args.layer.z in
    let whole : Cells = plane_cells frame t z in
    let end : ℕ = frame.row + frame.rows in
    let down : ℕ = c.loop-down.down in
    let done : Cells = strip_cells frame t z frame.row (edge frame down - frame.row) in
    let rest : Cells = strip_cells frame t z (edge frame down) (end - edge frame down) in
    let from : ℕ = c.strip_edge-from.result in
    let to : ℕ = c.strip_edge-to.result in
    let from_is : from ≡ edge frame down = c.strip_edge-from.ensures in
    let to_is : to ≡ edge frame (down + 1) = c.strip_edge-to.ensures in
    let rows : HasRows frame from to = rows_between frame down from to from_is to_is in
    let piece : Cells = strip_cells frame t z from (to - from) in
    let later : Cells = strip_cells frame t z (edge frame (down + 1)) (end - edge frame (down + 1)) in
    writes_fault c.from_residual.result (text_from c.args.writer.now.values subject p whole) (g.K.Sink.written c.args.sink.now) (g.K.Sink.written c.write_strip.new.sink) (search rules)
    (sent_front shape subject p whole c.args.writer.now (g.K.Sink.written c.args.sink.now) c.args.store.now.numbers done rest piece later c.loop-down.writer (g.K.Sink.written c.loop-down.sink) (g.K.Sink.written c.write_strip.new.sink) c.loop-down.store.numbers c.loop-down.store.subject c.loop-down.invariant.sent (strip_rest frame t z (edge frame down) (edge frame (down + 1)) from to end from_is to_is rows.order rows.high) c.loop-down.invariant.subject c.write_strip.ensures.bytes.front)

pub returns-in_err-write_strip-clause-reads : goal.returns-in_err-write_strip-clause-reads
returns-in_err-write_strip-clause-reads g c =
    let shape : GridShape = c.args.shape in
    let subject : Subject = c.args.store.now.subject in
    let p : ℕ = c.args.layer.parameter in
    let frame : FrameValue = c.args.frame.now in
    let t : ℕ = c.args.layer.t in
    let z : ℕ = c.args.layer.z in
    let whole : Cells = plane_cells frame t z in
    let end : ℕ = frame.row + frame.rows in
    let down : ℕ = c.loop-down.down in
    let done : Cells = strip_cells frame t z frame.row (edge frame down - frame.row) in
    let rest : Cells = strip_cells frame t z (edge frame down) (end - edge frame down) in
    let from : ℕ = c.strip_edge-from.result in
    let to : ℕ = c.strip_edge-to.result in
    let from_is : from ≡ edge frame down = c.strip_edge-from.ensures in
    let to_is : to ≡ edge frame (down + 1) = c.strip_edge-to.ensures in
    let rows : HasRows frame from to = rows_between frame down from to from_is to_is in
    let piece : Cells = strip_cells frame t z from (to - from) in
    let later : Cells = strip_cells frame t z (edge frame (down + 1)) (end - edge frame (down + 1)) in
    let next : Cells = strip_cells frame t z frame.row (edge frame (down + 1) - frame.row) in
    sent_begun shape subject p whole c.args.writer.now (g.K.Sink.written c.args.sink.now) c.args.store.now.numbers c.from_residual.result done next rest piece later c.loop-down.writer (g.K.Sink.written c.loop-down.sink) c.loop-down.store.numbers c.write_strip.new.store.numbers (search rules)
    c.loop-down.invariant.sent (strip_rest frame t z (edge frame down) (edge frame (down + 1)) from to end from_is to_is rows.order rows.high) (strip_done frame t z frame.row (edge frame down) (edge frame (down + 1)) from to from_is to_is rows.low rows.order) (strips_apart shape (c.tiles_are_numbered.ensures shape) frame c.requires.frame p c.requires.parameter t z down c.requires.t c.requires.z) (strips_apart shape (c.tiles_are_numbered.ensures shape) frame c.requires.frame p c.requires.parameter t z (down + 1) c.requires.t c.requires.z) c.write_strip.ensures.reads.begun

pub returns-clause-bytes : goal.returns-clause-bytes
returns-clause-bytes g c =
    let shape : GridShape = c.args.shape in
    let subject : Subject = c.args.store.now.subject in
    let p : ℕ = c.args.layer.parameter in
    let frame : FrameValue = c.args.frame.now in
    let t : ℕ = c.args.layer.t in
    let z : ℕ = c.args.layer.z in
    let whole : Cells = plane_cells frame t z in
    let end : ℕ = frame.row + frame.rows in
    let same_row : c.frame.inside.row ≡ frame.row = ap (λ (v : FrameValue). v.row) c.frame.view_is in
    let same_rows : c.frame.inside.rows ≡ frame.rows = ap (λ (v : FrameValue). v.rows) c.frame.view_is in
    let down : ℕ = c.loop-down.down in
    let done : Cells = strip_cells frame t z frame.row (edge frame down - frame.row) in
    let rest : Cells = strip_cells frame t z (edge frame down) (end - edge frame down) in
    let past : end ≤ edge frame down = last_edge frame c.frame.inside.row c.frame.inside.rows c.div_ceil-down-end.result down same_row same_rows c.div_ceil-down-end.ensures c.loop-down-test.false in
    sent_text shape subject p whole c.args.writer.now (g.K.Sink.written c.args.sink.now) c.args.store.now.numbers _ done rest c.loop-down.writer (g.K.Sink.written c.loop-down.sink) c.loop-down.store.numbers c.loop-down.invariant.sent (no_strip frame t z (edge frame down) end past)

pub returns-clause-writer : goal.returns-clause-writer
returns-clause-writer g c =
    let shape : GridShape = c.args.shape in
    let subject : Subject = c.args.store.now.subject in
    let p : ℕ = c.args.layer.parameter in
    let frame : FrameValue = c.args.frame.now in
    let t : ℕ = c.args.layer.t in
    let z : ℕ = c.args.layer.z in
    let whole : Cells = plane_cells frame t z in
    let end : ℕ = frame.row + frame.rows in
    let same_row : c.frame.inside.row ≡ frame.row = ap (λ (v : FrameValue). v.row) c.frame.view_is in
    let same_rows : c.frame.inside.rows ≡ frame.rows = ap (λ (v : FrameValue). v.rows) c.frame.view_is in
    let down : ℕ = c.loop-down.down in
    let done : Cells = strip_cells frame t z frame.row (edge frame down - frame.row) in
    let rest : Cells = strip_cells frame t z (edge frame down) (end - edge frame down) in
    let past : end ≤ edge frame down = last_edge frame c.frame.inside.row c.frame.inside.rows c.div_ceil-down-end.result down same_row same_rows c.div_ceil-down-end.ensures c.loop-down-test.false in
    sent_writer shape subject p whole c.args.writer.now (g.K.Sink.written c.args.sink.now) c.args.store.now.numbers done rest c.loop-down.writer (g.K.Sink.written c.loop-down.sink) c.loop-down.store.numbers c.loop-down.invariant.sent (no_strip frame t z (edge frame down) end past)

pub returns-clause-reads : goal.returns-clause-reads
returns-clause-reads g c =
    let shape : GridShape = c.args.shape in
    let subject : Subject = c.args.store.now.subject in
    let p : ℕ = c.args.layer.parameter in
    let frame : FrameValue = c.args.frame.now in
    let t : ℕ = c.args.layer.t in
    let z : ℕ = c.args.layer.z in
    let whole : Cells = plane_cells frame t z in
    let end : ℕ = frame.row + frame.rows in
    let same_row : c.frame.inside.row ≡ frame.row = ap (λ (v : FrameValue). v.row) c.frame.view_is in
    let same_rows : c.frame.inside.rows ≡ frame.rows = ap (λ (v : FrameValue). v.rows) c.frame.view_is in
    let down : ℕ = c.loop-down.down in
    let done : Cells = strip_cells frame t z frame.row (edge frame down - frame.row) in
    let rest : Cells = strip_cells frame t z (edge frame down) (end - edge frame down) in
    let past : end ≤ edge frame down = last_edge frame c.frame.inside.row c.frame.inside.rows c.div_ceil-down-end.result down same_row same_rows c.div_ceil-down-end.ensures c.loop-down-test.false in
    sent_reads shape subject p whole c.args.writer.now (g.K.Sink.written c.args.sink.now) c.args.store.now.numbers _ done rest c.loop-down.writer (g.K.Sink.written c.loop-down.sink) c.loop-down.store.numbers c.loop-down.invariant.sent (no_strip frame t z (edge frame down) end past)

pub write_strip-requires-clause-grid : goal.write_strip-requires-clause-grid
write_strip-requires-clause-grid g c = c.requires.grid ∙ ap (λ (s : Subject). (grid_of s.held).shape) (sym c.loop-down.invariant.subject)

pub write_strip-requires-clause-rows : goal.write_strip-requires-clause-rows
write_strip-requires-clause-rows g c = rows_between c.args.frame.now c.loop-down.down c.strip_edge-from.result c.strip_edge-to.result c.strip_edge-from.ensures c.strip_edge-to.ensures

pub write_strip-requires-clause-one : goal.write_strip-requires-clause-one
write_strip-requires-clause-one g c =
    let frame : FrameValue = c.args.frame.now in
    let same_row : c.frame.inside.row ≡ frame.row = ap (λ (v : FrameValue). v.row) c.frame.view_is in
    let same_rows : c.frame.inside.rows ≡ frame.rows = ap (λ (v : FrameValue). v.rows) c.frame.view_is in
    one_row frame c.frame.inside.row c.frame.inside.rows c.div_ceil-down-end.result c.loop-down.down c.strip_edge-from.result c.strip_edge-to.result same_row same_rows c.div_ceil-down-end.ensures c.loop-down-test.true c.strip_edge-from.ensures c.strip_edge-to.ensures

pub write_strip-requires-clause-open : goal.write_strip-requires-clause-open
write_strip-requires-clause-open g c = ap (λ (s : WriterValue). s.stage) c.loop-down.invariant.sent.writer ∙ c.requires.open

pub strip_edge-from-requires-clause-rows : goal.strip_edge-from-requires-clause-rows
strip_edge-from-requires-clause-rows g c =
    let shape : GridShape = c.args.shape in
    let frame : FrameValue = c.args.frame.now in
    few_rows frame.row frame.rows shape.rows c.requires.frame.rows (c.sides_are_small.ensures shape c.requires.shape).rows

pub strip_edge-to-requires-clause-rows : goal.strip_edge-to-requires-clause-rows
strip_edge-to-requires-clause-rows g c =
    let shape : GridShape = c.args.shape in
    let frame : FrameValue = c.args.frame.now in
    few_rows frame.row frame.rows shape.rows c.requires.frame.rows (c.sides_are_small.ensures shape c.requires.shape).rows

pub strip_edge-to-requires-clause-down : goal.strip_edge-to-requires-clause-down
strip_edge-to-requires-clause-down g c =
    let shape : GridShape = c.args.shape in
    let frame : FrameValue = c.args.frame.now in
    let same_row : c.frame.inside.row ≡ frame.row = ap (λ (v : FrameValue). v.row) c.frame.view_is in
    let same_rows : c.frame.inside.rows ≡ frame.rows = ap (λ (v : FrameValue). v.rows) c.frame.view_is in
    few_strips frame c.frame.inside.row c.frame.inside.rows c.div_ceil-down-end.result c.loop-down.down shape.rows same_row same_rows c.div_ceil-down-end.ensures c.requires.frame.rows (c.sides_are_small.ensures shape c.requires.shape).rows c.loop-down-test.true

pub strip_edge-from-requires-clause-down : goal.strip_edge-from-requires-clause-down
strip_edge-from-requires-clause-down g c =
    let shape : GridShape = c.args.shape in
    let frame : FrameValue = c.args.frame.now in
    let same_row : c.frame.inside.row ≡ frame.row = ap (λ (v : FrameValue). v.row) c.frame.view_is in
    let same_rows : c.frame.inside.rows ≡ frame.rows = ap (λ (v : FrameValue). v.rows) c.frame.view_is in
    below_next c.loop-down.down (2 ^ 26) (few_strips frame c.frame.inside.row c.frame.inside.rows c.div_ceil-down-end.result c.loop-down.down shape.rows same_row same_rows c.div_ceil-down-end.ensures c.requires.frame.rows (c.sides_are_small.ensures shape c.requires.shape).rows c.loop-down-test.true)
