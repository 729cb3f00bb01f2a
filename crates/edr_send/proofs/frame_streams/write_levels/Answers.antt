use Rattle.std.proofs.Common.{rules, ◌≡◌, ◌+◌, ◌<◌, ◌≤◌, ℕ, List, [], length, take, drop, get_or, ap, sym, subst, ◌∙◌, refl, arith}
use Rattle.std.specs.List.{flat_map}
use Rattle.std.proofs.lemmas.List.{drop_all}
use Rattle.std.proofs.lemmas.List.Elements.{All-get_or}
use Rattle.edr_chunk.specs.declared.shapes.GridShape.{GridShape}
use Rattle.edr_edition.specs.Stores.{Subject}
use Rattle.edr_select.specs.Framings.{FrameValue, plane_cells}
use Rattle.edr_send.proofs.TextSteps.{writes_fault}
use Rattle.edr_send.proofs.FrameSteps.{Cells, text_from, sent_none, sent_room, sent_more, sent_front, sent_begun, sent_text, sent_writer, sent_reads}
use Rattle.edr_send.proofs.FrameTiles.{flat_take, flat_drop, levels_apart}
use Rattle.edr_send.proofs.WriterSteps.{lent_on}
use Rattle.edr_send.specs.Filling.{grid_of}
use Rattle.edr_send.proofs.frame_streams.write_levels.Goals as goal

pub overflow_cast-z : goal.overflow_cast-z
overflow_cast-z g c =
    let shape : GridShape = c.args.framing.now.shape in
    let xs : List ℕ = c.args.framing.now.frame.levels in
    let k : ℕ = c.loop-place.place in
    let listed : c.items-levels.result.now ≡ xs = search rules in
    let inside : k < length xs = search rules in
    let low : get_or c.items-levels.result.now k 0 < shape.levels = subst (λ (ys : List ℕ). get_or ys k 0 < shape.levels) (sym listed) (All-get_or (λ x. x < shape.levels) xs k 0 inside c.framing_stands.ensures.is.frame.levels) in
    let small = (c.sides_are_small.ensures shape c.framing_stands.ensures.is.shape).levels in
    omega (arith, low, small)

pub loop-place-init : goal.loop-place-init
loop-place-init g c =
    let shape : GridShape = c.args.framing.now.shape in
    let subject : Subject = c.args.store.now.subject in
    let p : ℕ = c.args.parameter in
    let frame : FrameValue = c.args.framing.now.frame in
    let xs : List ℕ = frame.levels in
    let cells_of : ℕ → Cells = λ (z : ℕ). plane_cells frame c.args.t z in
    let whole : Cells = flat_map cells_of xs in
    record {
      sent = sent_none shape subject p whole c.args.writer.now (g.K.Sink.written c.args.sink.now) c.args.store.now.numbers [] whole refl refl;
      subject = refl;
      lent = search rules;
    }

pub write_plane-requires-clause-room : goal.write_plane-requires-clause-room
write_plane-requires-clause-room g c =
    let shape : GridShape = c.args.framing.now.shape in
    let subject : Subject = c.args.store.now.subject in
    let p : ℕ = c.args.parameter in
    let frame : FrameValue = c.args.framing.now.frame in
    let xs : List ℕ = frame.levels in
    let cells_of : ℕ → Cells = λ (z : ℕ). plane_cells frame c.args.t z in
    let whole : Cells = flat_map cells_of xs in
    let k : ℕ = c.loop-place.place in
    let done : Cells = flat_map cells_of (take k xs) in
    let rest : Cells = flat_map cells_of (drop k xs) in
    let listed : c.items-levels.result.now ≡ xs = search rules in
    let inside : k < length xs = search rules in
    let piece : Cells = cells_of (get_or c.items-levels.result.now k 0) in
    let later : Cells = flat_map cells_of (drop (k + 1) xs) in
    sent_room shape subject p whole c.args.writer.now (g.K.Sink.written c.args.sink.now) c.args.store.now.numbers done rest piece later c.loop-place.writer (g.K.Sink.written c.loop-place.sink) c.loop-place.store.numbers c.loop-place.invariant.sent (flat_drop cells_of xs c.items-levels.result.now k 0 listed inside) c.requires.room

pub loop-place-preserved : goal.loop-place-preserved
loop-place-preserved g c =
    let shape : GridShape = c.args.framing.now.shape in
    let subject : Subject = c.args.store.now.subject in
    let p : ℕ = c.args.parameter in
    let frame : FrameValue = c.args.framing.now.frame in
    let xs : List ℕ = frame.levels in
    let cells_of : ℕ → Cells = λ (z : ℕ). plane_cells frame c.args.t z in
    let whole : Cells = flat_map cells_of xs in
    let k : ℕ = c.loop-place.place in
    let done : Cells = flat_map cells_of (take k xs) in
    let rest : Cells = flat_map cells_of (drop k xs) in
    let listed : c.items-levels.result.now ≡ xs = search rules in
    let inside : k < length xs = search rules in
    let piece : Cells = cells_of (get_or c.items-levels.result.now k 0) in
    let later : Cells = flat_map cells_of (drop (k + 1) xs) in
    let next : Cells = flat_map cells_of (take (k + 1) xs) in
    record {
      sent = sent_more shape subject p whole c.args.writer.now (g.K.Sink.written c.args.sink.now) c.args.store.now.numbers done next rest piece later c.loop-place.writer c.write_plane.new.writer (g.K.Sink.written c.loop-place.sink) (g.K.Sink.written c.write_plane.new.sink) c.loop-place.store.numbers c.write_plane.new.store.numbers c.loop-place.store.subject
          c.loop-place.invariant.sent (flat_drop cells_of xs c.items-levels.result.now k 0 listed inside) (flat_take cells_of xs c.items-levels.result.now k 0 listed inside) (levels_apart shape (c.tiles_are_numbered.ensures shape) frame c.framing_stands.ensures.is.frame p c.requires.parameter c.args.t k c.requires.t) c.loop-place.invariant.subject c.in_ok-write_plane.ensures.bytes.whole c.in_ok-write_plane.ensures.writer c.in_ok-write_plane.ensures.reads.all;
      subject = c.write_plane.ensures.subject ∙ c.loop-place.invariant.subject;
      lent = lent_on c.loop-place.invariant.lent c.write_plane.ensures.lent;
    }

pub returns-in_err-write_plane-clause-bytes : goal.returns-in_err-write_plane-clause-bytes
returns-in_err-write_plane-clause-bytes g c =
    let shape : GridShape = c.args.framing.now.shape in
    let subject : Subject = c.args.store.now.subject in
    let p : ℕ = c.args.parameter in
    let frame : FrameValue = c.args.framing.now.frame in
    let xs : List ℕ = frame.levels in
    let cells_of : ℕ → Cells = λ (z : ℕ). plane_cells frame c.args.t z in
    let whole : Cells = flat_map cells_of xs in
    let k : ℕ = c.loop-place.place in
    let done : Cells = flat_map cells_of (take k xs) in
    let rest : Cells = flat_map cells_of (drop k xs) in
    let listed : c.items-levels.result.now ≡ xs = search rules in
    let inside : k < length xs = search rules in
    let piece : Cells = cells_of (get_or c.items-levels.result.now k 0) in
    let later : Cells = flat_map cells_of (drop (k + 1) xs) in
    writes_fault c.from_residual.result (text_from c.args.writer.now.values subject p whole) (g.K.Sink.written c.args.sink.now) (g.K.Sink.written c.write_plane.new.sink) (search rules)
    (sent_front shape subject p whole c.args.writer.now (g.K.Sink.written c.args.sink.now) c.args.store.now.numbers done rest piece later c.loop-place.writer (g.K.Sink.written c.loop-place.sink) (g.K.Sink.written c.write_plane.new.sink) c.loop-place.store.numbers c.loop-place.store.subject c.loop-place.invariant.sent (flat_drop cells_of xs c.items-levels.result.now k 0 listed inside) c.loop-place.invariant.subject c.write_plane.ensures.bytes.front)

pub returns-in_err-write_plane-clause-reads : goal.returns-in_err-write_plane-clause-reads
returns-in_err-write_plane-clause-reads g c =
    let shape : GridShape = c.args.framing.now.shape in
    let subject : Subject = c.args.store.now.subject in
    let p : ℕ = c.args.parameter in
    let frame : FrameValue = c.args.framing.now.frame in
    let xs : List ℕ = frame.levels in
    let cells_of : ℕ → Cells = λ (z : ℕ). plane_cells frame c.args.t z in
    let whole : Cells = flat_map cells_of xs in
    let k : ℕ = c.loop-place.place in
    let done : Cells = flat_map cells_of (take k xs) in
    let rest : Cells = flat_map cells_of (drop k xs) in
    let listed : c.items-levels.result.now ≡ xs = search rules in
    let inside : k < length xs = search rules in
    let piece : Cells = cells_of (get_or c.items-levels.result.now k 0) in
    let later : Cells = flat_map cells_of (drop (k + 1) xs) in
    let next : Cells = flat_map cells_of (take (k + 1) xs) in
    sent_begun shape subject p whole c.args.writer.now (g.K.Sink.written c.args.sink.now) c.args.store.now.numbers c.from_residual.result done next rest piece later c.loop-place.writer (g.K.Sink.written c.loop-place.sink) c.loop-place.store.numbers c.write_plane.new.store.numbers (search rules)
    c.loop-place.invariant.sent (flat_drop cells_of xs c.items-levels.result.now k 0 listed inside) (flat_take cells_of xs c.items-levels.result.now k 0 listed inside) (levels_apart shape (c.tiles_are_numbered.ensures shape) frame c.framing_stands.ensures.is.frame p c.requires.parameter c.args.t k c.requires.t) (levels_apart shape (c.tiles_are_numbered.ensures shape) frame c.framing_stands.ensures.is.frame p c.requires.parameter c.args.t (k + 1) c.requires.t) c.write_plane.ensures.reads.begun

pub returns-clause-bytes : goal.returns-clause-bytes
returns-clause-bytes g c =
    let shape : GridShape = c.args.framing.now.shape in
    let subject : Subject = c.args.store.now.subject in
    let p : ℕ = c.args.parameter in
    let frame : FrameValue = c.args.framing.now.frame in
    let xs : List ℕ = frame.levels in
    let cells_of : ℕ → Cells = λ (z : ℕ). plane_cells frame c.args.t z in
    let whole : Cells = flat_map cells_of xs in
    let k : ℕ = c.loop-place.place in
    let done : Cells = flat_map cells_of (take k xs) in
    let rest : Cells = flat_map cells_of (drop k xs) in
    let past : length xs ≤ k = search rules in
    sent_text shape subject p whole c.args.writer.now (g.K.Sink.written c.args.sink.now) c.args.store.now.numbers _ done rest c.loop-place.writer (g.K.Sink.written c.loop-place.sink) c.loop-place.store.numbers c.loop-place.invariant.sent (ap (flat_map cells_of) (drop_all k xs past))

pub returns-clause-writer : goal.returns-clause-writer
returns-clause-writer g c =
    let shape : GridShape = c.args.framing.now.shape in
    let subject : Subject = c.args.store.now.subject in
    let p : ℕ = c.args.parameter in
    let frame : FrameValue = c.args.framing.now.frame in
    let xs : List ℕ = frame.levels in
    let cells_of : ℕ → Cells = λ (z : ℕ). plane_cells frame c.args.t z in
    let whole : Cells = flat_map cells_of xs in
    let k : ℕ = c.loop-place.place in
    let done : Cells = flat_map cells_of (take k xs) in
    let rest : Cells = flat_map cells_of (drop k xs) in
    let past : length xs ≤ k = search rules in
    sent_writer shape subject p whole c.args.writer.now (g.K.Sink.written c.args.sink.now) c.args.store.now.numbers done rest c.loop-place.writer (g.K.Sink.written c.loop-place.sink) c.loop-place.store.numbers c.loop-place.invariant.sent (ap (flat_map cells_of) (drop_all k xs past))

pub returns-clause-reads : goal.returns-clause-reads
returns-clause-reads g c =
    let shape : GridShape = c.args.framing.now.shape in
    let subject : Subject = c.args.store.now.subject in
    let p : ℕ = c.args.parameter in
    let frame : FrameValue = c.args.framing.now.frame in
    let xs : List ℕ = frame.levels in
    let cells_of : ℕ → Cells = λ (z : ℕ). plane_cells frame c.args.t z in
    let whole : Cells = flat_map cells_of xs in
    let k : ℕ = c.loop-place.place in
    let done : Cells = flat_map cells_of (take k xs) in
    let rest : Cells = flat_map cells_of (drop k xs) in
    let past : length xs ≤ k = search rules in
    sent_reads shape subject p whole c.args.writer.now (g.K.Sink.written c.args.sink.now) c.args.store.now.numbers _ done rest c.loop-place.writer (g.K.Sink.written c.loop-place.sink) c.loop-place.store.numbers c.loop-place.invariant.sent (ap (flat_map cells_of) (drop_all k xs past))

pub write_plane-requires-clause-grid : goal.write_plane-requires-clause-grid
write_plane-requires-clause-grid g c = c.requires.grid ∙ ap (λ (s : Subject). (grid_of s.held).shape) (sym c.loop-place.invariant.subject)
