use Rattle.std.proofs.Common.{rules, ◌≡◌, ℕ, List, [], ◌∷◌, get_or, ap, sym, subst, ◌∙◌, refl}
use Rattle.edr_base.specs.Calls.{Writes}
use Rattle.covjson_value.specs.declared.coverages.NdArray.{NdArray}
use Rattle.covjson_write.specs.Pieces.{values_from}
use Rattle.edr_chunk.specs.Grids as chunk
use Rattle.edr_chunk.specs.Tiles.{tiles}
use Rattle.edr_select.specs.Samples.{ascending_once}
use Rattle.edr_select.specs.Listings.{tiles_of_range}
use Rattle.edr_select.specs.Framings.{FramingValue, frame_cells, taken, framed_range, framed_coverage}
use Rattle.edr_send.specs.Filling.{grid_of}
use Rattle.edr_send.specs.Forms.{framing_sent}
use Rattle.edr_send.specs.SentReplies.{chunks_at}
use Rattle.edr_send.proofs.Additions.{adds_same}
use Rattle.edr_send.proofs.FormSteps.{only, range_is, chunks_are}
use Rattle.edr_send.proofs.frame_streams.FramingCoverages.send_values.Goals as goal

pub returns-clause-bytes : goal.returns-clause-bytes
returns-clause-bytes g c =
    let plan : FramingValue = c.args.self.now in
    let held = c.args.store.now.subject.held in
    let grid : chunk.Values = grid_of held in
    let j : ℕ = c.args.place.range in
    let listed : c.items.result.now ≡ plan.parameters = search rules in
    subst (λ (range : NdArray). Writes c.write_times.result (values_from 0 range.values) (g.K.Sink.written c.args.sink.now) (g.K.Sink.written c.write_times.new.sink))
    (ap (framed_range grid plan.frame) (c.parameter_at-parameter.ensures ∙ ap (λ (ps : List ℕ). get_or ps j 0) listed) ∙ sym (range_is (λ (k : ℕ). framed_coverage grid plan) (λ (k : ℕ). framed_range grid plan.frame) plan.parameters (0 ∷ []) (λ k. refl) (framing_sent plan held) refl c.args.place.coverage j c.args.writer.now.head.count c.requires.range 0 (only c.args.place.coverage c.requires.range.coverage)))
    (subst (λ (n : ℕ). Writes c.write_times.result (values_from n (framed_range grid plan.frame c.parameter_at-parameter.result).values) (g.K.Sink.written c.args.sink.now) (g.K.Sink.written c.write_times.new.sink)) c.requires.none c.write_times.ensures.bytes)

pub returns-clause-reads : goal.returns-clause-reads
returns-clause-reads g c =
    let plan : FramingValue = c.args.self.now in
    let held = c.args.store.now.subject.held in
    let grid : chunk.Values = grid_of held in
    let j : ℕ = c.args.place.range in
    let listed : c.items.result.now ≡ plan.parameters = search rules in
    let b : ℕ → List ℕ = tiles_of_range plan.shape (taken (frame_cells plan.frame)) in
    adds_same c.write_times.result (ascending_once (tiles plan.shape) (b c.parameter_at-parameter.result)) (chunks_at (framing_sent plan held) c.args.place.coverage j) c.args.store.now.numbers c.write_times.new.store.numbers
    (ap (λ (p : ℕ). ascending_once (tiles plan.shape) (b p)) (c.parameter_at-parameter.ensures ∙ ap (λ (ps : List ℕ). get_or ps j 0) listed)
    ∙ sym (chunks_are (λ (k : ℕ). framed_coverage grid plan) (λ (k : ℕ). framed_range grid plan.frame) plan.parameters (0 ∷ []) (λ k. refl) (framing_sent plan held) refl c.args.place.coverage j c.args.writer.now.head.count c.requires.range 0 (only c.args.place.coverage c.requires.range.coverage) (tiles plan.shape) (λ (k : ℕ). b) refl))
    c.write_times.ensures.reads
