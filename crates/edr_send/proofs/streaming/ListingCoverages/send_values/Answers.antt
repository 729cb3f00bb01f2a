use Rattle.std.proofs.Common.{rules, ◌≡◌, ℕ, List, length, get_or, ap, sym, subst, ◌∙◌, refl, arith}
use Rattle.std.proofs.lemmas.List.{length-map}
use Rattle.std.proofs.lemmas.List.Elements.{All-get_or}
use Rattle.std.proofs.lemmas.Result.{on_ok_weaker}
use Rattle.edr_base.specs.Calls.{Writes}
use Rattle.covjson_value.specs.declared.coverages.NdArray.{NdArray}
use Rattle.covjson_write.specs.Pieces.{values_from}
use Rattle.covjson_write.specs.Writers.{with_values}
use Rattle.edr_chunk.specs.declared.shapes.GridShape.{GridShape}
use Rattle.edr_chunk.specs.Grids as chunk
use Rattle.edr_chunk.specs.Grids.{value}
use Rattle.edr_chunk.specs.Tiles.{tiles}
use Rattle.edr_select.specs.declared.plans.GridNode.{GridNode}
use Rattle.edr_select.specs.Samples.{ascending_once}
use Rattle.edr_select.specs.Listings.{PlannedValue, ListingValue, coverage_of, range_over, place_at, tiles_of_range}
use Rattle.edr_send.specs.Bands.{BandsRise}
use Rattle.edr_send.specs.Filling.{grid_of}
use Rattle.edr_send.specs.Forms.{listing_sent}
use Rattle.edr_send.specs.SentReplies.{SentReply, chunks_at}
use Rattle.edr_send.proofs.Additions.{adds_same}
use Rattle.edr_send.proofs.FormSteps.{coverage_inside, range_inside, range_is, range_count, chunks_are}
use Rattle.edr_send.proofs.streaming.ListingCoverages.send_values.Goals as goal

pub parameter_at-parameter-requires : goal.parameter_at-parameter-requires
parameter_at-parameter-requires g c =
    let plan : ListingValue = c.args.self.now in
    let grid : chunk.Values = grid_of c.args.store.now.subject.held in
    let planned : PlannedValue = c.index-items-place.result in
    let is : planned ≡ get_or plan.coverages c.args.place.coverage planned = search rules in
    let listed : c.items-2.result.now ≡ plan.parameters = search rules in
    let inside = range_inside (coverage_of grid plan.parameters) (λ (p : PlannedValue). range_over grid p.cells) plan.parameters plan.coverages (λ p. refl) (listing_sent plan c.args.store.now.subject.held) refl c.args.place.coverage c.args.place.range c.args.writer.now.head.count c.requires.range planned is in
    omega (arith, inside, ap length listed)

pub write_runs-requires-clause-rise : goal.write_runs-requires-clause-rise
write_runs-requires-clause-rise g c =
    let plan : ListingValue = c.args.self.now in
    let grid : chunk.Values = grid_of c.args.store.now.subject.held in
    let planned : PlannedValue = c.index-items-place.result in
    let i : ℕ = c.args.place.coverage in
    let is : planned ≡ get_or plan.coverages i planned = search rules in
    let cells : c.items-cells.result.now ≡ planned.cells = search rules in
    let shape : c.self.inside.shape ≡ plan.shape = search rules in
    let inside = coverage_inside (coverage_of grid plan.parameters) (λ (p : PlannedValue). range_over grid p.cells) plan.parameters plan.coverages (λ p. refl) (listing_sent plan c.args.store.now.subject.held) refl i c.args.place.range c.args.writer.now.head.count c.requires.range in
    subst (λ (s : GridShape). BandsRise s c.items-cells.result.now) (sym shape)
    (subst (λ (l : List GridNode). BandsRise plan.shape l) (sym cells)
    (subst (λ (p : PlannedValue). BandsRise plan.shape p.cells) (sym is) (All-get_or (λ (p : PlannedValue). BandsRise plan.shape p.cells) plan.coverages i planned inside c.requires.over.bands)))

pub write_runs-requires-clause-whole : goal.write_runs-requires-clause-whole
write_runs-requires-clause-whole g c =
    let plan : ListingValue = c.args.self.now in
    let grid : chunk.Values = grid_of c.args.store.now.subject.held in
    let planned : PlannedValue = c.index-items-place.result in
    let is : planned ≡ get_or plan.coverages c.args.place.coverage planned = search rules in
    let cells : c.items-cells.result.now ≡ planned.cells = search rules in
    let p : ℕ = get_or plan.parameters c.args.place.range 0 in
    ap length cells ∙ sym (length-map planned.cells (λ cell. value grid (place_at p cell)))
    ∙ range_count (coverage_of grid plan.parameters) (λ (p : PlannedValue). range_over grid p.cells) plan.parameters plan.coverages (λ p. refl) (listing_sent plan c.args.store.now.subject.held) refl c.args.place.coverage c.args.place.range c.args.writer.now.head.count c.requires.range planned is

pub returns-clause-bytes : goal.returns-clause-bytes
returns-clause-bytes g c =
    let plan : ListingValue = c.args.self.now in
    let grid : chunk.Values = grid_of c.args.store.now.subject.held in
    let planned : PlannedValue = c.index-items-place.result in
    let is : planned ≡ get_or plan.coverages c.args.place.coverage planned = search rules in
    let listed : c.items-2.result.now ≡ plan.parameters = search rules in
    let cells : c.items-cells.result.now ≡ planned.cells = search rules in
    let j : ℕ = c.args.place.range in
    subst (λ (range : NdArray). Writes c.write_runs.result (values_from 0 range.values) (g.K.Sink.written c.args.sink.now) (g.K.Sink.written c.write_runs.new.sink))
    (ap (λ (l : List GridNode). range_over grid l (c.parameter_at-parameter.result)) cells
    ∙ ap (range_over grid planned.cells) (c.parameter_at-parameter.ensures ∙ ap (λ (ps : List ℕ). get_or ps j 0) listed)
    ∙ sym (range_is (coverage_of grid plan.parameters) (λ (p : PlannedValue). range_over grid p.cells) plan.parameters plan.coverages (λ p. refl) (listing_sent plan c.args.store.now.subject.held) refl c.args.place.coverage j c.args.writer.now.head.count c.requires.range planned is))
    c.write_runs.ensures.bytes

pub returns-clause-writer : goal.returns-clause-writer
returns-clause-writer g c =
    let plan : ListingValue = c.args.self.now in
    let grid : chunk.Values = grid_of c.args.store.now.subject.held in
    let planned : PlannedValue = c.index-items-place.result in
    let is : planned ≡ get_or plan.coverages c.args.place.coverage planned = search rules in
    let cells : c.items-cells.result.now ≡ planned.cells = search rules in
    let p : ℕ = get_or plan.parameters c.args.place.range 0 in
    let long : length c.items-cells.result.now ≡ c.args.writer.now.head.count =
    ap length cells ∙ sym (length-map planned.cells (λ cell. value grid (place_at p cell)))
    ∙ range_count (coverage_of grid plan.parameters) (λ (p : PlannedValue). range_over grid p.cells) plan.parameters plan.coverages (λ p. refl) (listing_sent plan c.args.store.now.subject.held) refl c.args.place.coverage c.args.place.range c.args.writer.now.head.count c.requires.range planned is in
    on_ok_weaker c.write_runs.result (λ e. e ∙ ap (with_values c.args.writer.now) long) c.write_runs.ensures.writer

pub returns-clause-reads : goal.returns-clause-reads
returns-clause-reads g c =
    let plan : ListingValue = c.args.self.now in
    let held = c.args.store.now.subject.held in
    let grid : chunk.Values = grid_of held in
    let planned : PlannedValue = c.index-items-place.result in
    let is : planned ≡ get_or plan.coverages c.args.place.coverage planned = search rules in
    let listed : c.items-2.result.now ≡ plan.parameters = search rules in
    let cells : c.items-cells.result.now ≡ planned.cells = search rules in
    let shape : c.self.inside.shape ≡ plan.shape = search rules in
    let j : ℕ = c.args.place.range in
    let sent : SentReply = listing_sent plan held in
    adds_same c.write_runs.result (ascending_once (tiles c.self.inside.shape) (tiles_of_range c.self.inside.shape c.items-cells.result.now (c.parameter_at-parameter.result))) (chunks_at sent c.args.place.coverage j) c.args.store.now.numbers c.write_runs.new.store.numbers
    (ap (λ (s : GridShape). ascending_once (tiles s) (tiles_of_range s c.items-cells.result.now (c.parameter_at-parameter.result))) shape
    ∙ ap (λ (l : List GridNode). ascending_once (tiles plan.shape) (tiles_of_range plan.shape l (c.parameter_at-parameter.result))) cells
    ∙ ap (λ (p : ℕ). ascending_once (tiles plan.shape) (tiles_of_range plan.shape planned.cells p)) (c.parameter_at-parameter.ensures ∙ ap (λ (ps : List ℕ). get_or ps j 0) listed)
    ∙ sym (chunks_are (coverage_of grid plan.parameters) (λ (p : PlannedValue). range_over grid p.cells) plan.parameters plan.coverages (λ p. refl) sent refl c.args.place.coverage j c.args.writer.now.head.count c.requires.range planned is (tiles plan.shape) (λ (p : PlannedValue). tiles_of_range plan.shape p.cells) refl))
    c.write_runs.ensures.reads
