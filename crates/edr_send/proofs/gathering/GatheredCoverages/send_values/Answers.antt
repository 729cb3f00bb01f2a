use Rattle.std.proofs.Common.{rules, ◌≡◌, ℕ, List, Option, ℤ, length, get_or, ap, sym, subst, ◌∙◌, refl, arith}
use Rattle.std.proofs.lemmas.Result.{on_ok_weaker}
use Rattle.std.proofs.lemmas.List.{get_or_default}
use Rattle.edr_base.specs.Calls.{Writes}
use Rattle.covjson_value.specs.declared.coverages.NdArray.{NdArray}
use Rattle.covjson_write.specs.Pieces.{values_from}
use Rattle.covjson_write.specs.Writers.{with_values}
use Rattle.edr_chunk.specs.Grids as chunk
use Rattle.edr_chunk.specs.Grids.{value}
use Rattle.edr_select.specs.Listings.{PlannedValue, ListingValue, coverage_of, range_over}
use Rattle.edr_send.specs.Filling.{grid_of}
use Rattle.edr_send.specs.Forms.{gathered_sent}
use Rattle.edr_send.specs.SentReplies.{range_at}
use Rattle.edr_send.proofs.FormSteps.{coverage_inside, range_inside, range_is}
use Rattle.edr_send.proofs.ReplyTexts.{range_cut}
use Rattle.edr_send.proofs.gathering.GatheredCoverages.send_values.Goals as goal

pub part_of-part-requires : goal.part_of-part-requires
part_of-part-requires g c =
    let plan : ListingValue = c.args.self.now.plan in
    let held = c.args.arg3.now.subject.held in
    let grid : chunk.Values = grid_of held in
    let i : ℕ = c.args.place.coverage in
    let j : ℕ = c.args.place.range in
    let planned : PlannedValue = c.index-items-place.result in
    let is : planned ≡ get_or plan.coverages i planned = search rules in
    let inside = coverage_inside (coverage_of grid plan.parameters) (λ (p : PlannedValue). range_over grid p.cells) plan.parameters plan.coverages (λ p. refl) (gathered_sent plan held) refl i j c.args.writer.now.head.count c.requires.range in
    let same : c.self.inside.starts.items ≡ c.args.self.now.starts = search rules in
    let start : c.index-start.result.now ≡ get_or c.args.self.now.starts i 0 =
    subst (λ (xs : List ℕ). c.index-start.result.now ≡ get_or xs i c.index-start.result.now) same c.index-start.ensures
    ∙ get_or_default c.args.self.now.starts i c.index-start.result.now 0 (omega (arith, inside, c.requires.over.starts.long)) in
    let cells : length c.items-cells.result.now ≡ length planned.cells = search rules in
    let values : c.deref.result.now ≡ c.args.self.now.values = search rules in
    let cut = range_cut grid plan.parameters plan.coverages c.deref.result.now i j c.index-start.result.now (length c.items-cells.result.now) planned inside is (range_inside (coverage_of grid plan.parameters) (λ (p : PlannedValue). range_over grid p.cells) plan.parameters plan.coverages (λ p. refl) (gathered_sent plan held) refl i j c.args.writer.now.head.count c.requires.range planned is) cells (values ∙ c.requires.over.values) (start ∙ c.requires.over.starts.at i inside) in
    cut.1

pub values-requires-clause-room : goal.values-requires-clause-room
values-requires-clause-room g c =
    let plan : ListingValue = c.args.self.now.plan in
    let held = c.args.arg3.now.subject.held in
    let grid : chunk.Values = grid_of held in
    let i : ℕ = c.args.place.coverage in
    let j : ℕ = c.args.place.range in
    let planned : PlannedValue = c.index-items-place.result in
    let is : planned ≡ get_or plan.coverages i planned = search rules in
    let inside = coverage_inside (coverage_of grid plan.parameters) (λ (p : PlannedValue). range_over grid p.cells) plan.parameters plan.coverages (λ p. refl) (gathered_sent plan held) refl i j c.args.writer.now.head.count c.requires.range in
    let same : c.self.inside.starts.items ≡ c.args.self.now.starts = search rules in
    let start : c.index-start.result.now ≡ get_or c.args.self.now.starts i 0 =
    subst (λ (xs : List ℕ). c.index-start.result.now ≡ get_or xs i c.index-start.result.now) same c.index-start.ensures
    ∙ get_or_default c.args.self.now.starts i c.index-start.result.now 0 (omega (arith, inside, c.requires.over.starts.long)) in
    let cells : length c.items-cells.result.now ≡ length planned.cells = search rules in
    let values : c.deref.result.now ≡ c.args.self.now.values = search rules in
    let cut = range_cut grid plan.parameters plan.coverages c.deref.result.now i j c.index-start.result.now (length c.items-cells.result.now) planned inside is (range_inside (coverage_of grid plan.parameters) (λ (p : PlannedValue). range_over grid p.cells) plan.parameters plan.coverages (λ p. refl) (gathered_sent plan held) refl i j c.args.writer.now.head.count c.requires.range planned is) cells (values ∙ c.requires.over.values) (start ∙ c.requires.over.starts.at i inside) in
    let part : c.part_of-part.result.now ≡ (range_at (gathered_sent plan held) i j).values = c.part_of-part.ensures ∙ cut.0 ∙ sym (ap (λ (range : NdArray). range.values) (range_is (coverage_of grid plan.parameters) (λ (p : PlannedValue). range_over grid p.cells) plan.parameters plan.coverages (λ p. refl) (gathered_sent plan held) refl i j c.args.writer.now.head.count c.requires.range planned is)) in
    omega (arith, c.requires.none, ap length part, c.requires.range.values)

pub returns-clause-bytes : goal.returns-clause-bytes
returns-clause-bytes g c =
    let plan : ListingValue = c.args.self.now.plan in
    let held = c.args.arg3.now.subject.held in
    let grid : chunk.Values = grid_of held in
    let i : ℕ = c.args.place.coverage in
    let j : ℕ = c.args.place.range in
    let planned : PlannedValue = c.index-items-place.result in
    let is : planned ≡ get_or plan.coverages i planned = search rules in
    let inside = coverage_inside (coverage_of grid plan.parameters) (λ (p : PlannedValue). range_over grid p.cells) plan.parameters plan.coverages (λ p. refl) (gathered_sent plan held) refl i j c.args.writer.now.head.count c.requires.range in
    let same : c.self.inside.starts.items ≡ c.args.self.now.starts = search rules in
    let start : c.index-start.result.now ≡ get_or c.args.self.now.starts i 0 =
    subst (λ (xs : List ℕ). c.index-start.result.now ≡ get_or xs i c.index-start.result.now) same c.index-start.ensures
    ∙ get_or_default c.args.self.now.starts i c.index-start.result.now 0 (omega (arith, inside, c.requires.over.starts.long)) in
    let cells : length c.items-cells.result.now ≡ length planned.cells = search rules in
    let values : c.deref.result.now ≡ c.args.self.now.values = search rules in
    let cut = range_cut grid plan.parameters plan.coverages c.deref.result.now i j c.index-start.result.now (length c.items-cells.result.now) planned inside is (range_inside (coverage_of grid plan.parameters) (λ (p : PlannedValue). range_over grid p.cells) plan.parameters plan.coverages (λ p. refl) (gathered_sent plan held) refl i j c.args.writer.now.head.count c.requires.range planned is) cells (values ∙ c.requires.over.values) (start ∙ c.requires.over.starts.at i inside) in
    let part : c.part_of-part.result.now ≡ (range_at (gathered_sent plan held) i j).values = c.part_of-part.ensures ∙ cut.0 ∙ sym (ap (λ (range : NdArray). range.values) (range_is (coverage_of grid plan.parameters) (λ (p : PlannedValue). range_over grid p.cells) plan.parameters plan.coverages (λ p. refl) (gathered_sent plan held) refl i j c.args.writer.now.head.count c.requires.range planned is)) in
    subst (λ (l : List (Option ℤ)). Writes c.values.result (values_from 0 l) (g.K.Sink.written c.args.sink.now) (g.K.Sink.written c.values.new.sink)) part
    (subst (λ (n : ℕ). Writes c.values.result (values_from n c.part_of-part.result.now) (g.K.Sink.written c.args.sink.now) (g.K.Sink.written c.values.new.sink)) c.requires.none c.values.ensures.bytes)

pub returns-clause-writer : goal.returns-clause-writer
returns-clause-writer g c =
    let plan : ListingValue = c.args.self.now.plan in
    let held = c.args.arg3.now.subject.held in
    let grid : chunk.Values = grid_of held in
    let i : ℕ = c.args.place.coverage in
    let j : ℕ = c.args.place.range in
    let planned : PlannedValue = c.index-items-place.result in
    let is : planned ≡ get_or plan.coverages i planned = search rules in
    let inside = coverage_inside (coverage_of grid plan.parameters) (λ (p : PlannedValue). range_over grid p.cells) plan.parameters plan.coverages (λ p. refl) (gathered_sent plan held) refl i j c.args.writer.now.head.count c.requires.range in
    let same : c.self.inside.starts.items ≡ c.args.self.now.starts = search rules in
    let start : c.index-start.result.now ≡ get_or c.args.self.now.starts i 0 =
    subst (λ (xs : List ℕ). c.index-start.result.now ≡ get_or xs i c.index-start.result.now) same c.index-start.ensures
    ∙ get_or_default c.args.self.now.starts i c.index-start.result.now 0 (omega (arith, inside, c.requires.over.starts.long)) in
    let cells : length c.items-cells.result.now ≡ length planned.cells = search rules in
    let values : c.deref.result.now ≡ c.args.self.now.values = search rules in
    let cut = range_cut grid plan.parameters plan.coverages c.deref.result.now i j c.index-start.result.now (length c.items-cells.result.now) planned inside is (range_inside (coverage_of grid plan.parameters) (λ (p : PlannedValue). range_over grid p.cells) plan.parameters plan.coverages (λ p. refl) (gathered_sent plan held) refl i j c.args.writer.now.head.count c.requires.range planned is) cells (values ∙ c.requires.over.values) (start ∙ c.requires.over.starts.at i inside) in
    let part : c.part_of-part.result.now ≡ (range_at (gathered_sent plan held) i j).values = c.part_of-part.ensures ∙ cut.0 ∙ sym (ap (λ (range : NdArray). range.values) (range_is (coverage_of grid plan.parameters) (λ (p : PlannedValue). range_over grid p.cells) plan.parameters plan.coverages (λ p. refl) (gathered_sent plan held) refl i j c.args.writer.now.head.count c.requires.range planned is)) in
    on_ok_weaker c.values.result (λ e. e ∙ ap (with_values c.args.writer.now) (ap length part ∙ c.requires.range.values)) c.values.ensures.writer
