use Rattle.std.proofs.Common.{rules, ◌≡◌, ◌∙◌, ap, sym, subst, refl, ℕ, ◌<◌, ◌%◌, List, [], ◌∷◌, ◌++◌, length, All, ℤ, Option, arith, append-nil}
use Rattle.std.specs.Prelude.{map}
use Rattle.std.proofs.lemmas.Result.{on_ok_weaker}
use Rattle.std.proofs.lemmas.List.{length-map}
use Rattle.edr_station.specs.Blocks.{IsBlock}
use Rattle.edr_select.specs.Samples.{ascending_once}
use Rattle.edr_select.specs.Series.{StationSeriesValue, block_at, cells_taken}
use Rattle.edr_send.specs.SeriesTexts.{collection_of, blocks_in, picked_of}
use Rattle.edr_send.proofs.Additions.{adds_all, adds_begun}
use Rattle.edr_send.proofs.Ascending.{once_equal}
use Rattle.edr_send.proofs.BlockNumbers.{has_block, is_block}
use Rattle.edr_send.proofs.BlockRuns.{some_taken, cell_block, run_numbers, run_inside, run_values}
use Rattle.edr_send.proofs.block_runs.read_block.Goals as goal
use Rattle.edr_send.proofs.block_runs.read_block.Goals.{In_ok-block}

pub block_number-requires : goal.block_number-requires
block_number-requires c =
    let collection = collection_of c.args.store.now.subject.held in
    let inside = cell_block collection c.args.series.now c.requires.over.station c.args.parameter c.requires.parameter c.args.cells.now c.requires.run c.requires.cells c.args.first c.requires.first c.requires.some in
    omega (arith, inside, c.requires.over.counted)

pub block-requires : goal.block-requires
block-requires c =
    let held = c.args.store.now.subject.held in
    has_block held c.block_number.result
    (subst (λ (k : ℕ). k < blocks_in (collection_of held)) (sym c.block_number.ensures)
    (cell_block (collection_of held) c.args.series.now c.requires.over.station c.args.parameter c.requires.parameter c.args.cells.now c.requires.run c.requires.cells c.args.first c.requires.first c.requires.some))

pub returns-in_err-block-clause-reads : goal.returns-in_err-block-clause-reads
returns-in_err-block-clause-reads c =
    let wanted : List ℕ = ascending_once (blocks_in (collection_of c.args.store.now.subject.held)) (map (block_at c.args.series.now c.args.parameter) (cells_taken c.args.cells.now)) in
    adds_begun c.from_residual.result wanted c.args.store.now.numbers c.block.new.self.numbers (search rules)
    (record { front = []; begins = (wanted, refl); grew = c.in_err-block.ensures.unread ∙ sym (append-nil c.args.store.now.numbers) })

-- the block that is opened
read_is : (c : In_ok-block) → IsBlock (collection_of c.args.store.now.subject.held) (block_at c.args.series.now c.args.parameter c.args.first) c.in_ok-block.block.items
read_is c =
    let held = c.args.store.now.subject.held in
    subst (λ (k : ℕ). IsBlock (collection_of held) k c.in_ok-block.block.items) c.block_number.ensures (is_block held c.block_number.result c.in_ok-block.block.items c.in_ok-block.ensures.block)

pub pick-requires : goal.pick-requires
pick-requires c =
    let read : c.deref.result.now ≡ c.in_ok-block.block.items = search rules in
    subst (λ (values : List (Option ℤ)). All (λ cell. cell % 256 < length values) (cells_taken c.args.cells.now)) (sym read)
    (run_inside (collection_of c.args.store.now.subject.held) c.args.series.now c.requires.over.station c.args.parameter c.requires.parameter c.args.cells.now c.requires.run c.requires.cells c.args.first c.requires.first
    c.in_ok-block.block.items (read_is (goal.at.pick-requires c).In_ok-block))

pub returns-clause-values : goal.returns-clause-values
returns-clause-values c =
    let read : c.deref.result.now ≡ c.in_ok-block.block.items = search rules in
    on_ok_weaker c.pick.result
    (λ e. e ∙ ap (λ (values : List (Option ℤ)). map (picked_of values) c.args.cells.now) read
    ∙ run_values (collection_of c.args.store.now.subject.held) c.args.series.now c.requires.over.station c.args.parameter c.requires.parameter c.args.cells.now c.requires.run c.requires.cells c.args.first c.requires.first
    c.in_ok-block.block.items (read_is (goal.at.returns-clause-values c).In_ok-block))
    c.pick.ensures

pub returns-clause-reads : goal.returns-clause-reads
returns-clause-reads c =
    let collection = collection_of c.args.store.now.subject.held in
    let series : StationSeriesValue = c.args.series.now in
    let numbers : List ℕ = map (block_at series c.args.parameter) (cells_taken c.args.cells.now) in
    let number : ℕ = block_at series c.args.parameter c.args.first in
    adds_all c.pick.result (number ∷ []) (ascending_once (blocks_in collection) numbers) c.args.store.now.numbers c.block.new.self.numbers
    (sym (once_equal (blocks_in collection) number numbers
    (cell_block collection series c.requires.over.station c.args.parameter c.requires.parameter c.args.cells.now c.requires.run c.requires.cells c.args.first c.requires.first c.requires.some)
    (omega (arith, length-map (cells_taken c.args.cells.now) (block_at series c.args.parameter), some_taken c.args.cells.now c.args.first c.requires.some c.requires.first))
    (run_numbers collection series c.requires.over.station c.args.parameter c.requires.parameter c.args.cells.now c.requires.run c.requires.cells c.args.first c.requires.first)))
    (c.in_ok-block.ensures.read ∙ ap (λ (k : ℕ). c.args.store.now.numbers ++ k ∷ []) c.block_number.ensures)
