use Rattle.std.proofs.Common.{rules, ◌≡◌, ◌∙◌, ap, sym, ℕ, List, [], None, get_or, append-nil}
use Rattle.std.specs.Prelude.{map}
use Rattle.std.proofs.lemmas.Result.{on_ok_weaker}
use Rattle.edr_select.specs.Samples.{ascending_once}
use Rattle.edr_select.specs.Series.{block_at, cells_taken}
use Rattle.edr_send.specs.SeriesTexts.{collection_of, blocks_in}
use Rattle.edr_send.proofs.Additions.{adds_all}
use Rattle.edr_send.proofs.Ascending.{once_none}
use Rattle.edr_send.proofs.BlockRuns.{none_taken, values_none}
use Rattle.edr_send.proofs.block_runs.read_run.Goals as goal

pub returns-in-None-clause-values : goal.returns-in-None-clause-values
returns-in-None-clause-values c =
    let first : get_or c.args.cells.now 0 None ≡ None = search rules in
    on_ok_weaker c.leave_out.result
    (λ e. e ∙ values_none (collection_of c.args.store.now.subject.held) c.args.series.now c.requires.over.station c.args.parameter c.requires.parameter c.args.cells.now c.requires.run c.requires.cells first)
    c.leave_out.ensures

pub returns-in-None-clause-reads : goal.returns-in-None-clause-reads
returns-in-None-clause-reads c =
    let first : get_or c.args.cells.now 0 None ≡ None = search rules in
    let collection = collection_of c.args.store.now.subject.held in
    let b : ℕ → ℕ = block_at c.args.series.now c.args.parameter in
    adds_all c.leave_out.result [] (ascending_once (blocks_in collection) (map b (cells_taken c.args.cells.now))) c.args.store.now.numbers c.args.store.now.numbers
    (sym (ap (λ (l : List ℕ). ascending_once (blocks_in collection) (map b l)) (none_taken collection c.args.series.now c.requires.over.station c.args.parameter c.requires.parameter c.args.cells.now c.requires.run c.requires.cells first) ∙ once_none (blocks_in collection)))
    (sym (append-nil c.args.store.now.numbers))
