use Rattle.std.proofs.Common.{inr, refl}
use Rattle.std.proofs.lemmas.Result.{err_from_is_err_and}
use Rattle.edr_samples.specs.Trees.{tree_view}
use Rattle.edr_feed.proofs.FormFaults.{cov_fails}
use Rattle.edr_feed.proofs.forms.bare_entry.Goals as goal

pub returns-in_err-coverage-clause-reads : goal.returns-in_err-coverage-clause-reads
returns-in_err-coverage-clause-reads c =
    let d = tree_view c.args.tree.now in
    let p = err_from_is_err_and c.from_residual.result c.from_residual.ensures.1 in
    rw (p.1, p.2) (cov_fails d d _ (inr (inr (c.requires, refl))) c.in_err-coverage.ensures.none c.in_err-coverage.ensures.first_fault)
