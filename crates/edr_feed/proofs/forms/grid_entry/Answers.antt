use Rattle.std.proofs.Common.{rules, ◌≡◌, sym, ◌∙◌, codes, None, Some, inl, true≢false}
use Rattle.std.proofs.lemmas.Result.{err_from_is_err_and}
use Rattle.edr_samples.specs.Trees.{tree_view}
use Rattle.serde_json.specs.Find.{get}
use Rattle.edr_feed.specs.FormParts.{HasName, line_of}
use Rattle.edr_feed.proofs.FormLemmas.{no_entry_by}
use Rattle.edr_feed.proofs.FormOutlines.{grid_outline, grid_whole}
use Rattle.edr_feed.proofs.FormFaults.{cov_fails}
use Rattle.edr_feed.proofs.forms.grid_entry.Goals as goal

pub returns-in_err-collection-clause-reads : goal.returns-in_err-collection-clause-reads
returns-in_err-collection-clause-reads c =
    let d = tree_view c.args.tree.now in
    let p = err_from_is_err_and c.from_residual.result c.from_residual.ensures.1 in
    rw (p.1, p.2) (no_entry_by (HasName (codes "collection") d) (line_of (codes "grid") d) _ c.in_err-collection.ensures (λ outline. let sets = (grid_outline d outline).1 in (sets.collection, sets.parts.has_collection)))

pub returns-in_err-instance-clause-reads : goal.returns-in_err-instance-clause-reads
returns-in_err-instance-clause-reads c =
    let d = tree_view c.args.tree.now in
    let p = err_from_is_err_and c.from_residual-in_err-instance.result c.from_residual-in_err-instance.ensures.1 in
    rw (p.1, p.2) (no_entry_by (HasName (codes "instance") d) (line_of (codes "grid") d) _ c.in_err-instance.ensures (λ outline. let sets = (grid_outline d outline).1 in (sets.instance, sets.parts.has_instance)))

pub returns-in_default-clause-reads : goal.returns-in_default-clause-reads
returns-in_default-clause-reads c = λ outline.
    let d = tree_view c.args.tree.now in
    let none : get (codes "coverage") d ≡ None = search rules in
    let some = (grid_outline d outline).1.parts.has_coverage in cc

pub returns-then-not-has_members-clause-reads : goal.returns-then-not-has_members-clause-reads
returns-then-not-has_members-clause-reads c = λ outline.
    let sets = (grid_outline (tree_view c.args.tree.now) outline).1 in
    true≢false (sym sets.parts.counts ∙ (sym c.has_members.ensures ∙ c.if-not-has_members.true))

pub returns-in_err-coverage-clause-reads : goal.returns-in_err-coverage-clause-reads
returns-in_err-coverage-clause-reads c =
    let d = tree_view c.args.tree.now in
    let found = tree_view c.in-Some.found.now in
    let some : get (codes "coverage") d ≡ Some found = search rules in
    let p = err_from_is_err_and c.from_residual-in_err-coverage.result c.from_residual-in_err-coverage.ensures.1 in
    let whole = grid_whole _ _ found d (record {
      has_collection = c.in_ok-collection.ensures;
      has_instance = c.in_ok-instance.ensures;
      has_coverage = some;
      counts = sym c.has_members.ensures ∙ c.if-not-has_members.false;
    }) in
    rw (p.1, p.2) (cov_fails (line_of (codes "grid") d) found _ (inl (_, _, whole)) c.in_err-coverage.ensures.none c.in_err-coverage.ensures.first_fault)

pub returns-clause-reads : goal.returns-clause-reads
returns-clause-reads c =
    let d = tree_view c.args.tree.now in
    let found = tree_view c.in-Some.found.now in
    let some : get (codes "coverage") d ≡ Some found = search rules in (
      found,
      grid_whole _ _ found d (record {
        has_collection = c.in_ok-collection.ensures;
        has_instance = c.in_ok-instance.ensures;
        has_coverage = some;
        counts = sym c.has_members.ensures ∙ c.if-not-has_members.false;
      }),
      c.in_ok-coverage.ensures.stands,
    )
