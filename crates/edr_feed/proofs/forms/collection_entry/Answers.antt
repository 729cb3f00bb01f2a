use Rattle.std.proofs.Common.{sym, ◌∙◌, ap, codes}
use Rattle.std.proofs.lemmas.Result.{err_from_is_err_and}
use Rattle.edr_samples.specs.Trees.{tree_view}
use Rattle.edr_feed.specs.FormParts.{HasText, HasName, HasTextIfGiven, HasKind, line_of}
use Rattle.edr_json.specs.Trees.{has_members}
use Rattle.edr_feed.proofs.FormLemmas.{just_line, no_entry_by}
use Rattle.edr_feed.proofs.FormOutlines.{collection_outline, collection_whole}
use Rattle.edr_feed.proofs.FormFaults.{collection_counts}
use Rattle.edr_feed.proofs.forms.collection_entry.Goals as goal

pub returns-in_err-id-clause-reads : goal.returns-in_err-id-clause-reads
returns-in_err-id-clause-reads c =
    let d = tree_view c.args.tree.now in
    let p = err_from_is_err_and c.from_residual-in_err-id.result c.from_residual-in_err-id.ensures.1 in
    rw (p.1, p.2) (no_entry_by (HasName (codes "id") d) (line_of (codes "collection") d) _ c.in_err-id.ensures (λ outline. let adds = (collection_outline d outline).1 in (adds.id, adds.parts.has_id)))

pub returns-in_err-kind-clause-reads : goal.returns-in_err-kind-clause-reads
returns-in_err-kind-clause-reads c =
    let d = tree_view c.args.tree.now in
    let p = err_from_is_err_and c.from_residual.result c.from_residual.ensures.1 in
    rw (p.1, p.2) (no_entry_by (HasKind d) (line_of (codes "collection") d) _ c.in_err-kind.ensures (λ outline. let adds = (collection_outline d outline).1 in (adds.kind, adds.parts.has_kind)))

pub returns-in_err-title-clause-reads : goal.returns-in_err-title-clause-reads
returns-in_err-title-clause-reads c =
    let d = tree_view c.args.tree.now in
    let p = err_from_is_err_and c.from_residual-in_err-title.result c.from_residual-in_err-title.ensures.1 in
    rw (p.1, p.2) (no_entry_by (HasText (codes "title") d) (line_of (codes "collection") d) _ c.in_err-title.ensures.finds (λ outline. let adds = (collection_outline d outline).1 in (adds.title, adds.parts.has_title)))

pub returns-in_err-crs-clause-reads : goal.returns-in_err-crs-clause-reads
returns-in_err-crs-clause-reads c =
    let d = tree_view c.args.tree.now in
    let p = err_from_is_err_and c.from_residual-in_err-crs.result c.from_residual-in_err-crs.ensures.1 in
    rw (p.1, p.2) (no_entry_by (HasText (codes "crs") d) (line_of (codes "collection") d) _ c.in_err-crs.ensures.finds (λ outline. let adds = (collection_outline d outline).1 in (adds.crs, adds.parts.has_crs)))

pub returns-in_err-vertical-clause-reads : goal.returns-in_err-vertical-clause-reads
returns-in_err-vertical-clause-reads c =
    let d = tree_view c.args.tree.now in
    let p = err_from_is_err_and c.from_residual-in_err-vertical.result c.from_residual-in_err-vertical.ensures.1 in
    rw (p.1, p.2) (no_entry_by (HasTextIfGiven (codes "vertical") d) (line_of (codes "collection") d) _ c.in_err-vertical.ensures.finds (λ outline. let adds = (collection_outline d outline).1 in (adds.vertical, adds.parts.has_vertical)))

pub returns-then-not-has_members-clause-reads : goal.returns-then-not-has_members-clause-reads
returns-then-not-has_members-clause-reads c =
    let d = tree_view c.args.tree.now in
    let wanted = ap (λ n. has_members n d) (sym c.collection_members.ensures) in
    collection_counts d _ c.in_ok-vertical.ensures.finds (wanted ∙ (sym c.has_members.ensures ∙ c.if-not-has_members.true))

pub returns-clause-reads : goal.returns-clause-reads
returns-clause-reads c =
    let d = tree_view c.args.tree.now in
    let wanted = ap (λ n. has_members n d) (sym c.collection_members.ensures) in (
      d,
      just_line (codes "collection") d,
      collection_whole _ _ _ _ _ d (record {
        has_id = c.in_ok-id.ensures;
        has_kind = c.in_ok-kind.ensures;
        has_title = c.in_ok-title.ensures.finds;
        has_crs = c.in_ok-crs.ensures.finds;
        has_vertical = c.in_ok-vertical.ensures.finds;
        counts = wanted ∙ (sym c.has_members.ensures ∙ c.if-not-has_members.false);
      }),
    )

pub returns-clause-is : goal.returns-clause-is
returns-clause-is c = (c.in_ok-id.ensures.1, (c.in_ok-title.ensures.utf8, (c.in_ok-crs.ensures.utf8, c.in_ok-vertical.ensures.utf8)))
