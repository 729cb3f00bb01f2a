use Rattle.std.proofs.Common.{rules, ◌≡◌, sym, ◌∙◌, codes, None, Some}
use Rattle.std.proofs.lemmas.Result.{err_from_is_err_and}
use Rattle.edr_samples.specs.Trees.{tree_view}
use Rattle.serde_json.specs.Find.{get}
use Rattle.edr_feed.specs.FormParts.{HasName, line_of}
use Rattle.edr_feed.proofs.FormLemmas.{no_entry_by}
use Rattle.edr_feed.proofs.FormOutlines.{drop_outline, drop_collection, drop_whole, drop_instance_whole, drop_station_whole}
use Rattle.edr_feed.proofs.FormFaults.{drop_instance_outline, drop_station_outline, drop_counts}
use Rattle.edr_feed.proofs.forms.drop_entry.Goals as goal

pub returns-in_err-collection-clause-reads : goal.returns-in_err-collection-clause-reads
returns-in_err-collection-clause-reads c =
    let d = tree_view c.args.tree.now in
    let p = err_from_is_err_and c.from_residual.result c.from_residual.ensures.1 in
    rw (p.1, p.2) (no_entry_by (HasName (codes "collection") d) (line_of (codes "drop") d) _ c.in_err-collection.ensures (λ outline. let drops = drop_outline d outline in drop_collection d drops.0 drops.1))

pub returns-then-has_members-clause-reads : goal.returns-then-has_members-clause-reads
returns-then-has_members-clause-reads c =
    drop_whole _ (tree_view c.args.tree.now) (record { has_collection = c.in_ok-collection.ensures; counts = sym c.has_members.ensures ∙ c.if-has_members.true })

pub returns-then-not-has_members-clause-reads : goal.returns-then-not-has_members-clause-reads
returns-then-not-has_members-clause-reads c =
    drop_counts (tree_view c.args.tree.now) (sym c.has_members.ensures ∙ c.if-has_members.false) (sym c.has_members-2.ensures ∙ c.if-not-has_members.true)

pub returns-in_err-id-in-Some-clause-reads : goal.returns-in_err-id-in-Some-clause-reads
returns-in_err-id-in-Some-clause-reads c =
    let d = tree_view c.args.tree.now in
    let found = tree_view c.in-Some.field-0.now in
    let some : get (codes "station") d ≡ Some found = search rules in
    let p = err_from_is_err_and c.from_residual-in_err-id-in-Some.result c.from_residual-in_err-id-in-Some.ensures.1 in
    rw (p.1, p.2) (no_entry_by (HasName (codes "station") d) (line_of (codes "drop") d) _ c.in_err-id-in-Some.ensures
    (λ outline. let drops = drop_station_outline d found (sym c.has_members.ensures ∙ c.if-has_members.false) some outline in (drops.id, drops.parts.has_id)))

pub returns-in_ok-id-in-Some-clause-reads : goal.returns-in_ok-id-in-Some-clause-reads
returns-in_ok-id-in-Some-clause-reads c =
    drop_station_whole _ _ (tree_view c.args.tree.now) (record {
      has_collection = c.in_ok-collection.ensures;
      has_id = c.in_ok-id-in-Some.ensures;
      counts = sym c.has_members-2.ensures ∙ c.if-not-has_members.false;
    })

pub returns-in_err-instance-in-None-clause-reads : goal.returns-in_err-instance-in-None-clause-reads
returns-in_err-instance-in-None-clause-reads c =
    let d = tree_view c.args.tree.now in
    let none : get (codes "station") d ≡ None = search rules in
    let p = err_from_is_err_and c.from_residual-in_err-instance-in-None.result c.from_residual-in_err-instance-in-None.ensures.1 in
    rw (p.1, p.2) (no_entry_by (HasName (codes "instance") d) (line_of (codes "drop") d) _ c.in_err-instance-in-None.ensures
    (λ outline. let drops = drop_instance_outline d (sym c.has_members.ensures ∙ c.if-has_members.false) none outline in (drops.instance, drops.parts.has_instance)))

pub returns-in_ok-instance-in-None-clause-reads : goal.returns-in_ok-instance-in-None-clause-reads
returns-in_ok-instance-in-None-clause-reads c =
    let d = tree_view c.args.tree.now in
    let none : get (codes "station") d ≡ None = search rules in
    drop_instance_whole _ _ d (record {
      has_collection = c.in_ok-collection.ensures;
      has_instance = c.in_ok-instance-in-None.ensures;
      lacks_station = none;
      counts = sym c.has_members-2.ensures ∙ c.if-not-has_members.false;
    })
