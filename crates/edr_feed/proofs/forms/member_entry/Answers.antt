use Rattle.std.proofs.Common.{rules, ◌≡◌, sym, subst, codes, None, Some}
use Rattle.serde_json.specs.Data.{Data}
use Rattle.edr_samples.specs.Trees.{tree_view}
use Rattle.serde_json.specs.Find.{get}
use Rattle.edr_feed.specs.FormParts.{ReadsEntry}
use Rattle.edr_feed.proofs.FormLemmas.{line_is}
use Rattle.edr_feed.proofs.FormFaults.{no_name}
use Rattle.edr_feed.proofs.forms.member_entry.Goals as goal

pub returns-in-Some-clause-reads : goal.returns-in-Some-clause-reads
returns-in-Some-clause-reads c =
    let d = tree_view c.args.tree.now in
    let found = tree_view c.in-Some.found.now in
    let some : get (codes "collection") d ≡ Some found = search rules in
    subst (λ (t : Data). ReadsEntry t c.collection_entry.result) (sym (line_is (codes "collection") d found c.requires.one some)) c.collection_entry.ensures.reads

pub returns-in-Some-get-clause-reads : goal.returns-in-Some-get-clause-reads
returns-in-Some-get-clause-reads c =
    let d = tree_view c.args.tree.now in
    let found = tree_view c.in-Some-get.found.now in
    let some : get (codes "grid") d ≡ Some found = search rules in
    subst (λ (t : Data). ReadsEntry t c.grid_entry.result) (sym (line_is (codes "grid") d found c.requires.one some)) c.grid_entry.ensures.reads

pub returns-in-Some-get-2-clause-reads : goal.returns-in-Some-get-2-clause-reads
returns-in-Some-get-2-clause-reads c =
    let d = tree_view c.args.tree.now in
    let found = tree_view c.in-Some-get-2.found.now in
    let some : get (codes "station") d ≡ Some found = search rules in
    subst (λ (t : Data). ReadsEntry t c.station_entry.result) (sym (line_is (codes "station") d found c.requires.one some)) c.station_entry.ensures.reads

pub returns-in-Some-get-3-clause-reads : goal.returns-in-Some-get-3-clause-reads
returns-in-Some-get-3-clause-reads c =
    let d = tree_view c.args.tree.now in
    let found = tree_view c.in-Some-get-3.found.now in
    let some : get (codes "drop") d ≡ Some found = search rules in
    subst (λ (t : Data). ReadsEntry t c.drop_entry.result) (sym (line_is (codes "drop") d found c.requires.one some)) c.drop_entry.ensures.reads

pub returns-in-Some-get-4-clause-reads : goal.returns-in-Some-get-4-clause-reads
returns-in-Some-get-4-clause-reads c =
    let d = tree_view c.args.tree.now in
    let found = tree_view c.in-Some-get-4.found.now in
    let some : get (codes "publish") d ≡ Some found = search rules in
    subst (λ (t : Data). ReadsEntry t c.publish_entry.result) (sym (line_is (codes "publish") d found c.requires.one some)) c.publish_entry.ensures.reads

pub returns-in-None-clause-reads : goal.returns-in-None-clause-reads
returns-in-None-clause-reads c =
    let d = tree_view c.args.tree.now in
    let collection : get (codes "collection") d ≡ None = search rules in
    let grid : get (codes "grid") d ≡ None = search rules in
    let station : get (codes "station") d ≡ None = search rules in
    let drop : get (codes "drop") d ≡ None = search rules in
    let publish : get (codes "publish") d ≡ None = search rules in
    no_name d c.requires.not_bare collection grid station drop publish
