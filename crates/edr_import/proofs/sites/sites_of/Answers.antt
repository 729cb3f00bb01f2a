use Rattle.std.proofs.Common.{rules, ◌≡◌, length}
use Rattle.edr_import.specs.Sites.{NotesSite}
use Rattle.edr_import.proofs.OrderLemmas.{here}
use Rattle.edr_import.proofs.SiteLemmas.{noted_on, all_noted}
use Rattle.edr_import.proofs.sites.sites_of.Goals as goal

pub loop-place-preserved : goal.loop-place-preserved
loop-place-preserved c =
    let xs = c.args.observations.now in
    let x = c.index-observations-place.result in
    let notes : NotesSite xs c.loop-place.sites x c.note.new.sites = search rules in
    noted_on c.items_are_by_id.ensures xs c.loop-place.place x c.loop-place.sites c.note.new.sites
    (here xs c.loop-place.place x c.loop-place-test.true c.index-observations-place.is) c.loop-place.invariant notes

pub returns : goal.returns
returns c =
    let done : c.loop-place.place ≡ length c.args.observations.now = search rules in
    all_noted c.args.observations.now c.loop-place.place c.loop-place.sites c.len-count.ensures.ascending c.loop-place.invariant done
