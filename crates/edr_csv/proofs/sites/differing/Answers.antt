use Rattle.std.proofs.Common.{rules, ◌≡◌, true, false, arith}
use Rattle.edr_csv.specs.Observations.{DiffersAt}
use Rattle.edr_csv.specs.Notes.{site_id, site_of}
use Rattle.edr_csv.proofs.NoteLemmas.{none_noted}
use Rattle.edr_csv.proofs.OwnLemmas.{first_at, none_at_first, none_ever, none_on, site_step, site_stop}
use Rattle.edr_csv.proofs.sites.differing.Goals as goal

pub loop-place-init : goal.loop-place-init
loop-place-init c = rw c.empty-sites.ensures (record { noted = none_noted site_id site_of; none = none_at_first (DiffersAt c.args.observations.now) })

pub loop-place-preserved : goal.loop-place-preserved
loop-place-preserved c =
    let os = c.args.observations.now in
    let at : c.in_ok-is_at_site.field-0 ≡ true = search rules in
    let step = site_step os c.loop-place.place c.index-observations-place.result c.loop-place-test.true c.index-observations-place.is c.items_are_by_id.ensures
    c.in_ok-is_at_site.field-0 c.loop-place.sites c.is_at_site.new.sites c.loop-place.invariant.noted c.in_ok-is_at_site.ensures at in
    record { noted = step.1; none = none_on (DiffersAt os) c.loop-place.place c.loop-place.invariant.none step.0 }

pub returns-then-not-branch : goal.returns-then-not-branch
returns-then-not-branch c =
    let os = c.args.observations.now in
    let at : c.in_ok-is_at_site.field-0 ≡ false = search rules in
    first_at (DiffersAt os) c.loop-place.place c.loop-place.invariant.none
    (site_stop os c.loop-place.place c.index-observations-place.result c.loop-place-test.true c.index-observations-place.is
    c.in_ok-is_at_site.field-0 c.loop-place.sites c.is_at_site.new.sites c.loop-place.invariant.noted c.in_ok-is_at_site.ensures at)

pub returns : goal.returns
returns c =
    let os = c.args.observations.now in
    none_ever (DiffersAt os) c.loop-place.place c.loop-place.invariant.none (λ k at. let within = at.within in omega (arith, within))
