use Rattle.std.proofs.Common.{rules, ◌≡◌, true, false, arith}
use Rattle.edr_csv.specs.Observations.{RepeatsAt}
use Rattle.edr_csv.specs.Notes.{key_id, key_of}
use Rattle.edr_csv.proofs.NoteLemmas.{none_noted}
use Rattle.edr_csv.proofs.OwnLemmas.{first_at, none_at_first, none_ever, none_on, key_step, key_stop}
use Rattle.edr_csv.proofs.keys.repeated.Goals as goal

pub loop-place-init : goal.loop-place-init
loop-place-init c = rw c.empty-keys.ensures (record { noted = none_noted key_id key_of; none = none_at_first (RepeatsAt c.args.observations.now) })

pub loop-place-preserved : goal.loop-place-preserved
loop-place-preserved c =
    let os = c.args.observations.now in
    let at : c.in_ok-is_new.field-0 ≡ true = search rules in
    let step = key_step os c.loop-place.place c.index-observations-place.result c.loop-place-test.true c.index-observations-place.is c.items_are_by_id.ensures
    c.in_ok-is_new.field-0 c.loop-place.keys c.is_new.new.keys c.loop-place.invariant.noted c.in_ok-is_new.ensures at in
    record { noted = step.1; none = none_on (RepeatsAt os) c.loop-place.place c.loop-place.invariant.none step.0 }

pub returns-then-not-branch : goal.returns-then-not-branch
returns-then-not-branch c =
    let os = c.args.observations.now in
    let at : c.in_ok-is_new.field-0 ≡ false = search rules in
    first_at (RepeatsAt os) c.loop-place.place c.loop-place.invariant.none
    (key_stop os c.loop-place.place c.index-observations-place.result c.loop-place-test.true c.index-observations-place.is c.texts_tell_times.ensures c.requires
    c.in_ok-is_new.field-0 c.loop-place.keys c.is_new.new.keys c.loop-place.invariant.noted c.in_ok-is_new.ensures at)

pub returns : goal.returns
returns c =
    let os = c.args.observations.now in
    none_ever (RepeatsAt os) c.loop-place.place c.loop-place.invariant.none (λ k at. let within = at.within in omega (arith, within))
