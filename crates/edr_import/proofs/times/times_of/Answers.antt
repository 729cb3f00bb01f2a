use Rattle.std.proofs.Common.{rules, ◌≡◌, ◌∙◌, ap, sym, subst, get_or, arith, ℤ, to_z, of_z, w64}
use Rattle.edr_csv.specs.declared.observations.Observation.{Observation}
use Rattle.edr_import.specs.Times.{PutsTime}
use Rattle.edr_import.proofs.OrderLemmas.{here}
use Rattle.edr_import.proofs.TimeLemmas.{read_more, times_read}
use Rattle.edr_import.proofs.times.times_of.Goals as goal
use Rattle.edr_import.proofs.times.times_of.Goals.{then-loop-place-test+else-eq, else-loop-place-test}

pub loop-place-preserved : goal.loop-place-preserved
loop-place-preserved c =
    let xs = c.args.observations.now in
    let k = c.loop-place.place in
    let x = c.index-observations-place-in-loop-place.result in
    let y = c.index-observations-place.result in
    let inside = c.loop-place-test.true in
    let at = here xs k x inside c.index-observations-place-in-loop-place.is in
    let tested : y.station ≡ c.args.station.now = search rules in
    let same : x ≡ y = c.index-observations-place-in-loop-place.is ∙ here xs k y inside c.index-observations-place.is x in
    let t : ℤ = (get_or xs k x).t in
    let told : to_z w64 (of_z w64 t) ≡ t = search rules in
    let puts : PutsTime c.loop-place.times.items x.t c.put_time.new.times.items =
    subst (λ (v : ℤ). PutsTime c.loop-place.times.items v c.put_time.new.times.items) (told ∙ ap (λ (o : Observation). o.t) (at x)) c.in_ok-put_time.ensures in (
      c.loop-place.invariant.0,
      c.loop-place.invariant.1,
      read_more xs c.requires c.args.station.now c.loop-place.invariant.0 k c.loop-place.times.items x c.loop-place.invariant.2 inside at
          (ap (λ (o : Observation). o.station) same ∙ tested) c.put_time.new.times.items puts,
    )

pub returns : goal.returns
returns c = elim c.loop-place-test.branch [
  | then-loop-place-test+else-eq w ↦ (let xs = c.args.observations.now in
      let k = c.loop-place.place in
      let y = w.index-observations-place.result in
      let inside = w.loop-place-test.true in
      let tested : ¬ (y.station ≡ c.args.station.now) = search rules in
      times_read xs c.requires c.args.station.now c.loop-place.invariant.0 k c.loop-place.times.items c.loop-place.invariant.1 c.loop-place.invariant.2
      (λ d at_end same. tested (ap (λ (o : Observation). o.station) (sym (here xs k y inside w.index-observations-place.is d)) ∙ same)))
  | else-loop-place-test w ↦ (let ended = w.loop-place-test.false in
      times_read c.args.observations.now c.requires c.args.station.now c.loop-place.invariant.0 c.loop-place.place c.loop-place.times.items c.loop-place.invariant.1 c.loop-place.invariant.2
      (λ d inside same. absurd (omega (arith, inside, ended))))
]
