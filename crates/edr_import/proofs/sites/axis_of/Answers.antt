use Rattle.std.proofs.Common.{rules, ◌≡◌, sym, subst, ℕ, List}
use Rattle.edr_axes.specs.Axes.{IsAxis}
use Rattle.edr_import.specs.Times.{AreTimesOf}
use Rattle.edr_import.proofs.TimeLemmas.{axis_read, ok_times}
use Rattle.edr_import.proofs.sites.axis_of.Goals as goal

pub over-requires : goal.over-requires
over-requires c =
    let id : c.bytes.result.now ≡ c.args.first.now.station = search rules in
    let times : c.deref.result.now ≡ c.in_ok-times.times.items = search rules in
    subst IsAxis (sym times)
    (axis_read c.args.observations.now c.args.first.now c.in_ok-times.times.items c.requires.among
    (subst (λ (s : List ℕ). AreTimesOf c.args.observations.now s c.in_ok-times.times.items) id c.in_ok-times.ensures)).0

pub returns : goal.returns
returns c =
    let id : c.bytes.result.now ≡ c.args.first.now.station = search rules in
    let times : c.deref.result.now ≡ c.in_ok-times.times.items = search rules in
    ok_times c.args.observations.now c.args.first.now.station c.over.result c.deref.result.now c.in_ok-times.times.items times
    (axis_read c.args.observations.now c.args.first.now c.in_ok-times.times.items c.requires.among
    (subst (λ (s : List ℕ). AreTimesOf c.args.observations.now s c.in_ok-times.times.items) id c.in_ok-times.ensures))
    c.over.ensures
