use Rattle.std.proofs.Common.{◌<◌, ◌∙◌, length, sym, subst, All}
use Rattle.edr_select.specs.Listings.{NumbersRise}
use Rattle.edr_select.proofs.FrameDomains.{run_is, run_inside, run_rises}
use Rattle.edr_select.proofs.frame_domains.axis_from.Goals as goal

pub axis_at-requires-clause-inside : goal.axis_at-requires-clause-inside
axis_at-requires-clause-inside c =
    subst (All (λ place. place < length c.args.axis.now)) (sym (run_is c.args.first c.args.many c.deref.result.now (c.deref.ensures.value ∙ c.in_ok-places.ensures)))
    (run_inside c.args.first c.args.many (length c.args.axis.now) c.requires.inside)

pub axis_at-requires-clause-rise : goal.axis_at-requires-clause-rise
axis_at-requires-clause-rise c =
    subst NumbersRise (sym (run_is c.args.first c.args.many c.deref.result.now (c.deref.ensures.value ∙ c.in_ok-places.ensures)))
    (run_rises c.args.first c.args.many)
