use Rattle.std.proofs.Common.{◌∙◌, sym, subst}
use Rattle.edr_axes.specs.Axes.{IsAxis}
use Rattle.edr_select.proofs.FrameDomains.{part_is_axis}
use Rattle.edr_select.proofs.frame_domains.axis_at.Goals as goal

pub over-requires : goal.over-requires
over-requires c =
    subst IsAxis (sym (c.deref.ensures.value ∙ c.in_ok-values.ensures))
    (part_is_axis c.args.axis.now c.args.places.now c.requires.ascending c.requires.inside c.requires.rise c.requires.some)
