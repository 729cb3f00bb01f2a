use Rattle.std.proofs.Common.{◌∙◌, sym, subst}
use Rattle.edr_axes.specs.Axes.{IsAxis}
use Rattle.edr_make.proofs.MadeHeads.{spaced_is_axis}
use Rattle.edr_make.proofs.made_heads.axis.Goals as goal

pub over-requires : goal.over-requires
over-requires c =
    subst IsAxis (sym (c.deref.ensures.value ∙ c.in_ok-numbers.ensures)) (spaced_is_axis c.args.first c.args.step c.args.count c.requires.rises c.requires.some)
