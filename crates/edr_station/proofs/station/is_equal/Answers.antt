use Rattle.std.proofs.Common.{sym, ◌∙◌}
use Rattle.std.specs.Cmp.Rules.{signed_items}
use Rattle.edr_station.proofs.station.is_equal.Goals as goal

pub returns : goal.returns
returns c same =
    sym c.values.ensures.same ∙ ((signed_items c.values.result.now c.values-2.result.now).0 (sym c.eq.ensures ∙ same) ∙ c.values-2.ensures.same)
