use Rattle.std.proofs.Common.{◌∙◌, ap, sym}
use Rattle.edr_plan.specs.StationPlans.{has_room}
use Rattle.edr_plan.proofs.StationSizes.{none_fit}
use Rattle.edr_plan.proofs.gathered.room_for.Goals as goal

pub returns-in_default : goal.returns-in_default
returns-in_default c = none_fit c.args.gathered.now _ c.in_default.ensures

pub returns-then-not-has_room : goal.returns-then-not-has_room
returns-then-not-has_room c = ap (has_room c.args.gathered.now) (sym c.in-Some.ensures.0) ∙ sym c.if-not-has_room.ensures

pub returns : goal.returns
returns c = (c.in-Some.ensures.0, c.in-Some.ensures.1, sym c.if-not-has_room.ensures)
