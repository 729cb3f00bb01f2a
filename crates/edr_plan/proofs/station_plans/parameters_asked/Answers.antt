use Rattle.std.proofs.Common.{◌≡◌, ◌∙◌, sym, [], refl}
use Rattle.edr_select.specs.Choices.{parameter_places}
use Rattle.edr_plan.proofs.NoneAsked.{nothing_asked}
use Rattle.edr_plan.proofs.station_plans.parameters_asked.Goals as goal

pub returns-then-are_none-clause-refused : goal.returns-then-are_none-clause-refused
returns-then-are_none-clause-refused c =
    let none : parameter_places c.args.query.now.parameters c.args.collection.now.parameters ≡ [] = sym c.in_ok-parameters.ensures.places ∙ (sym c.deref.ensures.value ∙ c.if-are_none.ensures.0 refl) in
    c.in_ok-parameters.ensures.known ∙ (c.in_default.ensures.kept ∙ nothing_asked c.args.collection.now c.args.query.now c.requires.collection none)
