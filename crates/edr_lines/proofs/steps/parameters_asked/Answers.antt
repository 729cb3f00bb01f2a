use Rattle.std.proofs.Common.{◌≡◌, [], refl, sym, ◌∙◌}
use Rattle.edr_select.specs.Choices.{parameter_places}
use Rattle.edr_lines.proofs.LineRefusals.{of_asked, refused_without}
use Rattle.edr_lines.proofs.steps.parameters_asked.Goals as goal

pub returns-then-are_none-clause-refused : goal.returns-then-are_none-clause-refused
returns-then-are_none-clause-refused c =
    let none : parameter_places c.args.query.now.parameters c.args.instance.now.parameters ≡ [] =
    sym c.in_ok-parameters.ensures.places ∙ (sym c.deref.ensures.value ∙ c.if-are_none.ensures.0 refl) in
    c.in_ok-parameters.ensures.known ∙ (c.in_default.ensures.kept ∙ refused_without c.args.collection.now c.args.query.now c.args.instance.now c.requires none)

pub names_taken-requires : goal.names_taken-requires
names_taken-requires c = of_asked c.args.collection.now c.args.query.now c.args.instance.now c.requires

pub refused_asking-requires : goal.refused_asking-requires
refused_asking-requires c = of_asked c.args.collection.now c.args.query.now c.args.instance.now c.requires
