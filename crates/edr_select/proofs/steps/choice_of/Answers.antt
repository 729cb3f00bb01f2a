use Rattle.std.proofs.Common.{◌∙◌, subst}
use Rattle.edr_select.specs.Choices.{IsSome, chosen}
use Rattle.edr_select.proofs.PlanSteps.{of_asked, refused_samples, known_samples, none_chosen, some_chosen}
use Rattle.edr_select.proofs.steps.choice_of.Goals as goal

pub returns-then-not-is_some-clause-refused : goal.returns-then-not-is_some-clause-refused
returns-then-not-is_some-clause-refused c =
    let collection = c.args.collection.now in
    let query = c.args.query.now in
    let instance = c.args.instance.now in
    let none = none_chosen c.is_some.result c.in_ok-choice.choice (chosen instance query) c.if-not-is_some.true c.is_some.ensures c.in_ok-choice.ensures in
    c.in_ok-parameters.ensures.known ∙ (c.in_default.ensures.kept ∙ refused_samples collection query instance c.requires.asked none)

pub returns-clause-choice : goal.returns-clause-choice
returns-clause-choice c =
    let collection = c.args.collection.now in
    let query = c.args.query.now in
    let instance = c.args.instance.now in
    let some = some_chosen c.is_some.result c.in_ok-choice.choice c.if-not-is_some.false c.is_some.ensures in
    record {
      is = c.in_ok-choice.ensures;
      some = some;
      refused_is = c.in_ok-parameters.ensures.known ∙ (c.in_default.ensures.kept ∙ known_samples collection query instance c.requires.asked (subst IsSome c.in_ok-choice.ensures some));
    }

pub names_taken-requires : goal.names_taken-requires
names_taken-requires c = of_asked c.args.collection.now c.args.query.now c.args.instance.now c.requires.asked

pub refused_asking-requires : goal.refused_asking-requires
refused_asking-requires c = of_asked c.args.collection.now c.args.query.now c.args.instance.now c.requires.asked
