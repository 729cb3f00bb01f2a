use Rattle.edr_select.proofs.ParameterChoices.{all_asked}
use Rattle.edr_select.proofs.chosen_parameters.parameters_taken.Goals as goal

pub returns-in_ok-numbers_between-in-None : goal.returns-in_ok-numbers_between-in-None
returns-in_ok-numbers_between-in-None c =
    all_asked c.args.names.now c.args.parameters.now _ c.in-None.is c.in_ok-numbers_between-in-None.ensures
