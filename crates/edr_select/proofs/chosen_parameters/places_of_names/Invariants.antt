use Rattle.std.proofs.Common.{take}
use Rattle.edr_select.proofs.ParameterChoices.{NamesFound}
use Rattle.edr_select.proofs.chosen_parameters.places_of_names.Given as goal

abbrev pub invariant-loop-name : goal.invariant-loop-name
invariant-loop-name l = NamesFound l.parameters (take l.name-index l.names) l.places.items
