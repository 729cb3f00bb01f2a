use Rattle.std.proofs.Common.{rules}
use Rattle.std.proofs.lemmas.Fn.{always_returns_same}
use Rattle.edr_base.specs.Names.{order}
use Rattle.edr_select.proofs.SearchedIds.{place_from_search}
use Rattle.edr_edition.specs.Values.{parameter_id}
use Rattle.edr_select.proofs.chosen_parameters.place_of.Goals as goal

pub returns : goal.returns
returns c =
    place_from_search parameter_id c.args.id.now c.args.parameters.now c.binary_search_by.result c.requires c.binary_search_by.ensures.bound
    (c.binary_search_by.ensures.position (λ parameter. order (parameter_id parameter) c.args.id.now) (always_returns_same _ _ _ (λ a r f' k. search rules)))
