use Rattle.std.proofs.Common.{◌≡◌, ◌+◌, ◌∙◌, sym, subst, take, take_all, Err}
use Rattle.edr_select.specs.PlacesOfIds.{IsPlaceOfId}
use Rattle.edr_edition.specs.Values.{parameter_id}
use Rattle.edr_select.specs.Samples.{id_at}
use Rattle.edr_select.proofs.ParameterChoices.{names_more, name_unknown, names_taken, found_id, NamesFound}
use Rattle.edr_select.proofs.chosen_parameters.places_of_names.Goals as goal

pub returns-in-Err : goal.returns-in-Err
returns-in-Err c =
    name_unknown c.args.parameters.now c.args.names.now c.loop-name.name-index c.in-Err.field-0 c.name-item.result c.loop-name-test.true (sym c.name-item.is)
    (subst (λ name. IsPlaceOfId parameter_id name c.args.parameters.now (Err c.in-Err.field-0)) c.bytes.ensures c.in-Err.ensures)

pub loop-name-preserved : goal.loop-name-preserved
loop-name-preserved c =
    let at : id_at c.args.parameters.now c.in-Ok.place ≡ c.name-item.result = found_id c.args.parameters.now c.in-Ok.place c.bytes.result.now c.in-Ok.ensures ∙ c.bytes.ensures in
    subst (NamesFound c.args.parameters.now (take (c.loop-name.name-index + 1) c.args.names.now)) (sym c.in_ok-push-in-Ok.ensures.items)
    (names_more c.args.parameters.now c.args.names.now c.loop-name.places.items c.loop-name.name-index c.in-Ok.place c.name-item.result c.requires c.loop-name-test.true (sym c.name-item.is) c.in-Ok.ensures.0 at c.loop-name.invariant)

pub returns : goal.returns
returns c =
    names_taken c.args.parameters.now c.args.names.now c.loop-name.places.items c.ascending_once.result.items
    (subst (λ names. NamesFound c.args.parameters.now names c.loop-name.places.items) (take_all c.loop-name.name-index c.args.names.now c.loop-name-test.false) c.loop-name.invariant) c.ascending_once.ensures
