use Rattle.std.proofs.Common.{◌≡◌, sym, ap, ◌∙◌}
use Rattle.std.proofs.lemmas.List.{get_or_default}
use Rattle.edr_station.specs.declared.inputs.StationInput.{StationInput}
use Rattle.edr_station.specs.Inputs.{no_input, id_at}
use Rattle.edr_station.proofs.SeenIds.{is_repeat, seen_more}
use Rattle.edr_station.proofs.faults.is_repeat.Goals as goal

pub returns-clause-repeat : goal.returns-clause-repeat
returns-clause-repeat c =
    let inputs = c.args.inputs.now in let place = c.args.place in
    let here : id_at inputs place ≡ c.bytes.result.now =
    sym (c.bytes.ensures ∙ ap (λ (i : StationInput). i.id) (get_or_default inputs place c.index-inputs-place.result no_input c.requires.place)) in
    is_repeat inputs place c.bytes.result here c.args.seen.now c.in_ok-added.added c.requires.seen c.in_ok-added.ensures.added

pub returns-clause-seen : goal.returns-clause-seen
returns-clause-seen c =
    let inputs = c.args.inputs.now in let place = c.args.place in
    let here : id_at inputs place ≡ c.bytes.result.now =
    sym (c.bytes.ensures ∙ ap (λ (i : StationInput). i.id) (get_or_default inputs place c.index-inputs-place.result no_input c.requires.place)) in
    seen_more inputs place c.bytes.result here c.args.seen.now c.insert.new.self c.requires.seen c.in_ok-added.ensures.keys
