use Rattle.std.proofs.Common.{◌≡◌, List, ℕ, sym, ap, ◌∙◌, subst}
use Rattle.std.proofs.lemmas.List.{get_or_default}
use Rattle.edr_base.specs.FirstThatApplies.{IsLeast}
use Rattle.edr_station.specs.declared.inputs.StationInput.{StationInput}
use Rattle.edr_station.specs.declared.inputs.StationFault.TheVariants.{WrongCount}
use Rattle.edr_station.specs.Inputs.{no_input, id_at, rank, Applies}
use Rattle.edr_station.proofs.LeastIds.{wrong_is_least, none_applies, all_counted}
use Rattle.edr_station.proofs.faults.find_miscount.Goals as goal

pub returns-in_ok-id-in-Some-clause-refused : goal.returns-in_ok-id-in-Some-clause-refused
returns-in_ok-id-in-Some-clause-refused c told =
    let inputs = c.args.inputs.now in
    let place = c.in-Some.place in
    let id : c.in_ok-id-in-Some.id ≡ id_at inputs place =
    c.in_ok-id-in-Some.ensures
    ∙ (c.bytes.ensures ∙ ap (λ (i : StationInput). i.id) (get_or_default inputs place c.index-inputs-place.result no_input c.in-Some.ensures.0)) in
    subst (λ (k : List ℕ). IsLeast rank (Applies c.args.parameters inputs) (WrongCount k)) (sym id) (wrong_is_least c.args.parameters inputs place c.requires c.in-Some.ensures)

pub returns-in-None-clause-counts : goal.returns-in-None-clause-counts
returns-in-None-clause-counts c = all_counted c.args.parameters c.args.inputs.now c.in-None.ensures

pub returns-in-None-clause-none : goal.returns-in-None-clause-none
returns-in-None-clause-none c = none_applies c.args.parameters c.args.inputs.now c.requires c.in-None.ensures
