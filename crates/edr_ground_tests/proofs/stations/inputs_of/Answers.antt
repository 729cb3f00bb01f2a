use Rattle.std.proofs.Common.{rules, ◌≡◌, [], ◌∷◌, ◌++◌, List, All, sym, subst}
use Rattle.std.proofs.lemmas.List.Elements.{All-push}
use Rattle.edr_station.specs.declared.inputs.StationInput.{StationInput}
use Rattle.edr_station.specs.Inputs.{IsInput}
use Rattle.edr_ground_tests.proofs.stations.inputs_of.Goals as goal

pub loop-text-preserved-in_ok-ok : goal.loop-text-preserved-in_ok-ok
loop-text-preserved-in_ok-ok c =
    let inputs = c.loop-text.inputs.items in
    let input = c.in_ok-input_of.field-0 in
    let pushed : c.push.new.self.items ≡ inputs ++ input ∷ [] = search rules in
    subst (λ (l : List StationInput). All IsInput l) (sym pushed) (All-push IsInput inputs input c.loop-text.invariant c.in_ok-input_of.ensures)
