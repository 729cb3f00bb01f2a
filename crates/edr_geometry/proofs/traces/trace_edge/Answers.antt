use Rattle.std.proofs.Common.{◌∙◌, ap, length}
use Rattle.edr_geometry.specs.Lines.{flip_if, odd_behind, Toggles}
use Rattle.edr_geometry.specs.Ranges.{lies_in}
use Rattle.edr_geometry.proofs.traces.trace_edge.Goals as goal

pub returns-clause-toggles : goal.returns-clause-toggles
returns-clause-toggles c =
    let n = length c.args.line.now.values in let old = c.args.cuts.now.items in
    let new = c.toggle.new.cuts.items in
    let told : Toggles n old new (lies_in c.places_crossed.result) = (let said = c.in_ok-toggle.ensures.toggles in rw c.len.ensures at said) in
    λ place inside. told place inside ∙ ap (λ t. flip_if t (odd_behind n old place)) (c.places_crossed.ensures.lies place inside)
