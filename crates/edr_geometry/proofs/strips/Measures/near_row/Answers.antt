use Rattle.std.proofs.Common.{◌≡◌, ◌∙◌, pos, ap₂, to_z, of_z, w64}
use Rattle.std.specs.Prelude.{◌||◌}
use Rattle.edr_axes.specs.Axes.{value_at}
use Rattle.edr_base.specs.Limits.{IsCoordinate}
use Rattle.edr_geometry.specs.Masks.{spot_at}
use Rattle.edr_geometry.specs.Ranges.{lies_in}
use Rattle.edr_geometry.specs.Spans.{is_before_start, is_beside, is_behind_end}
use Rattle.edr_geometry.proofs.StripLemmas.{in_parts}
use Rattle.edr_geometry.proofs.StripNumbers.{coordinate_back}
use Rattle.edr_geometry.proofs.strips.Measures.near_row.Goals as goal

pub returns-clause-near : goal.returns-clause-near
returns-clause-near c =
    let m = c.args.self.now in let y = c.args.y in let xs = c.args.xs.now in let a = m.segment.a in let b = m.segment.b in let w = m.segment.width in
    let y_back : to_z w64 (of_z w64 y) ≡ y = coordinate_back y c.requires.y_in in
    λ place inside.
    (let x = value_at xs place in
    let x_in : IsCoordinate x = c.requires.xs_in place (pos 0) inside in
    let before : lies_in c.places_on.result place ≡ is_before_start (spot_at y x) a b w = c.places_on.ensures.lies place inside ∙ (let told = c.before_on.ensures x x_in in rw y_back at told) in
    let beside : lies_in c.places_on-2.result place ≡ is_beside (spot_at y x) a b w = c.places_on-2.ensures.lies place inside ∙ (let told = c.beside_on.ensures x x_in in rw y_back at told) in
    let behind : lies_in c.places_on-3.result place ≡ is_behind_end (spot_at y x) a b w = c.places_on-3.ensures.lies place inside ∙ (let told = c.behind_on.ensures x x_in in rw y_back at told) in
    ap₂ (λ p q. p || q) before (ap₂ (λ p q. p || q) beside behind) ∙ in_parts (spot_at y x) a b w)
