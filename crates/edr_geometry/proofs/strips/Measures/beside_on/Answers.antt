use Rattle.std.proofs.Common.{◌≡◌, ◌∙◌, ◌&&◌, ap₂, to_z, of_z, w64}
use Rattle.edr_geometry.proofs.StripNumbers.{coordinate_back}
use Rattle.edr_geometry.proofs.strips.Measures.beside_on.Goals as goal

pub returns : goal.returns
returns c =
    let m = c.args.self.now in let y = c.args.y in
    let y_back : to_z w64 (of_z w64 y) ≡ y = coordinate_back y c.requires.y_in in
    let between = c.between_on.ensures in let near = c.near_line_on.ensures in
    λ x x_in. c.with.ensures x
    ∙ ap₂ (λ p q. p && q) (let told = between x x_in in rw y_back at told) (let told = near x x_in in rw y_back at told)
