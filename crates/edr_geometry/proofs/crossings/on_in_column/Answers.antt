use Rattle.std.proofs.Common.{◌≡◌, ◌∙◌, to_z, of_z, w64}
use Rattle.edr_geometry.specs.Masks.{spot_at}
use Rattle.edr_geometry.proofs.StripNumbers.{coordinate_back}
use Rattle.edr_geometry.proofs.EdgeLemmas.{on_exchanged}
use Rattle.edr_geometry.proofs.crossings.on_in_column.Goals as goal

pub returns : goal.returns
returns c =
    let a = c.args.a.now in let b = c.args.b.now in let x = c.args.x in
    let x_back : to_z w64 (of_z w64 x) ≡ x = coordinate_back x c.requires.x_in in
    λ y y_in. (let told = c.on_in_row.ensures y y_in in rw (x_back, c.exchanged.ensures, c.exchanged-2.ensures) at told) ∙ on_exchanged (spot_at y x) a b
