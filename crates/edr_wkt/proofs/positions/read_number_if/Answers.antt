use Rattle.std.proofs.Common.{Bool, subst, sym, refl, pos}
use Rattle.edr_wkt.specs.Reads.{BeginsWithNumberIf}
use Rattle.edr_wkt.proofs.positions.read_number_if.Goals as goal

pub returns-else-has : goal.returns-else-has
returns-else-has c =
    let P : Bool → Type 0 = λ has. BeginsWithNumberIf has c.args.text.now (pos 0) c.args.text.now in
    subst P (sym c.if-has.false) (pos 0, (refl, refl), refl)
