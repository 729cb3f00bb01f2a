use Rattle.std.proofs.Common.{◌&&◌, FitsSigned, ap, sym, ◌∙◌, rules, to_z-of_z, w64}
use Rattle.edr_base.specs.Boxes.{is_between}
use Rattle.edr_base.proofs.places.in_box.Goals as goal

pub returns-then-is_between : goal.returns-then-is_between
returns-then-is_between c =
    let spot = c.args.spot in
    let lo = c.args.lo in
    let hi = c.args.hi in
    let low_x : FitsSigned w64 lo.x = search rules in
    let high_x : FitsSigned w64 hi.x = search rules in
    let at_x : FitsSigned w64 spot.x = search rules in
    let low_y : FitsSigned w64 lo.y = search rules in
    let high_y : FitsSigned w64 hi.y = search rules in
    let at_y : FitsSigned w64 spot.y = search rules in
    let columns = simp to_z-of_z at c.is_between.ensures in
    let rows = simp to_z-of_z at c.is_between-then-is_between.ensures in
    rows ∙ ap (λ b. b && is_between lo.y hi.y spot.y) (sym c.if-is_between.true ∙ columns)

pub returns-else-is_between : goal.returns-else-is_between
returns-else-is_between c =
    let spot = c.args.spot in
    let lo = c.args.lo in
    let hi = c.args.hi in
    let low_x : FitsSigned w64 lo.x = search rules in
    let high_x : FitsSigned w64 hi.x = search rules in
    let at_x : FitsSigned w64 spot.x = search rules in
    let columns = simp to_z-of_z at c.is_between.ensures in
    c.if-is_between.false ∙ ap (λ b. b && is_between lo.y hi.y spot.y) (sym c.if-is_between.false ∙ columns)
