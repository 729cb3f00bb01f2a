use Rattle.std.proofs.Common.{◌≡◌, ◌∙◌, sym, ap, true, false, to_z, of_z, w64}
use Rattle.edr_geometry.specs.Lines.{LineValue}
use Rattle.edr_geometry.specs.Masks.{spot_at}
use Rattle.edr_geometry.specs.Planar.{crosses}
use Rattle.edr_geometry.specs.Spans.{has}
use Rattle.edr_geometry.proofs.StripNumbers.{coordinate_back}
use Rattle.edr_geometry.proofs.lines.Line.crossed.Goals as goal

pub returns-then-self : goal.returns-then-self
returns-then-self c =
    let line = c.args.self.now in let a = c.args.a.now in let b = c.args.b.now in
    let at : c.self.inside.at ≡ line.at = ap (λ (l : LineValue). l.at) c.self.view_is in
    let upright : line.upright ≡ true = ap (λ (l : LineValue). l.upright) (sym c.self.view_is) ∙ c.if-self.true in
    let back : to_z w64 (of_z w64 line.at) ≡ line.at = coordinate_back line.at c.requires.line.at_in in
    λ v v_in. (let told = c.crossed_in_column.ensures v v_in in let is : has c.crossed_in_column.result v ≡ crosses (spot_at v line.at) a b = rw (at, back) at told in rw upright is)

pub returns-else-self : goal.returns-else-self
returns-else-self c =
    let line = c.args.self.now in let a = c.args.a.now in let b = c.args.b.now in
    let at : c.self.inside.at ≡ line.at = ap (λ (l : LineValue). l.at) c.self.view_is in
    let level : line.upright ≡ false = ap (λ (l : LineValue). l.upright) (sym c.self.view_is) ∙ c.if-self.false in
    let back : to_z w64 (of_z w64 line.at) ≡ line.at = coordinate_back line.at c.requires.line.at_in in
    λ v v_in. (let told = c.crossed_in_row.ensures v v_in in let is : has c.crossed_in_row.result v ≡ crosses (spot_at line.at v) a b = rw (at, back) at told in rw level is)
