use Rattle.std.proofs.Common.{◌≡◌, ◌∙◌, ◌-ℤ◌, ◌*ℤ◌, ◌&&◌, pos, ap₂, sym, rules, true, false, to_z, of_z, w64}
use Rattle.edr_geometry.specs.Masks.{spot_at}
use Rattle.edr_geometry.specs.Planar.{cross, is_among}
use Rattle.edr_geometry.proofs.StripNumbers.{coordinate_back}
use Rattle.std.specs.Ordering.{int_eq}
use Rattle.edr_geometry.proofs.EdgeLemmas.{line_of, cross_in_row, on_by, off_by}
use Rattle.edr_geometry.proofs.crossings.on_in_row.Goals as goal

pub returns-then-not-is_among : goal.returns-then-not-is_among
returns-then-not-is_among c =
    let a = c.args.a.now in let b = c.args.b.now in let y = c.args.y in
    let y_back : to_z w64 (of_z w64 y) ≡ y = coordinate_back y c.requires.y_in in
    let a_back : to_z w64 (of_z w64 a.y) ≡ a.y = coordinate_back a.y c.requires.a_in.y in
    let b_back : to_z w64 (of_z w64 b.y) ≡ b.y = coordinate_back b.y c.requires.b_in.y in
    let away : is_among a.y b.y y ≡ false = (let told = c.is_among.ensures in sym (rw (a_back, b_back, y_back) at told)) ∙ c.if-not-is_among.true in
    λ x x_in. c.none.ensures x ∙ off_by (int_eq (cross (spot_at y x) a b) (pos 0)) (is_among a.x b.x x) (is_among a.y b.y y) away

pub returns : goal.returns
returns c =
    let a = c.args.a.now in let b = c.args.b.now in let y = c.args.y in
    let y_back : to_z w64 (of_z w64 y) ≡ y = coordinate_back y c.requires.y_in in
    let a_back : to_z w64 (of_z w64 a.y) ≡ a.y = coordinate_back a.y c.requires.a_in.y in
    let b_back : to_z w64 (of_z w64 b.y) ≡ b.y = coordinate_back b.y c.requires.b_in.y in
    let ax_back : to_z w64 (of_z w64 a.x) ≡ a.x = coordinate_back a.x c.requires.a_in.x in
    let bx_back : to_z w64 (of_z w64 b.x) ≡ b.x = coordinate_back b.x c.requires.b_in.x in
    let part : to_z w64 (of_z w64 c.of-part.result.y) ≡ c.of-part.result.y = search rules in
    let line : to_z w64 (of_z w64 c.line_on-line.result) ≡ c.line_on-line.result = search rules in
    let among : is_among a.y b.y y ≡ true = (let told = c.is_among.ensures in sym (rw (a_back, b_back, y_back) at told)) ∙ c.if-not-is_among.false in
    let is : c.line_on-line.result ≡ line_of y a b = (let told = c.line_on-line.ensures.is in rw y_back at told) in
    λ x x_in. c.with.ensures x
    ∙ ap₂ (λ p q. p && q) (let told = c.between.ensures x in rw (ax_back, bx_back) at told)
    (c.with-on_line.ensures x
    ∙ ap₂ (λ p q. p && q) (let told = c.at_most.ensures x x_in in rw (part, line, is, c.of-part.ensures.y) at told) (let told = c.at_least.ensures x x_in in rw (part, line, is, c.of-part.ensures.y) at told))
    ∙ on_by (cross (spot_at y x) a b) (line_of y a b) ((b.y -ℤ a.y) *ℤ x) (is_among a.x b.x x) (is_among a.y b.y y) (cross_in_row y x a b) among
