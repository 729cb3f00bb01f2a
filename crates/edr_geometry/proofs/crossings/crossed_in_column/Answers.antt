use Rattle.std.proofs.Common.{◌≡◌, ◌∙◌, ◌-ℤ◌, ◌*ℤ◌, ◌<ℤ◌, ◌≤ℤ◌, ◌&&◌, ap₂, arith, rules, int_lt, true, false, to_z, of_z, w64}
use Rattle.jiff_core.proofs.SignedLemmas.{signed_arith}
use Rattle.edr_geometry.specs.Masks.{spot_at}
use Rattle.edr_geometry.specs.Planar.{cross}
use Rattle.edr_geometry.specs.Ranges.{exchanged}
use Rattle.edr_geometry.proofs.StripNumbers.{coordinate_back}
use Rattle.edr_geometry.proofs.EdgeLemmas.{line_of, cross_in_column, up_in_column, down_in_column}
use Rattle.edr_geometry.proofs.crossings.crossed_in_column.Goals as goal

pub returns-then-a-b : goal.returns-then-a-b
returns-then-a-b c =
    let a = c.args.a.now in let b = c.args.b.now in let x = c.args.x in
    let x_back : to_z w64 (of_z w64 x) ≡ x = coordinate_back x c.requires.x_in in
    let a_back : to_z w64 (of_z w64 a.y) ≡ a.y = coordinate_back a.y c.requires.a_in.y in
    let b_back : to_z w64 (of_z w64 b.y) ≡ b.y = coordinate_back b.y c.requires.b_in.y in
    let part : to_z w64 (of_z w64 c.of-part.result.x) ≡ c.of-part.result.x = search rules in
    let line : to_z w64 (of_z w64 c.line_on-line.result) ≡ c.line_on-line.result = search rules in
    let is : c.line_on-line.result ≡ line_of x (exchanged a) (exchanged b) = (let told = c.line_on-line.ensures.is in rw (x_back, c.exchanged.ensures, c.exchanged-2.ensures) at told) in
    let up : a.y <ℤ b.y = (let told = c.if-a-b.true in let less : int_lt a.y b.y ≡ true = rw (a_back, b_back) at told in omega (arith, signed_arith, less)) in
    λ y y_in. c.with.ensures y
    ∙ ap₂ (λ p q. p && q) (let told = c.up_to.ensures y in rw (a_back, b_back) at told) (let told = c.above.ensures y y_in in rw (part, line, is, c.of-part.ensures.x) at told)
    ∙ up_in_column a.y b.y y (cross (spot_at y x) a b) (line_of x (exchanged a) (exchanged b)) ((b.x -ℤ a.x) *ℤ y) up (cross_in_column y x a b)

pub returns-else-a-b : goal.returns-else-a-b
returns-else-a-b c =
    let a = c.args.a.now in let b = c.args.b.now in let x = c.args.x in
    let x_back : to_z w64 (of_z w64 x) ≡ x = coordinate_back x c.requires.x_in in
    let a_back : to_z w64 (of_z w64 a.y) ≡ a.y = coordinate_back a.y c.requires.a_in.y in
    let b_back : to_z w64 (of_z w64 b.y) ≡ b.y = coordinate_back b.y c.requires.b_in.y in
    let part : to_z w64 (of_z w64 c.of-part.result.x) ≡ c.of-part.result.x = search rules in
    let line : to_z w64 (of_z w64 c.line_on-line.result) ≡ c.line_on-line.result = search rules in
    let is : c.line_on-line.result ≡ line_of x (exchanged a) (exchanged b) = (let told = c.line_on-line.ensures.is in rw (x_back, c.exchanged.ensures, c.exchanged-2.ensures) at told) in
    let down : b.y ≤ℤ a.y = (let told = c.if-a-b.false in let less : int_lt a.y b.y ≡ false = rw (a_back, b_back) at told in omega (arith, signed_arith, less)) in
    λ y y_in. c.with-else-a-b.ensures y
    ∙ ap₂ (λ p q. p && q) (let told = c.up_to-else-a-b.ensures y in rw (a_back, b_back) at told) (let told = c.below.ensures y y_in in rw (part, line, is, c.of-part.ensures.x) at told)
    ∙ down_in_column a.y b.y y (cross (spot_at y x) a b) (line_of x (exchanged a) (exchanged b)) ((b.x -ℤ a.x) *ℤ y) down (cross_in_column y x a b)
