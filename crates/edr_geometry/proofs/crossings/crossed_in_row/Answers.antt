use Rattle.std.proofs.Common.{◌≡◌, ◌∙◌, ◌-ℤ◌, ◌*ℤ◌, ◌&&◌, sym, rules, int_le, int_lt, true, false, to_z, of_z, w64}
use Rattle.edr_geometry.specs.Masks.{spot_at}
use Rattle.edr_geometry.specs.Planar.{cross}
use Rattle.edr_geometry.proofs.StripNumbers.{coordinate_back}
use Rattle.edr_geometry.proofs.EdgeLemmas.{line_of, cross_in_row, up_in_row, down_in_row, past_row}
use Rattle.edr_geometry.proofs.crossings.crossed_in_row.Goals as goal

pub returns-then-passes_up : goal.returns-then-passes_up
returns-then-passes_up c =
    let a = c.args.a.now in let b = c.args.b.now in let y = c.args.y in
    let y_back : to_z w64 (of_z w64 y) ≡ y = coordinate_back y c.requires.y_in in
    let part : to_z w64 (of_z w64 c.of.result.y) ≡ c.of.result.y = search rules in
    let line : to_z w64 (of_z w64 c.line_on.result) ≡ c.line_on.result = search rules in
    let passed : c.passes_up.result ≡ true = search rules in
    let up : (int_le a.y y && int_lt y b.y) ≡ true = (let told = c.passes_up.ensures in sym (rw y_back at told)) ∙ passed in
    let is : c.line_on.result ≡ line_of y a b = (let told = c.line_on.ensures.is in rw y_back at told) in
    λ x x_in. (let told = c.below.ensures x x_in in rw (part, line, is, c.of.ensures.y) at told)
    ∙ up_in_row a.y b.y y (cross (spot_at y x) a b) (line_of y a b) ((b.y -ℤ a.y) *ℤ x) up (cross_in_row y x a b)

pub returns-then-passes_up-2 : goal.returns-then-passes_up-2
returns-then-passes_up-2 c =
    let a = c.args.a.now in let b = c.args.b.now in let y = c.args.y in
    let y_back : to_z w64 (of_z w64 y) ≡ y = coordinate_back y c.requires.y_in in
    let part : to_z w64 (of_z w64 c.of-then-passes_up-2.result.y) ≡ c.of-then-passes_up-2.result.y = search rules in
    let line : to_z w64 (of_z w64 c.line_on-then-passes_up-2.result) ≡ c.line_on-then-passes_up-2.result = search rules in
    let passed : c.passes_up-2.result ≡ true = search rules in
    let down : (int_le b.y y && int_lt y a.y) ≡ true = (let told = c.passes_up-2.ensures in sym (rw y_back at told)) ∙ passed in
    let is : c.line_on-then-passes_up-2.result ≡ line_of y a b = (let told = c.line_on-then-passes_up-2.ensures.is in rw y_back at told) in
    λ x x_in. (let told = c.above.ensures x x_in in rw (part, line, is, c.of-then-passes_up-2.ensures.y) at told)
    ∙ down_in_row a.y b.y y (cross (spot_at y x) a b) (line_of y a b) ((b.y -ℤ a.y) *ℤ x) down (cross_in_row y x a b)

pub returns : goal.returns
returns c =
    let a = c.args.a.now in let b = c.args.b.now in let y = c.args.y in
    let y_back : to_z w64 (of_z w64 y) ≡ y = coordinate_back y c.requires.y_in in
    let not_up : c.passes_up.result ≡ false = search rules in
    let not_down : c.passes_up-2.result ≡ false = search rules in
    let up : (int_le a.y y && int_lt y b.y) ≡ false = (let told = c.passes_up.ensures in sym (rw y_back at told)) ∙ not_up in
    let down : (int_le b.y y && int_lt y a.y) ≡ false = (let told = c.passes_up-2.ensures in sym (rw y_back at told)) ∙ not_down in
    λ x x_in. c.none.ensures x ∙ past_row a.y b.y y (cross (spot_at y x) a b) up down
